-- What builders keep of a numbering where they meet no fault.
use Rattle.std.proofs.Common.{◌≡◌, ℕ, ◌≤◌, Bool, true, false, ◌||◌, IsTrue, List, [], ◌∷◌, ◌++◌, length, refl, sym, ◌∙◌, subst, append_assoc, append-nil, le_refl}
use Rattle.std.specs.List.{All, AllByRecursion, fold}
use Rattle.std.proofs.lemmas.List.Elements.{All-nil, All-cons}
use Rattle.hs_pure.specs.declared.var.Var.{Var}
use Rattle.hs_pure.proofs.Vars.{or_left, or_right}
use Rattle.hs_heap.specs.Meaning.{is_in}
use Rattle.hs_heap.specs.Sound.{AreDistinct}
use Rattle.hs_numbering.specs.declared.fault.Fault.{Fault}
use Rattle.hs_numbering.specs.declared.numbering.Numbering.{Numbering}
use Rattle.hs_numbering.specs.Numbering.{Builder, ◌>>=◌, pure, each, is_numbered}
use Rattle.hs_formula_fits.specs.Fits.{vars_of, free_vars, NamedFits, Extends}
use Rattle.hs_formula_fits.proofs.State.{in_free, KnownFit, extends_itself, extends_later}
use Rattle.hs_formula_fits.proofs.Formed.{Within}

-- the variables that a part of a source may name
abbrev pub scope : Numbering → Var → Bool
scope n v = is_in v (vars_of n.around) || (is_in v n.flat || is_in v (free_vars n))

-- a numbering that reads names
pub record Sane (n : Numbering) : Type 0 where
  pub named : is_numbered n.reading ≡ false
  pub few : length n.names ≤ 1000
  pub fixed : All (NamedFits n) n.fixed
  pub known : All (NamedFits n) n.known
  pub around : All (NamedFits n) n.around
  pub distinct : AreDistinct (free_vars n)

-- the binders around and what the disjunct binds besides are the same
pub record Stays (n m : Numbering) : Type 0 where
  pub extends : Extends n m
  pub around : m.around ≡ n.around
  pub flat : m.flat ≡ n.flat
  pub equations : m.equations ≡ n.equations

pub stays_itself : (n : Numbering) → Stays n n
stays_itself n = record { extends = extends_itself n; around = refl; flat = refl; equations = refl }

pub stays_later : (n m l : Numbering) → KnownFit m → Stays n m → Stays m l → Stays n l
stays_later n m l fit g h = record { extends = extends_later n m l fit g.extends h.extends; around = h.around ∙ g.around; flat = h.flat ∙ g.flat; equations = h.equations ∙ g.equations }

pub either_wider : (a b c d : Bool) → (IsTrue a → IsTrue c) → (IsTrue b → IsTrue d) → IsTrue (a || b) → IsTrue (c || d)
either_wider true b c d f g h = or_left c d (f refl)
either_wider false b c d f g h = or_right c d (g h)

pub scope_later : (n m : Numbering) → Stays n m → Within (scope n) (scope m)
scope_later n m s v = either_wider (is_in v (vars_of n.around)) (is_in v n.flat || is_in v (free_vars n)) (is_in v (vars_of m.around)) (is_in v m.flat || is_in v (free_vars m))
    (λ h. subst (λ ms. IsTrue (is_in v (vars_of ms))) (sym s.around) h)
    (either_wider (is_in v n.flat) (is_in v (free_vars n)) (is_in v m.flat) (is_in v (free_vars m)) (λ h. subst (λ vs. IsTrue (is_in v vs)) (sym s.flat) h) (in_free n m s.extends v))

-- ---- builders

-- what comes after what, and that later numberings extend earlier ones
pub record Order (T : Numbering → Numbering → Type 0) : Type 0 where
  pub itself : (n : Numbering) → T n n
  pub later : (n m l : Numbering) → KnownFit m → T n m → T m l → T n l
  pub extends : (n m : Numbering) → T n m → Extends n m

pub stays : Order Stays
stays = record { itself = stays_itself; later = stays_later; extends = λ n m s. s.extends }

-- results: by how many numbers were given before, and the numbering after
abbrev pub Result : Type 0 → Type 1
Result A = ℕ → Numbering → A → Type 0

pub record Kept {A : Type 0} (T : Numbering → Numbering → Type 0) (R : Result A) (n : Numbering) (done : A × Numbering) : Type 0 where
  pub sane : Sane done.1
  pub moves : T n done.1
  pub result : R (length n.names) done.1 done.0

-- where there is no fault afterwards, there was none before, and the result is as said
abbrev pub DoesIf : {A : Type 0} → (Numbering → Numbering → Type 0) → Type 0 → Result A → Numbering → A × Numbering → Type 0
DoesIf T P R n done = done.1.faults ≡ [] → (n.faults ≡ []) × (Sane n → P → Kept T R n done)

abbrev pub Does : {A : Type 0} → (Numbering → Numbering → Type 0) → Result A → Numbering → A × Numbering → Type 0
Does T R n done = done.1.faults ≡ [] → (n.faults ≡ []) × (Sane n → Kept T R n done)

abbrev pub Keeps : {A : Type 0} → (Numbering → Numbering → Type 0) → Result A → Builder A → Type 0
Keeps T R p = (n : Numbering) → Does T R n (p n)

pub blamed : (fs : List Fault) (f : Fault) → fs ++ f ∷ [] ≡ [] → ⊥
blamed [] f e = cc
blamed (x ∷ fs) f e = cc

-- the second needs what the first gave
pub then_does : {A B : Type 0} {T : Numbering → Numbering → Type 0} (o : Order T) (R : Result A) (S : Result B) (n : Numbering) (done : A × Numbering) (more : B × Numbering) →
    Does T R n done → DoesIf T (R (length n.names) done.1 done.0) S done.1 more →
    ((j k : ℕ) → j ≤ k → S k more.1 more.0 → S j more.1 more.0) → Does T S n more
then_does {A} {B} {T} o R S n done more h g lower e =
    let later = g e in
    let first = h later.0 in
    (first.0, λ sane. of (first.1 sane) later.1)
  where
    of : Kept T R n done → (Sane done.1 → R (length n.names) done.1 done.0 → Kept T S done.1 more) → Kept T S n more
    of a f =
        let b = f a.sane a.result in
        record { sane = b.sane; moves = o.later n done.1 more.1 a.sane.known a.moves b.moves; result = lower (length n.names) (length done.1.names) (o.extends n done.1 a.moves).names b.result }

pub map_does : {A B : Type 0} (T : Numbering → Numbering → Type 0) (R : Result A) (S : Result B) (f : A → B) (n : Numbering) (done : A × Numbering) →
    Does T R n done → (R (length n.names) done.1 done.0 → S (length n.names) done.1 (f done.0)) → Does T S n (f done.0, done.1)
map_does T R S f n done h g e = let was = h e in (was.0, λ sane. of (was.1 sane))
  where
    of : Kept T R n done → Kept T S n (f done.0, done.1)
    of a = record { sane = a.sane; moves = a.moves; result = g a.result }

-- two parts that are read one after another
module _ {X Y C : Type 0} (operation : X → Y → C) {T : Numbering → Numbering → Type 0} (o : Order T) (RX : Result X) (RY : Result Y) (R : Result C)
    (carry : (k : ℕ) (n m : Numbering) (x : X) → T n m → RX k n x → RX k m x) (lower : (j k : ℕ) (m : Numbering) (y : Y) → j ≤ k → RY k m y → RY j m y)
    (result : (k : ℕ) (m : Numbering) (x : X) (y : Y) → RX k m x → RY k m y → R k m (operation x y)) where
  pub both_do : (p : Builder X) (q : Builder Y) → Keeps T RX p → Keeps T RY q → Keeps T R (p >>= λ x. q >>= λ y. pure (operation x y))
  both_do p q h g n = λ e.
      let second = g (p n).1 e in
      let first = h n second.0 in
      (first.0, λ sane. of (first.1 sane) second.1)
    where
      of : Kept T RX n (p n) → (Sane (p n).1 → Kept T RY (p n).1 (q (p n).1)) → Kept T R n (operation (p n).0 (q (p n).1).0, (q (p n).1).1)
      of a f =
          let m = (q (p n).1).1 in
          let b = f a.sane in
          record {
            sane = b.sane;
            moves = o.later n (p n).1 m a.sane.known a.moves b.moves;
            result = result (length n.names) m (p n).0 (q (p n).1).0 (carry (length n.names) (p n).1 m (p n).0 b.moves a.result)
                (lower (length n.names) (length (p n).1.names) m (q (p n).1).0 (o.extends n (p n).1 a.moves).names b.result);
          }

-- ---- lists

module _ {A B : Type 0} (f : A → Builder B) where
  -- one after another
  abbrev pub in_turn : List A → Numbering → List B × Numbering
  in_turn [] n = ([], n)
  in_turn (x ∷ xs) n = ((f x n).0 ∷ (in_turn xs (f x n).1).0, (in_turn xs (f x n).1).1)

  from_is : (xs : List A) (ys : List B) (n : Numbering) → fold (λ (done : List B × Numbering) x. (done.0 ++ (f x done.1).0 ∷ [], (f x done.1).1)) (ys, n) xs ≡ (ys ++ (in_turn xs n).0, (in_turn xs n).1)
  from_is [] ys n = λ i. (sym (append-nil ys) i, n)
  from_is (x ∷ xs) ys n = from_is xs (ys ++ (f x n).0 ∷ []) (f x n).1 ∙ (λ i. (append_assoc ys ((f x n).0 ∷ []) (in_turn xs (f x n).1).0 i, (in_turn xs (f x n).1).1))

  pub each-is : (xs : List A) (n : Numbering) → each f xs n ≡ in_turn xs n
  each-is xs n = from_is xs [] n

  -- each result is related to what it is of
  abbrev pub Each : (A → B → Type 0) → List A → List B → Type 0
  Each R [] [] = Unit {0}
  Each R [] (y ∷ ys) = ⊥
  Each R (x ∷ xs) [] = ⊥
  Each R (x ∷ xs) (y ∷ ys) = R x y × Each R xs ys

  pub each_all : (P : B → Type 0) (xs : List A) (ys : List B) → Each (λ x y. P y) xs ys → All P ys
  each_all P [] [] h = All-nil P
  each_all P [] (y ∷ ys) h = absurd h
  each_all P (x ∷ xs) [] h = absurd h
  each_all P (x ∷ xs) (y ∷ ys) h = All-cons P y ys h.0 (each_all P xs ys h.1)

  module _ {T : Numbering → Numbering → Type 0} (o : Order T) (R : A → Result B) (carry : (x : A) (j k : ℕ) (n m : Numbering) (y : B) → j ≤ k → T n m → R x k n y → R x j m y) where
    each_carry : (xs : List A) (ys : List B) (j k : ℕ) (n m : Numbering) → j ≤ k → T n m → Each (λ x y. R x k n y) xs ys → Each (λ x y. R x j m y) xs ys
    each_carry [] [] j k n m le t h = tt
    each_carry [] (y ∷ ys) j k n m le t h = h
    each_carry (x ∷ xs) [] j k n m le t h = h
    each_carry (x ∷ xs) (y ∷ ys) j k n m le t h = (carry x j k n m y le t h.0, each_carry xs ys j k n m le t h.1)

    turn_does : (xs : List A) → AllByRecursion (λ x. Keeps T (R x) (f x)) xs → (n : Numbering) → Does T (λ k m ys. Each (λ x y. R x k m y) xs ys) n (in_turn xs n)
    turn_does [] h n e = (e, λ sane. record { sane = sane; moves = o.itself n; result = tt })
    turn_does (x ∷ xs) h n e =
        let later = turn_does xs h.1 (f x n).1 e in
        let first = h.0 n later.0 in
        (first.0, λ sane. of (first.1 sane) later.1)
      where
        of : Kept T (R x) n (f x n) → (Sane (f x n).1 → Kept T (λ k m ys. Each (λ x y. R x k m y) xs ys) (f x n).1 (in_turn xs (f x n).1)) →
            Kept T (λ k m ys. Each (λ x y. R x k m y) (x ∷ xs) ys) n (in_turn (x ∷ xs) n)
        of a g =
            let b = g a.sane in
            record {
              sane = b.sane;
              moves = o.later n (f x n).1 (in_turn xs (f x n).1).1 a.sane.known a.moves b.moves;
              result = (
                carry x (length n.names) (length n.names) (f x n).1 (in_turn xs (f x n).1).1 (f x n).0 (le_refl (length n.names)) b.moves a.result,
                each_carry xs (in_turn xs (f x n).1).0 (length n.names) (length (f x n).1.names) (in_turn xs (f x n).1).1 (in_turn xs (f x n).1).1 (o.extends n (f x n).1 a.moves).names (o.itself (in_turn xs (f x n).1).1) b.result,
              );
            }

    pub each_does : (xs : List A) → AllByRecursion (λ x. Keeps T (R x) (f x)) xs → Keeps T (λ k m ys. Each (λ x y. R x k m y) xs ys) (each f xs)
    each_does xs h n = subst (λ done. Does T (λ k m ys. Each (λ x y. R x k m y) xs ys) n done) (sym (each-is xs n)) (turn_does xs h n)

  pub all_by : (P : A → Type 0) (xs : List A) → ((x : A) → P x) → AllByRecursion P xs
  all_by P [] h = tt
  all_by P (x ∷ xs) h = (h x, all_by P xs h)
