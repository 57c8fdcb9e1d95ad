-- Lists of limited length, built from the left.
use Rattle.std.proofs.Common.{◌≡◌, ℕ, suc, ◌+◌, ◌≤◌, Bool, true, false, not, ◌&&◌, nat_eq, List, [], ◌∷◌, ◌++◌, length, refl, sym, ap, ◌∙◌, subst, arith, append_assoc, append-nil, length-append, if◌then◌else◌, true≢false, eq-eqb, le_refl}
use Rattle.std.specs.List.{All, fold}
use Rattle.std.proofs.lemmas.Bool.{and_from}
use Rattle.std.proofs.lemmas.List.Elements.{All-nil, All-cons, All-weaker}
use Rattle.hs_heap.proofs.Tells.{tells_not}
use Rattle.hs_numbering.specs.declared.fault.Limit.{Limit}
use Rattle.hs_numbering.specs.declared.fault.Problem.TheVariants.{TooMany}
use Rattle.hs_numbering.specs.declared.numbering.Numbering.{Numbering}
use Rattle.hs_numbering.specs.Numbering.{Builder, ◌>>◌, blame, each_counted, is_numbered}
use Rattle.hs_norm_formula.specs.Formula.{limit}
use Rattle.hs_formula_fits.proofs.State.{KnownFit}
use Rattle.hs_formula_fits.proofs.Keeps.{Order, Result, blamed}

-- what is kept, where S is asked of each numbering
pub record Taken {A : Type 0} (S : Numbering → Type 0) (T : Numbering → Numbering → Type 0) (R : Result A) (n : Numbering) (done : A × Numbering) : Type 0 where
  pub sane : S done.1
  pub moves : T n done.1
  pub result : R (length n.names) done.1 done.0

abbrev pub Takes : {A : Type 0} → (Numbering → Type 0) → (Numbering → Numbering → Type 0) → Result A → Numbering → A × Numbering → Type 0
Takes S T R n done = done.1.faults ≡ [] → (n.faults ≡ []) × (S n → Taken S T R n done)

-- there is room for one more
abbrev pub Early : {A : Type 0} → ℕ → ℕ → Result A → Result A
Early most count R k m a = (count ≡ most → ⊥) × R k m a

pub limited : {A : Type 0} (S : Numbering → Type 0) (named : (n : Numbering) → S n → is_numbered n.reading ≡ false) (T : Numbering → Numbering → Type 0) (R : Result A) (most : ℕ) (l : Limit) (at count : ℕ) (p : Builder A) →
    ((n : Numbering) → Takes S T R n (p n)) → (n : Numbering) → Takes S T (Early most count R) n ((limit most l at count >> p) n)
limited {A} S named T R most l at count p h n = of (nat_eq count most && not (is_numbered n.reading)) refl
  where
    room : (nat_eq count most && not (is_numbered n.reading)) ≡ false → S n → count ≡ most → ⊥
    room e sane c = true≢false (sym (and_from (nat_eq count most) (not (is_numbered n.reading)) (eq-eqb count most c) ((tells_not (is_numbered n.reading)).1 (named n sane))) ∙ e)

    more : (count ≡ most → ⊥) → Taken S T R n (p n) → Taken S T (Early most count R) n (p n)
    more e a = record { sane = a.sane; moves = a.moves; result = (e, a.result) }

    of : (b : Bool) → (nat_eq count most && not (is_numbered n.reading)) ≡ b → Takes S T (Early most count R) n (p (if b then blame at (TooMany l) n else (tt {0}, n)).1)
    of true e = λ f. absurd (blamed n.faults _ (h (blame at (TooMany l) n).1 f).0)
    of false e = λ f. let was = h n f in (was.0, λ sane. more (room e sane) (was.1 sane))

module _ {A B : Type 0} (f : ℕ → A → Builder B) where
  -- one after another, from this count on
  abbrev pub counted : ℕ → List A → Numbering → List B × Numbering
  counted k [] n = ([], n)
  counted k (x ∷ xs) n = ((f k x n).0 ∷ (counted (suc k) xs (f k x n).1).0, (counted (suc k) xs (f k x n).1).1)

  from_is : (xs : List A) (ys : List B) (n : Numbering) → fold (λ (done : List B × Numbering) x. (done.0 ++ (f (length done.0) x done.1).0 ∷ [], (f (length done.0) x done.1).1)) (ys, n) xs ≡ (ys ++ (counted (length ys) xs n).0, (counted (length ys) xs n).1)
  from_is [] ys n = λ i. (sym (append-nil ys) i, n)
  from_is (x ∷ xs) ys n =
      let y = (f (length ys) x n).0 in
      let m = (f (length ys) x n).1 in
      let long : length (ys ++ y ∷ []) ≡ suc (length ys) = one_more (length ys) (length (ys ++ y ∷ [])) (length-append ys (y ∷ [])) in
      from_is xs (ys ++ (f (length ys) x n).0 ∷ []) (f (length ys) x n).1
      ∙ (λ i. ((ys ++ y ∷ []) ++ (counted (long i) xs m).0, (counted (long i) xs m).1))
      ∙ (λ i. (append_assoc ys (y ∷ []) (counted (suc (length ys)) xs m).0 i, (counted (suc (length ys)) xs m).1))
    where
      one_more : (k l : ℕ) → l ≡ k + 1 → l ≡ suc k
      one_more k l e = omega arith

  counted-is : (xs : List A) (n : Numbering) → each_counted f xs n ≡ counted 0 xs n
  counted-is xs n = from_is xs [] n

  module _ (S : Numbering → Type 0) (known : (n : Numbering) → S n → KnownFit n) {T : Numbering → Numbering → Type 0} (o : Order T) (R : Result B) (most : ℕ) (carry : (j k : ℕ) (n m : Numbering) (y : B) → j ≤ k → T n m → R k n y → R j m y)
      (each : (k : ℕ) (x : A) (n : Numbering) → Takes S T (Early most k R) n (f k x n)) where
    -- each is as it should be, and they are as many, which are not too many
    abbrev pub Listed : ℕ → ℕ → Result (List B)
    Listed start count k m ys = All (R k m) ys × (length ys ≡ count) × (start ≤ most → start + length ys ≤ most)

    turn_takes : (start : ℕ) (xs : List A) (n : Numbering) → Takes S T (Listed start (length xs)) n (counted start xs n)
    turn_takes start [] n = λ e. (e, λ sane. record { sane = sane; moves = o.itself n; result = (All-nil _, refl, λ le. none start most le) })
      where
        none : (k l : ℕ) → k ≤ l → k + 0 ≤ l
        none k l le = omega arith
    turn_takes start (x ∷ xs) n = λ e.
        let later = turn_takes (suc start) xs (f start x n).1 e in
        let first = each start x n later.0 in
        (first.0, λ sane. of (first.1 sane) later.1)
      where
        next : (s l k : ℕ) → (s ≡ l → ⊥) → (suc s ≤ l → suc s + k ≤ l) → s ≤ l → s + suc k ≤ l
        next s l k apart h le = let more : suc s ≤ l = below s l apart le in let all = h more in moved s k l all
          where
            below : (s l : ℕ) → (s ≡ l → ⊥) → s ≤ l → suc s ≤ l
            below s l apart le = grind arith

            moved : (s k l : ℕ) → suc s + k ≤ l → s + suc k ≤ l
            moved s k l h = omega arith

        of : Taken S T (Early most start R) n (f start x n) → (S (f start x n).1 → Taken S T (Listed (suc start) (length xs)) (f start x n).1 (counted (suc start) xs (f start x n).1)) →
            Taken S T (Listed start (length (x ∷ xs))) n (counted start (x ∷ xs) n)
        of a g =
            let y = (f start x n).0 in
            let m = (f start x n).1 in
            let ys = (counted (suc start) xs m).0 in
            let l = (counted (suc start) xs m).1 in
            let b = g a.sane in
            let names = (o.extends n m a.moves).names in
            record {
              sane = b.sane;
              moves = o.later n m l (known m a.sane) a.moves b.moves;
              result = (
                All-cons (R (length n.names) l) y ys (carry (length n.names) (length n.names) m l y (le_refl (length n.names)) b.moves a.result.1)
                    (All-weaker (R (length m.names) l) (R (length n.names) l) (λ z r. carry (length n.names) (length m.names) l l z names (o.itself l) r) ys b.result.0),
                ap suc b.result.1,
                next start most (length ys) a.result.0 b.result.2,
              );
            }

    pub counted_takes : (xs : List A) (n : Numbering) → Takes S T (Listed 0 (length xs)) n (each_counted f xs n)
    counted_takes xs n = subst (λ done. Takes S T (Listed 0 (length xs)) n done) (sym (counted-is xs n)) (turn_takes 0 xs n)
