-- What a loop over a vector's items has read.
use Rattle.std.proofs.Common.{ℕ, ◌≡◌, ◌+◌, List, [], ◌∷◌, ◌++◌, map, length, suc, refl, ap, sym, subst, ◌∙◌, arith, append_assoc}
use Rattle.std.specs.List.{AllByRecursion, Contains}
use Rattle.std.proofs.lemmas.List.{map-append}
use Rattle.hs_calculus.proofs.Lists.{no_items}
use Rattle.hs_calculus.proofs.Trees.{append-nil}

-- of all items these were read, and those are left, so many
pub record IsRead {X : Type 0} (all read left : List X) (n : ℕ) : Type 0 where
  pub split : all ≡ read ++ left
  pub len : n ≡ length left

pub read_turn : {X : Type 0} (all read left rest : List X) (n m : ℕ) (x : X) → IsRead all read left n → (left ≡ x ∷ rest) × (m + 1 ≡ n) → IsRead all (read ++ x ∷ []) rest m
read_turn all read left rest n m x r e =
    let k : length left ≡ length rest + 1 = ap length e.0 ∙ omega arith in
    record { split = r.split ∙ ap (λ ys. read ++ ys) e.0 ∙ sym (append_assoc read (x ∷ []) rest); len = omega (arith, r.len, e.1, k) }

pub read_here : {X : Type 0} (all read left rest : List X) (n : ℕ) (x : X) → IsRead all read left n → left ≡ x ∷ rest → all ≡ read ++ x ∷ rest
read_here all read left rest n x r e = r.split ∙ ap (λ ys. read ++ ys) e

pub read_all : {X : Type 0} (all read left : List X) (n : ℕ) → IsRead all read left n → n ≡ 0 → read ≡ all
read_all all read left n r e = sym (append-nil read) ∙ sym (ap (λ ys. read ++ ys) (no_items left (sym r.len ∙ e))) ∙ sym r.split

-- what holds of each holds of one of them
pub All_at : {V X : Type 0} (P : X → Type 0) (f : V → X) (all xs ys : List V) (v : V) → all ≡ xs ++ v ∷ ys → AllByRecursion P (map f all) → P (f v)
All_at {V} P f all xs ys v e h = go xs (subst (λ (vs : List V). AllByRecursion P (map f vs)) e h)
  where
    go : (xs : List V) → AllByRecursion P (map f (xs ++ v ∷ ys)) → P (f v)
    go [] h = h.0
    go (x ∷ xs) h = go xs h.1

All_front : {X : Type 0} (P : X → Type 0) (xs ys : List X) → AllByRecursion P (xs ++ ys) → AllByRecursion P xs
All_front P [] ys h = tt
All_front P (x ∷ xs) ys h = (h.0, All_front P xs ys h.1)

-- and of those before the last
pub All_before : {V X : Type 0} (P : X → Type 0) (f : V → X) (all xs : List V) (v : V) → all ≡ xs ++ v ∷ [] → AllByRecursion P (map f all) → AllByRecursion P (map f xs)
All_before {V} {X} P f all xs v e h =
    All_front P (map f xs) (f v ∷ []) (subst (λ (ys : List X). AllByRecursion P ys) (map-append f xs (v ∷ [])) (subst (λ (vs : List V). AllByRecursion P (map f vs)) e h))

-- one more is mapped
pub map_pushed : {V A B : Type 0} (f : A → B) (items : V → A) (found new : List B) (read all : List V) (v : V) (x : B)
    → found ≡ map f (map items read) → new ≡ found ++ x ∷ [] → x ≡ f (items v) → all ≡ read ++ v ∷ [] → new ≡ map f (map items all)
map_pushed f items found new read all v x e n d a =
    n ∙ ap (λ fs. fs ++ x ∷ []) e ∙ ap (λ y. map f (map items read) ++ y ∷ []) d
    ∙ sym (map-append f (map items read) (items v ∷ [])) ∙ ap (map f) (sym (map-append items read (v ∷ [])))
    ∙ ap (λ vs. map f (map items vs)) (sym a)

-- one more row of one
pub row_pushed : {V A : Type 0} (items : V → List A) (rows new : List V) (row : V) (read : List A) (start : List A) (x : A)
    → map items rows ≡ map (λ y. y ∷ []) read → new ≡ rows ++ row ∷ [] → items row ≡ start ++ x ∷ [] → start ≡ [] → map items new ≡ map (λ y. y ∷ []) (read ++ x ∷ [])
row_pushed items rows new row read start x e n r s =
    ap (map items) n ∙ map-append items rows (row ∷ []) ∙ ap (λ rs. rs ++ items row ∷ []) e
    ∙ ap (λ r. map (λ y. y ∷ []) read ++ r ∷ []) (r ∙ ap (λ ys. ys ++ x ∷ []) s)
    ∙ sym (map-append (λ y. y ∷ []) read (x ∷ []))

middle : {X : Type 0} (xs ys : List X) (x : X) → Contains (xs ++ x ∷ ys) x
middle [] ys x = (0, omega arith, refl)
middle (z ∷ xs) ys x = let h = middle xs ys x in (suc h.0, omega (arith, h.1), h.2)

-- what is read is one of all
pub contains_here : {X : Type 0} (all other read rest : List X) (x : X) → all ≡ read ++ x ∷ rest → all ≡ other → Contains other x
contains_here {X} all other read rest x e d = subst (λ (xs : List X). Contains xs x) (sym e ∙ d) (middle read rest x)
