-- Distinct variables of few numbers are few, and new numbers for what a disjunct binds.
use Rattle.std.proofs.Common.{◌≡◌, ℕ, zero, suc, ◌+◌, ◌<◌, ◌≤◌, ◌^◌, Bool, true, false, ◌||◌, IsTrue, inl, inr, if◌then◌else◌, List, [], ◌∷◌, length, refl, sym, ap, ◌∙◌, subst, arith, rules}
use Rattle.std.specs.List.{All, list_any}
use Rattle.std.proofs.lemmas.Bool.{or_cases}
use Rattle.hs_pure.specs.declared.var.Var.{Var}
use Rattle.hs_pure.specs.Stack.{same}
use Rattle.hs_pure.specs.Rename.{renaming}
use Rattle.hs_pure.specs.Sums.{IsOrdered}
use Rattle.hs_pure.proofs.Lists.{All-weaker}
use Rattle.hs_pure.proofs.Vars.{or_left, or_right}
use Rattle.hs_heap.specs.declared.formula.Disjunct.{Disjunct}
use Rattle.hs_pure.specs.Occurs.{occurs}
use Rattle.hs_heap.specs.Meaning.{is_in}
use Rattle.hs_heap.specs.Variables.{in_atom}
use Rattle.hs_heap.specs.Sound.{AreDistinct}
use Rattle.hs_heap.specs.WellFormed.{IsProper}
use Rattle.hs_heap.specs.Renamed.{DisjunctInRange}
use Rattle.hs_heap.specs.Laws.{ApartMayRename}
use Rattle.hs_heap.proofs.Booleans.{bool_cases, clash, or_false_left, or_false_right}
use Rattle.hs_heap.proofs.Counts.{nat_cases}
use Rattle.hs_heap.proofs.Stacks.{same_true, same_is, same_itself}
use Rattle.hs_rules.specs.Parts.{to_fresh}
use Rattle.hs_rules.proofs.NewNumbers.{to_fresh-apart}
use Rattle.hs_program_parts.specs.Pairs.{CanBeOpened, fresh_pairs}

-- ---- how many there can be

abbrev removed : Var → List Var → List Var
removed w [] = []
removed w (u ∷ us) = if same w u then removed w us else u ∷ removed w us

removed-same : (w u : Var) (us : List Var) → same w u ≡ true → removed w (u ∷ us) ≡ removed w us
removed-same w u us e = rw e refl

removed-other : (w u : Var) (us : List Var) → same w u ≡ false → removed w (u ∷ us) ≡ u ∷ removed w us
removed-other w u us e = rw e refl

pub record IsLeft (w : Var) (vs : List Var) (v : Var) : Type 0 where
  pub listed : IsTrue (is_in v vs)
  pub other : same w v ≡ false

in_removed : (w : Var) (vs : List Var) (v : Var) → IsTrue (is_in v (removed w vs)) → IsLeft w vs v
in_removed w [] v h = absurd cc
in_removed w (u ∷ us) v h = elim (bool_cases (same w u)) [
  | inl is ↦
      let left = in_removed w us v (subst (λ xs. IsTrue (is_in v xs)) (removed-same w u us is) h) in
      record { listed = or_right (same v u) (is_in v us) left.listed; other = left.other }
  | inr isnt ↦ elim (or_cases (same v u) (is_in v (removed w us)) (subst (λ xs. IsTrue (is_in v xs)) (removed-other w u us isnt) h)) [
    | inl e ↦ record { listed = or_left (same v u) (is_in v us) e; other = subst (λ x. same w x ≡ false) (sym (same_true v u e)) isnt }
    | inr e ↦ let left = in_removed w us v e in record { listed = or_right (same v u) (is_in v us) left.listed; other = left.other }
  ]
]

distinct_removed : (w : Var) (vs : List Var) → AreDistinct vs → AreDistinct (removed w vs)
distinct_removed w [] d = tt
distinct_removed w (u ∷ us) (out, d) = elim (bool_cases (same w u)) [
  | inl is ↦ subst AreDistinct (sym (removed-same w u us is)) (distinct_removed w us d)
  | inr isnt ↦ subst AreDistinct (sym (removed-other w u us isnt)) (elim (bool_cases (is_in u (removed w us))) [
    | inl h ↦ clash (in_removed w us u h).listed out
    | inr h ↦ (h, distinct_removed w us d)
  ])
]

removed_none : (w : Var) (vs : List Var) → is_in w vs ≡ false → removed w vs ≡ vs
removed_none w [] e = refl
removed_none w (u ∷ us) e = removed-other w u us (or_false_left (same w u) (is_in w us) e) ∙ ap (λ xs. u ∷ xs) (removed_none w us (or_false_right (same w u) (is_in w us) e))

one_less : (w : Var) (vs : List Var) → AreDistinct vs → length vs ≤ suc (length (removed w vs))
one_less w [] d = omega arith
one_less w (u ∷ us) (out, d) = elim (bool_cases (same w u)) [
  | inl is ↦
      let e : length (removed w (u ∷ us)) ≡ length (removed w us) = ap (λ (xs : List Var). length xs) (removed-same w u us is) in
      let f : length (removed w us) ≡ length us = ap (λ (xs : List Var). length xs) (removed_none w us (subst (λ x. is_in x us ≡ false) (sym (same_true w u is)) out)) in omega arith
  | inr isnt ↦
      let e : length (removed w (u ∷ us)) ≡ suc (length (removed w us)) = ap (λ (xs : List Var). length xs) (removed-other w u us isnt) in
      let f = one_less w us d in omega arith
]

first_low : (n : ℕ) (v : Var) (vs : List Var) → ((u : Var) → IsTrue (is_in u (v ∷ vs)) → u.number < n) → v.number < n
first_low n v vs h = h v (or_left (same v v) (is_in v vs) (same_itself v))

pub few_distinct : (n : ℕ) (vs : List Var) → AreDistinct vs → ((v : Var) → IsTrue (is_in v vs) → v.number < n) → length vs ≤ n + n
few_distinct zero [] d h = omega arith
few_distinct zero (v ∷ vs) d h = let low = first_low 0 v vs h in absurd (omega arith)
few_distinct (suc n) vs d h =
    let number : Var = record { number = n; bag = false } in
    let bag : Var = record { number = n; bag = true } in
    let one = one_less number vs d in
    let other = one_less bag (removed number vs) (distinct_removed number vs d) in
    let rest = few_distinct n (removed bag (removed number vs)) (distinct_removed bag (removed number vs) (distinct_removed number vs d)) below in
    omega arith
  where
    differs : (v : Var) → same (record { number = n; bag = false }) v ≡ false → same (record { number = n; bag = true }) v ≡ false → v.number ≡ n → ⊥
    differs v a b is = elim (bool_cases v.bag) [
      | inl kind ↦ clash (same_is (record { number = n; bag = true }) v (λ i. record { number = sym is i; bag = sym kind i })) b
      | inr kind ↦ clash (same_is (record { number = n; bag = false }) v (λ i. record { number = sym is i; bag = sym kind i })) a
    ]

    at : (k : ℕ) → k < suc n → (k ≡ n → ⊥) → k < n
    at k low differ = elim (nat_cases k n) [ inl less ↦ less | inr o ↦ elim o [ inl is ↦ absurd (differ is) | inr more ↦ absurd (omega arith) ] ]

    below : (v : Var) → IsTrue (is_in v (removed (record { number = n; bag = true }) (removed (record { number = n; bag = false }) vs))) → v.number < n
    below v e =
        let second = in_removed (record { number = n; bag = true }) (removed (record { number = n; bag = false }) vs) v e in
        let first = in_removed (record { number = n; bag = false }) vs v second.listed in
        let low = h v first.listed in
        at v.number low (differs v first.other second.other)

-- ---- new numbers by pairs

pair-same : (b : Var) (bs : List Var) (n : ℕ) (v : Var) → same b v ≡ true → renaming (fresh_pairs (b ∷ bs) n) v ≡ record { number = n; bag = b.bag }
pair-same b bs n v e = rw e refl

pair-other : (b : Var) (bs : List Var) (n : ℕ) (v : Var) → same b v ≡ false → renaming (fresh_pairs (b ∷ bs) n) v ≡ renaming (fresh_pairs bs (suc n)) v
pair-other b bs n v e = rw e refl

fresh-same : (b : Var) (bs : List Var) (n : ℕ) (v : Var) → same b v ≡ true → to_fresh (b ∷ bs) n v ≡ record { number = n; bag = v.bag }
fresh-same b bs n v e = rw e refl

fresh-other : (b : Var) (bs : List Var) (n : ℕ) (v : Var) → same b v ≡ false → to_fresh (b ∷ bs) n v ≡ to_fresh bs (suc n) v
fresh-other b bs n v e = rw e refl

pair_is : (bs : List Var) (n : ℕ) (v : Var) → renaming (fresh_pairs bs n) v ≡ to_fresh bs n v
pair_is [] n v = refl
pair_is (b ∷ bs) n v = elim (bool_cases (same b v)) [
  | inl is ↦
      let kinds : ◌≡◌ {A = Var} (record { number = n; bag = b.bag }) (record { number = n; bag = v.bag }) = (λ i. record { number = n; bag = (same_true b v is i).bag }) in
      pair-same b bs n v is ∙ kinds ∙ sym (fresh-same b bs n v is)
  | inr isnt ↦ pair-other b bs n v isnt ∙ pair_is bs (suc n) v ∙ sym (fresh-other b bs n v isnt)
]

pub pairs_are : (bs : List Var) (n : ℕ) → renaming (fresh_pairs bs n) ≡ to_fresh bs n
pairs_are bs n = λ i v. pair_is bs n v i

pub opened_in_range : ApartMayRename → (n : ℕ) (d : Disjunct) → CanBeOpened n d → DisjunctInRange (to_fresh d.bound n) d
opened_in_range law n d able =
    (law (to_fresh d.bound n) d (All-weaker IsProper IsOrdered (λ p proper. proper.ordered) d.pure able.pure)
    (λ u v has also is. to_fresh-apart d.bound n u v (able.numbers u has) (able.numbers v also) is)).1

-- the new numbers stay below 2^32
pub room : (next : ℕ) (d : Disjunct) → CanBeOpened next d → next + length d.bound < 4294967296
room next d able =
    let few : next ≤ 1073741824 = able.few in
    let bound = few_distinct next d.bound able.distinct (λ v i. able.numbers v (or_left (is_in v d.bound) (list_any (in_atom v) d.atoms || list_any (occurs v) d.pure) i)) in
    omega arith
