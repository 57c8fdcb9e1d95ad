-- Which claim has which number.
use Rattle.std.proofs.Common.{◌≡◌, ℕ, zero, suc, ◌+◌, ◌<◌, ◌≤◌, nat_le, ◌⊎◌, List, [], ◌∷◌, ◌++◌, length, map, slice_get, option_map, Option, Some, None, refl, sym, ap, ◌∙◌, subst, inl, inr, arith, length-append}
use Rattle.std.proofs.lemmas.Bool.{cases_Bool}
use Rattle.std.proofs.lemmas.Bool.Decides.{nat_tests}
use Rattle.std.proofs.lemmas.Option.{slice_get-map}
use Rattle.hs_core.specs.declared.program.Program.{Program}
use Rattle.hs_core.specs.Machine.{method_of}
use Rattle.hs_core.specs.Sound.{IsUpTo}
use Rattle.hs_program_rules.specs.States.{entry}
use Rattle.hs_program_rules.specs.Laws.{PairExists}
use Rattle.hs_node.specs.declared.claim.Claim.{Claim}
use Rattle.hs_node.specs.declared.claim.Claim.TheVariants.{Invariant, Pair}
use Rattle.hs_norm.specs.declared.resolved.Resolved.{Resolved}
use Rattle.hs_norm_item.specs.declared.forms.Entailment.{Entailment}
use Rattle.hs_claims.specs.Claims.{invariants_to, entailment_claim, sleek_claims, entries_to, entries_of, pairs_to, claims_of}

-- ---- lists put together

module _ {A : Type 0} where
  get_left : (xs ys : List A) (i : ℕ) (x : A) → slice_get xs i ≡ Some x → slice_get (xs ++ ys) i ≡ Some x
  get_left [] ys i x e = absurd cc
  get_left (y ∷ xs) ys zero x e = e
  get_left (y ∷ xs) ys (suc i) x e = get_left xs ys i x e

  get_right : (xs ys : List A) (i : ℕ) (x : A) → slice_get ys i ≡ Some x → slice_get (xs ++ ys) (length xs + i) ≡ Some x
  get_right [] ys i x e = let same : i ≡ 0 + i = omega arith in subst (λ (k : ℕ). slice_get ys k ≡ Some x) same e
  get_right (y ∷ xs) ys i x e =
      let same : suc (length xs + i) ≡ suc (length xs) + i = omega arith in
      subst (λ (k : ℕ). slice_get (y ∷ (xs ++ ys)) k ≡ Some x) same (get_right xs ys i x e)

  -- the item stands at some place
  abbrev Stands : List A → A → Type 0
  Stands xs x = (i : ℕ) × (slice_get xs i ≡ Some x)

  in_left : (xs ys : List A) (x : A) → Stands xs x → Stands (xs ++ ys) x
  in_left xs ys x h = (h.0, get_left xs ys h.0 x h.1)

  in_right : (xs ys : List A) (x : A) → Stands ys x → Stands (xs ++ ys) x
  in_right xs ys x h = (length xs + h.0, get_right xs ys h.0 x h.1)

-- up to one more: up to, or that one
pub up_to_more : (i n : ℕ) → i ≤ suc n → (i ≤ n) ⊎ (i ≡ suc n)
up_to_more i n le = elim (cases_Bool (nat_le i n)) [
  | inl is ↦ let low : i ≤ n = grind (arith, nat_tests) in inl low
  | inr other ↦ let e : i ≡ suc n = grind (arith, nat_tests) in inr e
]

-- ---- invariants

invariants_count : (n : ℕ) → length (invariants_to n) ≡ n
invariants_count zero = refl
invariants_count (suc n) = length-append (invariants_to n) (Invariant (suc n) ∷ []) ∙ (let e = invariants_count n in omega (arith, e))

invariant_there : (n i : ℕ) → i < n → slice_get (invariants_to n) i ≡ Some (Invariant (suc i))
invariant_there zero i less = absurd (omega (arith, less))
invariant_there (suc n) i less = elim (up_to_more (suc i) n less) [
  | inl low ↦ get_left (invariants_to n) (Invariant (suc n) ∷ []) i (Invariant (suc i)) (invariant_there n i low)
  | inr e ↦ let is : i ≡ n = omega (arith, e) in subst (λ (k : ℕ). slice_get (invariants_to (suc n)) k ≡ Some (Invariant (suc k))) (sym is) (at_end n)
]
  where
    at_end : (n : ℕ) → slice_get (invariants_to (suc n)) n ≡ Some (Invariant (suc n))
    at_end n = subst (λ (k : ℕ). slice_get (invariants_to (suc n)) k ≡ Some (Invariant (suc n))) (last n) (get_right (invariants_to n) (Invariant (suc n) ∷ []) 0 (Invariant (suc n)) refl)
      where
        last : (n : ℕ) → length (invariants_to n) + 0 ≡ n
        last n = let e = invariants_count n in omega (arith, e)

module _ (r : Resolved) (program : Program) where
  -- claim number i + 1 is the invariant of that predicate
  pub invariant_claim : (i : ℕ) → i < length r.defs.preds → slice_get (claims_of r program) i ≡ Some (Invariant (suc i))
  invariant_claim i less =
      get_left (sleek_claims r) (pairs_to program (length program.methods)) i (Invariant (suc i))
      (get_left (invariants_to (length r.defs.preds)) (map entailment_claim r.entailments) i (Invariant (suc i)) (invariant_there (length r.defs.preds) i less))

  -- behind them stand the entailments
  pub entailment_there : (e : ℕ) (entailment : Entailment) → slice_get r.entailments e ≡ Some entailment →
      slice_get (claims_of r program) (length r.defs.preds + e) ≡ Some (entailment_claim entailment)
  entailment_there e entailment is =
      get_left (sleek_claims r) (pairs_to program (length program.methods)) (length r.defs.preds + e) (entailment_claim entailment)
      (subst (λ (k : ℕ). slice_get (sleek_claims r) (k + e) ≡ Some (entailment_claim entailment)) (invariants_count (length r.defs.preds))
      (get_right (invariants_to (length r.defs.preds)) (map entailment_claim r.entailments) e (entailment_claim entailment)
      (slice_get-map entailment_claim r.entailments e ∙ ap (option_map entailment_claim) is)))

  -- ---- pairs

  entry_stands : (m count i : ℕ) → IsUpTo count i → Stands (entries_to program m count) (Pair (entry program m i))
  entry_stands m zero i up = let low = up.0 in let high = up.1 in absurd (omega (arith, low, high))
  entry_stands m (suc count) i up = elim (up_to_more i count up.1) [
    | inl low ↦ in_left (entries_to program m count) (Pair (entry program m (suc count)) ∷ []) (Pair (entry program m i)) (entry_stands m count i (up.0, low))
    | inr e ↦ in_right (entries_to program m count) (Pair (entry program m (suc count)) ∷ []) (Pair (entry program m i))
        (0, ap (λ (k : ℕ). Some (Pair (entry program m k))) (sym e))
  ]

  pair_stands : (count m i : ℕ) → IsUpTo count m → IsUpTo (length (method_of program m).pairs) i → Stands (pairs_to program count) (Pair (entry program m i))
  pair_stands zero m i up pair = let low = up.0 in let high = up.1 in absurd (omega (arith, low, high))
  pair_stands (suc count) m i up pair = elim (up_to_more m count up.1) [
    | inl low ↦ in_left (pairs_to program count) (entries_of program (suc count)) (Pair (entry program m i)) (pair_stands count m i (up.0, low) pair)
    | inr e ↦ in_right (pairs_to program count) (entries_of program (suc count)) (Pair (entry program m i))
        (subst (λ (k : ℕ). Stands (entries_of program k) (Pair (entry program m i))) e (entry_stands m (length (method_of program m).pairs) i pair))
  ]

  -- the start of each pair is claimed
  pub pair_there : (m i : ℕ) → PairExists program m i → Stands (claims_of r program) (Pair (entry program m i))
  pair_there m i exists = in_right (sleek_claims r) (pairs_to program (length program.methods)) (Pair (entry program m i)) (pair_stands (length program.methods) m i exists.0 exists.1)
