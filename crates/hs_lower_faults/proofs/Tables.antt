-- Tables of what is set.
use Rattle.std.proofs.Common.{◌≡◌, ℕ, suc, ◌+◌, ◌<◌, ◌≤◌, max, nat_eq, nat_le, ltb, Bool, true, false, Decides, ◌&&◌, ◌||◌, List, [], ◌∷◌, ◌++◌, length, map, replicate, slice_index_or, refl, sym, ap, ◌∙◌, arith}
use Rattle.std.specs.List.{range_with_len}
use Rattle.std.proofs.lemmas.Bool.Decides.{Decides-ltb, nat_tests}
use Rattle.std.proofs.lemmas.List.{get_or_past, get_or-replicate, length-replicate}
use Rattle.std.proofs.lemmas.List.FromFn.{get_or-map-range_with_len, length-map-range_with_len, map-range_with_len_more}
use Rattle.hs_lower_faults.specs.declared.set.SetTable.{SetTable}
use Rattle.hs_lower_faults.specs.Setting.{SetSlots, with_slot, both_set, params_set}
use Rattle.hs_lower_faults.specs.View.{set_of}
use Rattle.hs_lower_faults.proofs.Args.{falsehood}

past : (bits : List Bool) (k : ℕ) (r : Bool) → length bits ≤ k → slice_index_or bits k r ≡ r
past bits k r l = get_or_past bits k r l

-- ---- a table of a function

pub table_more : (f : SetSlots) (i : ℕ) (bits new : List Bool) (b : Bool) → bits ≡ map f (range_with_len 0 i) → b ≡ f i → new ≡ bits ++ b ∷ [] → new ≡ map f (range_with_len 0 (i + 1))
table_more f i bits new b e is h = h ∙ (λ j. e j ++ is j ∷ []) ∙ sym (map-range_with_len_more f 0 i i (omega arith))

module _ (f : SetSlots) (n : ℕ) (r : Bool) (bits : List Bool) (e : bits ≡ map f (range_with_len 0 n)) (beyond : (k : ℕ) → n ≤ k → f k ≡ r) where
  at_by : (k : ℕ) (t : Bool) → Decides t (k < n) → slice_index_or bits k r ≡ f k
  at_by k true d = ap (λ b. slice_index_or b k r) e ∙ get_or-map-range_with_len f 0 n k k r (d.0 refl) (omega arith)
  at_by k false d =
      let not : ¬ (k < n) = λ m. absurd (falsehood (d.1 m)) in
      let within : length (map f (range_with_len 0 n)) ≡ n = length-map-range_with_len f 0 n in
      ap (λ b. slice_index_or b k r) e ∙ past (map f (range_with_len 0 n)) k r (omega arith) ∙ sym (beyond k (omega arith))

  pub table : (λ k. slice_index_or bits k r) ≡ f
  table j k = at_by k (ltb k n) (Decides-ltb k n) j

-- ---- the tables of the code

other : (j k : ℕ) → k < j → nat_eq j k ≡ false
other j k l = grind (arith, nat_tests)

pub table_with : (k n : ℕ) (t : SetTable) (bits : List Bool) → n ≡ max (length t.bits) (k + 1) → bits ≡ map (with_slot k (set_of t)) (range_with_len 0 n) → set_of (record { bits = bits; rest = t.rest }) ≡ with_slot k (set_of t)
table_with k n t bits is e = table (with_slot k (set_of t)) n t.rest bits e (λ j l. ap (λ b. b || set_of t j) (other j k (omega arith)) ∙ past t.bits j t.rest (omega arith))

pub table_both : (n : ℕ) (t u : SetTable) (bits : List Bool) → n ≡ max (length t.bits) (length u.bits) → bits ≡ map (both_set (set_of t) (set_of u)) (range_with_len 0 n) →
    set_of (record { bits = bits; rest = t.rest && u.rest }) ≡ both_set (set_of t) (set_of u)
table_both n t u bits is e = table (both_set (set_of t) (set_of u)) n (t.rest && u.rest) bits e (λ j l i. past t.bits j t.rest (omega arith) i && past u.bits j u.rest (omega arith) i)

params_by : (n k : ℕ) (b : Bool) → Decides b (k < suc n) → slice_index_or (replicate (suc n) true) k false ≡ nat_le k n
params_by n k true d = let l : k < suc n = d.0 refl in get_or-replicate (suc n) k true false l ∙ (let t : nat_le k n ≡ true = grind (arith, nat_tests) in sym t)
params_by n k false d =
    let not : ¬ (k < suc n) = λ m. absurd (falsehood (d.1 m)) in
    let within : length (replicate (suc n) true) ≡ suc n = length-replicate (suc n) true in
    past (replicate (suc n) true) k false (omega arith) ∙ (let t : nat_le k n ≡ false = grind (arith, nat_tests) in sym t)

pub table_params : (n : ℕ) (bits : List Bool) → bits ≡ replicate (suc n) true → set_of (record { bits = bits; rest = false }) ≡ params_set n
table_params n bits e j k = (ap (λ b. slice_index_or b k false) e ∙ params_by n k (ltb k (suc n)) (Decides-ltb k (suc n))) j
