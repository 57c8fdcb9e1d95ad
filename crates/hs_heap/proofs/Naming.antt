-- The pairs that the code makes put the names of the definition in the place of what occurs.
use Rattle.std.proofs.Common.{◌≡◌, ℕ, suc, ◌+◌, ◌<◌, ◌≤◌, Bool, true, false, not, ◌&&◌, ◌||◌, IsTrue, inl, inr, List, [], ◌∷◌, ◌++◌, length, refl, sym, ap, ◌∙◌, subst, arith, replicate, if◌then◌else◌}
use Rattle.hs_pure.specs.declared.var.Var.{Var}
use Rattle.hs_pure.specs.Stack.{same}
use Rattle.hs_pure.specs.Rename.{renaming}
use Rattle.std.proofs.lemmas.Bool.{and_from, or_from}
use Rattle.hs_pure.proofs.Vars.{or_left, or_right}
use Rattle.hs_heap.specs.declared.seen.Seen.{Seen}
use Rattle.hs_heap.specs.Meaning.{is_in, self_var}
use Rattle.hs_heap.specs.Sound.{kinds}
use Rattle.hs_heap.specs.Instance.{count_below, put_arguments}
use Rattle.hs_heap.specs.Names.{is_other_seen, other_pairs, next_number, paired, new_names}
use Rattle.hs_heap.proofs.Booleans.{bool_cases, clash}
use Rattle.hs_heap.proofs.Counts.{count-yes, count-no, nat_cases}
use Rattle.hs_heap.proofs.Stacks.{same_is, same_false, same_turned}
use Rattle.hs_heap.specs.Seen.{nothing_seen}
use Rattle.std.proofs.lemmas.List.{length-replicate}
use Rattle.hs_heap.proofs.Seeing.{seen_at, Marks, seen_where}

-- pairs of parameters and arguments come first
pairs_put : (ws args : List Var) (ys : List (Var × Var)) (v : Var) → renaming (paired ws args ++ ys) v ≡ put_arguments ws args (renaming ys) v
pairs_put [] args ys v = refl
pairs_put (w ∷ ws) [] ys v = refl
pairs_put (w ∷ ws) (a ∷ args) ys v = ap (λ u. if same w v then a else u) (pairs_put ws args ys v)

-- what follows the arguments counts for other variables alone
put_alike : (ws args : List Var) (e f : Var → Var) (v : Var) → kinds ws ≡ kinds args → (is_in v ws ≡ false → e v ≡ f v) → put_arguments ws args e v ≡ put_arguments ws args f v
put_alike [] args e f v k h = h refl
put_alike (w ∷ ws) [] e f v k h = absurd cc
put_alike (w ∷ ws) (a ∷ args) e f v k h = elim (bool_cases (same w v)) [
  | inl is ↦ rw is refl
  | inr isnt ↦ ap (λ u. if same w v then a else u) (put_alike ws args e f v (cc) (λ out. h (or_from (same v w) (is_in v ws) (same_turned v w isnt) out)))
]

module _ (params : List Var) (test : ℕ → Bool) (fresh : ℕ) where
  -- the table from the number n on tells what the test does
  abbrev Reads : ℕ → List Seen → Type 0
  Reads n [] = Unit {0}
  Reads n (s ∷ ss) = (is_other_seen params n s ≡ test n) × Reads (suc n) ss

  first_new : (n next : ℕ) (rest : List (Var × Var)) (v : Var) → v.number ≡ n → next ≡ fresh + count_below test n →
      renaming ((record { number = n; bag = false }, record { number = next; bag = false }) ∷ (record { number = n; bag = true }, record { number = next; bag = true }) ∷ rest) v
      ≡ record { number = fresh + count_below test v.number; bag = v.bag }
  first_new n next rest v is at = elim (bool_cases v.bag) [
    | inl bag ↦
        let other : same (record { number = n; bag = false }) v ≡ false = same_false (record { number = n; bag = false }) v (λ e. let f : false ≡ v.bag = ap (λ (u : Var). u.bag) e in clash bag (sym f)) in
        let here : same (record { number = n; bag = true }) v ≡ true = same_is (record { number = n; bag = true }) v (λ i. record { number = sym is i; bag = sym bag i }) in
        let result : record { number = next; bag = true } ≡ record { number = fresh + count_below test v.number; bag = v.bag } = λ i. record { number = number i; bag = sym bag i } in
        rw (other, here) result
    | inr number_kind ↦
        let here : same (record { number = n; bag = false }) v ≡ true = same_is (record { number = n; bag = false }) v (λ i. record { number = sym is i; bag = sym number_kind i }) in
        let result : record { number = next; bag = false } ≡ record { number = fresh + count_below test v.number; bag = v.bag } = λ i. record { number = number i; bag = sym number_kind i } in
        rw here result
  ]
    where
      number : next ≡ fresh + count_below test v.number
      number = at ∙ ap (λ k. fresh + count_below test k) (sym is)

  skips : (n : ℕ) (u w : Var) (rest : List (Var × Var)) (v : Var) → (v.number ≡ n → ⊥) →
      renaming ((record { number = n; bag = false }, u) ∷ (record { number = n; bag = true }, w) ∷ rest) v ≡ renaming rest v
  skips n u w rest v other =
      let first : same (record { number = n; bag = false }) v ≡ false = same_false (record { number = n; bag = false }) v (λ e. other (sym (ap (λ (u : Var). u.number) e))) in
      let second : same (record { number = n; bag = true }) v ≡ false = same_false (record { number = n; bag = true }) v (λ e. other (sym (ap (λ (u : Var). u.number) e))) in
      rw (first, second) refl

  others_put : (ss : List Seen) (n next : ℕ) (v : Var) → Reads n ss → n ≤ v.number → v.number < n + length ss → test v.number ≡ true → next ≡ fresh + count_below test n →
      renaming (other_pairs params next n ss) v ≡ record { number = fresh + count_below test v.number; bag = v.bag }
  others_put [] n next v r low high passes at = absurd (omega arith)
  others_put (s ∷ ss) n next v (r, rest) low high passes at = elim (bool_cases (test n)) [
    | inl passes_it ↦
        let more = other_pairs params (suc next) (suc n) ss in
        let opened : renaming (other_pairs params next n (s ∷ ss)) v
        ≡ renaming ((record { number = n; bag = false }, record { number = next; bag = false }) ∷ (record { number = n; bag = true }, record { number = next; bag = true }) ∷ other_pairs params (suc next) (suc n) ss) v
        = ap (λ b. renaming (if b then ((record { number = n; bag = false }, record { number = next; bag = false }) ∷ (record { number = n; bag = true }, record { number = next; bag = true }) ∷ other_pairs params (suc next) (suc n) ss) else other_pairs params next (suc n) ss) v) (r ∙ passes_it) in
        elim (nat_cases n v.number) [
          | inl less ↦
              let grown = count-yes test n passes_it in
              opened ∙ skips n (record { number = next; bag = false }) (record { number = next; bag = true }) more v (λ e. omega arith) ∙ others_put ss (suc n) (suc next) v rest (omega arith) (omega arith) passes (omega arith)
          | inr o ↦ elim o [
            | inl is ↦ opened ∙ first_new n next more v (sym is) at
            | inr more_than ↦ absurd (omega arith)
          ]
        ]
    | inr fails ↦
        let opened : renaming (other_pairs params next n (s ∷ ss)) v ≡ renaming (other_pairs params next (suc n) ss) v
        = ap (λ b. renaming (if b then ((record { number = n; bag = false }, record { number = next; bag = false }) ∷ (record { number = n; bag = true }, record { number = next; bag = true }) ∷ other_pairs params (suc next) (suc n) ss) else other_pairs params next (suc n) ss) v) (r ∙ fails) in
        elim (nat_cases n v.number) [
          | inl less ↦
              let same_count = count-no test n fails in
              opened ∙ others_put ss (suc n) next v rest (omega arith) (omega arith) passes (at ∙ ap (λ k. fresh + k) (sym same_count))
          | inr o ↦ elim o [
            | inl is ↦ clash (subst (λ k. test k ≡ true) (sym is) passes) fails
            | inr more_than ↦ absurd (omega arith)
          ]
        ]
  ]

  counted : (ss : List Seen) (n next : ℕ) → Reads n ss → next ≡ fresh + count_below test n → next_number params next n ss ≡ fresh + count_below test (n + length ss)
  counted [] n next r at = at ∙ ap (λ k. fresh + count_below test k) (let e : n ≡ n + 0 = omega arith in e)
  counted (s ∷ ss) n next (r, rest) at = elim (bool_cases (test n)) [
    | inl passes_it ↦
        let grown = count-yes test n passes_it in
        ap (λ b. if b then next_number params (suc next) (suc n) ss else next_number params next (suc n) ss) (r ∙ passes_it)
        ∙ counted ss (suc n) (suc next) rest (omega arith) ∙ ap (λ k. fresh + count_below test k) shifted
    | inr fails ↦
        let same_count = count-no test n fails in
        ap (λ b. if b then next_number params (suc next) (suc n) ss else next_number params next (suc n) ss) (r ∙ fails)
        ∙ counted ss (suc n) next rest (at ∙ ap (λ k. fresh + k) (sym same_count)) ∙ ap (λ k. fresh + count_below test k) shifted
  ]
    where
      shifted : suc n + length ss ≡ n + suc (length ss)
      shifted = omega arith

-- what the table tells of a number is what occurs
module _ (params : List Var) (occurs : Var → Bool) where
  abbrev pub test_of : ℕ → Bool
  test_of n = (occurs (record { number = n; bag = false }) && not (is_in (record { number = n; bag = false }) (self_var ∷ params)))
      || (occurs (record { number = n; bag = true }) && not (is_in (record { number = n; bag = true }) (self_var ∷ params)))

  reads : (fresh : ℕ) (ss : List Seen) (n : ℕ) → ((m : ℕ) (k : Bool) → m < length ss → seen_at ss m k ≡ occurs (record { number = n + m; bag = k })) → Reads params test_of fresh n ss
  reads fresh [] n h = tt
  reads fresh (s ∷ ss) n h =
      let zero_is : n + 0 ≡ n = omega arith in
      let number : s.number ≡ occurs (record { number = n; bag = false }) = h 0 false (omega arith) ∙ (λ i. occurs (record { number = zero_is i; bag = false })) in
      let bag : s.bag ≡ occurs (record { number = n; bag = true }) = h 0 true (omega arith) ∙ (λ i. occurs (record { number = zero_is i; bag = true })) in (
        λ i. (number i && not (is_in (record { number = n; bag = false }) (self_var ∷ params))) || (bag i && not (is_in (record { number = n; bag = true }) (self_var ∷ params))),
        reads fresh ss (suc n) (λ m k less. let shifted : n + suc m ≡ suc n + m = omega arith in h (suc m) k (omega arith) ∙ (λ i. occurs (record { number = shifted i; bag = k }))),
      )

module _ (params : List Var) (root : Var) (args : List Var) (fresh : ℕ) (occurs : Var → Bool) (seen : List Seen) (arity : kinds (self_var ∷ params) ≡ kinds (root ∷ args))
    (tells : (v : Var) → v.number < length seen → seen_at seen v.number v.bag ≡ occurs v) where
  table : Reads params (test_of params occurs) fresh 0 seen
  table = reads params occurs fresh seen 0 (λ m k less. tells (record { number = m; bag = k }) less ∙ (let e : m ≡ 0 + m = omega arith in λ i. occurs (record { number = e i; bag = k })))

  -- what is not named and occurs passes the test
  passes : (v : Var) → IsTrue (occurs v) → is_in v (self_var ∷ params) ≡ false → test_of params occurs v.number ≡ true
  passes v o out = go v.number v.bag (and_from (occurs v) (not (is_in v (self_var ∷ params))) o (let e : not (is_in v (self_var ∷ params)) ≡ true = rw out refl in e))
    where
      go : (n : ℕ) (k : Bool) → (occurs (record { number = n; bag = k }) && not (is_in (record { number = n; bag = k }) (self_var ∷ params))) ≡ true → test_of params occurs n ≡ true
      go n true e = or_right (occurs (record { number = n; bag = false }) && not (is_in (record { number = n; bag = false }) (self_var ∷ params)))
          (occurs (record { number = n; bag = true }) && not (is_in (record { number = n; bag = true }) (self_var ∷ params))) e
      go n false e = or_left (occurs (record { number = n; bag = false }) && not (is_in (record { number = n; bag = false }) (self_var ∷ params)))
          (occurs (record { number = n; bag = true }) && not (is_in (record { number = n; bag = true }) (self_var ∷ params))) e

  names_agree : (v : Var) → IsTrue (occurs v) → v.number < length seen →
      renaming (new_names params root args fresh seen) v
      ≡ put_arguments (self_var ∷ params) (root ∷ args) (λ v. record { number = fresh + count_below (test_of params occurs) v.number; bag = v.bag }) v
  names_agree v o less =
      pairs_put (self_var ∷ params) (root ∷ args) (other_pairs params fresh 0 seen) v
      ∙ put_alike (self_var ∷ params) (root ∷ args) (renaming (other_pairs params fresh 0 seen)) (λ v. record { number = fresh + count_below (test_of params occurs) v.number; bag = v.bag }) v arity
      (λ out. others_put params (test_of params occurs) fresh seen 0 fresh v table (omega arith) (omega arith) (passes v o out) (omega arith))

  next_agrees : next_number params fresh 0 seen ≡ fresh + count_below (test_of params occurs) (length seen)
  next_agrees = counted params (test_of params occurs) fresh seen 0 fresh table (omega arith) ∙ (let e : 0 + length seen ≡ length seen = omega arith in ap (λ k. fresh + count_below (test_of params occurs) k) e)

-- a table of a change that marks what occurs
module _ (params : List Var) (root : Var) (args : List Var) (fresh next : ℕ) (occurs : Var → Bool) (change : List Seen → List Seen)
    (arity : kinds (self_var ∷ params) ≡ kinds (root ∷ args)) (marks : (v : Var) → Marks v change (occurs v)) where
  size : length (change (replicate next nothing_seen)) ≡ next
  size = (marks self_var).size (replicate next nothing_seen) ∙ length-replicate next nothing_seen

  told : (v : Var) → v.number < length (change (replicate next nothing_seen)) → seen_at (change (replicate next nothing_seen)) v.number v.bag ≡ occurs v
  told v less = seen_where v change (occurs v) next (marks v) (subst (λ k. v.number < k) size less)

  pub names_put : (v : Var) → IsTrue (occurs v) → v.number < next →
      renaming (new_names params root args fresh (change (replicate next nothing_seen))) v
      ≡ put_arguments (self_var ∷ params) (root ∷ args) (λ v. record { number = fresh + count_below (test_of params occurs) v.number; bag = v.bag }) v
  names_put v o less = names_agree params root args fresh occurs (change (replicate next nothing_seen)) arity told v o (subst (λ k. v.number < k) (sym size) less)

  pub next_put : next_number params fresh 0 (change (replicate next nothing_seen)) ≡ fresh + count_below (test_of params occurs) next
  next_put = next_agrees params root args fresh occurs (change (replicate next nothing_seen)) arity told ∙ ap (λ k. fresh + count_below (test_of params occurs) k) size
