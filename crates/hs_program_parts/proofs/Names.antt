-- The pairs put what the definitions say in the place of each variable.
use Rattle.std.proofs.Common.{◌≡◌, ℕ, zero, suc, ◌+◌, ◌<◌, ◌≤◌, ◌^◌, ℤ, Bool, true, false, ◌||◌, IsTrue, inl, inr, if◌then◌else◌, List, [], ◌∷◌, ◌++◌, length, map, Option, Some, None, refl, sym, ap, ◌∙◌, subst, arith, rules}
use Rattle.std.specs.List.{All, fold}
use Rattle.std.proofs.lemmas.Bool.{or_from}
use Rattle.std.proofs.lemmas.List.{append-nil}
use Rattle.std.proofs.lemmas.List.Elements.{All-head, All-tail}
use Rattle.hs_pure.specs.declared.var.Var.{Var}
use Rattle.hs_pure.specs.declared.lin.Lin.{Lin}
use Rattle.hs_pure.specs.declared.pure.Pure.{Pure}
use Rattle.hs_pure.specs.Stack.{same}
use Rattle.hs_pure.specs.Rename.{renaming, add_term, renamed_lin, renamed}
use Rattle.hs_pure.specs.Occurs.{occurs}
use Rattle.hs_pure.proofs.Vars.{or_left, or_right}
use Rattle.hs_heap.specs.declared.formula.Formula.{Formula}
use Rattle.hs_heap.specs.Meaning.{is_in}
use Rattle.hs_heap.specs.Variables.{occurs_in_formula}
use Rattle.hs_heap.specs.Renamed.{renamed_formula}
use Rattle.hs_heap.specs.Instance.{count_below, put_arguments}
use Rattle.hs_heap.proofs.Booleans.{bool_cases, clash}
use Rattle.hs_heap.proofs.Counts.{nat_cases, count-yes, count-no}
use Rattle.hs_heap.proofs.Stacks.{same_is, same_false, same_itself, same_turned}
use Rattle.hs_heap.proofs.SameNames.{formula_alike, pure_alike}
use Rattle.hs_core.specs.declared.program.Pair.{Pair}
use Rattle.hs_core.specs.declared.program.Method.{Method}
use Rattle.hs_core.specs.Sound.{IsSlot, TermFits, ConditionFits, param_vars}
use Rattle.hs_program_rules.specs.States.{Held, number_var, variable_in}
use Rattle.hs_program_rules.specs.Parts.{is_of_pair, is_other, new_number, call_renaming, result_var, last_vars, variables_in, return_renaming}
use Rattle.hs_program_parts.specs.Pairs.{paired, both_with, others_below, call_pairs, return_pairs, slots_below}

append_assoc : {A : Type 0} (xs ys zs : List A) → (xs ++ ys) ++ zs ≡ xs ++ (ys ++ zs)
append_assoc [] ys zs = refl
append_assoc (x ∷ xs) ys zs = ap (λ r. x ∷ r) (append_assoc xs ys zs)

-- ---- pairs in order

pairs_put : (ws args : List Var) (ys : List (Var × Var)) (v : Var) → renaming (paired ws args ++ ys) v ≡ put_arguments ws args (renaming ys) v
pairs_put [] args ys v = refl
pairs_put (w ∷ ws) [] ys v = refl
pairs_put (w ∷ ws) (a ∷ args) ys v = ap (λ u. if same w v then a else u) (pairs_put ws args ys v)

plain_put : (ws args : List Var) (v : Var) → renaming (paired ws args) v ≡ put_arguments ws args (λ v. v) v
plain_put [] args v = refl
plain_put (w ∷ ws) [] v = refl
plain_put (w ∷ ws) (a ∷ args) v = ap (λ u. if same w v then a else u) (plain_put ws args v)

-- what follows the arguments counts for other variables alone
put_alike : (ws args : List Var) (e f : Var → Var) (v : Var) → length args ≡ length ws → (is_in v ws ≡ false → e v ≡ f v) → put_arguments ws args e v ≡ put_arguments ws args f v
put_alike [] args e f v k h = h refl
put_alike (w ∷ ws) [] e f v k h = absurd (omega arith)
put_alike (w ∷ ws) (a ∷ args) e f v k h = elim (bool_cases (same w v)) [
  | inl is ↦ rw is refl
  | inr isnt ↦ ap (λ u. if same w v then a else u) (put_alike ws args e f v (omega arith) (λ out. h (or_from (same v w) (is_in v ws) (same_turned v w isnt) out)))
]

-- ---- new numbers

number_differs : (n : ℕ) (bag : Bool) (v : Var) → (v.number ≡ n → ⊥) → same (record { number = n; bag = bag }) v ≡ false
number_differs n bag v other = same_false (record { number = n; bag = bag }) v (λ e. other (sym (ap (λ (u : Var). u.number) e)))

skips : (n next : ℕ) (ys : List (Var × Var)) (v : Var) → (v.number ≡ n → ⊥) → renaming (both_with n next ++ ys) v ≡ renaming ys v
skips n next ys v other = rw (number_differs n false v other, number_differs n true v other) refl

finds : (n next : ℕ) (ys : List (Var × Var)) (v : Var) → v.number ≡ n → renaming (both_with n next ++ ys) v ≡ record { number = next; bag = v.bag }
finds n next ys v is = elim (bool_cases v.bag) [
  | inl bag ↦
      let other : same (record { number = n; bag = false }) v ≡ false = same_false (record { number = n; bag = false }) v (λ e. let f : false ≡ v.bag = ap (λ (u : Var). u.bag) e in clash bag (sym f)) in
      let here : same (record { number = n; bag = true }) v ≡ true = same_is (record { number = n; bag = true }) v (λ i. record { number = sym is i; bag = sym bag i }) in
      let result : ◌≡◌ {A = Var} (record { number = next; bag = true }) (record { number = next; bag = v.bag }) = λ i. record { number = next; bag = sym bag i } in
      rw (other, here) result
  | inr kind ↦
      let here : same (record { number = n; bag = false }) v ≡ true = same_is (record { number = n; bag = false }) v (λ i. record { number = sym is i; bag = sym kind i }) in
      let result : ◌≡◌ {A = Var} (record { number = next; bag = false }) (record { number = next; bag = v.bag }) = λ i. record { number = next; bag = sym kind i } in
      rw here result
]

module _ (test : ℕ → Bool) (fresh : ℕ) where
  abbrev block : ℕ → List (Var × Var)
  block n = if test n then both_with n (fresh + count_below test n) else []

  block_skips : (n : ℕ) (ys : List (Var × Var)) (v : Var) → (v.number ≡ n → ⊥) → renaming (block n ++ ys) v ≡ renaming ys v
  block_skips n ys v other = elim (bool_cases (test n)) [
    | inl is ↦ ap (λ b. renaming ((if b then both_with n (fresh + count_below test n) else []) ++ ys) v) is ∙ skips n (fresh + count_below test n) ys v other
    | inr isnt ↦ ap (λ b. renaming ((if b then both_with n (fresh + count_below test n) else []) ++ ys) v) isnt
  ]

  others_out : (n : ℕ) (ys : List (Var × Var)) (v : Var) → n ≤ v.number → renaming (others_below test fresh n ++ ys) v ≡ renaming ys v
  others_out zero ys v high = refl
  others_out (suc n) ys v high =
      ap (λ zs. renaming zs v) (append_assoc (others_below test fresh n) (block n) ys)
      ∙ others_out n (block n ++ ys) v (omega arith) ∙ block_skips n ys v (λ e. omega arith)

  others_in : (n : ℕ) (ys : List (Var × Var)) (v : Var) → v.number < n → test v.number ≡ true → renaming (others_below test fresh n ++ ys) v ≡ record { number = fresh + count_below test v.number; bag = v.bag }
  others_in zero ys v low passes = absurd (omega arith)
  others_in (suc n) ys v low passes =
      ap (λ zs. renaming zs v) (append_assoc (others_below test fresh n) (block n) ys) ∙ elim (nat_cases v.number n) [
        | inl less ↦ others_in n (block n ++ ys) v less passes
        | inr o ↦ elim o [
          | inl is ↦
              others_out n (block n ++ ys) v (omega arith)
              ∙ ap (λ b. renaming ((if b then both_with n (fresh + count_below test n) else []) ++ ys) v) (subst (λ k. test k ≡ true) is passes)
              ∙ finds n (fresh + count_below test n) ys v is
              ∙ (let e : ◌≡◌ {A = Var} (record { number = fresh + count_below test n; bag = v.bag }) (record { number = fresh + count_below test v.number; bag = v.bag }) = λ i. record { number = fresh + count_below test (sym is i); bag = v.bag } in e)
          | inr more ↦ absurd (omega arith)
        ]
      ]

-- ---- calls

other_counts : (m : Method) (p : Pair) (v : Var) → is_of_pair m p v ≡ true → is_other m p v.number ≡ true
other_counts m p v of = go v.number v.bag of
  where
    go : (k : ℕ) (bag : Bool) → is_of_pair m p (record { number = k; bag = bag }) ≡ true → is_other m p k ≡ true
    go k true e = or_right (is_of_pair m p (record { number = k; bag = false })) (is_of_pair m p (record { number = k; bag = true })) e
    go k false e = or_left (is_of_pair m p (record { number = k; bag = false })) (is_of_pair m p (record { number = k; bag = true })) e

pub call_is : (m : Method) (p : Pair) (args : List Var) (fresh : ℕ) → length args ≡ length (param_vars m) → (v : Var) → (is_in v (param_vars m) ≡ false → (is_of_pair m p v ≡ true) × (v.number < p.next)) →
    renaming (call_pairs m p args fresh) v ≡ call_renaming m p args fresh v
call_is m p args fresh arity v known =
    pairs_put (param_vars m) args (others_below (is_other m p) fresh p.next) v
    ∙ put_alike (param_vars m) args (renaming (others_below (is_other m p) fresh p.next)) (new_number m p fresh) v arity
    (λ out. let k = known out in
    ap (λ zs. renaming zs v) (sym (append-nil (others_below (is_other m p) fresh p.next))) ∙ others_in (is_other m p) fresh p.next [] v k.1 (other_counts m p v k.0))

-- ---- returns

return_at : (m : Method) (from : Option ℕ) (held : Held) (v : Var) → renaming (return_pairs m from held) v ≡ return_renaming m from held v
return_at m None held v = plain_put (last_vars m) (variables_in held m.refs) v
return_at m (Some k) held v = ap (λ u. if same (result_var m) v then variable_in held k else u) (plain_put (last_vars m) (variables_in held m.refs) v)

pub return_is : (m : Method) (from : Option ℕ) (held : Held) → renaming (return_pairs m from held) ≡ return_renaming m from held
return_is m from held = λ i v. return_at m from held v i

-- ---- slots

slot_skips : (held : Held) (n : ℕ) (ys : List (Var × Var)) (v : Var) → (v.number ≡ n → ⊥) → renaming ((number_var n, variable_in held n) ∷ ys) v ≡ renaming ys v
slot_skips held n ys v other = rw (number_differs n false v other) refl

slots_out : (held : Held) (n : ℕ) (ys : List (Var × Var)) (v : Var) → n < v.number → renaming (slots_below held n ++ ys) v ≡ renaming ys v
slots_out held zero ys v high = refl
slots_out held (suc n) ys v high =
    ap (λ zs. renaming zs v) (append_assoc (slots_below held n) ((number_var (suc n), variable_in held (suc n)) ∷ []) ys)
    ∙ slots_out held n ((number_var (suc n), variable_in held (suc n)) ∷ ys) v (omega arith) ∙ slot_skips held (suc n) ys v (λ e. omega arith)

slots_in : (held : Held) (n : ℕ) (ys : List (Var × Var)) (v : Var) → v.bag ≡ false → 1 ≤ v.number → v.number ≤ n → renaming (slots_below held n ++ ys) v ≡ variable_in held v.number
slots_in held zero ys v kind low high = absurd (omega arith)
slots_in held (suc n) ys v kind low high =
    ap (λ zs. renaming zs v) (append_assoc (slots_below held n) ((number_var (suc n), variable_in held (suc n)) ∷ []) ys) ∙ elim (nat_cases v.number (suc n)) [
      | inl less ↦ slots_in held n ((number_var (suc n), variable_in held (suc n)) ∷ ys) v kind low (omega arith)
      | inr o ↦ elim o [
        | inl is ↦
            let here : same (number_var (suc n)) v ≡ true = same_is (number_var (suc n)) v (λ i. record { number = sym is i; bag = sym kind i }) in
            let found : renaming ((number_var (suc n), variable_in held (suc n)) ∷ ys) v ≡ variable_in held (suc n) = rw here refl in
            slots_out held n ((number_var (suc n), variable_in held (suc n)) ∷ ys) v (omega arith) ∙ found ∙ ap (variable_in held) (sym is)
        | inr more ↦ absurd (omega arith)
      ]
    ]

slot_is : (held : Held) (n : ℕ) (v : Var) → IsSlot n v → renaming (slots_below held n) v ≡ variable_in held v.number
slot_is held n v slot =
    let kind = slot.0 in
    let low = slot.1.0 in
    let high = slot.1.1 in
    ap (λ zs. renaming zs v) (sym (append-nil (slots_below held n))) ∙ slots_in held n [] v kind low high

terms_alike : (ρ σ : Var → Var) (ts sum : List (Var × ℤ)) → All (λ t. ρ t.0 ≡ σ t.0) ts → fold (λ sum t. add_term (ρ t.0) t.1 sum) sum ts ≡ fold (λ sum t. add_term (σ t.0) t.1 sum) sum ts
terms_alike ρ σ [] sum h = refl
terms_alike ρ σ (t ∷ ts) sum h =
    ap (λ u. fold (λ sum t. add_term (ρ t.0) t.1 sum) (add_term u t.1 sum) ts) (All-head (λ t. ρ t.0 ≡ σ t.0) t ts h)
    ∙ terms_alike ρ σ ts (add_term (σ t.0) t.1 sum) (All-tail (λ t. ρ t.0 ≡ σ t.0) t ts h)

slots_agree : (held : Held) (n : ℕ) (ts : List (Var × ℤ)) → All (λ t. IsSlot n t.0) ts → All (λ t. renaming (slots_below held n) t.0 ≡ variable_in held t.0.number) ts
slots_agree held n ts h i d less = slot_is held n _ (h i d less)

pub term_is : (held : Held) (n : ℕ) (a : Lin) → TermFits n a → renamed_lin (renaming (slots_below held n)) a ≡ renamed_lin (λ v. variable_in held v.number) a
term_is held n a fits =
    let e = terms_alike (renaming (slots_below held n)) (λ v. variable_in held v.number) a.terms [] (slots_agree held n a.terms fits.slots) in
    λ i. record { terms = e i; constant = a.constant }

pub condition_is : (held : Held) (n : ℕ) (p : Pure) → ConditionFits n p → renamed (renaming (slots_below held n)) p ≡ renamed (λ v. variable_in held v.number) p
condition_is held n p fits = pure_alike (renaming (slots_below held n)) (λ v. variable_in held v.number) p (λ v o. slot_is held n v (fits.slots v o))

-- ---- lists of variables

pub vars_alike : (ρ σ : Var → Var) (vs : List Var) → ((v : Var) → is_in v vs ≡ true → ρ v ≡ σ v) → map ρ vs ≡ map σ vs
vars_alike ρ σ [] h = refl
vars_alike ρ σ (w ∷ ws) h =
    let e = h w (or_left (same w w) (is_in w ws) (same_itself w)) in
    let k = vars_alike ρ σ ws (λ v i. h v (or_right (same v w) (is_in v ws) i)) in λ i. e i ∷ k i

-- ---- one number more

pub record IsMore (test : ℕ → Bool) (fresh n more : ℕ) (old here : List (Var × Var)) : Type 0 where
  pub next : more ≡ fresh + count_below test (n + 1)
  pub low : more ≤ fresh + (n + 1)
  pub pairs : here ≡ old ++ others_below test fresh (n + 1)

one_more : (n : ℕ) → n + 1 ≡ suc n
one_more n = omega arith

module _ (test : ℕ → Bool) (fresh n : ℕ) where
  pairs_yes : test n ≡ true → others_below test fresh (n + 1) ≡ others_below test fresh n ++ both_with n (fresh + count_below test n)
  pairs_yes e = ap (others_below test fresh) (one_more n) ∙ ap (λ b. others_below test fresh n ++ (if b then both_with n (fresh + count_below test n) else [])) e

  pairs_no : test n ≡ false → others_below test fresh (n + 1) ≡ others_below test fresh n
  pairs_no e =
      ap (others_below test fresh) (one_more n) ∙ ap (λ b. others_below test fresh n ++ (if b then both_with n (fresh + count_below test n) else [])) e
      ∙ append-nil (others_below test fresh n)

  pub others_yes : (next more : ℕ) (old loop here : List (Var × Var)) → test n ≡ true → next ≡ fresh + count_below test n → next ≤ fresh + n → loop ≡ old ++ others_below test fresh n →
      here ≡ loop ++ both_with n next → more ≡ next + 1 → IsMore test fresh n more old here
  others_yes next more old loop here e is low pairs grown one =
      let counted : count_below test (n + 1) ≡ suc (count_below test n) = ap (count_below test) (one_more n) ∙ count-yes test n e in
      let first : more ≡ fresh + count_below test (n + 1) = omega arith in
      let second : more ≤ fresh + (n + 1) = omega arith in
      record {
        next = first;
        low = second;
        pairs = grown ∙ (λ i. pairs i ++ both_with n (is i)) ∙ append_assoc old (others_below test fresh n) (both_with n (fresh + count_below test n)) ∙ ap (λ xs. old ++ xs) (sym (pairs_yes e));
      }

  pub others_no : (next more : ℕ) (old loop here : List (Var × Var)) → test n ≡ false → next ≡ fresh + count_below test n → next ≤ fresh + n → loop ≡ old ++ others_below test fresh n →
      here ≡ loop → more ≡ next → IsMore test fresh n more old here
  others_no next more old loop here e is low pairs same one =
      let counted : count_below test (n + 1) ≡ count_below test n = ap (count_below test) (one_more n) ∙ count-no test n e in
      let first : more ≡ fresh + count_below test (n + 1) = omega arith in
      let second : more ≤ fresh + (n + 1) = omega arith in
      record {
        next = first;
        low = second;
        pairs = same ∙ pairs ∙ ap (λ xs. old ++ xs) (sym (pairs_no e));
      }
