-- The renaming of a pair at a call, and the caller's stack after it.
use Rattle.std.proofs.Common.{ℕ, suc, ◌≡◌, ◌+◌, ◌<◌, ◌≤◌, ◌⊎◌, inl, inr, Bool, true, false, not, ◌||◌, IsTrue, List, [], ◌∷◌, length, map, refl, sym, ◌∙◌, ap, arith}
use Rattle.std.specs.List.{All, list_any}
use Rattle.std.proofs.lemmas.Bool.{or_cases, and_from}
use Rattle.std.proofs.lemmas.List.Elements.{All-nil, All-cons, All-head, All-tail}
use Rattle.hs_pure.specs.declared.var.Var.{Var}
use Rattle.hs_pure.specs.Stack.{Stack, same}
use Rattle.hs_pure.specs.Sums.{KeepsKinds}
use Rattle.hs_pure.proofs.Lists.{All-weaker}
use Rattle.hs_pure.proofs.Vars.{or_left, or_right, same-from}
use Rattle.hs_heap.specs.declared.formula.Disjunct.{Disjunct}
use Rattle.hs_heap.specs.declared.formula.Formula.{Formula}
use Rattle.hs_heap.specs.declared.definitions.Defs.{Defs}
use Rattle.hs_heap.specs.Meaning.{is_in}
use Rattle.hs_heap.specs.Variables.{is_free_in_disjunct, is_free_in_formula, occurs_in_disjunct, occurs_in_formula}
use Rattle.hs_heap.specs.Renamed.{is_bound_in_disjunct, is_bound_in_formula, DisjunctKeepsApart}
use Rattle.hs_heap.specs.Sound.{DisjunctFits, FormulaFits, kinds}
use Rattle.hs_heap.specs.Instance.{count_below}
use Rattle.hs_heap.proofs.Booleans.{bool_cases, or_false_left, or_false_right, clash, not_of_false}
use Rattle.hs_heap.proofs.Stacks.{same_true, same_itself, same_turned, same_false}
use Rattle.hs_heap.proofs.Bodies.{put-out, put-in, put-kind}
use Rattle.hs_heap.proofs.Counts.{count-passes, count-tells}
use Rattle.hs_heap.proofs.Lists.{any_forth, listed_forth}
use Rattle.hs_heap.proofs.Occurring.{free_occurs, bound_occurs}
use Rattle.hs_heap.proofs.Renaming.{before}
use Rattle.hs_core.specs.declared.program.Pair.{Pair}
use Rattle.hs_core.specs.declared.program.Method.{Method}
use Rattle.hs_core.specs.Machine.{Returned}
use Rattle.hs_core.specs.Sound.{PairFits, param_vars, reserved_vars}
use Rattle.hs_core.proofs.GivenVars.{in_from}
use Rattle.hs_program_rules.specs.Parts.{is_of_pair, is_other, new_number, call_renaming, after_call, result_var, last_vars}
use Rattle.hs_program_rules.specs.Safe.{with_numbers, with_result, stack_after}
use Rattle.hs_program_rules.proofs.Fitting.{number_at}
use Rattle.hs_program_rules.proofs.Pairs.{names, IsNoName, bound_no_name, bound_low, reserved_no_param, logic_no_other}
use Rattle.hs_program_rules.proofs.Values.{with_numbers-out, with_result-out, with_numbers-renamed, with_result-renamed, numbers_values, map_same}

pub cases_free_occur : (ds : List Disjunct) (u : Var) → IsTrue (list_any (is_free_in_disjunct u) ds) → IsTrue (list_any (occurs_in_disjunct u) ds)
cases_free_occur [] u e = e
cases_free_occur (d ∷ ds) u e = elim (or_cases (is_free_in_disjunct u d) (list_any (is_free_in_disjunct u) ds) e) [
  | inl k ↦ or_left (occurs_in_disjunct u d) (list_any (occurs_in_disjunct u) ds) (free_occurs u d k)
  | inr k ↦ or_right (occurs_in_disjunct u d) (list_any (occurs_in_disjunct u) ds) (cases_free_occur ds u k)
]

cases_bound_occur : (ds : List Disjunct) (u : Var) → IsTrue (list_any (is_bound_in_disjunct u) ds) → IsTrue (list_any (occurs_in_disjunct u) ds)
cases_bound_occur [] u e = e
cases_bound_occur (d ∷ ds) u e = elim (or_cases (is_bound_in_disjunct u d) (list_any (is_bound_in_disjunct u) ds) e) [
  | inl k ↦ or_left (occurs_in_disjunct u d) (list_any (occurs_in_disjunct u) ds) (bound_occurs u d k)
  | inr k ↦ or_right (occurs_in_disjunct u d) (list_any (occurs_in_disjunct u) ds) (cases_bound_occur ds u k)
]

module _ (defs : Defs) (m : Method) (p : Pair) (fits : PairFits defs m p) where
  -- a parameter, or of the pair beside them
  abbrev pub IsKnown : Var → Type 0
  IsKnown v = (is_in v (param_vars m) ≡ true) ⊎ (is_of_pair m p v ≡ true)

  not_param : (v : Var) → is_of_pair m p v ≡ true → is_in v (param_vars m) ≡ false
  not_param v e = elim (bool_cases (is_in v (param_vars m))) [
    | inl is ↦ let f : is_of_pair m p v ≡ false = rw is refl in clash e f
    | inr isnt ↦ isnt
  ]

  of_pair : (v : Var) → is_in v (param_vars m) ≡ false → (is_in v (reserved_vars m) || (is_in v p.logic || (occurs_in_formula v p.pre || occurs_in_formula v p.post))) ≡ true → is_of_pair m p v ≡ true
  of_pair v out e =
      and_from (not (is_in v (param_vars m))) (is_in v (reserved_vars m) || (is_in v p.logic || (occurs_in_formula v p.pre || occurs_in_formula v p.post))) (not_of_false out) e

  pub reserved_of_pair : (v : Var) → is_in v (reserved_vars m) ≡ true → is_of_pair m p v ≡ true
  reserved_of_pair v e = of_pair v (reserved_no_param defs m p fits v e) (or_left (is_in v (reserved_vars m)) (is_in v p.logic || (occurs_in_formula v p.pre || occurs_in_formula v p.post)) e)

  pub logic_of_pair : (v : Var) → is_in v p.logic ≡ true → is_of_pair m p v ≡ true
  logic_of_pair v e =
      of_pair v (logic_no_other defs m p fits v e).0
      (or_right (is_in v (reserved_vars m)) (is_in v p.logic || (occurs_in_formula v p.pre || occurs_in_formula v p.post)) (or_left (is_in v p.logic) (occurs_in_formula v p.pre || occurs_in_formula v p.post) e))

  occurring : (v : Var) → (occurs_in_formula v p.pre || occurs_in_formula v p.post) ≡ true → IsKnown v
  occurring v e = elim (bool_cases (is_in v (param_vars m))) [
    | inl is ↦ inl is
    | inr isnt ↦ inr (of_pair v isnt (or_right (is_in v (reserved_vars m)) (is_in v p.logic || (occurs_in_formula v p.pre || occurs_in_formula v p.post))
        (or_right (is_in v p.logic) (occurs_in_formula v p.pre || occurs_in_formula v p.post) e)))
  ]

  pub pre_known : (v : Var) → IsTrue (occurs_in_formula v p.pre) → IsKnown v
  pre_known v e = occurring v (or_left (occurs_in_formula v p.pre) (occurs_in_formula v p.post) e)

  pub post_known : (v : Var) → IsTrue (occurs_in_formula v p.post) → IsKnown v
  post_known v e = occurring v (or_right (occurs_in_formula v p.pre) (occurs_in_formula v p.post) e)

  pub post_free_known : (v : Var) → IsTrue (is_free_in_formula v p.post) → IsKnown v
  post_free_known v e = post_known v (cases_free_occur p.post.cases v e)

  -- what a formula of the pair binds is new at a call
  pub record IsBoundOf (v : Var) : Type 0 where
    pub none : IsNoName defs m p fits v
    pub of_pair : is_of_pair m p v ≡ true
    pub low : v.number < p.next

  pub post_bound : (v : Var) → IsTrue (is_bound_in_formula v p.post) → IsBoundOf v
  post_bound v e =
      let none = any_forth is_bound_in_disjunct (IsNoName defs m p fits) p.post.cases
      (All-weaker (DisjunctFits defs (names defs m p fits) p.next) (λ d. (u : Var) → IsTrue (is_bound_in_disjunct u d) → IsNoName defs m p fits u) (bound_no_name defs m p fits) p.post.cases fits.post) v e in
      record {
        none = none;
        of_pair = elim (post_known v (cases_bound_occur p.post.cases v e)) [ inl is ↦ clash is none.no_param | inr is ↦ is ];
        low = any_forth is_bound_in_disjunct (λ (u : Var). u.number < p.next) p.post.cases
            (All-weaker (DisjunctFits defs (names defs m p fits) p.next) (λ d. (u : Var) → IsTrue (is_bound_in_disjunct u d) → u.number < p.next) (bound_low defs m p fits) p.post.cases fits.post) v e;
      }

  pub occurs_low : (f : Formula) → FormulaFits defs (names defs m p fits) p.next f → (v : Var) → IsTrue (occurs_in_formula v f) → v.number < p.next
  occurs_low f all v e = any_forth occurs_in_disjunct (λ (u : Var). u.number < p.next) f.cases
      (All-weaker (DisjunctFits defs (names defs m p fits) p.next) (λ d. (u : Var) → IsTrue (occurs_in_disjunct u d) → u.number < p.next) (λ d g u o. (g.numbers u o).1) f.cases all) v e

  module _ (args : List Var) (n : ℕ) (arity : kinds (param_vars m) ≡ kinds args) (below : All (λ (v : Var). v.number < n) args) where
    abbrev pub r : Var → Var
    r = call_renaming m p args n

    pub keeps : KeepsKinds r
    keeps v = put-kind (param_vars m) args (new_number m p n) v arity refl

    pub param_low : (v : Var) → is_in v (param_vars m) ≡ true → (r v).number < n
    param_low v i = listed_forth (λ (u : Var). u.number < n) args below (r v) (put-in (param_vars m) args (new_number m p n) v arity i)

    other_number : (v : Var) → is_in v (param_vars m) ≡ false → (r v).number ≡ n + count_below (is_other m p) v.number
    other_number v out = ap (λ (u : Var). u.number) (put-out (param_vars m) args (new_number m p n) v out)

    pub other_high : (v : Var) → is_of_pair m p v ≡ true → n ≤ (r v).number
    other_high v of = let e = other_number v (not_param v of) in omega arith

    other_counts : (v : Var) → is_of_pair m p v ≡ true → is_other m p v.number ≡ true
    other_counts v of = go v.number v.bag of
      where
        go : (k : ℕ) (bag : Bool) → is_of_pair m p (record { number = k; bag = bag }) ≡ true → is_other m p k ≡ true
        go k true e = or_right (is_of_pair m p (record { number = k; bag = false })) (is_of_pair m p (record { number = k; bag = true })) e
        go k false e = or_left (is_of_pair m p (record { number = k; bag = false })) (is_of_pair m p (record { number = k; bag = true })) e

    pub all_under : (v : Var) → IsKnown v → v.number < p.next → (r v).number < after_call m p n
    all_under v (inl param) low = let k = param_low v param in omega arith
    all_under v (inr of) low =
        let e = other_number v (not_param v of) in
        let k = count-passes (is_other m p) v.number p.next (other_counts v of) low in omega arith

    -- the others stay apart from all
    pub apart : (v b : Var) → IsKnown v → is_of_pair m p b ≡ true → r v ≡ r b → v ≡ b
    apart v b (inl param) of e =
        let low = param_low v param in
        let high = other_high b of in
        let numbers : (r v).number ≡ (r b).number = ap (λ (u : Var). u.number) e in absurd (omega arith)
    apart v b (inr one) of e =
        let at_v = other_number v (not_param v one) in
        let at_b = other_number b (not_param b of) in
        let numbers : (r v).number ≡ (r b).number = ap (λ (u : Var). u.number) e in
        let counts : count_below (is_other m p) v.number ≡ count_below (is_other m p) b.number = omega arith in
        let bags : (r v).bag ≡ (r b).bag = ap (λ (u : Var). u.bag) e in
        same_true v b (same-from v b (count-tells (is_other m p) v.number b.number (other_counts v one) (other_counts b of) counts) (sym (keeps v) ∙ bags ∙ keeps b))

    all_apart : (ds : List Disjunct) → ((v : Var) → IsTrue (list_any (occurs_in_disjunct v) ds) → IsKnown v) → All (DisjunctFits defs (names defs m p fits) p.next) ds → All (DisjunctKeepsApart r) ds
    all_apart [] known f = All-nil (DisjunctKeepsApart r)
    all_apart (d ∷ ds) known f =
        let one = All-head (DisjunctFits defs (names defs m p fits) p.next) d ds f in
        All-cons (DisjunctKeepsApart r) d ds
        (λ u v b o e.
        let none = bound_no_name defs m p fits d one u b in
        let of : is_of_pair m p u ≡ true = elim (known u (or_left (occurs_in_disjunct u d) (list_any (occurs_in_disjunct u) ds) (bound_occurs u d b))) [ inl is ↦ clash is none.no_param | inr is ↦ is ] in
        sym (apart v u (known v (or_left (occurs_in_disjunct v d) (list_any (occurs_in_disjunct v) ds) o)) of (sym e)))
        (all_apart ds (λ v o. known v (or_right (occurs_in_disjunct v d) (list_any (occurs_in_disjunct v) ds) o)) (All-tail (DisjunctFits defs (names defs m p fits) p.next) d ds f))

    pub pre_apart : All (DisjunctKeepsApart r) p.pre.cases
    pre_apart = all_apart p.pre.cases pre_known fits.pre_apart

    pub post_apart : All (DisjunctKeepsApart r) p.post.cases
    post_apart = all_apart p.post.cases post_known fits.post

    -- the caller's stack after the call
    abbrev pub after : Returned → Stack → Stack
    after v t = with_result (r (result_var m)) v.result (with_numbers (map r (last_vars m)) v.refs t)

    pub after_out : (v : Returned) (t : Stack) (u : Var) → is_in u (map r (reserved_vars m)) ≡ false → after v t u ≡ t u
    after_out v t u e =
        with_result-out (r (result_var m)) v.result (with_numbers (map r (last_vars m)) v.refs t) u (same_turned (r (result_var m)) u (or_false_left (same u (r (result_var m))) (is_in u (map r (last_vars m))) e))
        ∙ with_numbers-out (map r (last_vars m)) v.refs t u (or_false_right (same u (r (result_var m))) (is_in u (map r (last_vars m))) e)

    result_reserved : is_in (result_var m) (reserved_vars m) ≡ true
    result_reserved = or_left (same (result_var m) (result_var m)) (is_in (result_var m) (last_vars m)) (same_itself (result_var m))

    last_reserved : (v : Var) → is_in v (last_vars m) ≡ true → is_in v (reserved_vars m) ≡ true
    last_reserved v e = or_right (same v (result_var m)) (is_in v (last_vars m)) e

    -- at the renamed variables it is the callee's last stack
    pub after_renamed : (v : Returned) (t : Stack) (y : Var) → IsKnown y → after v t (r y) ≡ stack_after m v (before r t) y
    after_renamed v t y known =
        with_result-renamed r (result_var m) v.result (with_numbers (map r (last_vars m)) v.refs t) (with_numbers (last_vars m) v.refs (before r t)) y
        (λ e. apart y (result_var m) known (reserved_of_pair (result_var m) result_reserved) e)
        (with_numbers-renamed r (last_vars m) v.refs t y (λ q i e. apart y q known (reserved_of_pair q (last_reserved q i)) e))

    pub refs_values : (v : Returned) (t : Stack) → length v.refs ≡ length m.refs → map (number_at (after v t)) (map r (last_vars m)) ≡ v.refs
    refs_values v t size =
        map_same r (after v t) (with_numbers (last_vars m) v.refs (before r t)) (last_vars m)
        (λ y i.
        let low = (in_from y (suc (suc m.params)) (length m.refs) i).1 in
        let other : same (result_var m) y ≡ false = same_false (result_var m) y (λ e. let is : suc m.params ≡ y.number = ap (λ (w : Var). w.number) e in absurd (omega arith)) in
        after_renamed v t y (inr (reserved_of_pair y (last_reserved y i))) ∙ with_result-out (result_var m) v.result (with_numbers (last_vars m) v.refs (before r t)) y other)
        ∙ numbers_values (suc (suc m.params)) (length m.refs) v.refs (before r t) size
