-- What the test of a pair tells.
use Rattle.std.proofs.Common.{◌≡◌, ℕ, ◌+◌, ◌^◌, ◌<◌, ◌≤◌, Bool, true, false, not, ◌&&◌, nat_lt, nat_le, IsTrue, List, [], ◌++◌, length, Option, Some, None, refl, sym, ap, ◌∙◌, subst, arith}
use Rattle.std.specs.List.{All, list_all}
use Rattle.std.proofs.lemmas.Bool.{and_parts, and_from}
use Rattle.std.proofs.lemmas.List.Elements.{All-nil, All-cons, All-head, All-append}
use Rattle.hs_pure.specs.declared.var.Var.{Var}
use Rattle.hs_pure.specs.declared.lin.Lin.{Lin}
use Rattle.hs_pure.specs.Occurs.{in_lin}
use Rattle.hs_pure.specs.Sums.{LinIsLight, LinIsOrdered}
use Rattle.hs_pure.proofs.Lists.{All-left, All-right}
use Rattle.hs_heap.specs.declared.formula.Formula.{Formula}
use Rattle.hs_heap.specs.declared.definitions.Defs.{Defs}
use Rattle.hs_heap.specs.Meaning.{is_in}
use Rattle.hs_heap.specs.Sound.{IsNumbered, AreAmong, AreDistinct, DisjunctFits, FormulaFits}
use Rattle.hs_heap.specs.Tests.{number_fits, sum_fits, are_distinct, disjunct_fits}
use Rattle.hs_heap.proofs.Tells.{Tells, tells, tells_both, tells_all, tells_not, tells_le, tells_lt}
use Rattle.hs_heap.proofs.Parts.{PartsFit, sum_part, sum_told}
use Rattle.hs_heap.proofs.Lists.{listed_forth, listed_back, distinct_told}
use Rattle.hs_heap.proofs.Soundness.{disjunct_told}
use Rattle.hs_core.specs.declared.program.Pair.{Pair}
use Rattle.hs_core.specs.declared.program.Method.{Method}
use Rattle.hs_core.specs.Sound.{vars_from, param_vars, reserved_vars, VariantFits, PairFits}
use Rattle.hs_core.specs.Tests.{is_slot, is_given, last_reserved, are_new, head_fits, formula_fits, variant_fits, parts_fit, pair_fits}
use Rattle.hs_core.proofs.GivenVars.{in_from, from_in, in_first, in_given, first_vars, vars_distinct, apart_forth, apart_back}

abbrev listed : List Var → Var → Bool
listed vs v = is_in v vs

number_told : (next : ℕ) (v : Var) → Tells (number_fits next v) (IsNumbered next v)
number_told next v = tells_both (nat_le 1 v.number) (nat_lt v.number next) (1 ≤ v.number) (v.number < next) (tells_le 1 v.number) (tells_lt v.number next)

-- ---- the numbers that are given

module _ (last next : ℕ) (logic : List Var) where
  abbrev New : Var → Type 0
  New v = IsNumbered next v × (is_slot last v ≡ false)

  new_told : Tells (are_new next last logic) (All New logic)
  new_told = tells_all (λ v. number_fits next v && not (is_slot last v)) New (λ v. tells_both (number_fits next v) (not (is_slot last v)) (IsNumbered next v) (is_slot last v ≡ false) (number_told next v) (tells_not (is_slot last v))) logic

  abbrev firsts : List Var
  firsts = vars_from 1 last

  firsts_numbered : last < next → All (IsNumbered next) firsts
  firsts_numbered less = listed_back (IsNumbered next) firsts (λ v k. let there = in_from v 1 last k in let low = there.1 in let high = there.2 in (low, omega arith))

  last_numbered : 1 ≤ last → All (IsNumbered next) firsts → last < next
  last_numbered some h =
      let high : last < 1 + last = omega arith in
      (listed_forth (IsNumbered next) firsts h (record { number = last; bag = false }) (from_in (record { number = last; bag = false }) 1 last refl some high)).1

  pub numbers_told : 1 ≤ last → Tells (nat_lt last next && (are_distinct logic && are_new next last logic)) (AreDistinct (firsts ++ logic) × All (IsNumbered next) (firsts ++ logic))
  numbers_told some = tells (nat_lt last next && (are_distinct logic && are_new next last logic)) ((last < next) × (AreDistinct logic × All New logic)) (AreDistinct (firsts ++ logic) × All (IsNumbered next) (firsts ++ logic))
      (tells_both (nat_lt last next) (are_distinct logic && are_new next last logic) (last < next) (AreDistinct logic × All New logic) (tells_lt last next)
      (tells_both (are_distinct logic) (are_new next last logic) (AreDistinct logic) (All New logic) (distinct_told logic) new_told))
      (λ h. (
        apart_back firsts logic (vars_distinct 1 last) h.1.0 (λ v k. in_first last v ∙ (listed_forth New logic h.1.1 v k).1),
        All-append (IsNumbered next) firsts logic (firsts_numbered h.0) (λ i d less. (h.1.1 i d less).0),
      ))
      (λ h.
      let apart = apart_forth firsts logic h.0 in
      let numbers = All-right (IsNumbered next) firsts logic h.1 in (
        last_numbered some (All-left (IsNumbered next) firsts logic h.1),
        (apart.0, listed_back New logic (λ v k. (listed_forth (IsNumbered next) logic numbers v k, sym (in_first last v) ∙ apart.1 v k))),
      ))

-- ---- formulas and variants

formula_told : (defs : Defs) (free : List Var) (next : ℕ) → ((v : Var) → IsTrue (is_in v free) → IsNumbered next v) → (f : Formula) →
    Tells (formula_fits defs (listed free) next f) ((1 ≤ length f.cases) × FormulaFits defs free next f)
formula_told defs free next numbered f = tells_both (nat_le 1 (length f.cases)) (list_all (disjunct_fits defs (listed free) next) f.cases) (1 ≤ length f.cases) (FormulaFits defs free next f)
    (tells_le 1 (length f.cases)) (tells_all (disjunct_fits defs (listed free) next) (DisjunctFits defs free next) (λ d. disjunct_told defs free next numbered d) f.cases)

variant_told : (free : List Var) (v : Option Lin) → Tells (variant_fits v (listed free)) (VariantFits free v)
variant_told free None = (λ h. tt, λ h. refl)
variant_told free (Some a) = tells (sum_fits a (listed free)) (PartsFit (listed free) 0 (listed free) (sum_part a)) (LinIsLight a × LinIsOrdered a × AreAmong (λ v. in_lin v a) free) (sum_told (listed free) 0 a (listed free))
    (λ h. (All-head LinIsLight a [] h.light, All-head LinIsOrdered a [] h.ordered, h.among))
    (λ h. record {
      ordered = All-cons LinIsOrdered a [] h.1 (All-nil LinIsOrdered);
      light = All-cons LinIsLight a [] h.0 (All-nil LinIsLight);
      bags = All-nil _;
      members = All-nil _;
      binders = λ u b. let e : false ≡ true = b in absurd cc;
      among = h.2;
    })

-- ---- pairs

module _ (defs : Defs) (m : Method) (p : Pair) where
  abbrev before : List Var
  before = param_vars m ++ p.logic

  abbrev after : List Var
  after = param_vars m ++ reserved_vars m ++ p.logic

  before_is : is_given m.params p.logic ≡ listed before
  before_is = λ i v. sym (in_given m.params p.logic v) i

  after_is : is_given (last_reserved m) p.logic ≡ listed after
  after_is = (λ i v. sym (in_given (last_reserved m) p.logic v) i) ∙ ap (λ vs. listed (vs ++ p.logic)) (sym (first_vars m))

  pub head_told : Tells (head_fits (last_reserved m) p) ((p.next ≤ 2 ^ 16) × (AreDistinct after × All (IsNumbered p.next) after))
  head_told = tells_both (nat_le p.next (2 ^ 16)) (nat_lt (last_reserved m) p.next && (are_distinct p.logic && are_new p.next (last_reserved m) p.logic)) (p.next ≤ 2 ^ 16) (AreDistinct after × All (IsNumbered p.next) after)
      (tells_le p.next (2 ^ 16))
      (subst (λ vs. Tells (nat_lt (last_reserved m) p.next && (are_distinct p.logic && are_new p.next (last_reserved m) p.logic)) (AreDistinct (vs ++ p.logic) × All (IsNumbered p.next) (vs ++ p.logic))) (sym (first_vars m))
      (numbers_told (last_reserved m) p.next p.logic (omega arith)))

  module _ (numbers : All (IsNumbered p.next) after) where
    abbrev numbers_before : All (IsNumbered p.next) before
    numbers_before = All-append (IsNumbered p.next) (param_vars m) p.logic
        (All-left (IsNumbered p.next) (param_vars m) (reserved_vars m) (All-left (IsNumbered p.next) (param_vars m ++ reserved_vars m) p.logic numbers))
        (All-right (IsNumbered p.next) (param_vars m ++ reserved_vars m) p.logic numbers)

    abbrev Fits : List Var → Formula → Type 0
    Fits free f = (1 ≤ length f.cases) × FormulaFits defs free p.next f

    abbrev Rest : Type 0
    Rest = Fits before p.pre × (Fits after p.pre × (Fits after p.post × VariantFits before p.variant))

    rest_listed : Tells (parts_fit defs p (listed before) (listed after)) Rest
    rest_listed =
        let here = formula_told defs before p.next (listed_forth (IsNumbered p.next) before numbers_before) in
        let there = formula_told defs after p.next (listed_forth (IsNumbered p.next) after numbers) in
        tells_both (formula_fits defs (listed before) p.next p.pre) (formula_fits defs (listed after) p.next p.pre && (formula_fits defs (listed after) p.next p.post && variant_fits p.variant (listed before)))
        (Fits before p.pre) (Fits after p.pre × (Fits after p.post × VariantFits before p.variant)) (here p.pre)
        (tells_both (formula_fits defs (listed after) p.next p.pre) (formula_fits defs (listed after) p.next p.post && variant_fits p.variant (listed before)) (Fits after p.pre) (Fits after p.post × VariantFits before p.variant) (there p.pre)
        (tells_both (formula_fits defs (listed after) p.next p.post) (variant_fits p.variant (listed before)) (Fits after p.post) (VariantFits before p.variant) (there p.post) (variant_told before p.variant)))

    rest_told : Tells (parts_fit defs p (is_given m.params p.logic) (is_given (last_reserved m) p.logic)) Rest
    rest_told = subst (λ (s : Var → Bool). Tells (parts_fit defs p s (is_given (last_reserved m) p.logic)) Rest) (sym before_is)
        (subst (λ (s : Var → Bool). Tells (parts_fit defs p (listed before) s) Rest) (sym after_is) rest_listed)

  pub pair_told : Tells (pair_fits defs m p) (PairFits defs m p)
  pair_told = (
    λ h.
        let parts = and_parts (head_fits (last_reserved m) p) (parts_fit defs p (is_given m.params p.logic) (is_given (last_reserved m) p.logic)) h in
        let head = head_told.0 parts.0 in
        let rest = (rest_told head.1.1).0 parts.1 in
        record {
          bounded = head.0;
          distinct = head.1.0;
          numbers = head.1.1;
          pre_there = rest.0.0;
          post_there = rest.1.1.0.0;
          pre = rest.0.1;
          pre_apart = rest.1.0.1;
          post = rest.1.1.0.1;
          variant = rest.1.1.1;
        },
    λ f. and_from (head_fits (last_reserved m) p) (parts_fit defs p (is_given m.params p.logic) (is_given (last_reserved m) p.logic))
        (head_told.1 (f.bounded, (f.distinct, f.numbers)))
        ((rest_told f.numbers).1 ((f.pre_there, f.pre), ((f.pre_there, f.pre_apart), ((f.post_there, f.post), f.variant)))),
  )
