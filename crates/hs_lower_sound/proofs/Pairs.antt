-- A pair of a source fits its method.
use Rattle.std.proofs.Common.{◌≡◌, ℕ, zero, suc, ◌+◌, ◌<◌, ◌≤◌, Bool, false, IsTrue, inl, inr, List, [], ◌∷◌, ◌++◌, length, Option, Some, None, refl, sym, ap, ◌∙◌, subst, arith, append_assoc}
use Rattle.std.specs.List.{All}
use Rattle.std.proofs.lemmas.Bool.{or_cases}
use Rattle.std.proofs.lemmas.List.Elements.{All-nil, All-cons, All-head, All-tail, All-append, All-weaker}
use Rattle.hs_pure.specs.declared.var.Var.{Var}
use Rattle.hs_pure.specs.declared.lin.Lin.{Lin}
use Rattle.hs_pure.specs.Stack.{same}
use Rattle.hs_heap.specs.Meaning.{is_in}
use Rattle.hs_heap.specs.Sound.{IsNumbered, AreDistinct, FormulaFits}
use Rattle.hs_heap.proofs.Stacks.{same_true}
use Rattle.hs_heap.proofs.Booleans.{bool_cases}
use Rattle.hs_core.specs.Sound as core
use Rattle.hs_core.proofs.GivenVars.{in_from, vars_distinct, apart_back}
use Rattle.hs_norm.specs.declared.resolved.MethodTree.{MethodTree}
use Rattle.hs_norm.specs.declared.resolved.Resolved.{Resolved}
use Rattle.hs_norm_item.specs.declared.forms.PairTree.{PairTree}
use Rattle.hs_norm_sound.specs.Claims.{numbers_from, res_var, VariantFits, PairIsNormal, HasDisjunct}
use Rattle.hs_lower.specs.Lowering.{pair_of, method_of}

-- the first variables, by either name
numbers_are : (from count : ℕ) → numbers_from from count ≡ core.vars_from from count
numbers_are from zero = refl
numbers_are from (suc count) = ap (λ vs. record { number = from; bag = false } ∷ vs) (numbers_are (suc from) count)

vars_numbered : (next from count : ℕ) → 1 ≤ from → from + count ≤ next → All (IsNumbered next) (core.vars_from from count)
vars_numbered next from zero low high = All-nil (IsNumbered next)
vars_numbered next from (suc count) low high = All-cons (IsNumbered next) (record { number = from; bag = false }) (core.vars_from (suc from) count) (low, omega arith) (vars_numbered next (suc from) count (omega arith) (omega arith))

-- what holds of all that are listed
of_member : (P : Var → Type 0) (vs : List Var) (v : Var) → All P vs → IsTrue (is_in v vs) → P v
of_member P [] v h e = absurd cc
of_member P (w ∷ vs) v h e = elim (or_cases (same v w) (is_in v vs) e) [
  | inl k ↦ subst P (sym (same_true v w k)) (All-head P w vs h)
  | inr k ↦ of_member P vs v (All-tail P w vs h) k
]

is_not : (b : Bool) → (IsTrue b → ⊥) → b ≡ false
is_not b never = elim (bool_cases b) [ inl e ↦ absurd (never e) | inr e ↦ e ]

variant_fits : (free : List Var) (o : Option Lin) → VariantFits free o → core.VariantFits free o
variant_fits free None h = tt
variant_fits free (Some a) h = h

module _ (r : Resolved) (m : MethodTree) (p : PairTree) where
  abbrev k : ℕ
  k = length m.params

  abbrev rest : List Var
  rest = res_var k ∷ p.logic

  abbrev Above : Var → Type 0
  Above v = (suc k < v.number) × (v.number < p.next)

  distinct : PairIsNormal r.defs k p → AreDistinct (core.vars_from 1 k ++ rest)
  distinct n = apart_back (core.vars_from 1 k) rest (vars_distinct 1 k) (is_not (is_in (res_var k) p.logic) no_result, n.distinct) apart
    where
      no_result : IsTrue (is_in (res_var k) p.logic) → ⊥
      no_result e = let above = (of_member Above p.logic (res_var k) n.numbered e).0 in omega arith

      later : (v : Var) → IsTrue (is_in v rest) → k < v.number
      later v e = of_member (λ v. k < v.number) rest v (All-cons (λ (v : Var). k < v.number) (res_var k) p.logic (omega arith)
          (All-weaker Above (λ (v : Var). k < v.number) (λ v a. let above = a.0 in omega arith) p.logic n.numbered)) e

      apart : (v : Var) → IsTrue (is_in v rest) → is_in v (core.vars_from 1 k) ≡ false
      apart v e = is_not (is_in v (core.vars_from 1 k)) (λ i. let low = later v e in let high = (in_from v 1 k i).2 in omega arith)

  numbered : PairIsNormal r.defs k p → All (IsNumbered p.next) (core.vars_from 1 k ++ rest)
  numbered n =
      let top = n.result in
      All-append (IsNumbered p.next) (core.vars_from 1 k) rest (vars_numbered p.next 1 k (omega arith) (omega arith))
      (All-cons (IsNumbered p.next) (res_var k) p.logic (omega arith, top) (All-weaker Above (IsNumbered p.next) (λ v a. let above = a.0 in (omega arith, a.1)) p.logic n.numbered))

  -- the variables of a pair, as its method has them
  listed : core.vars_from 1 k ++ rest ≡ core.param_vars (method_of r m) ++ core.reserved_vars (method_of r m) ++ p.logic
  listed = sym (append_assoc (core.vars_from 1 k) (res_var k ∷ []) p.logic)

  pub pair_fits : PairIsNormal r.defs k p → HasDisjunct p.pair_pre × HasDisjunct p.pair_post → core.PairFits r.defs (method_of r m) (pair_of p)
  pair_fits n there =
      let few = n.bounded in
      record {
        bounded = omega arith;
        distinct = subst AreDistinct listed (distinct n);
        numbers = subst (All (IsNumbered p.next)) listed (numbered n);
        pre_there = there.0;
        post_there = there.1;
        pre = subst (λ vs. FormulaFits r.defs (vs ++ p.logic) p.next p.pair_pre) (numbers_are 1 k) n.pre;
        pre_apart = subst (λ vs. FormulaFits r.defs vs p.next p.pair_pre) (ap (λ vs. vs ++ rest) (numbers_are 1 k) ∙ listed) n.pre_apart;
        post = subst (λ vs. FormulaFits r.defs vs p.next p.pair_post) (ap (λ vs. vs ++ rest) (numbers_are 1 k) ∙ listed) n.post;
        variant = variant_fits (core.vars_from 1 k ++ p.logic) p.variant (subst (λ vs. VariantFits (vs ++ p.logic) p.variant) (numbers_are 1 k) n.variant);
      }
