-- The term of a light sum of variables that are there fits.
use Rattle.std.proofs.Common.{◌≡◌, ℕ, ◌+◌, ◌≤◌, ◌^◌, Bool, false, ◌&&◌, unsigned_abs, IsTrue, List, [], ◌∷◌, length, map, None, unwrap_or, if◌then◌else◌, refl, sym, ap, ◌∙◌, subst, arith}
use Rattle.std.specs.List.{All, AllByRecursion, fold, flat_map, list_all, sum_by}
use Rattle.std.specs.Str.{bytes_eq}
use Rattle.std.proofs.lemmas.Bool.{and_parts}
use Rattle.std.proofs.lemmas.List.Elements.{All-nil, All-cons}
use Rattle.std.proofs.lemmas.Slice.Eq.{bytes_eq-Decides}
use Rattle.hs_tree.specs.declared.ident.Ident.{Ident}
use Rattle.hs_tree.specs.declared.expr.PartTree.{PartTree}
use Rattle.hs_tree.specs.declared.expr.PartTree.TheVariants as part
use Rattle.hs_tree.specs.declared.expr.ExprTree.{ExprTree}
use Rattle.hs_tree.specs.declared.expr.ExprKind.{ExprKind}
use Rattle.hs_tree.specs.declared.expr.ExprKind.TheVariants as expr
use Rattle.hs_pure.specs.declared.lin.Lin.{Lin}
use Rattle.hs_pure.specs.Sums as pure_sums
use Rattle.hs_heap.specs.Tests.{rises_from, is_light, sum_fits}
use Rattle.hs_heap.proofs.Tells.{tells_all, tells_le}
use Rattle.hs_heap.proofs.Parts.{rises_told}
use Rattle.hs_core.specs.Sound.{IsUpTo, IsSlot, TermFits}
use Rattle.hs_core.specs.Tests.{is_slot}
use Rattle.hs_core.proofs.SimpleTells.{slot_told}
use Rattle.hs_norm_formula.specs.declared.sum.Term.{Term}
use Rattle.hs_norm_formula.specs.Sum.{added, allowed, weight, zero_sum}
use Rattle.hs_norm_formula.proofs.Light.{light_is_kept}
use Rattle.hs_norm_block.specs.Program.{part_weight}
use Rattle.hs_formula_fits.proofs.Sums.{OptionIn, added_fits}
use Rattle.hs_norm_sound.specs.Methods.{IsLightSum}
use Rattle.hs_norm_sound.specs.Uses.{Use, Name, part_uses, names_in, number_uses}
use Rattle.hs_lower_scope.specs.declared.variable.Variable.{Variable}
use Rattle.hs_lower_scope.specs.Scope.{Scope, slot_of}
use Rattle.hs_lower_scope.specs.Terms.{parts_of, slot_var, variable_term, part_term, term_of}
use Rattle.hs_lower_sound.specs.Lowerable.{IsThere}
use Rattle.hs_lower_sound.proofs.Passed.{split_all}
use Rattle.hs_lower_sound.proofs.Places.{number_there}

sum_told : (n : ℕ) (a : Lin) → IsTrue (sum_fits a (is_slot n)) → TermFits n a
sum_told n a h =
    let p = and_parts (rises_from 0 a.terms) (is_light a && list_all (λ t. is_slot n t.0) a.terms) h in
    let q = and_parts (is_light a) (list_all (λ t. is_slot n t.0) a.terms) p.1 in
    record {
      ordered = (rises_told 0 a.terms).0 p.0;
      light = (tells_le (pure_sums.weight a.terms + unsigned_abs a.constant) (2 ^ 126)).0 q.0;
      slots = (tells_all (λ t. is_slot n t.0) (λ t. IsSlot n t.0) (λ t. slot_told n t.0) a.terms).0 q.1;
    }

-- what is light is allowed
allowed_is : (ts : List Term) → weight ts ≤ 2 ^ 126 → allowed false ts ≡ added ts
allowed_is ts h = ap (λ b. if b then added ts else None) ((tells_le (weight ts) (2 ^ 126)).1 h)

module _ (scope : Scope) where
  size_is : (p : Bool × PartTree) → (part_term scope p).size ≡ part_weight p
  size_is p = of p.1
    where
      of : (t : PartTree) → (part_term scope (p.0, t)).size ≡ part_weight (p.0, t)
      of (part.Number m) = refl
      of (part.Times m x) = refl
      of (part.Name x) = refl
      of part.Null = refl

  weight_from : (ps : List (Bool × PartTree)) (a : ℕ) → fold (λ a (t : Term). a + t.size) a (map (part_term scope) ps) ≡ fold (λ a p. a + part_weight p) a ps
  weight_from [] a = refl
  weight_from (p ∷ ps) a = weight_from ps (a + (part_term scope p).size) ∙ ap (λ k. fold (λ a p. a + part_weight p) (a + k) ps) (size_is p)

  weight_is : (ps : List (Bool × PartTree)) → weight (map (part_term scope) ps) ≡ sum_by part_weight ps
  weight_is ps = weight_from ps 0

  module _ (n : ℕ) (enough : length scope.variables ≤ n) where
    abbrev F : Use → Type 0
    F = IsThere scope

    pub slot_fits : (x : Ident) → IsThere scope (Name x) → IsUpTo n (slot_of scope x.text)
    slot_fits x h =
        let at = number_there (λ (v : Variable). bytes_eq v.name x.text) scope.variables h.0 h.1 ((bytes_eq-Decides h.0.name x.text).1 h.2) in
        let low = at.0 in
        let high = at.1 in
        (low, omega arith)

    variable_fits : (x : Ident) → IsThere scope (Name x) → OptionIn (is_slot n) (variable_term scope x)
    variable_fits x h = (refl, (slot_told n (slot_var (slot_of scope x.text))).1 (refl, slot_fits x h))

    part_fits : (p : Bool × PartTree) → AllByRecursion F (part_uses p) → OptionIn (is_slot n) (part_term scope p).var
    part_fits p h = of p.1 h
      where
        of : (t : PartTree) → AllByRecursion F (part_uses (p.0, t)) → OptionIn (is_slot n) (part_term scope (p.0, t)).var
        of (part.Number m) h = tt
        of (part.Times m x) h = variable_fits x h.0
        of (part.Name x) h = variable_fits x h.0
        of part.Null h = tt

    parts_fit : (ps : List (Bool × PartTree)) → AllByRecursion F (flat_map part_uses ps) → All (λ (t : Term). OptionIn (is_slot n) t.var) (map (part_term scope) ps)
    parts_fit [] h = All-nil _
    parts_fit (p ∷ ps) h =
        let parts = split_all F (part_uses p) (flat_map part_uses ps) h in
        All-cons (λ (t : Term). OptionIn (is_slot n) t.var) (part_term scope p) (map (part_term scope) ps) (part_fits p parts.0) (parts_fit ps parts.1)

    pub sum_passes : (e : ExprTree) → AllByRecursion F (number_uses e) → IsTrue (sum_fits (term_of scope e) (is_slot n))
    sum_passes e h = of e.kind h.0 h.1
      where
        of : (k : ExprKind) → IsLightSum k → AllByRecursion F (names_in k) → IsTrue (sum_fits (unwrap_or (added (map (part_term scope) (parts_of k))) zero_sum) (is_slot n))
        of (expr.Sum parts) light names =
            let ts = map (part_term scope) parts in
            let w : weight ts ≤ 2 ^ 126 = subst (λ k. k ≤ 2 ^ 126) (sym (weight_is parts)) light in
            let kept = light_is_kept ts w in
            subst (λ o. IsTrue (sum_fits (unwrap_or o zero_sum) (is_slot n))) (sym kept.1) (added_fits (is_slot n) false ts kept.0 refl (allowed_is ts w ∙ kept.1) (parts_fit parts names))
        of k light names = absurd light

    pub term_fits : (e : ExprTree) → AllByRecursion F (number_uses e) → TermFits n (term_of scope e)
    term_fits e h = sum_told n (term_of scope e) (sum_passes e h)
