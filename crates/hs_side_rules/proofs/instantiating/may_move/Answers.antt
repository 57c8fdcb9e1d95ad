use Rattle.std.proofs.Common.{◌≡◌, ◌-◌, ◌<◌, [], length, sym, ◌∙◌, subst, arith}
use Rattle.hs_pure.specs.declared.pure.Pure.TheVariants as pure_of
use Rattle.hs_pure.specs.Sums.{IsOrdered}
use Rattle.hs_heap.specs.WellFormed.{IsProper}
use Rattle.hs_heap.proofs.Tells.{Tells, tells}
use Rattle.hs_rules.specs.Conditions.{CanInstantiate}
use Rattle.hs_rules.specs.Parts.{conjunct_at, right_pure}
use Rattle.hs_side_rules.specs.Solving.{is_equation, HasEquation}
use Rattle.hs_side_rules.proofs.Valued.{equation_told}
use Rattle.hs_side_rules.proofs.instantiating.may_move.Goals as goal

pub is_equation-requires : goal.is_equation-requires
is_equation-requires c =
    let ps = right_pure c.args.goal.now in
    let one = c.requires.place.0 in
    let within = c.requires.place.1 in
    let less : c.args.c - 1 < length ps = omega arith in
    let proper : IsProper (conjunct_at c.args.c ps) = c.requires.ordered (c.args.c - 1) (pure_of.And []) less in
    subst IsOrdered (sym c.requires.found) proper.ordered

pub returns : goal.returns
returns c =
    let g = c.args.goal.now in
    let p = conjunct_at c.args.c (right_pure g) in
    let result_is : c.is_equation.result ≡ is_equation g.opens p = c.is_equation.ensures ∙ (λ i. is_equation (c.as_slice.ensures i) (c.requires.found i)) in
    let told : Tells c.is_equation.result (HasEquation g.opens p) = subst (λ b. Tells b (HasEquation g.opens p)) (sym result_is) (equation_told g.opens p) in
    tells c.is_equation.result (HasEquation g.opens p) (CanInstantiate g c.args.c) told
    (λ h. record { left = c.requires.left; right = c.requires.right; place = c.requires.place; variable = h.0; equation = h.1 })
    (λ can. (can.variable, can.equation))
