use Rattle.std.proofs.Common.{◌≡◌, ℤ, pos, false, true, drop, get_or, rules, sym, ap, subst, ◌∙◌}
use mir.Syntax.{w128}
use mir.Val.{SFits}
use Rattle.std.proofs.lemmas.Int.{to_z-of_z}
use Rattle.hs_pure.specs.declared.var.Var.{Var}
use Rattle.hs_pure.specs.Stack.{same}
use Rattle.hs_pure.specs.Sums.{RisesFrom}
use Rattle.hs_rules.specs.Conditions.{coefficient_in}
use Rattle.hs_side_rules.proofs.Coefficients.{at_term}
use Rattle.hs_side_rules.proofs.equations.coefficient.Goals as goal

abbrev none : Var × ℤ
none = (record { number = 0; bag = false }, pos 0)

pub returns-then-eq : goal.returns-then-eq
returns-then-eq c =
    let ts = c.as_slice-t-items.result.now in
    let m = get_or ts c.loop-t.t-index none in
    let fits : SFits w128 (get_or c.as_slice-t-items.result.now c.loop-t.t-index none).1 = search rules in
    let is : same (get_or c.as_slice-t-items.result.now c.loop-t.t-index none).0 c.args.v ≡ true = sym c.eq.ensures ∙ c.if-eq.true in
    let ordered : RisesFrom 0 c.as_slice-t-items.result.now = subst (RisesFrom 0) (sym c.as_slice-t-items.ensures) c.requires in
    let from_here : coefficient_in c.args.v c.args.a.now.terms ≡ coefficient_in c.args.v (drop c.loop-t.t-index c.as_slice-t-items.result.now) =
    c.loop-t.invariant ∙ ap (λ us. coefficient_in c.args.v (drop c.loop-t.t-index us)) (sym c.as_slice-t-items.ensures) in
    to_z-of_z w128 m.1 fits ∙ sym (from_here ∙ at_term 0 c.args.v ts c.loop-t.t-index none ordered c.loop-t-test.true is)
