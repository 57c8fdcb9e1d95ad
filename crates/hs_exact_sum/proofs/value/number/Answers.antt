use Rattle.std.proofs.Common.{◌≡◌, ◌+◌, ℤ, pos, false, true, if◌then◌else◌, drop, get_or, rules, sym, ◌∙◌}
use mir.Syntax.{w128}
use mir.Val.{SFits}
use Rattle.std.proofs.lemmas.Int.{to_z-of_z}
use Rattle.std.proofs.lemmas.List.{at_drop_more, at_drop_all}
use Rattle.hs_pure.specs.declared.var.Var.{Var}
use Rattle.hs_pure.specs.Eval.{found}
use Rattle.hs_pure.specs.Stack.{same}
use Rattle.hs_exact_sum.proofs.value.number.Goals as goal

abbrev none : Var × ℤ
none = (record { number = 0; bag = false }, pos 0)

pub loop-pair-preserved : goal.loop-pair-preserved
loop-pair-preserved c =
    let ps = c.as_slice-pair-items.result.now in
    let m = get_or ps c.loop-pair.pair-index none in
    let isnt : same (get_or c.as_slice-pair-items.result.now c.loop-pair.pair-index none).0 c.args.u ≡ false = sym c.eq.ensures ∙ c.if-eq.false in
    c.loop-pair.invariant ∙ at_drop_more (λ ms. found ms c.args.u) ps c.loop-pair.pair-index none c.loop-pair-test.true
    ∙ (λ j. if isnt j then m.1 else found (drop (c.loop-pair.pair-index + 1) ps) c.args.u)

pub returns-then-eq : goal.returns-then-eq
returns-then-eq c =
    let ps = c.as_slice-pair-items.result.now in
    let m = get_or ps c.loop-pair.pair-index none in
    let fits : SFits w128 (get_or c.as_slice-pair-items.result.now c.loop-pair.pair-index none).1 = search rules in
    let is : same (get_or c.as_slice-pair-items.result.now c.loop-pair.pair-index none).0 c.args.u ≡ true = sym c.eq.ensures ∙ c.if-eq.true in
    to_z-of_z w128 m.1 fits
    ∙ sym (c.loop-pair.invariant ∙ at_drop_more (λ ms. found ms c.args.u) ps c.loop-pair.pair-index none c.loop-pair-test.true
    ∙ (λ j. if is j then m.1 else found (drop (c.loop-pair.pair-index + 1) ps) c.args.u))

pub returns : goal.returns
returns c = sym (c.loop-pair.invariant ∙ at_drop_all (λ ms. found ms c.args.u) c.as_slice-pair-items.result.now c.loop-pair.pair-index c.loop-pair-test.false)
