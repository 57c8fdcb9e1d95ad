use Rattle.std.proofs.Common.{ℤ, pos, get_or, rules, subst, IsTrue, ◌↔◌}
use Rattle.std.specs.List.{All}
use mir.Syntax.{w128}
use mir.Val.{SFits}
use Rattle.std.proofs.lemmas.Int.{to_z-of_z}
use Rattle.hs_pure.specs.Assertion.{bag_term_of}
use Rattle.hs_pure.specs.Values.{stack_at, PairFits, IsAtMost}
use Rattle.hs_pure.proofs.Loops.{all_more, tells_all_more, whole}
use Rattle.hs_pure.proofs.eval.all_within.Goals as goal

abbrev none : ℤ × ℤ
none = (pos 0, pos 0)

pub loop-element-preserved : goal.loop-element-preserved
loop-element-preserved c =
    let es = c.args.elements.now in
    let i = c.loop-element.element-index in
    let F = λ (z : ℤ). PairFits (stack_at c.args.values.now) (bag_term_of c.args.a.now) (bag_term_of c.args.b.now) z in
    let T = λ (z : ℤ). IsAtMost (stack_at c.args.values.now) (bag_term_of c.args.a.now) (bag_term_of c.args.b.now) z in
    let fits : SFits w128 (get_or c.args.elements.now c.loop-element.element-index none).0 = search rules in
    let this = subst (λ z. F z × (IsTrue c.in_ok-all.field-0 ↔ T z)) (to_z-of_z w128 (get_or es i none).0 fits) c.in_ok-all.ensures in
    record {
      fits = all_more (λ p. F p.0) es i none c.loop-element-test.true c.loop-element.invariant.fits this.0;
      tells = tells_all_more (λ p. T p.0) es i none c.loop-element.all c.in_ok-all.field-0 c.loop-element-test.true c.loop-element.invariant.tells this.1;
    }

pub returns : goal.returns
returns c =
    let es = c.args.elements.now in
    let F = λ (p : ℤ × ℤ). PairFits (stack_at c.args.values.now) (bag_term_of c.args.a.now) (bag_term_of c.args.b.now) p.0 in
    let T = λ (p : ℤ × ℤ). IsAtMost (stack_at c.args.values.now) (bag_term_of c.args.a.now) (bag_term_of c.args.b.now) p.0 in (
      whole F (All F) es c.loop-element.element-index c.loop-element-test.false c.loop-element.invariant.fits,
      whole T (λ ys. IsTrue c.loop-element.all ↔ All T ys) es c.loop-element.element-index c.loop-element-test.false c.loop-element.invariant.tells,
    )
