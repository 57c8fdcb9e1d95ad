use Rattle.std.proofs.Common.{rules, sym, ◌∙◌}
use mir.Syntax.{w128}
use mir.Val.{SFits}
use Rattle.std.proofs.lemmas.Int.{to_z-of_z}
use Rattle.hs_pure.specs.Eval.{stack_of}
use Rattle.hs_elimination.specs.Linear.{place}
use Rattle.hs_elimination.specs.Witness.{first_near_bound}
use Rattle.hs_cooper_forms.specs.Reading.{form_of}
use Rattle.hs_cooper.proofs.Searches.{among_next, among_here, among_end}
use Rattle.hs_cooper.proofs.search.near.Goals as goal

pub loop-b-preserved : goal.loop-b-preserved
loop-b-preserved c = among_next (first_near_bound (stack_of c.args.v.now) (place c.args.x) (form_of c.args.f.now) c.args.period) c.args.bounds.now _ c.loop-b.b-index c.b-item.result c.loop-b-test.true c.b-item.is (sym c.in_default.is ∙ c.in_ok-y.ensures.first) c.loop-b.invariant

pub returns-in-Some-clause-first : goal.returns-in-Some-clause-first
returns-in-Some-clause-first c =
    let fits : SFits w128 c.in-Some.y = search rules in
    rw (to_z-of_z w128 c.in-Some.y fits)
    (among_here (first_near_bound (stack_of c.args.v.now) (place c.args.x) (form_of c.args.f.now) c.args.period) c.args.bounds.now _ c.loop-b.b-index c.b-item.result c.in-Some.y c.loop-b-test.true c.b-item.is (sym c.in-Some.is ∙ c.in_ok-y.ensures.first) c.loop-b.invariant)

pub returns-clause-first : goal.returns-clause-first
returns-clause-first c = among_end (first_near_bound (stack_of c.args.v.now) (place c.args.x) (form_of c.args.f.now) c.args.period) c.args.bounds.now _ c.loop-b.b-index c.loop-b-test.false c.loop-b.invariant
