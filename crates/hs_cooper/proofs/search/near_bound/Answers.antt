use Rattle.std.proofs.Common.{rules, arith, sym, subst, ◌∙◌, ◌≡◌, ℕ, ◌-◌, None}
use mir.Syntax.{w128}
use mir.Val.{SFits}
use Rattle.std.proofs.lemmas.Int.{to_z-of_z}
use Rattle.hs_pure.specs.Eval.{stack_of}
use Rattle.hs_elimination.specs.Linear.{place}
use Rattle.hs_elimination.specs.Witness.{first_to, near_at}
use Rattle.hs_cooper_forms.specs.Reading.{form_of}
use Rattle.hs_cooper.proofs.Searches.{to_next, to_here}
use Rattle.hs_cooper.proofs.search.near_bound.Goals as goal

pub loop-j-preserved : goal.loop-j-preserved
loop-j-preserved c = to_next (near_at (stack_of c.args.v.now) (place c.args.x) (form_of c.args.f.now) c.args.b.now) c.loop-j.j c.loop-j.auto.j c.loop-j.invariant (sym c.in_default.is ∙ c.in_ok-y.ensures.first)

pub returns-in-Some-clause-first : goal.returns-in-Some-clause-first
returns-in-Some-clause-first c =
    let fits : SFits w128 c.in-Some.y = search rules in
    let test = c.loop-j-test.true in
    rw (to_z-of_z w128 c.in-Some.y fits)
    (to_here (near_at (stack_of c.args.v.now) (place c.args.x) (form_of c.args.f.now) c.args.b.now) c.loop-j.j c.args.period c.in-Some.y c.loop-j.auto.j (omega arith) c.loop-j.invariant (sym c.in-Some.is ∙ c.in_ok-y.ensures.first))

pub returns-clause-first : goal.returns-clause-first
returns-clause-first c =
    let test = c.loop-j-test.false in
    let last : c.loop-j.j - 1 ≡ c.args.period = omega arith in
    sym (subst (λ (n : ℕ). first_to (near_at (stack_of c.args.v.now) (place c.args.x) (form_of c.args.f.now) c.args.b.now) n ≡ None) last c.loop-j.invariant)

pub returns-in_err-y-clause-wide : goal.returns-in_err-y-clause-wide
returns-in_err-y-clause-wide c = λ h. let e = c.loop-j-test.true in (c.loop-j.j, (c.loop-j.auto.j, omega arith, c.in_err-y.ensures.wide (search rules)))
