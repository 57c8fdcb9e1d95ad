use Rattle.std.proofs.Common.{rules, arith, ◌≡◌, ◌+◌, ◌++◌, ◌∷◌, [], length, length-append, refl, ap, subst, ◌∙◌}
use Rattle.std.proofs.lemmas.Result.{err_from_is_err_and}
use Rattle.hs_calculus.specs.Steps.{IsNext}
use Rattle.hs_calculus.specs.Steps.Leads.{Here}
use Rattle.hs_calculus.specs.declared.calculus.Stop.TheVariants.{Goals}
use Rattle.hs_calculus.proofs.Searches
use Rattle.hs_calculus.proofs.Trails
use Rattle.hs_calculus.proofs.forced.descend.Goals as goal

pub loop-left-init : goal.loop-left-init
loop-left-init g c =
    let n : length c.new-trail.result.items ≡ 0 = ap length c.new-trail.ensures.items in
    record { leads = Here c.new-trail.ensures.items refl; goal_is = c.requires; counted = omega (arith, n); cut = refl }

pub returns-in_default : goal.returns-in_default
returns-in_default g c =
    let none : c.loop-left.budget.left ≡ 0 = search rules in
    Trails.stops_along (g.C.Calculus.calculus c.args.c.now) (g.met.C.Calculus.falls c.args.c.now) (g.C.Calculus.is_goal c.args.c.now) (g.C.Calculus.is_spent c.args.c.now)
    c.args.place c.loop-left.trail.items c.loop-left.place c.args.budget.now.left c.loop-left.budget.left Goals c.loop-left.invariant.leads c.loop-left.invariant.counted
    (Searches.stops_at_none (g.C.Calculus.calculus c.args.c.now) (g.met.C.Calculus.falls c.args.c.now) c.loop-left.place c.loop-left.budget.left none)

pub returns-in_err-rule : goal.returns-in_err-rule
returns-in_err-rule g c =
    let p = err_from_is_err_and c.from_residual.result c.from_residual.ensures.1 in
    rw (p.1, p.2)
    (Trails.stops_along (g.C.Calculus.calculus c.args.c.now) (g.met.C.Calculus.falls c.args.c.now) (g.C.Calculus.is_goal c.args.c.now) (g.C.Calculus.is_spent c.args.c.now)
    c.args.place c.loop-left.trail.items c.loop-left.place c.args.budget.now.left c.loop-left.budget.left _ c.loop-left.invariant.leads c.loop-left.invariant.counted
    (Searches.stops_at_goal (g.C.Calculus.calculus c.args.c.now) (g.C.Calculus.is_spent c.args.c.now) (g.met.C.Calculus.falls c.args.c.now) c.loop-left.place c.loop-left.budget.left _ c.in_err-rule.ensures.err))

pub returns-in_err-push-in-Forced : goal.returns-in_err-push-in-Forced
returns-in_err-push-in-Forced g c =
    let p = err_from_is_err_and c.from_residual-in_err-push-in-Forced.result c.from_residual-in_err-push-in-Forced.ensures.1 in
    rw (p.1, p.2) tt

pub loop-left-preserved : goal.loop-left-preserved
loop-left-preserved g c =
    let longer : c.push.new.self.items ≡ c.loop-left.trail.items ++ (c.loop-left.place.goal, c.in-Forced.rule) ∷ [] = search rules in
    let one : c.loop-left.budget.left ≡ c.in-Some.left + 1 = search rules in
    let n : length c.push.new.self.items ≡ length c.loop-left.trail.items + 1 = ap length longer ∙ length-append c.loop-left.trail.items ((c.loop-left.place.goal, c.in-Forced.rule) ∷ []) in
    let next =
    subst (λ n. IsNext (g.C.Calculus.calculus c.args.c.now) (g.C.Calculus.is_goal c.args.c.now) (g.C.Calculus.is_stuck c.args.c.now) (g.C.Calculus.is_refuted c.args.c.now) c.loop-left.place n) c.in-Forced.is c.in_ok-rule.ensures.ok in
    record {
      leads = Trails.leads_push (g.C.Calculus.calculus c.args.c.now) (g.met.C.Calculus.falls c.args.c.now) (g.C.Calculus.is_goal c.args.c.now) c.args.place c.loop-left.trail.items c.push.new.self.items c.loop-left.place c.in-Forced.rule c.in-Forced.to
          c.loop-left.invariant.leads next.0 longer;
      goal_is = next.1;
      counted = omega (arith, c.loop-left.invariant.counted, n, one);
      cut = c.loop-left.invariant.cut;
    }

pub returns-in-Fork : goal.returns-in-Fork
returns-in-Fork g c =
    let one : c.loop-left.budget.left ≡ c.in-Some.left + 1 = search rules in
    record {
      leads = c.loop-left.invariant.leads;
      goal_is = c.loop-left.invariant.goal_is;
      counted = omega (arith, c.loop-left.invariant.counted, one);
      cut = c.loop-left.invariant.cut;
      fork_is =
          subst (λ n. IsNext (g.C.Calculus.calculus c.args.c.now) (g.C.Calculus.is_goal c.args.c.now) (g.C.Calculus.is_stuck c.args.c.now) (g.C.Calculus.is_refuted c.args.c.now) c.loop-left.place n) c.in-Fork.is c.in_ok-rule.ensures.ok;
    }
