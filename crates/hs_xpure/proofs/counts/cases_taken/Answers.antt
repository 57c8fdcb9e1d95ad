use Rattle.std.proofs.Common.{ap, ◌∙◌}
use Rattle.std.proofs.lemmas.List.{take_all}
use Rattle.hs_xpure.specs.Counts.{capped, listed, cases_taken}
use Rattle.hs_xpure.proofs.Capped.{cases_step}
use Rattle.hs_xpure.proofs.counts.cases_taken.Goals as goal

pub loop-case-preserved : goal.loop-case-preserved
loop-case-preserved c = cases_step (listed c.args.counts.now) c.args.cases.now c.loop-case.case-index c.case-item.result c.as_slice.result.now c.loop-case.total c.atoms_taken.result c.sum-total.result c.loop-case-test.true c.case-item.is c.as_slice.ensures c.loop-case.invariant c.atoms_taken.ensures c.sum-total.ensures

pub returns : goal.returns
returns c = c.loop-case.invariant ∙ ap (λ xs. capped (cases_taken (listed c.args.counts.now) xs)) (take_all c.loop-case.case-index c.args.cases.now c.loop-case-test.false)
