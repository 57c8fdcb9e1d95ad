use Rattle.hs_prule.proofs.Going.{one_opened, err_answer}
use Rattle.hs_prule.proofs.premises.opened_states.Goals as goal

pub loop-d-preserved : goal.loop-d-preserved
loop-d-preserved c =
    let m = one_opened c.args.at.now c.args.cases.now c.loop-d.d-index c.d-item.result c.in-Ok.state c.loop-d.states c.add.new.all c.loop-d-test.true c.d-item.is c.in-Ok.ensures c.loop-d.invariant.states c.loop-d.invariant.low c.in_ok-add-in-Ok.ensures in
    record { states = m.states; low = m.low }

pub returns-in-Err : goal.returns-in-Err
returns-in-Err c = err_answer c.args.at.now c.args.cases.now c.loop-d.d-index c.d-item.result c.in-Err.error c.loop-d-test.true c.d-item.is c.in-Err.ensures
