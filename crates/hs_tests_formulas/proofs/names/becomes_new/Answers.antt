use Rattle.hs_tests_formulas.proofs.Apart.{new_listed}
use Rattle.hs_tests_formulas.proofs.names.becomes_new.Goals as goal

pub returns-in-Some-default-empty : goal.returns-in-Some-default-empty
returns-in-Some-default-empty c = λ t.
    let w = c.in-Some-default-empty in
    new_listed c.args.p.now c.args.map.now w.pair.now w.field-0-1.now c.top.result w.ensures.cases.0 w.len_below c.top.ensures.value t
