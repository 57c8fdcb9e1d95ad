use Rattle.std.proofs.Common.{◌∙◌}
use Rattle.hs_cooper_forms.proofs.Changes.{ok_map}
use Rattle.hs_decide.proofs.Questions.{unsat_yes, unsat_no, unsat_atoms, unsat_wide, unsat_decided}
use Rattle.hs_decide.proofs.decide.unsat.Goals as goal

pub returns-clause-yes : goal.returns-clause-yes
returns-clause-yes c = ok_map c.examined.result (unsat_yes c.args.atoms c.args.a.now c.get.result.now (c.get.ensures ∙ c.in_ok-never.ensures)) c.examined.ensures

pub returns-clause-no : goal.returns-clause-no
returns-clause-no c = ok_map c.examined.result (unsat_no c.args.atoms c.args.a.now c.get.result.now (c.get.ensures ∙ c.in_ok-never.ensures)) c.examined.ensures

pub returns-clause-atoms : goal.returns-clause-atoms
returns-clause-atoms c = ok_map c.examined.result (unsat_atoms c.args.atoms c.args.a.now c.get.result.now (c.get.ensures ∙ c.in_ok-never.ensures)) c.examined.ensures

pub returns-clause-wide : goal.returns-clause-wide
returns-clause-wide c = ok_map c.examined.result (unsat_wide c.args.atoms c.args.a.now c.get.result.now (c.get.ensures ∙ c.in_ok-never.ensures)) c.examined.ensures

pub returns-clause-decided : goal.returns-clause-decided
returns-clause-decided c = ok_map c.examined.result (unsat_decided c.args.atoms c.args.a.now c.get.result.now (c.get.ensures ∙ c.in_ok-never.ensures)) c.examined.ensures
