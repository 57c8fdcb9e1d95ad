use Rattle.std.proofs.Common.{List, subst}
use Rattle.hs_heap.specs.declared.formula.Disjunct.{Disjunct}
use Rattle.hs_heap.proofs.Booleans.{clash}
use Rattle.hs_program_rules.specs.Table.{AreLow}
use Rattle.hs_sides.specs.Answers.{IsGiven}
use Rattle.hs_prule.specs.After.{all_opened}
use Rattle.hs_prule.proofs.Going.{or_next, instr_next, asks_applies}
use Rattle.hs_prule.proofs.premises.premises.Goals as goal

pub returns-then-is_or : goal.returns-then-is_or
returns-then-is_or c =
    or_next c.args.defs.now c.args.program.now c.args.at.now c.args.residue.now c.args.rule.now c.opened_states.result (c.is_or.ensures.0 c.if-is_or.true) c.in_ok-goal.ensures.exact.0
    (subst (λ (ds : List Disjunct). IsGiven (AreLow (all_opened c.args.at.now ds)) (all_opened c.args.at.now ds) c.opened_states.result) c.as_slice.ensures c.opened_states.ensures)

pub returns : goal.returns
returns c =
    let asks = c.in_ok-goal.ensures.exact.0 in
    let applied = asks_applies c.args.defs.now c.args.program.now c.args.at.now c.args.residue.now c.args.rule.now c.instruction.result.now (λ e. clash (c.is_or.ensures.1 e) c.if-is_or.false) c.instruction.ensures asks in
    instr_next c.args.defs.now c.args.program.now c.args.at.now c.args.residue.now c.args.rule.now c.instruction.result.now c.premises_for.result applied asks c.premises_for.ensures
