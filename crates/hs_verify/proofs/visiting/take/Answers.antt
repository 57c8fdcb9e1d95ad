use Rattle.std.proofs.Common.{◌≡◌, refl, Option}
use Rattle.std.specs.Option.{option_copied}
use Rattle.hs_heap.specs.declared.formula.Formula.{Formula}
use Rattle.hs_verify.specs.Asked.{residue_by}
use Rattle.hs_verify.proofs.Taking.{goes, next_goes, next_crowded}
use Rattle.hs_verify.proofs.visiting.take.Goals as goal

pub returns-in-Ok : goal.returns-in-Ok
returns-in-Ok c =
    let defs = c.args.defs.now in
    let limits = c.args.limits.now in
    let program = c.args.program.now in
    let at = c.args.at.now in
    let f : Option Formula = option_copied c.as_ref.result in
    let e : f ≡ residue_by c.args.proof = cc (c.as_ref.ensures.value, c.in_ok-residue.ensures) in
    let on = next_goes defs limits program at c.args.rule c.args.proof c.requires.taken f e c.in-Ok.premises c.in-Ok.ensures.exact in
    goes defs limits program at c.args.rule c.args.proof c.requires.taken
    (record {
      fit = c.premises_fit.ensures;
      prepared = c.premises_are_prepared.ensures;
      formed = c.proofs_are_formed.ensures;
      fresh = c.proofs_are_fresh.ensures;
      nodes = c.proofs_are_right_nodes.ensures;
    })
    c.requires.sound c.requires.program c.requires.fit c.args.nodes.now c.push_goal.new.nodes c.requires.right c.in-Ok.premises
    (record { rule = c.args.rule; goal = c.in_ok-goal-in-Ok.goal; further = c.len-further.result })
    on.0 on.1 c.in_ok-goal-in-Ok.ensures.nodes refl c.in_ok-goal-in-Ok.ensures.last c.len-further.ensures

pub returns-in-Err-NotApplicable : goal.returns-in-Err-NotApplicable
returns-in-Err-NotApplicable c =
    let f : Option Formula = option_copied c.as_ref.result in
    let e : f ≡ residue_by c.args.proof = cc (c.as_ref.ensures.value, c.in_ok-residue.ensures) in
    next_crowded c.args.defs.now c.args.limits.now c.args.program.now c.args.at.now c.args.rule c.args.proof c.requires.taken f e
    (rw c.in-Err-NotApplicable.field-0-is at c.in-Err-NotApplicable.ensures.exact)
