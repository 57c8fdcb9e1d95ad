use Rattle.std.proofs.Common.{◌≡◌, List, length, slice_get, Some, refl, subst}
use Rattle.std.proofs.lemmas.Option.{slice_get_read}
use Rattle.hs_node.specs.declared.derivation.Node.{Node}
use Rattle.hs_judge.specs.Right.{IsJudged}
use Rattle.hs_judge.proofs.Ready.{sound_is, program_is}
use Rattle.hs_judge.proofs.Placing.{answer_at}
use Rattle.hs_judge.proofs.judge.ListingJudge.judge.Goals as goal

pub answer-requires-clause-sound : goal.answer-requires-clause-sound
answer-requires-clause-sound c = sound_is c.args.self.now.tables.defs.now c.args.self.now.sound

pub answer-requires-clause-program : goal.answer-requires-clause-program
answer-requires-clause-program c = program_is c.args.self.now.tables.defs.now c.args.self.now.tables.program.now c.args.self.now.sound_program

pub returns-in-Ok : goal.returns-in-Ok
returns-in-Ok c =
    let defs = c.args.self.now.tables.defs.now in
    let program = c.args.self.now.tables.program.now in
    let atoms = c.args.self.now.tables.atoms in
    let nodes : List Node = c.args.nodes.now in
    let n : Node = c.index-nodes-i.result in
    let there : slice_get nodes c.args.i ≡ Some n = slice_get_read nodes (length nodes) c.args.i n refl c.requires c.index-nodes-i.is in
    answer_at defs program c.args.self.now.claims.now atoms nodes c.args.i n there c.in-Ok.answer
    (subst (λ (before : List Node). IsJudged defs program before n.judgement n.rule n.premises atoms c.in-Ok.answer) c.split_at.ensures.front c.in-Ok.ensures)
