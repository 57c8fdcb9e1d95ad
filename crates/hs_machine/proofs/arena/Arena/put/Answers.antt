use Rattle.hs_machine.proofs.Arenas.{put_or_not}
use Rattle.hs_machine.proofs.arena.Arena.put.Goals as goal

pub invariant_of-self-2 : goal.invariant_of-self-2
invariant_of-self-2 c = put_or_not c.put.result c.self.inside.heap c.put.new.self c.self.inside.low _ c.args.node c.put.ensures.ok c.put.ensures.err c.self.invariant
