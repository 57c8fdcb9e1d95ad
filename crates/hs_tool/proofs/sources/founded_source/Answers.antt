use Rattle.hs_tool.proofs.sources.founded_source.Goals as goal

pub founding_fault-requires-clause-sound : goal.founding_fault-requires-clause-sound
founding_fault-requires-clause-sound c = c.definitions_are_sound.ensures c.in-Ok.read.0 c.in-Ok.read.1 c.in-Ok.ensures.found.normal
