use Rattle.hs_lower_sound.proofs.Sources.{lowerable}
use Rattle.hs_lower_sound.proofs.laws.sources_are_lowerable.Goals as goal

pub returns : goal.returns
returns c = λ n text tokens source r spelled e.
    lowerable source r (c.names_are_kept.ensures source r e) (c.methods_are_declared.ensures source r e) (c.definitions_are_sound.ensures source r e)
    (c.pairs_are_normal.ensures source r e) (c.pairs_have_disjuncts.ensures n text tokens source r spelled e)
