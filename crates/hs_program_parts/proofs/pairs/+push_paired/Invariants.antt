use Rattle.std.proofs.Common.{length}
use Rattle.hs_program_parts.proofs.pairs.+push_paired.Given as goal

abbrev pub decreases-push_paired : goal.decreases-push_paired
decreases-push_paired l = length l.ws.now
