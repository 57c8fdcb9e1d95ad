use Rattle.std.proofs.Common.{length}
use Rattle.hs_program_parts.proofs.slots.+put_all.Given as goal

abbrev pub decreases-put_all : goal.decreases-put_all
decreases-put_all l = length l.ks.now
