use Rattle.std.proofs.Common.{length}
use Rattle.hs_dtext_read.proofs.Standing.{HaveRead}
use Rattle.hs_dtext_read.proofs.lines.later_lines.Given as goal

abbrev pub invariant-loop-line : goal.invariant-loop-line
invariant-loop-line l = HaveRead l.defs l.initial.lines l.number l.reading l.lines

abbrev pub decreases-loop-line : goal.decreases-loop-line
decreases-loop-line l = length l.lines
