use Rattle.hs_core_lines.proofs.Unique.{one_line}
use Rattle.hs_core_lines.proofs.laws.core_lines_are_unique.Goals as goal

pub returns : goal.returns
returns c = one_line
