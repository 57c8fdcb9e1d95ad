use Rattle.hs_written.proofs.Formulas.{written_is_read}
use Rattle.hs_written.proofs.laws.written_is_read.Goals as goal

pub returns : goal.returns
returns c = written_is_read
