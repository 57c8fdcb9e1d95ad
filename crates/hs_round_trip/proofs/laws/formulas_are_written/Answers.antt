use Rattle.hs_round_trip.proofs.Whole.{formulas_are_written as is}
use Rattle.hs_round_trip.proofs.laws.formulas_are_written.Goals as goal

pub returns : goal.returns
returns c = is
