use Rattle.hs_round_trip.proofs.Whole.{pure_formulas_are_written as is}
use Rattle.hs_round_trip.proofs.laws.pure_formulas_are_written.Goals as goal

pub returns : goal.returns
returns c = is
