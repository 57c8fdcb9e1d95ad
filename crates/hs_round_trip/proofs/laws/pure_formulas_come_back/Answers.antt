use Rattle.hs_round_trip.proofs.Back.{pure_formulas_come_back}
use Rattle.hs_round_trip.proofs.laws.pure_formulas_come_back.Goals as goal

pub returns : goal.returns
returns c = pure_formulas_come_back
