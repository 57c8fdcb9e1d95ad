use Rattle.hs_round_trip.proofs.Back.{formulas_come_back}
use Rattle.hs_round_trip.proofs.laws.formulas_come_back.Goals as goal

pub returns : goal.returns
returns c = formulas_come_back
