use Rattle.hs_equations.proofs.Lists.{not-told}
use Rattle.hs_equations.proofs.confirm.is_false.Goals as goal

pub returns-in-Some : goal.returns-in-Some
returns-in-Some c = λ t h. not-told c.in-Some.b c.in-Some.ensures t h
