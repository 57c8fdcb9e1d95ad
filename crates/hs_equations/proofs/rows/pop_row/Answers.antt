use Rattle.hs_equations.specs.Rows.{IsMet}
use Rattle.hs_equations.proofs.Lists.{All-popped}
use Rattle.hs_equations.proofs.rows.pop_row.Goals as goal

pub returns : goal.returns
returns c = λ s h. let p = All-popped (IsMet s) _ _ _ c.pop-row.ensures h.2 in ((h.0, h.1, p.0), p.1)
