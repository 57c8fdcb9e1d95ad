use Rattle.std.proofs.lemmas.List.Elements.{All-same}
use Rattle.hs_equations.specs.Rows.{IsMet, IsSolved}
use Rattle.hs_equations.proofs.rows.take.Goals as goal

pub returns-then-is_false : goal.returns-then-is_false
returns-then-is_false c = λ s h m. c.is_false.ensures c.if-is_false.true s (c.in_ok-row.ensures s (All-same (IsSolved s) _ _ c.as_slice.ensures h.0) m)

pub returns-then-is_fixed : goal.returns-then-is_fixed
returns-then-is_fixed c = λ s h m. h

pub returns-then-found : goal.returns-then-found
returns-then-found c = λ s h m. c.in_ok-found.ensures c.if-found.true s (All-same (IsMet s) _ _ c.as_slice-2.ensures h.1) (c.in_ok-row.ensures s (All-same (IsSolved s) _ _ c.as_slice.ensures h.0) m)

pub returns : goal.returns
returns c = λ s h m. c.in_ok-rows.ensures s h (c.in_ok-row.ensures s (All-same (IsSolved s) _ _ c.as_slice.ensures h.0) m)
