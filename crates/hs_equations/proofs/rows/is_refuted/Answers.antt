use Rattle.std.proofs.lemmas.List.Elements.{All-same}
use Rattle.hs_equations.specs.Rows.{IsMet, IsSolved}
use Rattle.hs_equations.proofs.Lists.{ok-map}
use Rattle.hs_equations.proofs.rows.is_refuted.Goals as goal

pub returns-then-is_false : goal.returns-then-is_false
returns-then-is_false c = λ t s h m. c.is_false.ensures c.if-is_false.true s (c.in_ok-row.ensures s (All-same (IsSolved s) _ _ c.as_slice.ensures h.0) m)

pub returns : goal.returns
returns c = ok-map c.clash_any.result (λ r f t s h m. f t s (All-same (IsMet s) _ _ c.as_slice-2.ensures h.1) (c.in_ok-row.ensures s (All-same (IsSolved s) _ _ c.as_slice.ensures h.0) m)) c.clash_any.ensures
