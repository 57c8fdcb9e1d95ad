use Rattle.std.proofs.lemmas.List.Elements.{All-same}
use Rattle.hs_equations.specs.Rows.{IsMet}
use Rattle.hs_equations.proofs.Lists.{ok-map}
use Rattle.hs_equations.proofs.rows.take_least.Goals as goal

pub returns-then-at_end : goal.returns-then-at_end
returns-then-at_end c = ok-map c.wait.result (λ r f s h low. f s h (c.in_ok-at_end.ensures c.if-at_end.true s (All-same (IsMet s) _ _ c.as_slice.ensures h.1) low)) c.wait.ensures

pub returns-then-is_covered : goal.returns-then-is_covered
returns-then-is_covered c = λ s h low. h

pub returns : goal.returns
returns c = c.tighten.ensures
