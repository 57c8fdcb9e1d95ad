use Rattle.std.proofs.lemmas.List.Elements.{All-same}
use Rattle.hs_equations.specs.Rows.{IsMet}
use Rattle.hs_equations.proofs.Lists.{ok-map}
use Rattle.hs_equations.proofs.rows.take_apart.Goals as goal

pub returns-in-Some : goal.returns-in-Some
returns-in-Some c = ok-map c.wait.result (λ r f s h n. f s h ((rw c.in-Some.is at c.in_ok-moved.ensures) s (All-same (IsMet s) _ _ c.as_slice.ensures h.1) n)) c.wait.ensures

pub returns-in-None : goal.returns-in-None
returns-in-None c = c.keep_apart.ensures
