use Rattle.std.proofs.Common.{[]}
use Rattle.std.proofs.lemmas.List.Elements.{All-nil, All-same}
use Rattle.hs_equations.specs.Rows.{IsMet, IsSolved}
use Rattle.hs_equations.proofs.rows.Rows.new.Goals as goal

pub returns : goal.returns
returns c = λ s.
    (All-same (IsSolved s) _ [] c.new.ensures (All-nil (IsSolved s)), All-same (IsMet s) _ [] c.new-2.ensures (All-nil (IsMet s)), All-same (IsMet s) _ [] c.new-3.ensures (All-nil (IsMet s)))
