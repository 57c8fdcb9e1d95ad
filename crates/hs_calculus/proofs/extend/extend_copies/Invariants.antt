use Rattle.std.proofs.Common.{◌≡◌, take, map}
use Rattle.hs_calculus.specs.Search.{extended}
use Rattle.hs_calculus.proofs.extend.extend_copies.Given as goal

abbrev pub invariant-loop-row : goal.invariant-loop-row
invariant-loop-row g l = map (λ row. row.items) l.longer.items ≡ take l.wanted (extended (map (λ row. row.items) (take l.row-index l.rows)) l.found)
