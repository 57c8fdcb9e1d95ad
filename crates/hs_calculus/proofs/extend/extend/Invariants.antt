use Rattle.std.proofs.Common.{◌≡◌, take, map, [], ◌∷◌, ◌++◌}
use Rattle.hs_calculus.proofs.extend.extend.Given as goal

abbrev pub invariant-loop-last : goal.invariant-loop-last
invariant-loop-last g l = map (λ row. row.items) l.longer.items ≡ map (λ last. l.row ++ last ∷ []) (take l.last-index l.last-items)
