use Rattle.std.proofs.Common.{◌≡◌, take, map}
use Rattle.hs_norm_item.proofs.claim.known_vars.Given as goal

abbrev pub invariant-loop-named : goal.invariant-loop-named
invariant-loop-named l = l.vars ≡ map (λ m. m.var) (take l.named-index l.n.known)
