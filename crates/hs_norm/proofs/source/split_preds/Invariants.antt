use Rattle.std.proofs.Common.{◌≡◌, map}
use Rattle.hs_norm.proofs.source.split_preds.Given as goal

abbrev pub invariant-loop-pred : goal.invariant-loop-pred
invariant-loop-pred l = record {
  first : l.preds ≡ map (λ p. p.0) l.yielded;
  second : l.all ≡ map (λ p. p.1) l.yielded;
}
