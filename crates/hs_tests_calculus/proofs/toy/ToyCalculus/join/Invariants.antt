use Rattle.std.proofs.Common.{◌≡◌, ◌∷◌}
use Rattle.std.specs.List.{flat_map}
use Rattle.hs_tests_calculus.proofs.toy.ToyCalculus.join.Given as goal

abbrev pub invariant-loop-part : goal.invariant-loop-part
invariant-loop-part l = l.rules ≡ l.fn.rule ∷ flat_map (λ part. part) l.yielded
