use Rattle.std.proofs.Common.{◌≡◌, map, take}
use Rattle.hs_pure.specs.Assertion.{assertion_of}
use Rattle.hs_elimination.specs.Linear.{place}
use Rattle.hs_substitute.specs.Substitution.{substituted}
use Rattle.hs_substitute.proofs.replace.+replacing.Given as goal

abbrev pub invariant-replace_all-loop-f : goal.invariant-replace_all-loop-f
invariant-replace_all-loop-f l = map assertion_of l.all ≡ map (λ f. substituted (place l.x) l.u (assertion_of f)) (take l.f-index l.fs)
