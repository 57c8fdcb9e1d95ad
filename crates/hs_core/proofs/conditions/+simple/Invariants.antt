use Rattle.std.proofs.Common.{◌≡◌, take, true, map}
use Rattle.std.specs.List.{list_all}
use Rattle.hs_core.specs.Tests.{is_simple}
use Rattle.hs_core.proofs.conditions.+simple.Given as goal

abbrev pub invariant-are_simple-loop-p : goal.invariant-are_simple-loop-p
invariant-are_simple-loop-p l = list_all (λ b. b) (map is_simple (take l.p-index l.ps)) ≡ true
