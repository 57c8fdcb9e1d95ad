use Rattle.std.proofs.Common.{◌≡◌, take, true, map}
use Rattle.std.specs.List.{list_all}
use Rattle.hs_heap.specs.Tests.{formed}
use Rattle.hs_heap.proofs.proper.+forms.Given as goal

abbrev pub invariant-all_formed-loop-p : goal.invariant-all_formed-loop-p
invariant-all_formed-loop-p l = list_all (λ b. b) (map formed (take l.p-index l.ps)) ≡ true
