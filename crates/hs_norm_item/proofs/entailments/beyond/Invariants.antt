use Rattle.std.proofs.Common.{◌≤◌, ◌<◌, ◌^◌, take}
use Rattle.std.specs.List.{All}
use Rattle.hs_norm_item.proofs.entailments.beyond.Given as goal

abbrev pub invariant-loop-v : goal.invariant-loop-v
invariant-loop-v l = record {
  above : All (λ v. v.number < l.count) (take l.v-index l.vars);
  small : l.count ≤ 2 ^ 32;
}
