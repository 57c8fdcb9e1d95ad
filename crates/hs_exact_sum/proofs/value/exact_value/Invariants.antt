use Rattle.std.proofs.Common.{◌≡◌, ◌+◌, ◌*◌, ◌^◌, ◌≤◌, drop, ◌+ℤ◌, unsigned_abs}
use Rattle.hs_pure.specs.Eval.{stack_of}
use Rattle.hs_pure.specs.Truth.{sum_at}
use Rattle.hs_exact_sum.specs.Limbs.{number_of}
use Rattle.hs_exact_sum.proofs.value.exact_value.Given as goal

abbrev pub invariant-loop-t : goal.invariant-loop-t
invariant-loop-t l = record {
  near : unsigned_abs l.sum.rest ≤ l.t-index * (2 ^ 62 + 4);
  is : sum_at (stack_of l.v) l.t-items ≡ number_of l.sum +ℤ sum_at (stack_of l.v) (drop l.t-index l.t-items);
}
