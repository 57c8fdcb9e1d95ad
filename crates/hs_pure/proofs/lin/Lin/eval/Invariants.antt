use Rattle.std.proofs.Common.{◌≡◌, drop, pos, ◌+ℤ◌, ◌↔◌}
use Rattle.hs_pure.specs.Eval.{TermsFit}
use Rattle.hs_pure.specs.Truth.{sum_at}
use Rattle.hs_pure.specs.Values.{stack_at}
use Rattle.hs_pure.proofs.lin.Lin.eval.Given as goal

abbrev pub invariant-loop-t : goal.invariant-loop-t
invariant-loop-t l = record {
  fits : TermsFit (stack_at l.values) (pos 0) l.t-items ↔ TermsFit (stack_at l.values) l.total (drop l.t-index l.t-items);
  is : sum_at (stack_at l.values) l.t-items ≡ l.total +ℤ sum_at (stack_at l.values) (drop l.t-index l.t-items);
}
