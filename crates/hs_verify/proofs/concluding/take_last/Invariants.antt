use Rattle.std.proofs.Common.{◌≡◌, ◌++◌, length, reverse}
use Rattle.hs_verify.proofs.concluding.take_last.Given as goal

abbrev pub invariant-loop : goal.invariant-loop
invariant-loop l = record {
  split : l.initial.ends ≡ l.ends ++ reverse l.taken;
  long : length l.taken ≡ l.counter;
}
