use Rattle.std.proofs.Common.{refl}
use Rattle.hs_numbering.proofs.scope.Scope.new.Goals as goal

pub invariant_of-result : goal.invariant_of-result
invariant_of-result c = λ q. rw (c.new-2.ensures.empty, c.new.ensures) refl
