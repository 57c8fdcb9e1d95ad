use Rattle.std.proofs.Common.{sym, subst}
use Rattle.hs_heap.specs.WellFormed.{IsProper}
use Rattle.hs_heap.proofs.Tells.{Tells}
use Rattle.hs_heap.proofs.Pieces.{proper_told}
use Rattle.hs_heap.proofs.proper.is_proper.Goals as goal

pub returns : goal.returns
returns c = subst (λ b. Tells b (IsProper c.args.p.now)) (sym c.plain_formed.ensures) (proper_told c.args.p.now)
