use Rattle.std.proofs.Common.{◌≡◌, true}
use Rattle.hs_heap.proofs.Booleans.{clash}
use Rattle.hs_goal.proofs.Told.{goal_fits, parts_of}
use Rattle.hs_goal.proofs.goal.Goal.fits.Goals as goal

pub returns : goal.returns
returns c = (
  λ h. goal_fits c.args.defs.now c.args.self.now c.if-self-gt-MAX_NEXT.false (λ e. let is : c.is_empty.result ≡ true = c.is_empty.ensures.1 e in clash is c.if-is_empty.false) (c.parts_fit.ensures.0 h),
  λ f. c.parts_fit.ensures.1 (parts_of c.args.defs.now c.args.self.now f),
)
