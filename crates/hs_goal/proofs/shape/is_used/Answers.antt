use Rattle.std.proofs.Common.{sym, subst}
use Rattle.hs_heap.specs.Variables.{in_atom}
use Rattle.hs_heap.proofs.Tells.{Tells}
use Rattle.hs_goal.specs.Shape.{AreBelow}
use Rattle.hs_goal.proofs.Told.{atom_below_told}
use Rattle.hs_goal.proofs.shape.is_used.Goals as goal

pub returns-then-fits : goal.returns-then-fits
returns-then-fits c =
    let t : Tells c.atom_is_below.result (AreBelow c.args.next (λ v. in_atom v c.args.a.now)) = subst (λ b. Tells b (AreBelow c.args.next (λ v. in_atom v c.args.a.now))) (sym c.atom_is_below.ensures) (atom_below_told c.args.next c.args.a.now) in
    (λ h. (c.fits.ensures.0 c.if-fits.true, t.0 h), λ f. t.1 f.1)
