-- Within the limits a pair is accepted exactly where its tree is closed, and else a goal has no derivation.
use Rattle.std.proofs.Common.{arith}
use Rattle.hs_verify.specs.declared.answer.HipAnswer.TheVariants.{Accepted, Unknown, States, Numbers}
use Rattle.hs_verify.specs.Laws.{VerificationIsComplete}
use Rattle.hs_verify.proofs.Walks.{stuck_none, stuck_open}

pub verification_is_complete : VerificationIsComplete
verification_is_complete defs program limits start (Accepted d) h tame = ((λ u. (h.0.states, h.0.ends), λ closed. tt), tt)
verification_is_complete defs program limits start (Unknown at causes) h tame =
    let s = h.0 in (
      (λ u. absurd u, λ closed. stuck_open defs program limits start tame s.before closed.0 at s.rest causes s.reached h.2 closed.1),
      stuck_none defs program limits at (tame s.before at s.rest s.reached).1 causes h.2,
    )
verification_is_complete defs program limits start (States at) h tame =
    let s = h.0 in
    absurd (omega (arith, h.1, (tame s.before at s.rest s.reached).0))
verification_is_complete defs program limits start (Numbers at) h tame =
    let s = h.0 in
    absurd ((tame s.before at s.rest s.reached).1.room h.1)
