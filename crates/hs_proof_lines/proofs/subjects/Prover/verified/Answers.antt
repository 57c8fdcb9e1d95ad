use Rattle.std.proofs.lemmas.Result.{IfOk-weaker}
use Rattle.hs_proof_lines.proofs.subjects.Prover.verified.Goals as goal

pub returns : goal.returns
returns c =
    IfOk-weaker c.outcome.result _ _ (λ found says. record { answer = c.in_ok-answer.answer; right = c.in_ok-answer.ensures.answer; says = says }) c.outcome.ensures
