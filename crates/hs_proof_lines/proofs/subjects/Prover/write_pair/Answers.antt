use Rattle.std.proofs.lemmas.Result.{on_ok_weaker}
use Rattle.hs_proof_lines.specs.Proved.{Subject}
use Rattle.hs_proof_lines.proofs.Adding.{barred}
use Rattle.hs_proof_lines.proofs.subjects.Prover.write_pair.Goals as goal

pub returns-in_ok-barred_text-in-Some : goal.returns-in_ok-barred_text-in-Some
returns-in_ok-barred_text-in-Some c =
    on_ok_weaker c.push_open.result
    (λ h. barred c.args.self.now.resolved.now.defs c.args.self.now.program.now c.args.self.now.limits.now c.args.self.now.unshown.now
    (Subject.pair c.args.m c.args.i c.args.pair.now) c.args.written.now _ _ h.0 h.1 (c.in-Some.pred, c.in-Some.is, c.in_ok-barred_text-in-Some.ensures))
    c.push_open.ensures
