use Rattle.std.proofs.Common.{List, ℕ, Option, subst}
use Rattle.std.proofs.lemmas.Result.{IfOk-weaker}
use Rattle.hs_proof_lines.specs.Proved.{AreWritten, subjects_of}
use Rattle.hs_proof_lines.proofs.Adding.{whole}
use Rattle.hs_proof_lines.proofs.proving.proof_lines.Goals as goal

pub returns : goal.returns
returns c =
    let r = c.args.resolved.now in
    let w = c.write_all.new.written in
    let written = whole r.defs c.args.program.now c.args.limits.now c.in_ok-lines.unshown (subjects_of r) w _ c.new.ensures c.new-2.ensures c.in_ok-write_all.ensures in
    record {
      exact = IfOk-weaker c.report.result _ _
          (λ lines is. record {
            preds = c.in_ok-lines.lines.items;
            shown = c.in_ok-lines.ensures.lines;
            nodes = w.nodes;
            claims = w.lines;
            written = subst (λ (u : Option (List ℕ)). AreWritten r.defs c.args.program.now c.args.limits.now u (subjects_of r) w.nodes w.lines) c.in_ok-lines.ensures.first written;
            is = is;
          }) c.report.ensures;
    }
