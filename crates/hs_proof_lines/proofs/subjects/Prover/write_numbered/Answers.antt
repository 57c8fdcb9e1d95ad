use Rattle.std.proofs.Common.{◌≡◌, rules, Some}
use Rattle.hs_pred_lines.specs.Lines.{names_at}
use Rattle.hs_proof_lines.proofs.Standing.{told_here}
use Rattle.hs_proof_lines.proofs.subjects.Prover.write_numbered.Goals as goal

pub write_invariant-requires : goal.write_invariant-requires
write_invariant-requires c =
    let r = c.args.self.now.resolved.now in
    let named : names_at r.pred_names c.args.number ≡ Some c.in-Some.names.now = search rules in
    record { told = told_here r c.args.self.now.limits.now.atoms c.args.number c.args.line.now c.args.pred.now c.in-Some.names.now c.requires.told c.requires.there named }
