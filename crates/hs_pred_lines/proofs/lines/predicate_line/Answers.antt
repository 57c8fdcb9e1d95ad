use Rattle.std.proofs.Common.{rules, ◌≡◌, Some}
use Rattle.hs_pred_lines.specs.Lines.{names_at}
use Rattle.hs_pred_lines.proofs.Told.{line_of}
use Rattle.hs_pred_lines.proofs.lines.predicate_line.Goals as goal

pub returns : goal.returns
returns c =
    let named : names_at c.args.resolved.now.pred_names c.args.number ≡ Some c.in-Some.names.now = search rules in
    line_of c.args.resolved.now c.args.atoms c.args.number c.args.pred.now c.in-Some.names.now c.line_told.result c.requires.there named c.line_told.ensures
