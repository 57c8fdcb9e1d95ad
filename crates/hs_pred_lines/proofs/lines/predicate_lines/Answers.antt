use Rattle.std.proofs.Common.{◌≡◌, None, ap, sym, ◌∙◌}
use Rattle.hs_pred_lines.specs.Lines.{first_unshown}
use Rattle.hs_pred_lines.proofs.Told.{all_shown}
use Rattle.hs_pred_lines.proofs.lines.predicate_lines.Goals as goal

pub returns-clause-hold : goal.returns-clause-hold
returns-clause-hold c = λ none.
    let all : first_unshown c.in_ok-lines.lines.items ≡ None = sym (c.in_ok-first.ensures ∙ ap first_unshown c.deref.ensures.value) ∙ none in
    c.invariants_are_shown.ensures c.args.resolved.now.defs c.requires.sound (all_shown c.args.resolved.now c.args.atoms c.in_ok-lines.lines.items c.in_ok-lines.ensures all)
