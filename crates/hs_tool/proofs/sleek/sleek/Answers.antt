use Rattle.std.proofs.Common.{◌≡◌, ◌++◌, [], ◌∷◌, arith, subst, Option, List, ℕ}
use Rattle.hs_pure.proofs.Lists.{if_ok_weaker}
use Rattle.hs_goal.specs.declared.rule.Limits.{Limits}
use Rattle.hs_norm_item.specs.declared.forms.Entailment.{Entailment}
use Rattle.hs_print.specs.declared.line.Line.{Line}
use Rattle.hs_pred_lines.specs.Lines.{IsPredicateLine, first_unshown}
use Rattle.hs_entail_lines.specs.Lines.{AreEntailmentLines}
use Rattle.hs_tool.specs.Sleek.{limits_of, summary_of, IsSleekReport}
use Rattle.hs_tool.proofs.NormalForms.{lines_many, sleek_report}
use Rattle.hs_tool.proofs.sleek.sleek.Goals as goal

pub report-requires-clause-preds : goal.report-requires-clause-preds
report-requires-clause-preds c =
    let many = lines_many (IsPredicateLine c.args.resolved.now c.args.options.atoms) 1 c.args.resolved.now.defs.preds c.in_ok-preds.preds.items c.in_ok-preds.ensures.lines in
    omega (arith, many, c.requires.normal.few_preds)

pub returns : goal.returns
returns c =
    let r = c.args.resolved.now in
    let options = c.args.options in
    let preds : List Line = c.in_ok-preds.preds.items in
    let entailments : List Line = c.in_ok-entailments.entailments.items in
    let by_limits : AreEntailmentLines r.defs (limits_of options) c.in_ok-preds.unshown c.as_slice.result.now entailments
    = subst (λ (l : Limits). AreEntailmentLines r.defs l c.in_ok-preds.unshown c.as_slice.result.now entailments) c.limits_of.ensures c.in_ok-entailments.ensures.lines in
    let by_first : AreEntailmentLines r.defs (limits_of options) (first_unshown preds) c.as_slice.result.now entailments
    = subst (λ (u : Option (List ℕ)). AreEntailmentLines r.defs (limits_of options) u c.as_slice.result.now entailments) c.in_ok-preds.ensures.first by_limits in
    let each : AreEntailmentLines r.defs (limits_of options) (first_unshown preds) r.entailments entailments
    = subst (λ (es : List Entailment). AreEntailmentLines r.defs (limits_of options) (first_unshown preds) es entailments) c.as_slice.ensures by_first in
    if_ok_weaker (λ (lines : List Line). lines ≡ preds ++ entailments ++ summary_of preds entailments ∷ []) (IsSleekReport options r) c.report.result
    (λ report lines. sleek_report options r preds entailments report c.in_ok-preds.ensures.lines each lines) c.report.ensures
