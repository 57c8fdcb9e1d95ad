use Rattle.std.proofs.Common.{◌≡◌, ◌++◌, [], ◌∷◌, arith, subst, Option, List, ℕ}
use Rattle.hs_pure.proofs.Lists.{if_ok_weaker}
use Rattle.hs_goal.specs.declared.rule.Limits.{Limits}
use Rattle.hs_norm.specs.declared.resolved.MethodTree.{MethodTree}
use Rattle.hs_print.specs.declared.line.Line.{Line}
use Rattle.hs_pred_lines.specs.Lines.{IsPredicateLine, first_unshown}
use Rattle.hs_hip_lines.specs.Lines.{ArePairLines}
use Rattle.hs_tool.specs.Sleek.{limits_of}
use Rattle.hs_tool.specs.Hip.{summary_of, IsHipReport}
use Rattle.hs_tool.proofs.NormalForms.{lines_many, hip_report}
use Rattle.hs_tool.proofs.hip.hip.Goals as goal

pub report-requires : goal.report-requires
report-requires c =
    let many = lines_many (IsPredicateLine c.args.resolved.now c.args.options.atoms) 1 c.args.resolved.now.defs.preds c.in_ok-preds.preds.items c.in_ok-preds.ensures.lines in
    omega (arith, many, c.requires.normal.few_preds)

pub returns : goal.returns
returns c =
    let r = c.args.resolved.now in
    let p = c.args.program.now in
    let options = c.args.options in
    let preds : List Line = c.in_ok-preds.preds.items in
    let pairs : List Line = c.in_ok-pairs.pairs.items in
    let by_limits : ArePairLines r.defs p (limits_of options) c.in_ok-preds.unshown c.as_slice.result.now pairs
    = subst (λ (l : Limits). ArePairLines r.defs p l c.in_ok-preds.unshown c.as_slice.result.now pairs) c.limits_of.ensures c.in_ok-pairs.ensures.lines in
    let by_first : ArePairLines r.defs p (limits_of options) (first_unshown preds) c.as_slice.result.now pairs
    = subst (λ (u : Option (List ℕ)). ArePairLines r.defs p (limits_of options) u c.as_slice.result.now pairs) c.in_ok-preds.ensures.first by_limits in
    let each : ArePairLines r.defs p (limits_of options) (first_unshown preds) r.methods pairs
    = subst (λ (ms : List MethodTree). ArePairLines r.defs p (limits_of options) (first_unshown preds) ms pairs) c.as_slice.ensures by_first in
    if_ok_weaker (λ (lines : List Line). lines ≡ preds ++ pairs ++ summary_of preds pairs ∷ []) (IsHipReport options r p) c.report.result
    (λ report lines. hip_report options r p preds pairs report c.in_ok-preds.ensures.lines each lines) c.report.ensures
