-- Reports have the causes of their statuses.
use Rattle.std.proofs.Common.{◌≡◌, inl, inr, ℕ, ◌<◌, List, [], ◌∷◌, ◌++◌, nat_eq, ◌&&◌, not, Some, None, Bool, true, false, refl, ap, sym, subst, arith}
use Rattle.hs_io.specs.Faults.{Rose}
use Rattle.hs_cli.specs.declared.jobs.Job.{Job}
use Rattle.hs_cli.specs.declared.jobs.Options.{Options}
use Rattle.hs_cli.specs.declared.jobs.Job.TheVariants.{Sleek, Hip, Prove, Check, Core, Run}
use Rattle.hs_core.specs.declared.program.Program.{Program}
use Rattle.hs_norm.specs.declared.resolved.Resolved.{Resolved}
use Rattle.hs_print.specs.declared.line.Line.{Line}
use Rattle.hs_print.specs.declared.line.Line.TheVariants as line
use Rattle.hs_tool.specs.Status.{is_good, all_good, by_verdicts, status_alone, status_of}
use Rattle.hs_tool.specs.declared.reply.Reply.{Reply}
use Rattle.hs_tool.specs.declared.reply.Reply.TheVariants.{FileFault, Refused, Answered}
use Rattle.hs_tool.specs.Reply.{Known, lines_of}
use Rattle.hs_machine.specs.declared.runner.RunAnswer.{RunAnswer}
use Rattle.hs_machine.specs.declared.runner.RunAnswer.TheVariants as answer
use Rattle.hs_machine.specs.declared.runner.RunEnd.{RunEnd}
use Rattle.hs_core_lines.specs.Core.{AreCoreLines}
use Rattle.hs_core_lines.specs.Run.{AreRunLines, answer_line}
use Rattle.std.specs.Prelude.{count_by, length}
use Rattle.std.specs.List.{list_any}
use Rattle.hs_goal.specs.declared.rule.Limits.{Limits}
use Rattle.hs_check.specs.declared.verdict.Verdict.{Verdict}
use Rattle.hs_check.specs.declared.verdict.Verdict.TheVariants as verdict
use Rattle.hs_proof_lines.specs.Proved.{IsProofReport, is_open}
use Rattle.hs_proof_lines.specs.Checked.{IsCheckReport, verdict_line}
use Rattle.hs_tool.specs.Hip.{IsHipReport, is_accepted, summary_of}
use Rattle.hs_tool.specs.Sleek.{limits_of, is_shown, IsSleekReport}
use Rattle.hs_tool.specs.Run.{IsReply, IsReport}
use Rattle.hs_tool.specs.Laws.{HasStatusCause, StatusesHaveCauses}

good_or_not : (good : Bool) → by_verdicts good < 2
good_or_not true = omega arith
good_or_not false = omega arith

alone_below : (l : Line) → status_alone l < 5
alone_below line.RefusedWords = omega arith
alone_below (line.FileFault name) = omega arith
alone_below (line.Refused cause) = omega arith
alone_below (line.HipSummary shown preds accepted pairs) = let low = good_or_not (nat_eq shown preds && nat_eq accepted pairs) in omega arith
alone_below l = let low = good_or_not (is_good l) in omega arith

pub status_below : (report : List Line) → status_of report < 5
status_below [] = omega arith
status_below (l ∷ []) = alone_below l
status_below (l ∷ (m ∷ report)) = let low = good_or_not (all_good (l ∷ (m ∷ report))) in omega arith

-- a report that ends with a line is good or not, where that line is alone
ended_below : (report : List Line) (last : Line) → status_alone last < 2 → status_of (report ++ last ∷ []) < 2
ended_below [] last low = low
ended_below (l ∷ []) last low = good_or_not (all_good (l ∷ (last ∷ [])))
ended_below (l ∷ (m ∷ report)) last low = good_or_not (all_good (l ∷ (m ∷ (report ++ last ∷ []))))

sleek_below : (options : Options) (r : Resolved) (report : List Line) → IsSleekReport options r report → status_of report < 2
sleek_below options r report right =
    subst (λ (lines : List Line). status_of lines < 2) (sym right.lines) (ended_below (right.preds ++ right.entailments) (line.SleekSummary _ _ _ _) (omega arith))

hip_below : (options : Options) (r : Resolved) (program : Program) (report : List Line) → IsHipReport options r program report → status_of report < 2
hip_below options r program report right =
    subst (λ (lines : List Line). status_of lines < 2) (sym right.lines)
    (ended_below (right.preds ++ right.pairs) (summary_of right.preds right.pairs)
    (good_or_not (nat_eq (count_by is_shown right.preds) (length right.preds) && nat_eq (count_by is_accepted right.pairs) (length right.pairs))))

-- the text of a derivation is good or not
prove_below : (r : Resolved) (program : Program) (limits : Limits) (report : List Line) → IsProofReport r program limits report → status_of report < 2
prove_below r program limits report right =
    subst (λ (lines : List Line). status_of lines < 2) (sym right.is) (good_or_not (not (list_any is_open right.claims)))

verdict_below : (nodes claims : ℕ) (v : Verdict) → status_of (verdict_line nodes claims v ∷ []) < 2
verdict_below nodes claims verdict.Accepted = omega arith
verdict_below nodes claims (verdict.Refused k reason) = omega arith
verdict_below nodes claims (verdict.MissingClaim k) = omega arith
verdict_below nodes claims (verdict.Stopped k spent) = omega arith

check_below : (r : Resolved) (program : Program) (atoms : ℕ) (text : List ℕ) (report : List Line) → IsCheckReport r program atoms text report → status_of report < 2
check_below r program atoms text report right =
    subst (λ (lines : List Line). status_of lines < 2) (sym right.is) (verdict_below _ _ right.verdict)

core_below : (r : Resolved) (report : List Line) → AreCoreLines r report → status_of report < 2
core_below r report (program, has, is) = subst (λ (lines : List Line). status_of lines < 2) (sym is) (omega arith)

-- the line of a run is good or not
run_below : (r : Resolved) (method text : List ℕ) (steps : ℕ) (report : List Line) → AreRunLines r method text steps report → status_of report < 2
run_below r method text steps report right =
    subst (λ (lines : List Line). status_of lines < 2) (sym right.is) (run_ended right.end right.end.answer)
  where
    run_ended : (end : RunEnd) (a : RunAnswer) → status_of (answer_line r.defs right.program end a ∷ []) < 2
    run_ended end (answer.Returned result) = omega arith
    run_ended end answer.Running = omega arith
    run_ended end (answer.Fault number point place) = omega arith
    run_ended end (answer.Wide number point) = omega arith

module _ (known : Known) (before now : ℕ) where
  -- what answers a job is no refusal
  answer_below : (job : Job) (report : List Line) → IsReply known before now job (Answered report) → status_of report < 2
  answer_below (Sleek name options) report right = sleek_below options right.are.resolved report right.are.is.2
  answer_below (Hip name options) report right = hip_below options right.are.resolved right.are.is.0 report right.are.is.2
  answer_below (Prove name options) report right = prove_below right.are.resolved right.are.is.0 (limits_of options) report right.are.is.2
  answer_below (Check file proof options) report right =
      check_below right.are.are.resolved right.are.are.is.0 options.atoms right.are.bytes report right.are.are.is.2
  answer_below (Core name) report right = core_below right.are.resolved report right.are.is.1
  answer_below (Run file method heap options) report right =
      run_below right.are.are.resolved method right.are.bytes options.steps report right.are.are.is.1

  fault_rose : (job : Job) (name : List ℕ) → IsReply known before now job (FileFault name) → Rose before now
  fault_rose (Sleek own options) name (inl fault) = fault.1
  fault_rose (Sleek own options) name (inr on) = absurd on.are.is
  fault_rose (Hip own options) name (inl fault) = fault.1
  fault_rose (Hip own options) name (inr on) = absurd on.are.is
  fault_rose (Prove own options) name (inl fault) = fault.1
  fault_rose (Prove own options) name (inr on) = absurd on.are.is
  fault_rose (Check file proof options) name (inl fault) = fault.1
  fault_rose (Check file proof options) name (inr on) = elim on.are [
    | inl fault ↦ fault.1
    | inr text ↦ absurd text.are.is
  ]
  fault_rose (Core own) name (inl fault) = fault.1
  fault_rose (Core own) name (inr on) = absurd on.are.is
  fault_rose (Run file method heap options) name (inl fault) = fault.1
  fault_rose (Run file method heap options) name (inr on) = elim on.are [
    | inl fault ↦ fault.1
    | inr text ↦ absurd text.are.is
  ]

  reply_cause : (job : Job) (reply : Reply) → IsReply known before now job reply → HasStatusCause known before now (Some job) (lines_of reply)
  reply_cause job (FileFault name) right = record {
    words = λ three. absurd (omega (arith, three));
    fault = λ four. fault_rose job name right;
    refusal = λ two. absurd (omega (arith, two));
  }
  reply_cause job (Refused cause) right = record {
    words = λ three. absurd (omega (arith, three));
    fault = λ four. absurd (omega (arith, four));
    refusal = λ two. (cause, right);
  }
  reply_cause job (Answered report) right =
      let low = answer_below job report right in
      record {
        words = λ three. absurd (omega (arith, low, three));
        fault = λ four. absurd (omega (arith, low, four));
        refusal = λ two. absurd (omega (arith, low, two));
      }

pub report_cause : StatusesHaveCauses
unfolding IsReport
report_cause known before now None report right =
    let is : status_of report ≡ 3 = ap status_of right in
    record {
      words = λ three. refl;
      fault = λ four. absurd (omega (arith, is, four));
      refusal = λ two. absurd (omega (arith, is, two));
    }
report_cause known before now (Some job) report right =
    subst (HasStatusCause known before now (Some job)) (sym right.lines) (reply_cause known before now job right.reply right.right)
