-- Pairs of a program whose report has status 0 are accepted, and so safe.
use Rattle.std.proofs.Common.{◌≡◌, ℕ, suc, true, false, List, [], ◌∷◌, ◌++◌, None, sym, ap, ◌∙◌, subst}
use Rattle.std.specs.List.{AllByRecursion}
use Rattle.std.proofs.lemmas.List.Elements.{All-from_recursion}
use Rattle.hs_heap.specs.declared.definitions.Defs.{Defs}
use Rattle.hs_goal.specs.declared.rule.Limits.{Limits}
use Rattle.hs_cli.specs.declared.jobs.Options.{Options}
use Rattle.hs_core.specs.declared.program.Program.{Program}
use Rattle.hs_norm.specs.declared.resolved.MethodTree.{MethodTree}
use Rattle.hs_norm.specs.declared.resolved.Resolved.{Resolved}
use Rattle.hs_norm_item.specs.declared.forms.PairTree.{PairTree}
use Rattle.hs_norm_sound.specs.Laws.{DefinitionsAreSound}
use Rattle.hs_lower_sound.specs.Laws.{SourcesAreLowerable, LoweredProgramsAreSound, MethodsAreKept}
use Rattle.hs_verify.specs.declared.answer.HipAnswer.{HipAnswer}
use Rattle.hs_verify.specs.declared.answer.HipAnswer.TheVariants.{Accepted, Unknown, States, Numbers}
use Rattle.hs_print.specs.declared.line.Line.{Line}
use Rattle.hs_pred_lines.specs.Laws.{ShownInvariantsHold}
use Rattle.hs_hip_lines.specs.Lines.{line_of, AreLinesOf, AreMethodLines}
use Rattle.hs_hip_lines.specs.Laws.{IsAccepted, AcceptedPairsAreSafe}
use Rattle.hs_tool.specs.Served.{IsServed}
use Rattle.hs_tool.specs.Status.{is_good, all_good, status_of}
use Rattle.hs_tool.specs.Sleek.{limits_of}
use Rattle.hs_tool.specs.Hip.{IsHipReport, summary_of}
use Rattle.hs_report_laws.specs.Laws.{IsProgramOf, PairsAreSafe, AcceptedProgramsAreSafe}
use Rattle.hs_report_laws.proofs.Sources.{without_lemmas, definitions_sound, program_sound}
use Rattle.hs_report_laws.proofs.Statuses.{left, right, good_front, good_behind, good_before, all_shown}

accepted_join : (xs ys : List Line) → AllByRecursion IsAccepted xs → AllByRecursion IsAccepted ys → AllByRecursion IsAccepted (xs ++ ys)
accepted_join [] ys h k = k
accepted_join (x ∷ xs) ys h k = (h.0, accepted_join xs ys h.1 k)

wrong : false ≡ true → ⊥
wrong e = cc

module _ (defs : Defs) (program : Program) (limits : Limits) where
  -- the good line of a pair
  line_accepted : (name : List ℕ) (i : ℕ) (p : PairTree) (l : Line) (answer : HipAnswer) → l ≡ line_of defs program limits name i p answer → is_good l ≡ true → IsAccepted l
  line_accepted name i p l (Accepted d) printed e = subst IsAccepted (sym printed) tt
  line_accepted name i p l (Unknown at causes) printed e = absurd (wrong (sym (ap is_good printed) ∙ e))
  line_accepted name i p l (States at) printed e = absurd (wrong (sym (ap is_good printed) ∙ e))
  line_accepted name i p l (Numbers at) printed e = absurd (wrong (sym (ap is_good printed) ∙ e))

  -- those of a method
  lines_accepted : (m : ℕ) (name : List ℕ) (i : ℕ) (ps : List PairTree) (lines : List Line) → AreLinesOf defs program limits None m name i ps lines
      → all_good lines ≡ true → AllByRecursion IsAccepted lines
  lines_accepted m name i [] [] h e = tt
  lines_accepted m name i [] (l ∷ lines) h e = absurd h
  lines_accepted m name i (p ∷ ps) [] h e = absurd h
  lines_accepted m name i (p ∷ ps) (l ∷ lines) h e = (
    line_accepted name i p l h.0.answer h.0.printed (left (is_good l) (all_good lines) e),
    lines_accepted m name (suc i) ps lines h.1 (right (is_good l) (all_good lines) e),
  )

  -- those of all methods
  methods_accepted : (m : ℕ) (methods : List MethodTree) (lines : List Line) → AreMethodLines defs program limits None m methods lines
      → all_good lines ≡ true → AllByRecursion IsAccepted lines
  methods_accepted m [] lines AreMethodLines.nothing e = tt
  methods_accepted m (method ∷ methods) lines (AreMethodLines.more front others here later) e =
      accepted_join front others (lines_accepted m method.name 1 method.pairs front here (good_front front others e))
      (methods_accepted (suc m) methods others later (good_behind front others e))

module _ (sound : DefinitionsAreSound) (lowerable : SourcesAreLowerable) (programs : LoweredProgramsAreSound) (kept : MethodsAreKept)
    (shown : ShownInvariantsHold) (safe : AcceptedPairsAreSafe) where
  -- the pairs of a report with status 0
  pairs_safe : (options : Options) (bytes : List ℕ) (r : Resolved) (program : Program) (report : List Line) → IsProgramOf bytes r program
      → IsServed r program → IsHipReport options r program report → status_of report ≡ 0 → PairsAreSafe r program
  pairs_safe options bytes r program report is served told status =
      let good = good_before (told.preds ++ told.pairs) (summary_of told.preds told.pairs) (sym (ap status_of told.lines) ∙ status) in
      let none = all_shown told.preds (good_front told.preds told.pairs good) in
      let defs_sound = definitions_sound bytes r program is sound in
      let each = subst (λ unshown. AreMethodLines r.defs program (limits_of options) unshown 1 r.methods told.pairs) none told.each in
      let all = methods_accepted r.defs program (limits_of options) 1 r.methods told.pairs each (good_behind told.preds told.pairs good) in
      safe r.defs program (limits_of options) r.methods told.pairs defs_sound (without_lemmas r served.served)
      (shown r options.atoms told.preds defs_sound told.shown none) (program_sound bytes r program is lowerable programs) (kept r program is.lowered)
      each (All-from_recursion IsAccepted told.pairs all)

  pub accepted_programs : AcceptedProgramsAreSafe
  accepted_programs options bytes report reply status =
      let is : IsProgramOf bytes reply.resolved reply.is.0 = record { tree = reply.tree; read = reply.read; lowered = reply.is.1.lowered } in
      (reply.resolved, reply.is.0, is, pairs_safe options bytes reply.resolved reply.is.0 report is reply.is.1 reply.is.2 status)
