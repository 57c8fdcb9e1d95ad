-- Texts of derivations: those that are accepted prove every claim, and those that are written are right.
use Rattle.std.proofs.Common.{◌≡◌, ℕ, List, sym, ap, ◌∙◌, subst}
use Rattle.std.specs.List.{list_any}
use Rattle.hs_cli.specs.declared.jobs.Options.{Options}
use Rattle.hs_core.specs.declared.program.Program.{Program}
use Rattle.hs_norm.specs.declared.resolved.Resolved.{Resolved}
use Rattle.hs_norm_sound.specs.Laws.{DefinitionsAreSound}
use Rattle.hs_lower_sound.specs.Laws.{SourcesAreLowerable, LoweredProgramsAreSound, MethodsAreKept}
use Rattle.hs_check.specs.declared.verdict.Verdict.{Verdict}
use Rattle.hs_check.specs.Listed.{HasCause}
use Rattle.hs_judge.specs.Listed.{calculus_of, claim_count}
use Rattle.hs_judge.specs.Laws.{IsShown, ListedEntailmentsHold, ListedPairsAreSafe}
use Rattle.hs_dtext.specs.Text.{proved_text}
use Rattle.hs_print.specs.declared.line.Line.{Line}
use Rattle.hs_pred_lines.specs.Lines.{first_unshown}
use Rattle.hs_proof_lines.specs.Checked.{IsCheckReport}
use Rattle.hs_proof_lines.specs.Proved.{IsProofReport, is_open}
use Rattle.hs_proof_laws.specs.Laws.{IsRightText, ProvedTextsAreRight}
use Rattle.hs_tool.specs.Served.{IsServed}
use Rattle.hs_tool.specs.Status.{status_of}
use Rattle.hs_tool.specs.Sleek.{limits_of}
use Rattle.hs_report_laws.specs.Laws.{IsProgramOf, IsProvedBy, AcceptedTextsProve, IsRightReport, WrittenProofsAreRight}
use Rattle.hs_report_laws.proofs.Sources.{without_lemmas, named_preds, definitions_sound, program_sound}
use Rattle.hs_report_laws.proofs.Statuses.{verdict_accepts, text_proves}

-- ---- texts that are accepted

module _ (sound : DefinitionsAreSound) (lowerable : SourcesAreLowerable) (programs : LoweredProgramsAreSound)
    (entailments : ListedEntailmentsHold) (pairs : ListedPairsAreSafe) where
  text_proves_claims : (bytes text : List ℕ) (atoms : ℕ) (r : Resolved) (program : Program) (report : List Line) → IsProgramOf bytes r program
      → IsServed r program → IsCheckReport r program atoms text report → status_of report ≡ 0 → IsProvedBy bytes text atoms
  text_proves_claims bytes text atoms r program report is served told status =
      let d = told.derivation in
      let accepted = verdict_accepts _ _ told.verdict (sym (ap status_of told.is) ∙ status) in
      let listed = subst (λ (v : Verdict). HasCause (calculus_of r program atoms) (claim_count r program) d.nodes d.claims v) accepted told.true_of in
      let shown : IsShown r program atoms d.nodes d.claims =
      record { sound = definitions_sound bytes r program is sound; no_lemmas = without_lemmas r served.served; listed = listed } in
      record {
        resolved = r;
        program = program;
        is = is;
        derivation = d;
        text_is = told.read;
        listed = listed;
        entailments = entailments r program atoms d.nodes d.claims shown;
        pairs = pairs r program atoms d.nodes d.claims shown (program_sound bytes r program is lowerable programs);
      }

  pub accepted_texts : AcceptedTextsProve
  accepted_texts options bytes text report reply status =
      text_proves_claims bytes text options.atoms reply.resolved reply.is.0 report
      (record { tree = reply.tree; read = reply.read; lowered = reply.is.1.lowered }) reply.is.1 reply.is.2 status

-- ---- texts that are written

module _ (kept : MethodsAreKept) (proved : ProvedTextsAreRight) where
  report_is_right : (options : Options) (bytes : List ℕ) (atoms : ℕ) (r : Resolved) (program : Program) (report : List Line) → IsProgramOf bytes r program
      → IsProofReport r program (limits_of options) report → IsRightReport bytes atoms report
  report_is_right options bytes atoms r program report is told =
      let right : IsRightText r program atoms told.nodes told.claims =
      proved r program (limits_of options) (first_unshown told.preds) told.nodes told.claims atoms
      (record { kept = kept r program is.lowered; named = named_preds is.tree r is.read.normal; written = told.written }) in
      record {
        resolved = r;
        program = program;
        is = is;
        nodes = told.nodes;
        claims = told.claims;
        lines = told.is;
        right = right;
        listed = λ status. right.listed (text_proves (proved_text r.defs told.nodes told.claims) (list_any is_open told.claims) (sym (ap status_of told.is) ∙ status));
      }

  pub written_proofs : WrittenProofsAreRight
  written_proofs options bytes report atoms reply =
      report_is_right options bytes atoms reply.resolved reply.is.0 report
      (record { tree = reply.tree; read = reply.read; lowered = reply.is.1.lowered }) reply.is.2
