-- A source has one core program or one first fault, and not both.
use Rattle.std.proofs.Common.{◌≡◌, ◌∙◌, ap, sym, [], ◌∷◌, Result, Ok, Err}
use Rattle.hs_core.specs.declared.program.Program.{Program}
use Rattle.hs_core_text.specs.Text.{core_text}
use Rattle.hs_lower_faults.specs.declared.error.LowerError.{LowerError}
use Rattle.hs_print.specs.declared.line.Line.TheVariants.{CoreText}
use Rattle.hs_print.specs.declared.refusal.Refusal.{Refusal}
use Rattle.hs_core_lines.specs.Core.{of_lowering}
use Rattle.hs_core_lines.specs.Laws.{CoreLinesAreUnique, LoweringFaultsAreUnique, ProgramsHaveNoLoweringFault}
use Rattle.hs_core_lines.specs.declared.error.CoreError.{CoreError}
use Rattle.hs_core_lines.specs.declared.error.CoreError.TheVariants.{Refused, Memory}

abbrev fault_or : LowerError → Result Program LowerError → LowerError
fault_or d (Ok p) = d
fault_or d (Err e) = e

abbrev program_or : Program → Result Program LowerError → Program
program_or d (Ok p) = p
program_or d (Err e) = d

abbrev refusal_or : Refusal → CoreError → Refusal
refusal_or d (Refused cause) = cause
refusal_or d Memory = d

pub one_fault : LoweringFaultsAreUnique
one_fault r cause other (e, is, tells) (f, is_f, tells_f) =
    let same : e ≡ f = ap (fault_or f) (sym is ∙ is_f) in
    ap (refusal_or other) (sym tells ∙ (ap of_lowering same ∙ tells_f))

pub no_fault : ProgramsHaveNoLoweringFault
no_fault r p cause is (e, fails, tells) = apart (sym is ∙ fails)
  where
    apart : {q : Program} {f : LowerError} → Ok q ≡ Err f → ⊥
    apart bad = cc

pub one_line : CoreLinesAreUnique
one_line r lines others (p, is, told) (q, is_q, told_q) =
    let same : p ≡ q = ap (program_or q) (sym is ∙ is_q) in
    told ∙ (ap (λ (x : Program). CoreText (core_text r.defs x) ∷ []) same ∙ sym told_q)
