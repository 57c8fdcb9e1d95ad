-- What the lines of a source that is served need.
use Rattle.std.proofs.Common.{◌≡◌, ℕ, suc, ◌+◌, ◌≤◌, ◌^◌, Bool, true, false, ◌&&◌, List, [], ◌∷◌, ◌++◌, length, refl, ap, arith}
use Rattle.hs_heap.specs.declared.definitions.PredDef.{PredDef}
use Rattle.hs_cli.specs.declared.jobs.Options.{Options}
use Rattle.hs_cli.specs.Job.{AreInRange}
use Rattle.hs_norm.specs.declared.resolved.Resolved.{Resolved}
use Rattle.hs_norm_sound.specs.Laws.{DefinitionsAreSound, GoalsAreWellFormed, GoalsHaveDisjuncts}
use Rattle.hs_print.specs.declared.line.Line.{Line}
use Rattle.hs_search.specs.Answer.{LimitsFit}
use Rattle.std.specs.List.{list_all}
use Rattle.hs_core.specs.declared.program.Program.{Program}
use Rattle.hs_core_lines.specs.Core.{HasProgram}
use Rattle.hs_lower_sound.specs.Laws.{SourcesAreLowerable, LoweredProgramsAreSound, MethodsAreKept}
use Rattle.hs_lower_set.specs.Laws.{LoweredProgramsAreSet}
use Rattle.hs_tool.specs.Served.{is_nil, is_served, has_no_variant}
use Rattle.hs_pred_lines.specs.Lines.{AreLines, ArePredicateLines, first_unshown}
use Rattle.hs_entail_lines.specs.Laws.{EntailmentsAreGoals}
use Rattle.hs_entail_lines.specs.Lines.{AreEntailmentLines}
use Rattle.hs_tool.specs.Sources.{IsFoundedSource, IsNormalForm, IsItsProgram}
use Rattle.hs_hip_lines.specs.Lines.{ArePairLines}
use Rattle.hs_tool.specs.Sleek.{limits_of, summary_of, IsSleekReport}
use Rattle.hs_tool.specs.Hip as hip
use Rattle.hs_tool.specs.Hip.{IsHipReport}

-- a line for each predicate
pub lines_many : (Is : ℕ → Line → Type 0) (number : ℕ) (ps : List PredDef) (ls : List Line) → AreLines Is number ps ls → length ls ≡ length ps
lines_many Is number [] [] h = refl
lines_many Is number [] (l ∷ ls) h = absurd h
lines_many Is number (p ∷ ps) [] h = absurd h
lines_many Is number (p ∷ ps) (l ∷ ls) h = ap suc (lines_many Is (number + 1) ps ls h.1)

nil_is : {A : Type 0} (xs : List A) → is_nil xs ≡ true → xs ≡ []
nil_is [] e = refl
nil_is (x ∷ xs) e = absurd cc

first : (a b : Bool) → (a && b) ≡ true → a ≡ true
first true b e = refl
first false b e = absurd cc

-- a source that is served has no lemmas
without_lemmas : (r : Resolved) → is_served r ≡ true → r.defs.lemmas ≡ []
without_lemmas r e = nil_is r.defs.lemmas (first (is_nil r.defs.lemmas) (list_all has_no_variant r.methods) e)

pub limits_fit : (options : Options) → AreInRange options → LimitsFit (limits_of options)
limits_fit options range = record {
  level = range.level.1;
  residues = range.residues.0;
  atoms = let most = range.atoms.1 in omega (arith, most);
}

-- what the laws of the layers below say of a source that is served
pub normal_form : DefinitionsAreSound → GoalsAreWellFormed → GoalsHaveDisjuncts → EntailmentsAreGoals → (bytes : List ℕ) (r : Resolved)
    → length bytes ≤ 2 ^ 20 → IsFoundedSource bytes r → is_served r ≡ true → IsNormalForm r
normal_form sound formed filled goals bytes r low is served = record {
  sound = sound is.tree r is.read.normal;
  no_lemmas = without_lemmas r served;
  goals = λ k d less. goals r.defs _ (formed is.tree r is.read.normal k d less) (filled 64 bytes is.read.tokens is.tree r is.read.spelled is.read.normal k d less).1;
  named = is.named;
  few = let few = is.few in omega (arith, few, low);
  few_preds = let few = is.few_preds in omega (arith, few, low);
}

pub its_program : SourcesAreLowerable → LoweredProgramsAreSound → LoweredProgramsAreSet → MethodsAreKept → (bytes : List ℕ) (r : Resolved) (p : Program)
    → IsFoundedSource bytes r → HasProgram r p → IsItsProgram r p
its_program lowerable sound set kept bytes r p is has = record {
  sound = sound r p (lowerable 64 bytes is.read.tokens is.tree r is.read.spelled is.read.normal) has;
  set = set r p has;
  kept = kept r p has;
}

-- the report of these lines
pub sleek_report : (options : Options) (r : Resolved) (preds entailments report : List Line) → ArePredicateLines r options.atoms preds
    → AreEntailmentLines r.defs (limits_of options) (first_unshown preds) r.entailments entailments → report ≡ preds ++ entailments ++ summary_of preds entailments ∷ []
    → IsSleekReport options r report
sleek_report options r preds entailments report told each lines = record { preds = preds; shown = told; entailments = entailments; each = each; lines = lines }

pub hip_report : (options : Options) (r : Resolved) (program : Program) (preds pairs report : List Line) → ArePredicateLines r options.atoms preds
    → ArePairLines r.defs program (limits_of options) (first_unshown preds) r.methods pairs → report ≡ preds ++ pairs ++ hip.summary_of preds pairs ∷ []
    → IsHipReport options r program report
hip_report options r program preds pairs report told each lines = record { preds = preds; shown = told; pairs = pairs; each = each; lines = lines }
