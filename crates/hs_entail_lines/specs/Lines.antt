-- The lines of entailments in a report: a true verdict on each entailment, in order.
use Rattle.std.specs.Prelude.{◌≡◌, ℕ, ◌+◌, List, [], ◌∷◌, map, Option, Some, None}
use Rattle.std.specs.List.{All}
use Rattle.hs_heap.specs.Entailment.{Entails}
use Rattle.hs_heap.specs.declared.definitions.Defs.{Defs}
use Rattle.hs_goal.specs.declared.rule.Limits.{Limits}
use Rattle.hs_goal.specs.declared.rule.Cause.{Cause}
use Rattle.hs_erule.specs.declared.step.Proof.{Proof}
use Rattle.hs_steps.specs.Joined.{residue_shown}
use Rattle.hs_search.specs.Answer.{IsSearchAnswer}
use Rattle.hs_search.specs.declared.answer.SleekAnswer.TheVariants.{Valid, Unknown}
use Rattle.hs_norm_item.specs.declared.forms.Entailment.{Entailment}
use Rattle.hs_claims.specs.Claims.{goal_of}
use Rattle.hs_print.specs.Formula.{formula_text}
use Rattle.hs_print.specs.declared.line.Line.{Line}
use Rattle.hs_print.specs.declared.line.Line.TheVariants as line
use Rattle.hs_print.specs.declared.why.Why.{Why}
use Rattle.hs_print.specs.declared.why.Why.TheVariants as why
use Rattle.hs_causes.specs.Causes.{why_of}

-- ---- one entailment

-- the printed residue of a proof
abbrev pub printed_residue : Defs → Entailment → Proof → List ℕ
printed_residue defs e p = formula_text defs (Some e.names) (residue_shown p)

-- these are the printed residues of the proofs that the search has, and the entailment holds with each of them
pub record IsValid (defs : Defs) (limits : Limits) (e : Entailment) (residues : List (List ℕ)) : Type 0 where
  pub proofs : List Proof
  pub found : IsSearchAnswer defs limits (goal_of e) (Valid proofs)
  pub printed : residues ≡ map (printed_residue defs e) proofs
  pub holds : All (λ (p : Proof). Entails defs e.left e.opens e.right (residue_shown p)) proofs

-- this is the printed cause for which the search has no proof
pub record IsUnknown (defs : Defs) (limits : Limits) (e : Entailment) (text : Why) : Type 0 where
  pub cause : Cause
  pub found : IsSearchAnswer defs limits (goal_of e) (Unknown cause)
  pub printed : text ≡ why_of defs e.names e.next limits cause

-- the line is a verdict on the entailment with this number, and true
abbrev pub IsVerdict : Defs → Limits → ℕ → Entailment → Line → Type 0
IsVerdict defs limits number e (line.Valid n residues) = (n ≡ number) × IsValid defs limits e residues
IsVerdict defs limits number e (line.Unknown n text) = (n ≡ number) × IsUnknown defs limits e text
IsVerdict defs limits number e _ = ⊥

-- the same where the invariant of this predicate, if any, is not shown: then it is the cause
abbrev pub IsEntailmentLine : Defs → Limits → Option (List ℕ) → ℕ → Entailment → Line → Type 0
IsEntailmentLine defs limits (Some pred) number e l = l ≡ line.Unknown number (why.Invariant pred)
IsEntailmentLine defs limits None number e l = IsVerdict defs limits number e l

-- ---- all of them

-- a line for each entailment, by its number from the given one on, where this tells the lines
abbrev pub AreLines : (ℕ → Entailment → Line → Type 0) → ℕ → List Entailment → List Line → Type 0
AreLines Is number [] [] = Unit {0}
AreLines Is number (e ∷ es) (l ∷ lines) = Is number e l × AreLines Is (number + 1) es lines
AreLines Is number [] (l ∷ lines) = ⊥
AreLines Is number (e ∷ es) [] = ⊥

-- a line for each entailment, in order
abbrev pub AreEntailmentLines : Defs → Limits → Option (List ℕ) → List Entailment → List Line → Type 0
AreEntailmentLines defs limits unshown es lines = AreLines (IsEntailmentLine defs limits unshown) 1 es lines
