-- The lines of predicates in a report: a true line for each predicate, in order.
use Rattle.std.specs.Prelude.{◌≡◌, ℕ, zero, suc, ◌+◌, ◌<◌, List, [], ◌∷◌, Option, Some, None, slice_get}
use Rattle.hs_pure.specs.declared.valuation.Valuation.{Valuation}
use Rattle.hs_pure.specs.Eval.{stack_of}
use Rattle.hs_pure.specs.Truth.{TrueAt}
use Rattle.hs_heap.specs.declared.definitions.PredDef.{PredDef}
use Rattle.hs_heap.specs.declared.definitions.Defs.{Defs}
use Rattle.hs_heap.specs.Meaning.{pred_at}
use Rattle.hs_decide.specs.Size.{size_of}
use Rattle.hs_decide.specs.Span.{SpanIsWide}
use Rattle.hs_xpure.specs.Invariants.{invariant_premise, InvariantFollows}
use Rattle.hs_inv.specs.Answer.{question_of}
use Rattle.hs_numbering.specs.declared.names.Names.{Names}
use Rattle.hs_norm.specs.declared.resolved.Resolved.{Resolved}
use Rattle.hs_print.specs.declared.line.Line.{Line}
use Rattle.hs_print.specs.declared.line.Line.TheVariants as line
use Rattle.hs_print.specs.declared.word.Word.{Word}
use Rattle.hs_print.specs.declared.word.Word.TheVariants as word
use Rattle.hs_pred_lines.specs.Values.{values_text}

-- ---- one predicate

-- these are printed values that make the premise true and the invariant false
pub record IsFailure (defs : Defs) (p : PredDef) (names : Names) (text : List ℕ) : Type 0 where
  pub values : Valuation
  pub premise : TrueAt (stack_of values) (invariant_premise defs p)
  pub fails : ¬ (TrueAt (stack_of values) p.inv)
  pub printed : text ≡ values_text defs p names values

-- the question is spent in this way
abbrev pub IsStop : Defs → PredDef → ℕ → Word → Type 0
IsStop defs p atoms word.AtomsSpent = atoms < size_of (question_of defs p)
IsStop defs p atoms word.PastBits = SpanIsWide (question_of defs p)
IsStop defs p atoms _ = ⊥

-- the line names the predicate, and what it says of the invariant is true
abbrev pub IsTold : Defs → PredDef → Names → ℕ → Line → Type 0
IsTold defs p names atoms (line.Shown name) = (name ≡ p.name) × InvariantFollows defs p
IsTold defs p names atoms (line.Fails name values) = (name ≡ p.name) × IsFailure defs p names values
IsTold defs p names atoms (line.InvStopped name cause) = (name ≡ p.name) × IsStop defs p atoms cause
IsTold defs p names atoms _ = ⊥

-- the source names of the predicate of a number from 1
abbrev pub names_at : List Names → ℕ → Option Names
names_at all zero = None
names_at all (suc n) = slice_get all n

-- the line is that of the predicate with this number
pub record IsPredicateLine (r : Resolved) (atoms number : ℕ) (line : Line) : Type 0 where
  pub pred : PredDef
  pub there : pred_at r.defs number ≡ Some pred
  pub names : Names
  pub named : names_at r.pred_names number ≡ Some names
  pub told : IsTold r.defs pred names atoms line

-- ---- all of them

-- a line for each predicate, by its number from the given one on, where this tells the lines of a number
abbrev pub AreLines : (ℕ → Line → Type 0) → ℕ → List PredDef → List Line → Type 0
AreLines Is number [] [] = Unit {0}
AreLines Is number (p ∷ ps) (l ∷ lines) = Is number l × AreLines Is (number + 1) ps lines
AreLines Is number [] (l ∷ lines) = ⊥
AreLines Is number (p ∷ ps) [] = ⊥

-- a line for each predicate, in order
abbrev pub ArePredicateLines : Resolved → ℕ → List Line → Type 0
ArePredicateLines r atoms lines = AreLines (IsPredicateLine r atoms) 1 r.defs.preds lines

-- the predicate that a line does not show
abbrev pub unshown : Line → Option (List ℕ)
unshown (line.Fails name values) = Some name
unshown (line.InvStopped name cause) = Some name
unshown _ = None

abbrev pub or_later : Option (List ℕ) → Option (List ℕ) → Option (List ℕ)
or_later (Some name) later = Some name
or_later None later = later

-- the first predicate that is not shown
abbrev pub first_unshown : List Line → Option (List ℕ)
first_unshown [] = None
first_unshown (l ∷ lines) = or_later (unshown l) (first_unshown lines)
