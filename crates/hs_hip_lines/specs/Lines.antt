-- The lines of pairs in a report: a true verdict on each pair, by method.
use Rattle.std.specs.Prelude.{◌≡◌, ℕ, suc, ◌+◌, List, [], ◌∷◌, ◌++◌, length, Option, Some, None}
use Rattle.hs_heap.specs.declared.definitions.Defs.{Defs}
use Rattle.hs_goal.specs.declared.rule.Limits.{Limits}
use Rattle.hs_core.specs.declared.program.Program.{Program}
use Rattle.hs_norm.specs.declared.resolved.MethodTree.{MethodTree}
use Rattle.hs_norm_item.specs.declared.forms.PairTree.{PairTree}
use Rattle.hs_program_rules.specs.States.{entry}
use Rattle.hs_verify.specs.declared.answer.HipAnswer.{HipAnswer}
use Rattle.hs_verify.specs.declared.answer.HipAnswer.TheVariants.{Accepted, Unknown, States, Numbers}
use Rattle.hs_verify.specs.Answer.{IsAnswer}
use Rattle.hs_print.specs.declared.line.Line.{Line}
use Rattle.hs_print.specs.declared.line.Line.TheVariants as line
use Rattle.hs_print.specs.declared.why.Tried.TheVariants as tried
use Rattle.hs_hip_lines.specs.Causes.{tried_at}

-- how many pairs the methods have
abbrev pub pair_count : List MethodTree → ℕ
pair_count [] = 0
pair_count (m ∷ ms) = length m.pairs + pair_count ms

module _ (defs : Defs) (program : Program) (limits : Limits) where
  -- ---- one pair

  -- the line that an answer prints, for pair i of a method with this name
  abbrev pub line_of : List ℕ → ℕ → PairTree → HipAnswer → Line
  line_of name i p (Accepted d) = line.Accepted name i
  line_of name i p (Unknown at causes) = line.Rejected name i at.point (tried_at defs program p.names p.next limits at causes)
  line_of name i p (States at) = line.Rejected name i at.point (tried.States limits.goals ∷ [])
  line_of name i p (Numbers at) = line.Rejected name i at.point (tried.Numbers ∷ [])

  -- the line prints a true answer to pair i of method m
  pub record IsVerdict (m : ℕ) (name : List ℕ) (i : ℕ) (p : PairTree) (l : Line) : Type 0 where
    pub answer : HipAnswer
    pub is : IsAnswer defs program limits (entry program m i) answer
    pub printed : l ≡ line_of name i p answer

  -- the same where the invariant of this predicate, if any, is not shown: then it is the cause
  abbrev pub IsPairLine : Option (List ℕ) → ℕ → List ℕ → ℕ → PairTree → Line → Type 0
  IsPairLine (Some pred) m name i p l = l ≡ line.PairInvariant name i pred
  IsPairLine None m name i p l = IsVerdict m name i p l

  -- ---- all of them

  module _ (unshown : Option (List ℕ)) where
    -- a line for each pair of method m, by its number from the given one on
    abbrev pub AreLinesOf : ℕ → List ℕ → ℕ → List PairTree → List Line → Type 0
    AreLinesOf m name i [] [] = Unit {0}
    AreLinesOf m name i (p ∷ ps) (l ∷ lines) = IsPairLine unshown m name i p l × AreLinesOf m name (suc i) ps lines
    AreLinesOf m name i [] (l ∷ lines) = ⊥
    AreLinesOf m name i (p ∷ ps) [] = ⊥

    -- the lines of the methods from number m on: those of the first, and then those of the others
    pub data AreMethodLines : ℕ → List MethodTree → List Line → Type 0 where
      nothing : {m : ℕ} → AreMethodLines m [] []
      more : {m : ℕ} {method : MethodTree} {methods : List MethodTree} (first others : List Line) →
          AreLinesOf m method.name 1 method.pairs first → AreMethodLines (suc m) methods others →
          AreMethodLines m (method ∷ methods) (first ++ others)

    -- a line for each pair, by method and pair
    abbrev pub ArePairLines : List MethodTree → List Line → Type 0
    ArePairLines methods lines = AreMethodLines 1 methods lines
