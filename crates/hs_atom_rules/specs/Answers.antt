-- What is answered of a rule that takes new numbers, and its subgoals.
use Rattle.std.specs.Prelude.{ℕ, ◌≤◌, ◌^◌, Result}
use Rattle.hs_heap.specs.declared.definitions.Defs.{Defs}
use Rattle.hs_heap.specs.Instance.{body_of, body_of_lemma, body_or_none, lemma_at}
use Rattle.hs_goal.specs.declared.goal.Goal.{Goal}
use Rattle.hs_rules.specs.Parts.{atom_at, left_atoms, right_atoms}
use Rattle.hs_rules.specs.Subgoals.{left_replaced, right_replaced}
use Rattle.hs_sides.specs.declared.error.RuleError.{RuleError}
use Rattle.hs_sides.specs.Answers.{IsGiven}

-- this subgoal exactly where a condition holds and there is room for its new numbers
abbrev pub IsGivenInRoom : Type 0 → Goal → Result Goal RuleError → Type 0
IsGivenInRoom condition sub = IsGiven (condition × (sub.next ≤ 2 ^ 30)) sub

-- the subgoal of an unfolded left atom
abbrev pub unfolded : Defs → Goal → ℕ → Goal
unfolded defs g l = left_replaced g l (body_of defs (atom_at l (left_atoms g)).of)

-- the subgoal of a lemma used at a left atom
abbrev pub by_lemma : Defs → Goal → ℕ → ℕ → Goal
by_lemma defs g j l = left_replaced g l (body_or_none body_of_lemma (lemma_at defs j))

-- the subgoal of a right atom folded into a case of its predicate
abbrev pub folded : Defs → Goal → ℕ → ℕ → Goal
folded defs g r i = right_replaced g r i (body_of defs (atom_at r (right_atoms g)).of)
