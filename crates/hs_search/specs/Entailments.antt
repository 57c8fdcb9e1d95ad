-- The calculus of entailments: its trees and derivations are those that the search goes through.
use Rattle.std.specs.Prelude.{ℕ, ◌^◌, nat_le, Bool, ◌&&◌, if◌then◌else◌, List, [], map}
use Rattle.std.specs.List.{list_all}
use Rattle.hs_heap.specs.declared.definitions.Defs.{Defs}
use Rattle.hs_goal.specs.declared.goal.Goal.{Goal}
use Rattle.hs_goal.specs.declared.rule.ERule.{ERule}
use Rattle.hs_rules.specs.Subgoals.{subgoals_of}
use Rattle.hs_rules.specs.Residues.{residue_of}
use Rattle.hs_rules.specs.Questions.{question_of}
use Rattle.hs_erule.specs.declared.step.Proof.{Proof}
use Rattle.hs_steps.specs.Joined.{residue_shown, joined_by}
use Rattle.hs_calculus.specs.Calculus.{Calculus}
use Rattle.hs_choices.specs.Tests.{is_answered}
use Rattle.hs_choices.specs.Choices.{choices, is_paid}
use Rattle.hs_choices.specs.Weight.{weight}

-- whether there is room for the new numbers of the subgoals
abbrev pub has_room : Defs → Goal → ERule → Bool
has_room defs g rule = list_all (λ (sub : Goal). nat_le sub.next (2 ^ 30)) (subgoals_of defs g rule)

-- a choice without room stays a choice, without subgoals
abbrev pub subgoals_with_room : Defs → Goal → ERule → List Goal
subgoals_with_room defs g rule = if has_room defs g rule then subgoals_of defs g rule else []

-- and without derivation
abbrev pub holds : Defs → Goal → ERule → Bool
holds defs g rule = has_room defs g rule && is_answered (question_of defs g rule)

-- the proof by a rule, from one for each subgoal
abbrev pub proof_by : Goal → ERule → List Proof → Proof
proof_by g rule parts = joined_by g rule (residue_of g rule (map residue_shown parts)) parts

-- by the level of the approximation
abbrev pub entailments : Defs → ℕ → Calculus Goal ERule Proof
entailments defs level = record {
  choices = choices defs level;
  is_paid = is_paid;
  subgoals = subgoals_with_room defs;
  holds = holds defs;
  join = proof_by;
  size = weight;
}
