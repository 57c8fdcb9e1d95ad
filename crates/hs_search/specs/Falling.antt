-- The weight of a goal falls at each choice that is not paid: a lemma that the calculus of entailments is made with.
use Rattle.std.specs.Prelude.{◌≡◌, ◌<◌, ℕ, Bool, true, false, if◌then◌else◌, List, []}
use Rattle.std.specs.List.{All, AllByRecursion}
use Rattle.std.proofs.lemmas.List.Elements.{recursion_from_All, All-weaker}
use Rattle.hs_heap.specs.declared.definitions.Defs.{Defs}
use Rattle.hs_goal.specs.declared.goal.Goal.{Goal}
use Rattle.hs_goal.specs.declared.rule.ERule.{ERule}
use Rattle.hs_rules.specs.Subgoals.{subgoals_of}
use Rattle.hs_calculus.specs.Calculus.{Falls}
use Rattle.hs_choices.specs.Choices.{choices, is_paid}
use Rattle.hs_choices.specs.Weight.{weight}
use Rattle.hs_side_rules.proofs.Valued.{equation_told}
use Rattle.hs_choices.proofs.Lighter.{choices_are_lighter}
use Rattle.hs_search.specs.Entailments.{entailments, has_room, subgoals_with_room}

module _ (defs : Defs) (level : ℕ) (g : Goal) where
  abbrev Lighter : List Goal → Type 0
  Lighter subs = AllByRecursion (λ (s : Goal). weight s < weight g) subs

  some_lighter : (b : Bool) (subs : List Goal) → Lighter subs → Lighter (if b then subs else [])
  some_lighter true subs h = h
  some_lighter false subs h = tt

  rule_falls : (rule : ERule) → (is_paid rule ≡ false → All (λ (s : Goal). weight s < weight g) (subgoals_of defs g rule))
      → is_paid rule ≡ false → Lighter (subgoals_with_room defs g rule)
  rule_falls rule h free =
      some_lighter (has_room defs g rule) (subgoals_of defs g rule) (recursion_from_All (λ (s : Goal). weight s < weight g) (subgoals_of defs g rule) (h free))

  all_fall : AllByRecursion (λ (rule : ERule). is_paid rule ≡ false → Lighter (subgoals_with_room defs g rule)) (choices defs level g)
  all_fall =
      recursion_from_All (λ (rule : ERule). is_paid rule ≡ false → Lighter (subgoals_with_room defs g rule)) (choices defs level g)
      (All-weaker (λ (rule : ERule). is_paid rule ≡ false → All (λ (s : Goal). weight s < weight g) (subgoals_of defs g rule))
      (λ (rule : ERule). is_paid rule ≡ false → Lighter (subgoals_with_room defs g rule)) rule_falls (choices defs level g) (choices_are_lighter equation_told defs level g))

pub entailments_fall : (defs : Defs) (level : ℕ) → Falls (entailments defs level)
entailments_fall defs level g = all_fall defs level g
