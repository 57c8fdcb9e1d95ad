-- What is answered of every rule.
use Rattle.std.specs.Prelude.{◌≡◌, List, [], ◌∷◌, Result, Ok, Err}
use Rattle.hs_heap.specs.declared.definitions.Defs.{Defs}
use Rattle.hs_goal.specs.declared.goal.Goal.{Goal}
use Rattle.hs_goal.specs.declared.rule.ERule.{ERule}
use Rattle.hs_rules.specs.Subgoals.{subgoals_of}
use Rattle.hs_rules.specs.Rules.{Applies}
use Rattle.hs_sides.specs.declared.error.RuleError.{RuleError}
use Rattle.hs_sides.specs.declared.error.RuleError.TheVariants.{Memory}
use Rattle.hs_sides.specs.Answers.{IsGiven}

-- the subgoals of a rule exactly where it applies
abbrev pub AreSubgoals : Defs → Goal → ERule → Result (List Goal) RuleError → Type 0
AreSubgoals defs g rule = IsGiven (Applies defs g rule) (subgoals_of defs g rule)

-- a list of the one subgoal that was found, if memory suffices
abbrev pub IsOneOf : Result Goal RuleError → Result (List Goal) RuleError → Type 0
IsOneOf (Ok sub) (Ok subs) = subs ≡ sub ∷ []
IsOneOf (Ok sub) (Err e) = e ≡ Memory
IsOneOf (Err e) (Ok subs) = ⊥
IsOneOf (Err e) (Err f) = f ≡ e
