-- What is given where a condition holds.
use Rattle.std.proofs.Common.{List, [], ◌∷◌, Result, Ok, Err, ap, ◌∙◌}
use Rattle.hs_goal.specs.declared.goal.Goal.{Goal}
use Rattle.hs_sides.specs.declared.error.RuleError.{RuleError}
use Rattle.hs_sides.specs.declared.error.RuleError.TheVariants.{NotApplicable, Memory}
use Rattle.hs_sides.specs.Answers.{IsGiven}
use Rattle.hs_subgoals.specs.Answers.{IsOneOf}

-- exactly where an equivalent condition holds
pub given_as : {A : Type 0} (C D : Type 0) (x : A) (r : Result A RuleError) → (C → D) → (D → C) → IsGiven C x r → IsGiven D x r
given_as C D x (Ok y) to from given = (to given.0, given.1)
given_as C D x (Err NotApplicable) to from given = λ d. given (from d)
given_as C D x (Err Memory) to from given = tt

-- a list of the one subgoal
pub one_given : (C : Type 0) (sub : Goal) (found : Result Goal RuleError) (r : Result (List Goal) RuleError) →
    IsOneOf found r → IsGiven C sub found → IsGiven C (sub ∷ []) r
one_given C sub (Ok s) (Ok subs) one given = (given.0, one ∙ ap (λ (k : Goal). k ∷ []) given.1)
one_given C sub (Ok s) (Err NotApplicable) one given = absurd cc
one_given C sub (Ok s) (Err Memory) one given = tt
one_given C sub (Err e) (Ok subs) one given = absurd one
one_given C sub (Err NotApplicable) (Err NotApplicable) one given = given
one_given C sub (Err NotApplicable) (Err Memory) one given = tt
one_given C sub (Err Memory) (Err NotApplicable) one given = absurd cc
one_given C sub (Err Memory) (Err Memory) one given = tt
