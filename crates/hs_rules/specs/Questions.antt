-- The question of a rule.
use Rattle.std.specs.Prelude.{ℕ, nat_le, not, if◌then◌else◌, List, [], ◌∷◌, ◌++◌, filter, Option, Some, None}
use Rattle.std.specs.List.{list_any}
use Rattle.hs_pure.specs.declared.var.Var.{Var}
use Rattle.hs_pure.specs.declared.pure.Pure.{Pure}
use Rattle.hs_pure.specs.declared.pure.Pure.TheVariants as pure_of
use Rattle.hs_pure.specs.Stack.{Stack}
use Rattle.hs_pure.specs.Truth.{TrueAt}
use Rattle.hs_pure.specs.Occurs.{is_free}
use Rattle.hs_heap.specs.declared.definitions.Defs.{Defs}
use Rattle.hs_xpure.specs.Approximation.{conjunction, approximation_of}
use Rattle.hs_goal.specs.declared.goal.Goal.{Goal}
use Rattle.hs_goal.specs.declared.rule.Question.{Question}
use Rattle.hs_goal.specs.declared.rule.ERule.{ERule}
use Rattle.hs_goal.specs.declared.rule.ERule.TheVariants as rule_of
use Rattle.hs_rules.specs.Parts.{left_atoms, left_pure, right_pure, has_open}

-- ---- the left side

-- what the used atoms and the left side say of numbers and bags
abbrev pub known : Defs → Goal → ℕ → Pure
known defs g level = conjunction (approximation_of defs level (g.used ++ left_atoms g) g.next ++ left_pure g)

-- ---- the right side

-- v in its place in a list of rising numbers
abbrev pub put_in_order : Var → List Var → List Var
put_in_order v [] = v ∷ []
put_in_order v (w ∷ ws) = if nat_le v.number w.number then v ∷ w ∷ ws else w ∷ put_in_order v ws

-- by rising number
abbrev pub in_order : List Var → List Var
in_order [] = []
in_order (v ∷ vs) = put_in_order v (in_order vs)

-- for some values of the variables, the first outermost
abbrev pub for_some : List Var → Pure → Pure
for_some [] p = p
for_some (v ∷ vs) p = pure_of.Exists v (for_some vs p)

-- the conjuncts without open variables, and those with
abbrev pub closed_of : List Var → List Pure → List Pure
closed_of opens ps = filter (λ p. not (has_open opens p)) ps

abbrev pub others_of : List Var → List Pure → List Pure
others_of opens ps = filter (has_open opens) ps

-- the open variables that occur free in one of these
abbrev pub open_in : List Var → List Pure → List Var
open_in opens ps = filter (λ v. list_any (is_free v) ps) opens

-- those that have open variables, for some values of these
abbrev pub for_open : List Var → List Pure → List Pure
for_open opens [] = []
for_open opens (p ∷ ps) = for_some (in_order (open_in opens (p ∷ ps))) (conjunction (p ∷ ps)) ∷ []

-- what the right side asks of numbers and bags
abbrev pub asked : Goal → Pure
asked g = conjunction (closed_of g.opens (right_pure g) ++ for_open g.opens (others_of g.opens (right_pure g)))

-- ---- the column

abbrev pub question_of : Defs → Goal → ERule → Option Question
question_of defs g (rule_of.False n) = Some (record { left = known defs g n; right = pure_of.Or [] })
question_of defs g (rule_of.Empty n) = Some (record { left = known defs g n; right = asked g })
question_of defs g rule_of.LeftOr = None
question_of defs g rule_of.LeftExists = None
question_of defs g (rule_of.Split f) = None
question_of defs g (rule_of.RightOr i) = None
question_of defs g rule_of.RightExists = None
question_of defs g (rule_of.Instantiate c) = None
question_of defs g (rule_of.Match r l) = None
question_of defs g (rule_of.Unfold l) = None
question_of defs g (rule_of.Fold r i) = None
question_of defs g (rule_of.Lemma j l) = None

-- the left side implies the right side at every stack
abbrev pub IsTrueQuestion : Question → Type 0
IsTrueQuestion q = (s : Stack) → TrueAt s q.left → TrueAt s q.right

-- a question, if there is one, is true
abbrev pub IsAnswered : Option Question → Type 0
IsAnswered None = Unit {0}
IsAnswered (Some q) = IsTrueQuestion q
