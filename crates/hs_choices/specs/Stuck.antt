-- Why nothing is tried at a goal, and where the search must stop.
use Rattle.std.specs.Prelude.{◌≡◌, ℕ, ◌≤◌, ◌^◌, ◌⊎◌, false, IsTrue, nat_le, if◌then◌else◌, List, [], ◌∷◌, Option, Some, None}
use Rattle.std.specs.List.{All, Contains}
use Rattle.hs_pure.specs.declared.var.Var.{Var}
use Rattle.hs_pure.specs.declared.pure.Pure.{Pure}
use Rattle.hs_pure.specs.Occurs.{is_free}
use Rattle.hs_heap.specs.declared.formula.Atom.{Atom}
use Rattle.hs_heap.specs.declared.definitions.Defs.{Defs}
use Rattle.hs_heap.specs.Meaning.{is_in}
use Rattle.hs_goal.specs.declared.goal.Goal.{Goal}
use Rattle.hs_goal.specs.declared.rule.ERule.{ERule}
use Rattle.hs_goal.specs.declared.rule.ERule.TheVariants as rule_of
use Rattle.hs_goal.specs.declared.rule.Question.{Question}
use Rattle.hs_goal.specs.declared.rule.Obligation.{Obligation}
use Rattle.hs_goal.specs.declared.rule.Obligation.TheVariants.{NotImplied, NoChoice, OpenRoot, OpenBag}
use Rattle.hs_goal.specs.Classes.{IsSimple}
use Rattle.hs_goal.specs.Shape.{GoalFits}
use Rattle.hs_rules.specs.Parts.{atom_at, conjunct_at, right_atoms, right_pure, has_open}
use Rattle.hs_rules.specs.Subgoals.{subgoals_of}
use Rattle.hs_rules.specs.Questions.{question_of}
use Rattle.hs_rules.specs.Rules.{TakesTooMany}
use Rattle.hs_erule.specs.Judged.{TakesMoreAtoms, IsWideQuestion}
use Rattle.hs_choices.specs.declared.error.Spent.{Spent}
use Rattle.hs_choices.specs.declared.error.Spent.TheVariants.{Numbers, Atoms, Wide}
use Rattle.hs_choices.specs.Places.{first_place}
use Rattle.hs_choices.specs.Tests.{is_known, is_mixed}
use Rattle.hs_choices.specs.Choices.{choices}

-- ---- no choice

-- no right atom has a root that is known, and the first one has the root v
pub record HasOpenRoot (g : Goal) (v : Var) : Type 0 where
  pub some : ¬ (right_atoms g ≡ [])
  pub none_known : first_place (is_known g) (right_atoms g) ≡ None
  pub root : v ≡ (atom_at 1 (right_atoms g)).root

-- a is the first right atom whose root is known
pub record IsTaken (g : Goal) (a : Atom) : Type 0 where
  pub place : ℕ
  pub first : first_place (is_known g) (right_atoms g) ≡ Some place
  pub atom : a ≡ atom_at place (right_atoms g)

-- the open variable of the least number that occurs free in a conjunct
pub record IsLeastOpen (opens : List Var) (p : Pure) (v : Var) : Type 0 where
  pub opened : IsTrue (is_in v opens)
  pub free : IsTrue (is_free v p)
  pub least : (w : Var) → IsTrue (is_in w opens) → IsTrue (is_free w p) → v.number ≤ w.number

-- the one of the lesser number
abbrev pub lesser : Option Var → Var → Var
lesser None v = v
lesser (Some w) v = if nat_le w.number v.number then w else v

-- v with the least one before it, where it occurs free
abbrev pub least_with : Pure → Option Var → Var → Option Var
least_with p o v = if is_free v p then Some (lesser o v) else o

-- the least open variable, if one occurs free
abbrev pub IsLeastOf : List Var → Pure → Option Var → Type 0
IsLeastOf opens p None = has_open opens p ≡ false
IsLeastOf opens p (Some v) = IsLeastOpen opens p v

-- v is the least open variable of the first right conjunct that has both open variables and bag literals
pub record HasOpenBag (g : Goal) (v : Var) : Type 0 where
  pub no_atoms : right_atoms g ≡ []
  pub place : ℕ
  pub first : first_place (is_mixed g.opens) (right_pure g) ≡ Some place
  pub variable : IsLeastOpen g.opens (conjunct_at place (right_pure g)) v

-- why nothing is tried at a goal
abbrev pub IsStuck : Goal → Obligation → Type 0
IsStuck g (NotImplied q v) = ⊥
IsStuck g (NoChoice a) = IsTaken g a
IsStuck g (OpenRoot v) = HasOpenRoot g v
IsStuck g (OpenBag v) = HasOpenBag g v

-- nothing is tried at a well-formed goal
pub record HasNoChoice (g : Goal) : Type 0 where
  pub defs : Defs
  pub level : ℕ
  pub shape : GoalFits defs g
  pub none : choices defs level g ≡ []

-- ---- spent goals

-- False is asked where the left side was not looked at, Empty where it is tried
abbrev pub AsksBy : Defs → ℕ → Goal → ERule → Type 0
AsksBy defs level g rule =
    ((rule ≡ rule_of.False level) × IsSimple g.left × (g.looked ≡ false)) ⊎ ((rule ≡ rule_of.Empty level) × (choices defs level g ≡ rule_of.Empty level ∷ []))

-- a question that is asked at a goal
abbrev pub IsAskedAt : Defs → ℕ → Goal → Question → Type 0
IsAskedAt defs level g q = (rule : ERule) × AsksBy defs level g rule × (question_of defs g rule ≡ Some q)

-- there is no room for the new numbers of a rule's subgoals
abbrev pub LacksRoom : Defs → Goal → ERule → Type 0
LacksRoom defs g rule = ¬ (All (λ (sub : Goal). sub.next ≤ 2 ^ 30) (subgoals_of defs g rule))

-- a rule that is tried lacks room, or a question that is asked takes too many new numbers
abbrev pub IsCrowded : Defs → ℕ → Goal → Type 0
IsCrowded defs level g =
    ((rule : ERule) × Contains (choices defs level g) rule × LacksRoom defs g rule) ⊎ ((rule : ERule) × AsksBy defs level g rule × TakesTooMany defs g rule)

-- what is used up at a goal
abbrev pub IsSpentAt : Defs → ℕ → ℕ → Goal → Spent → Type 0
IsSpentAt defs level atoms g Numbers = IsCrowded defs level g
IsSpentAt defs level atoms g (Atoms q) = IsAskedAt defs level g q × TakesMoreAtoms atoms q
IsSpentAt defs level atoms g (Wide q) = IsAskedAt defs level g q × IsWideQuestion q
