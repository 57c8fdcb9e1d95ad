-- What the steps of a search find out.
use Rattle.std.specs.Prelude.{◌≡◌, ◌+◌, true, false, Some, None, List, [], ◌∷◌, ◌++◌, length}
use Rattle.std.specs.List.{AllByRecursion}
use Rattle.hs_calculus.specs.Calculus.{Calculus}
use Rattle.hs_calculus.specs.Search.{rank_after, IsDerivation}
use Rattle.hs_calculus.specs.declared.place.Place.{Place}
use Rattle.hs_calculus.specs.declared.budget.Budget.{Budget}
use Rattle.hs_calculus.specs.declared.calculus.Premises.{Premises}
use Rattle.hs_calculus.specs.declared.calculus.Premises.TheVariants as premises
use Rattle.hs_calculus.specs.declared.forced.Below.{Below}
use Rattle.hs_calculus.specs.declared.forced.Below.TheVariants as below
use Rattle.hs_calculus.specs.declared.forced.Fork.{Fork}
use Rattle.hs_calculus.specs.declared.forced.Fork.TheVariants as fork
use Rattle.hs_calculus.specs.declared.forced.Next.{Next}
use Rattle.hs_calculus.specs.declared.forced.Next.TheVariants as next
use Rattle.hs_calculus.specs.declared.forced.Descent.{Descent}

module _ {G R P O : Type 0} (c : Calculus G R P) (is_goal : G → Type 0) (is_refuted : G → R → O → Type 0) where
  -- the subgoals of a choice whose question is true, or what shows that it is false
  abbrev pub ArePremises : G → R → Premises G O → Type 0
  ArePremises goal rule (premises.Goals goals) =
      (c.holds goal rule ≡ true) × (goals.items ≡ c.subgoals goal rule) × AllByRecursion is_goal goals.items
  ArePremises goal rule (premises.Refuted o) = (c.holds goal rule ≡ false) × is_refuted goal rule o

  -- what is below a place by a choice
  abbrev pub IsBelow : Place G → R → Below G O → Type 0
  IsBelow place rule below.Cut = rank_after (c.is_paid rule) place.rank ≡ None
  IsBelow place rule (below.Refuted o) = (c.holds place.goal rule ≡ false) × is_refuted place.goal rule o
  IsBelow place rule (below.Goals goals left) =
      (rank_after (c.is_paid rule) place.rank ≡ Some left)
      × (c.holds place.goal rule ≡ true) × (goals.items ≡ c.subgoals place.goal rule) × AllByRecursion is_goal goals.items

  -- the same of the first of these choices
  abbrev pub IsBelowFirst : Place G → List R → Below G O → Type 0
  IsBelowFirst place [] b = ⊥
  IsBelowFirst place (rule ∷ rules) b = IsBelow place rule b

-- a place with one choice, which leads to one subgoal
pub record IsForced {G R P : Type 0} (c : Calculus G R P) (is_goal : G → Type 0) (place : Place G) (rule : R) (next : Place G) : Type 0 where
  pub goal_is : is_goal place.goal
  pub choice : c.choices place.goal ≡ rule ∷ []
  pub subgoal : c.subgoals place.goal rule ≡ next.goal ∷ []
  pub holds : c.holds place.goal rule ≡ true
  pub rank_is : rank_after (c.is_paid rule) place.rank ≡ Some next.rank

-- forced steps that lead from a place to a place
pub data Leads {G R P : Type 0} (c : Calculus G R P) (is_goal : G → Type 0) (first : Place G) : List (G × R) → Place G → Type 0 where
  Here : {trail : List (G × R)} {last : Place G} → trail ≡ [] → last ≡ first → Leads c is_goal first trail last
  Then : {trail : List (G × R)} {last : Place G} (before : List (G × R)) (place : Place G) (rule : R)
      → Leads c is_goal first before place → IsForced c is_goal place rule last
      → trail ≡ before ++ (place.goal, rule) ∷ [] → Leads c is_goal first trail last

-- a derivation of the last goal, joined along the trail
abbrev pub along : {G R P : Type 0} → Calculus G R P → List (G × R) → P → P
along c [] proof = proof
along c (step ∷ trail) proof = c.join step.0 step.1 (along c trail proof ∷ [])

-- derivations of the goal that a trail leads to
pub record AreAlong {G R P : Type 0} (c : Calculus G R P) (is_goal : G → Type 0) (trail : List (G × R)) (proofs : List P) : Type 0 where
  pub first : Place G
  pub last : Place G
  pub leads : Leads c is_goal first trail last
  pub derived : AllByRecursion (IsDerivation c last.goal) proofs

module _ {G R P O : Type 0} (c : Calculus G R P) (is_goal : G → Type 0) (is_stuck : G → O → Type 0) (is_refuted : G → R → O → Type 0) where
  -- the choices of a place, where the first was looked at, or why there is none
  abbrev pub IsFork : Place G → Fork G R O → Type 0
  IsFork place (fork.Stuck o) = (c.choices place.goal ≡ []) × is_stuck place.goal o
  IsFork place (fork.Choices rules b) = (rules.items ≡ c.choices place.goal) × IsBelowFirst c is_goal is_refuted place rules.items b

  -- what the next step from a place is
  abbrev pub IsNext : Place G → Next G R O → Type 0
  IsNext place (next.Forced rule to) = IsForced c is_goal place rule to × is_goal to.goal
  IsNext place (next.Fork f) = IsFork place f

  -- forced steps down to a place where there are none; each place is counted
  pub record IsDescent (place : Place G) (old new : Budget) (d : Descent G R O) : Type 0 where
    pub leads : Leads c is_goal place d.trail.items d.place
    pub goal_is : is_goal d.place.goal
    pub counted : old.left ≡ new.left + 1 + length d.trail.items
    pub cut : new.is_cut ≡ old.is_cut
    pub fork_is : IsFork d.place d.fork
