-- What the search answers.
use Rattle.std.specs.Prelude.{◌≡◌, ◌<◌, ◌≤◌, ◌^◌, List, [], take, length}
use Rattle.std.specs.List.{All}
use Rattle.hs_heap.specs.declared.definitions.Defs.{Defs}
use Rattle.hs_goal.specs.declared.goal.Goal.{Goal}
use Rattle.hs_goal.specs.declared.rule.Limits.{Limits}
use Rattle.hs_goal.specs.declared.rule.Obligation.{Obligation}
use Rattle.hs_goal.specs.declared.rule.Cause.{Cause}
use Rattle.hs_goal.specs.declared.rule.Cause.TheVariants.{Goals, Numbers, Atoms, Wide, Rank, Failed}
use Rattle.hs_erule.specs.declared.step.Proof.{Proof}
use Rattle.hs_steps.specs.Steps.{IsProofOf}
use Rattle.hs_steps.specs.Joined.{residue_shown}
use Rattle.hs_calculus.specs.Search.{derivations, places}
use Rattle.hs_calculus.specs.Progress.{AnyOf, IsCut}
use Rattle.hs_calculus.specs.declared.place.Place.{Place}
use Rattle.hs_calculus.specs.Blame.{HasNone, IsBlame}
use Rattle.hs_choices.specs.Asked.{IsRefuted}
use Rattle.hs_choices.specs.Stuck.{IsStuck, IsSpentAt}
use Rattle.hs_choices.specs.declared.error.Spent.{Spent}
use Rattle.hs_choices.specs.declared.error.Spent.TheVariants as spent
use Rattle.hs_search.specs.declared.answer.SleekAnswer.{SleekAnswer}
use Rattle.hs_search.specs.declared.answer.SleekAnswer.TheVariants.{Valid, Unknown}
use Rattle.hs_search.specs.Entailments.{entailments}

-- the limits are in their ranges
pub record LimitsFit (limits : Limits) : Type 0 where
  pub level : limits.level ≤ 3
  pub residues : 1 ≤ limits.residues
  pub atoms : limits.atoms ≤ 2 ^ 30

-- the derivations of a goal of at most the rank, in order
abbrev pub derivations_of : Defs → Limits → Goal → List Proof
derivations_of defs limits g = derivations (entailments defs limits.level) limits.rank g

-- the goals of the tree of a goal at the rank, by their places
abbrev pub tree_of : Defs → Limits → Goal → List (Place Goal)
tree_of defs limits g = places (entailments defs limits.level) limits.rank g

-- a question of the tree is spent, or the tree is crowded
abbrev pub IsSpentIn : Defs → Limits → Goal → Spent → Type 0
IsSpentIn defs limits g s = AnyOf (λ (p : Place Goal). IsSpentAt defs limits.level limits.atoms p.goal s) (tree_of defs limits g)

-- a goal of the tree that all the rank was used to reach has a choice that asks for more
abbrev pub IsCutOff : Defs → Limits → Goal → Type 0
IsCutOff defs limits g = AnyOf (IsCut (entailments defs limits.level)) (tree_of defs limits g)

-- no derivation has any rank
abbrev pub HasNoDerivation : Defs → Limits → Goal → Type 0
HasNoDerivation defs limits g = HasNone (entailments defs limits.level) g

-- what is to blame for a goal without derivation
abbrev pub IsToBlame : Defs → Limits → Goal → Obligation → Type 0
IsToBlame defs limits g o = IsBlame (entailments defs limits.level) IsStuck (IsRefuted defs) g o

abbrev pub IsCause : Defs → Limits → Goal → Cause → Type 0
IsCause defs limits g Goals = limits.goals < length (tree_of defs limits g)
IsCause defs limits g Numbers = IsSpentIn defs limits g spent.Numbers
IsCause defs limits g (Atoms q) = IsSpentIn defs limits g (spent.Atoms q)
IsCause defs limits g (Wide q) = IsSpentIn defs limits g (spent.Wide q)
IsCause defs limits g Rank = (derivations_of defs limits g ≡ []) × IsCutOff defs limits g
IsCause defs limits g (Failed o) = HasNoDerivation defs limits g × IsToBlame defs limits g o

-- the first derivations, and each is a proof of the goal with the residue that it shows
pub record AreProofs (defs : Defs) (limits : Limits) (g : Goal) (proofs : List Proof) : Type 0 where
  pub first : proofs ≡ take limits.residues (derivations_of defs limits g)
  pub some : ¬ (proofs ≡ [])
  pub right : All (λ (p : Proof). IsProofOf defs g (residue_shown p) p) proofs

abbrev pub IsSearchAnswer : Defs → Limits → Goal → SleekAnswer → Type 0
IsSearchAnswer defs limits g (Valid proofs) = AreProofs defs limits g proofs
IsSearchAnswer defs limits g (Unknown cause) = IsCause defs limits g cause
