-- What the search of a calculus answers, as an answer to a goal.
use Rattle.std.proofs.Common.{◌≡◌, List, take, sym, subst}
use Rattle.std.specs.List.{All, AllByRecursion}
use Rattle.std.proofs.lemmas.List.Elements.{All-take, All-from_recursion}
use Rattle.hs_heap.specs.declared.definitions.Defs.{Defs}
use Rattle.hs_goal.specs.declared.goal.Goal.{Goal}
use Rattle.hs_goal.specs.declared.rule.Limits.{Limits}
use Rattle.hs_goal.specs.declared.rule.Obligation.{Obligation}
use Rattle.hs_erule.specs.declared.step.Proof.{Proof}
use Rattle.hs_calculus.specs.Blame.{IsAnswer}
use Rattle.hs_calculus.specs.declared.answer.Cause.TheVariants as found
use Rattle.hs_calculus.specs.declared.answer.Answer.{Answer}
use Rattle.hs_calculus.specs.declared.answer.Answer.TheVariants as answer
use Rattle.hs_calculus.proofs.Induct.{derivations_have}
use Rattle.hs_rules.specs.Laws.{SubgoalsAreWellFormed}
use Rattle.hs_steps.specs.Laws.{JoinedProofsAreProofs, ResidueIsShown}
use Rattle.hs_choices.specs.Asked.{IsRefuted}
use Rattle.hs_choices.specs.Laws.{ChoicesHaveConditions, QuestionsAreTold}
use Rattle.hs_choices.specs.Stuck.{IsStuck, IsSpentAt}
use Rattle.hs_choices.specs.declared.error.Spent.{Spent}
use Rattle.hs_choices.specs.declared.error.Spent.TheVariants as spent
use Rattle.hs_search.specs.Entailments.{entailments}
use Rattle.hs_search.specs.Answer.{derivations_of, IsSearchAnswer}
use Rattle.hs_search.specs.Sleek.{IsSleekGoal, answer_of}
use Rattle.hs_search.specs.Falling.{entailments_fall}
use Rattle.hs_search.proofs.Proofs.{Proves, kept, step_proves}

-- the answer of the search of the calculus at the limits
abbrev pub IsFound : Defs → Limits → Goal → Answer Proof Spent Obligation → Type 0
IsFound defs limits g =
    IsAnswer (entailments defs limits.level) (IsSpentAt defs limits.level limits.atoms) IsStuck (IsRefuted defs) limits.rank limits.goals limits.residues g

-- the laws of choices, of subgoals and of proofs
pub record Laws : Type 0 where
  pub conditions : ChoicesHaveConditions
  pub well_formed : SubgoalsAreWellFormed
  pub told : QuestionsAreTold
  pub joined : JoinedProofsAreProofs
  pub shown : ResidueIsShown

module _ (laws : Laws) (defs : Defs) (limits : Limits) (g : Goal) (is : IsSleekGoal defs limits g) where
  derivations_prove : AllByRecursion (Proves defs g) (derivations_of defs limits g)
  derivations_prove =
      derivations_have (entailments defs limits.level) (entailments_fall defs limits.level) (IsSleekGoal defs limits) (Proves defs)
      (kept laws.conditions defs limits laws.well_formed) (step_proves laws.conditions defs limits laws.told laws.joined laws.shown) limits.rank g is

  first_prove : (proofs : List Proof) → proofs ≡ take limits.residues (derivations_of defs limits g) → All (Proves defs g) proofs
  first_prove proofs e =
      subst (All (Proves defs g)) (sym e) (All-take (Proves defs g) limits.residues (derivations_of defs limits g) (All-from_recursion (Proves defs g) (derivations_of defs limits g) derivations_prove))

  pub answered : (a : Answer Proof Spent Obligation) → IsFound defs limits g a → IsSearchAnswer defs limits g (answer_of a)
  answered (answer.Valid proofs) h = record { first = h.0; some = h.1; right = first_prove proofs.items h.0 }
  answered (answer.Unknown found.Goals) h = h
  answered (answer.Unknown (found.Spent spent.Numbers)) h = h
  answered (answer.Unknown (found.Spent (spent.Atoms q))) h = h
  answered (answer.Unknown (found.Spent (spent.Wide q))) h = h
  answered (answer.Unknown found.Rank) h = h
  answered (answer.Unknown (found.Failed o)) h = h
