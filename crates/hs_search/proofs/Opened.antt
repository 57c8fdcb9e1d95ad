-- What opening a choice finds.
use Rattle.std.proofs.Common.{◌≡◌, suc, true, List, [], ◌∷◌, length, map, refl, sym, ap, ◌∙◌, subst, inl}
use Rattle.std.specs.List.{AllByRecursion, AllZip, Contains}
use Rattle.std.proofs.lemmas.Bool.{and_from}
use Rattle.std.proofs.lemmas.List.{length-map}
use Rattle.std.proofs.lemmas.List.Elements.{All-contains, recursion_from_All}
use Rattle.hs_heap.specs.declared.formula.Formula.{Formula}
use Rattle.hs_heap.specs.declared.definitions.Defs.{Defs}
use Rattle.hs_goal.specs.declared.goal.Goal.{Goal}
use Rattle.hs_goal.specs.declared.rule.ERule.{ERule}
use Rattle.hs_goal.specs.declared.rule.Limits.{Limits}
use Rattle.hs_rules.specs.Subgoals.{subgoals_of}
use Rattle.hs_rules.specs.Questions.{question_of}
use Rattle.hs_rules.specs.Rules.{Applies}
use Rattle.hs_rules.specs.Laws.{SubgoalsAreWellFormed}
use Rattle.hs_question.specs.Steps.{HasResidue}
use Rattle.hs_erule.specs.declared.step.Proof.{Proof}
use Rattle.hs_steps.specs.Joined.{residue_shown}
use Rattle.hs_calculus.specs.Search.{IsDerivation, MayJoin}
use Rattle.hs_calculus.specs.Progress.{Halts}
use Rattle.hs_calculus.specs.declared.calculus.Stop.{Stop}
use Rattle.hs_choices.specs.Asked.{UsesUp, IfSpent}
use Rattle.hs_choices.specs.Stuck.{IsCrowded, IsSpentAt}
use Rattle.hs_choices.specs.Tests.{is_answered}
use Rattle.hs_choices.specs.Choices.{choices}
use Rattle.hs_choices.specs.Laws.{ChoicesHaveConditions, ChoicesUseUp}
use Rattle.hs_choices.specs.declared.error.Spent.{Spent}
use Rattle.hs_choices.specs.declared.error.AskError.{AskError}
use Rattle.hs_choices.specs.declared.error.AskError.TheVariants as error
use Rattle.hs_search.specs.Entailments.{entailments, holds, subgoals_with_room}
use Rattle.hs_search.specs.Sleek.{IsSleekGoal, stop_of}
use Rattle.hs_search.proofs.Rooms.{holds_parts, room_from, room_to, with_room}
use Rattle.hs_search.proofs.Proofs.{choice_applies, subgoals_are_goals}

zip_length : {X Y : Type 0} (P : X → Y → Type 0) (xs : List X) (ys : List Y) → AllZip P xs ys → length xs ≡ length ys
zip_length P [] [] h = refl
zip_length P [] (y ∷ ys) h = absurd h
zip_length P (x ∷ xs) [] h = absurd h
zip_length P (x ∷ xs) (y ∷ ys) h = ap suc (zip_length P xs ys h.1)

-- what is joined has a residue
pub has_residue : ChoicesHaveConditions → (defs : Defs) (limits : Limits) (g : Goal) (rule : ERule) (parts : List Proof) (rests : List Formula)
    → MayJoin (entailments defs limits.level) (IsSleekGoal defs limits) g rule parts → rests ≡ map residue_shown parts → HasResidue g rule rests
has_residue conditions defs limits g rule parts rests m e =
    let room = (holds_parts defs g rule m.holds).0 in
    record {
      defs = defs;
      sound = m.goal_is.sound;
      shape = m.goal_is.fits;
      applies = choice_applies conditions defs limits g rule m.goal_is m.choice (room_from defs g rule room);
      one_each = ap length e ∙ length-map parts residue_shown ∙ sym (zip_length (IsDerivation (entailments defs limits.level)) (subgoals_with_room defs g rule) parts m.parts_are)
          ∙ ap length (with_room defs g rule room);
    }

module _ (defs : Defs) (limits : Limits) (g : Goal) (rule : ERule) (choice : Contains (choices defs limits.level g) rule) where
  -- a choice that does not apply has no room
  pub crowded : ChoicesHaveConditions → IsSleekGoal defs limits g → ¬ (Applies defs g rule) → IsCrowded defs limits.level g
  crowded conditions is not_there = inl (rule, choice, λ room. not_there (choice_applies conditions defs limits g rule is choice room))

  -- the subgoals of a choice whose question is true
  pub opened : ChoicesHaveConditions → SubgoalsAreWellFormed → IsSleekGoal defs limits g → (goals found : List Goal)
      → Applies defs g rule × (goals ≡ subgoals_of defs g rule) → is_answered (question_of defs g rule) ≡ true → found ≡ goals
      → (holds defs g rule ≡ true) × (found ≡ subgoals_with_room defs g rule) × AllByRecursion (IsSleekGoal defs limits) found
  opened conditions well_formed is goals found given answered same =
      let room = room_to defs g rule given.0.room in
      let all : found ≡ subgoals_of defs g rule = same ∙ given.1 in (
        and_from _ _ room answered,
        all ∙ sym (with_room defs g rule room),
        subst (AllByRecursion (IsSleekGoal defs limits)) (sym all)
            (recursion_from_All (IsSleekGoal defs limits) (subgoals_of defs g rule) (subgoals_are_goals conditions defs limits well_formed g rule is choice given.0)),
      )

  -- what the question of a choice uses up stops the search
  pub halted : ChoicesUseUp → (e : AskError) (stop : Stop Spent) → stop ≡ stop_of e → IfSpent (UsesUp defs g rule limits.atoms) e → Halts (IsSpentAt defs limits.level limits.atoms) g stop
  halted law (error.Spent s) stop is used =
      subst (Halts (IsSpentAt defs limits.level limits.atoms) g) (sym is)
      (All-contains (λ (rule : ERule). (s : Spent) → UsesUp defs g rule limits.atoms s → IsSpentAt defs limits.level limits.atoms g s) (choices defs limits.level g) rule
      (law defs limits.level limits.atoms g) choice s used)
  halted law error.Memory stop is used = subst (Halts (IsSpentAt defs limits.level limits.atoms) g) (sym is) tt
