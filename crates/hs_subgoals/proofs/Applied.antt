-- A rule applies where its condition holds and there is room.
use Rattle.std.proofs.Common.{◌≡◌, false, ◌≤◌, ◌^◌, List, [], ◌∷◌, Result, sym, subst}
use Rattle.std.specs.List.{All}
use Rattle.std.proofs.lemmas.List.Elements.{All-nil, All-cons, All-head, All-map}
use Rattle.hs_pure.specs.declared.pure.Pure.{Pure}
use Rattle.hs_pure.specs.declared.pure.Pure.TheVariants as pure_of
use Rattle.hs_heap.specs.declared.formula.Disjunct.{Disjunct}
use Rattle.hs_heap.specs.declared.definitions.Defs.{Defs}
use Rattle.hs_goal.specs.declared.goal.Goal.{Goal}
use Rattle.hs_goal.specs.declared.rule.ERule.{ERule}
use Rattle.hs_rules.specs.Parts.{only}
use Rattle.hs_rules.specs.Conditions.{HasCondition}
use Rattle.hs_rules.specs.Subgoals.{subgoals_of, one_each, with_conjunct}
use Rattle.hs_rules.specs.Rules.{Applies}
use Rattle.hs_sides.specs.declared.error.RuleError.{RuleError}
use Rattle.hs_sides.specs.Answers.{IsGiven}
use Rattle.hs_side_rules.specs.Splitting.{split_by}
use Rattle.hs_subgoals.specs.Answers.{AreSubgoals, IsOneOf}
use Rattle.hs_subgoals.proofs.Given.{given_as, one_given}

-- there is room for a subgoal's new numbers
abbrev pub HasRoom : Goal → Type 0
HasRoom sub = sub.next ≤ 2 ^ 30

-- subgoals that keep the goal's next have room
pub each_has_room : (g : Goal) → HasRoom g → (ds : List Disjunct) → All HasRoom (one_each g ds)
each_has_room g room ds = All-map HasRoom (λ (d : Disjunct). record g { left = only d; looked = false }) ds (λ i d less. room)

pub both_have_room : (g : Goal) → HasRoom g → (f : Pure) → All HasRoom (split_by g f)
both_have_room g room f = All-cons HasRoom (with_conjunct g f) (with_conjunct g (pure_of.Not f) ∷ []) room (All-cons HasRoom (with_conjunct g (pure_of.Not f)) [] room (All-nil HasRoom))

pub none_lacks_room : All HasRoom []
none_lacks_room = All-nil HasRoom

module _ (defs : Defs) (g : Goal) (rule : ERule) (r : Result (List Goal) RuleError) where
  -- all subgoals have room
  pub roomy_applies : All HasRoom (subgoals_of defs g rule) → IsGiven (HasCondition defs g rule) (subgoals_of defs g rule) r → AreSubgoals defs g rule r
  roomy_applies room = given_as (HasCondition defs g rule) (Applies defs g rule) (subgoals_of defs g rule) r (λ c. record { condition = c; room = room }) (λ a. a.condition)

  module _ (sub : Goal) (found : Result Goal RuleError) (is : subgoals_of defs g rule ≡ sub ∷ []) (one : IsOneOf found r) where
    abbrev InRoom : Type 0
    InRoom = HasCondition defs g rule × HasRoom sub

    -- the one subgoal may lack room
    pub one_applies : IsGiven InRoom sub found → AreSubgoals defs g rule r
    one_applies given =
        given_as InRoom (Applies defs g rule) (subgoals_of defs g rule) r
        (λ c. record { condition = c.0; room = subst (All HasRoom) (sym is) (All-cons HasRoom sub [] c.1 (All-nil HasRoom)) })
        (λ a. (a.condition, All-head HasRoom sub [] (subst (All HasRoom) is a.room)))
        (subst (λ subs. IsGiven InRoom subs r) (sym is) (one_given InRoom sub found r one given))

    -- the one subgoal has room
    pub kept_applies : HasRoom sub → IsGiven (HasCondition defs g rule) sub found → AreSubgoals defs g rule r
    kept_applies room given = one_applies (given_as (HasCondition defs g rule) InRoom sub found (λ c. (c, room)) (λ c. c.0) given)

  -- the rule is this one
  pub rule_is : (known : ERule) → known ≡ rule → AreSubgoals defs g known r → AreSubgoals defs g rule r
  rule_is known is = subst (λ k. AreSubgoals defs g k r) is
