-- What holds where nothing is tried, and where there is no right atom.
use Rattle.std.proofs.Common.{◌≡◌, ℕ, ◌<◌, Bool, true, false, inl, inr, not, ◌&&◌, List, [], ◌∷◌, length, map, Option, Some, None, refl, sym, ap, ◌∙◌, subst, arith, if◌then◌else◌}
use Rattle.std.specs.List.{list_any, list_all}
use Rattle.hs_pure.specs.Occurs.{has_bags}
use Rattle.hs_heap.specs.declared.formula.Disjunct.{Disjunct}
use Rattle.hs_heap.proofs.Booleans.{bool_cases}
use Rattle.hs_goal.specs.declared.goal.Goal.{Goal}
use Rattle.hs_goal.specs.declared.rule.ERule.{ERule}
use Rattle.hs_goal.specs.declared.rule.ERule.TheVariants as rule_of
use Rattle.hs_goal.specs.Closed.{is_nil}
use Rattle.hs_rules.specs.Parts.{has_open, right_atoms, right_pure}
use Rattle.hs_side_rules.specs.Solving.{is_equation}
use Rattle.hs_choices.specs.Places.{all_places, first_place}
use Rattle.hs_choices.specs.Tests.{has_one_case, binds, is_mixed}
use Rattle.hs_choices.specs.Choices.{by_atoms, by_empty, by_equation, is_contradictory, by_right, choices}
use Rattle.hs_choices.specs.Stuck.{HasNoChoice}

any_all : {X : Type 0} (test : X → Bool) (xs : List X) → list_all (λ x. not (test x)) xs ≡ not (list_any test xs)
any_all test [] = refl
any_all test (x ∷ xs) = elim (bool_cases (test x)) [ inl is ↦ rw is refl | inr isnt ↦ rw isnt (any_all test xs) ]

-- ---- without right atoms

not_true : (b : Bool) → not b ≡ true → b ≡ false
not_true true e = sym e
not_true false e = refl

not_false : (b : Bool) → not b ≡ false → b ≡ true
not_false true e = refl
not_false false e = sym e

-- no right conjunct has both open variables and bag literals
abbrev IsApart : Goal → Bool
IsApart g = list_all (λ p. not (has_open g.opens p && has_bags p)) (right_pure g)

pub empty_apart : (level : ℕ) (g : Goal) → IsApart g ≡ true → by_empty level g ≡ rule_of.Empty level ∷ []
unfolding by_empty
empty_apart level g e = let none = not_true (list_any (is_mixed g.opens) (right_pure g)) (sym (any_all (is_mixed g.opens) (right_pure g)) ∙ e) in rw none refl

pub empty_mixed : (level : ℕ) (g : Goal) → IsApart g ≡ false → by_empty level g ≡ []
unfolding by_empty
empty_mixed level g e = let some = not_false (list_any (is_mixed g.opens) (right_pure g)) (sym (any_all (is_mixed g.opens) (right_pure g)) ∙ e) in rw some refl

-- ---- nothing is tried

-- what is not the first case is the other
other : (b : Bool) (xs ys : List ERule) → ¬ (xs ≡ []) → (if b then xs else ys) ≡ [] → ys ≡ []
other true xs ys some e = absurd (some e)
other false xs ys some e = e

one_some : (rule : ERule) → ¬ (rule ∷ [] ≡ [])
one_some rule e = absurd cc

cases_some : (ds : List Disjunct) → ¬ (ds ≡ []) → ¬ (map (λ i. rule_of.RightOr i) (all_places ds) ≡ [])
cases_some [] some e = some refl
cases_some (d ∷ ds) some e = absurd cc

mixed_then : (b : Bool) (rule : ERule) → (if b then [] else rule ∷ []) ≡ [] → b ≡ true
mixed_then true rule e = refl
mixed_then false rule e = absurd cc

module _ (g : Goal) (stuck : HasNoChoice g) where
  none_right : by_right stuck.defs stuck.level g ≡ []
  unfolding choices
  none_right =
      other (is_contradictory stuck.defs stuck.level g) (rule_of.False stuck.level ∷ []) (by_right stuck.defs stuck.level g) (one_some (rule_of.False stuck.level))
      (other (binds g.left) (rule_of.LeftExists ∷ []) _ (one_some rule_of.LeftExists)
      (other (not (has_one_case g.left)) (rule_of.LeftOr ∷ []) _ (one_some rule_of.LeftOr) stuck.none))

  none_parts : by_equation stuck.defs stuck.level g (first_place (is_equation g.opens) (right_pure g)) ≡ []
  unfolding by_right
  none_parts =
      other (binds g.right) (rule_of.RightExists ∷ []) _ (one_some rule_of.RightExists)
      (other (not (has_one_case g.right)) (map (λ i. rule_of.RightOr i) (all_places g.right.cases)) _ (cases_some g.right.cases stuck.shape.some) none_right)

  none_empty : (o : Option ℕ) → right_atoms g ≡ [] → by_equation stuck.defs stuck.level g o ≡ [] → by_empty stuck.level g ≡ []
  none_empty (Some c) none e = absurd cc
  none_empty None none e = subst (λ b. (if b then by_empty stuck.level g else by_atoms stuck.defs g) ≡ []) (ap is_nil none) e

  -- without right atoms some conjunct has both open variables and bag literals
  pub some_mixed : right_atoms g ≡ [] → list_any (is_mixed g.opens) (right_pure g) ≡ true
  unfolding by_empty
  some_mixed none = mixed_then (list_any (is_mixed g.opens) (right_pure g)) (rule_of.Empty stuck.level) (none_empty (first_place (is_equation g.opens) (right_pure g)) none none_parts)

pub none_long : {X : Type 0} (xs : List X) → length xs < 1 → xs ≡ []
none_long [] less = refl
none_long (x ∷ xs) less = absurd (omega arith)
