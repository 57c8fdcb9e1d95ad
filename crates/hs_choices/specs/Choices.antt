-- The rules that are tried at a goal, in order.
use Rattle.std.specs.Prelude.{ℕ, Bool, true, false, not, ◌&&◌, ◌||◌, if◌then◌else◌, List, [], ◌∷◌, ◌++◌, map, Option, Some, None}
use Rattle.std.specs.List.{list_any, flat_map}
use Rattle.hs_heap.specs.declared.formula.Of.{Of}
use Rattle.hs_heap.specs.declared.formula.Of.TheVariants.{Pred}
use Rattle.hs_heap.specs.declared.formula.Atom.{Atom}
use Rattle.hs_heap.specs.declared.formula.Disjunct.{Disjunct}
use Rattle.hs_heap.specs.declared.definitions.Lemma.{Lemma}
use Rattle.hs_heap.specs.declared.definitions.Defs.{Defs}
use Rattle.hs_heap.specs.Instance.{body_of}
use Rattle.hs_goal.specs.declared.goal.Goal.{Goal}
use Rattle.hs_goal.specs.declared.rule.ERule.{ERule}
use Rattle.hs_goal.specs.declared.rule.ERule.TheVariants as rule_of
use Rattle.hs_goal.specs.Closed.{is_nil}
use Rattle.hs_rules.specs.Parts.{atom_at, left_atoms, right_atoms, right_pure}
use Rattle.hs_rules.specs.Questions.{question_of}
use Rattle.hs_side_rules.specs.Solving.{is_equation}
use Rattle.hs_choices.specs.Places.{places_of, all_places, first_place}
use Rattle.hs_choices.specs.Tests.{has_one_case, binds, is_mixed, is_pred, same_name, has_at_self, in_class, is_known, is_answered}

-- ---- at a right atom b, whose place is r

-- a left atom of its name and its class
unfoldable pub matches_it : Goal → Atom → Atom → Bool
matches_it g b a = same_name a.of b.of && in_class g a b

-- a left predicate of another name and its class
unfoldable pub may_show_it : Goal → Atom → Atom → Bool
may_show_it g b a = is_pred a.of && (not (same_name a.of b.of) && in_class g a b)

-- a lemma of a name, with an atom at `self` of another name on its right side
unfoldable pub leads_to : Of → Of → Lemma → Bool
leads_to from to l = same_name from (Pred l.pred) && has_at_self to l.right.atoms

-- a left data atom of its class that has the name of an atom at `self`
unfoldable pub shows : Goal → Atom → List Atom → Atom → Bool
shows g b atoms a = not (is_pred a.of) && (in_class g a b && has_at_self a.of atoms)

-- a case without atoms, or with one at `self` that a left data atom shows
unfoldable pub may_hold : Goal → Atom → Disjunct → Bool
may_hold g b d = is_nil d.atoms || list_any (shows g b d.atoms) (left_atoms g)

-- each left atom that matches it
abbrev pub matches : Goal → ℕ → Atom → List ERule
matches g r b = map (λ l. rule_of.Match r l) (places_of (matches_it g b) (left_atoms g))

-- each left predicate that may have it in its body
abbrev pub unfolds : Goal → Atom → List ERule
unfolds g b = map (λ l. rule_of.Unfold l) (places_of (may_show_it g b) (left_atoms g))

-- at a left atom a, whose place is l, each lemma that leads to it
abbrev pub lemmas_at : Defs → Atom → ℕ → Atom → List ERule
lemmas_at defs b l a = map (λ j. rule_of.Lemma j l) (places_of (leads_to a.of b.of) defs.lemmas)

-- by left atom of its class, and then by lemma
abbrev pub lemma_steps : Defs → Goal → Atom → List ERule
lemma_steps defs g b = flat_map (λ l. lemmas_at defs b l (atom_at l (left_atoms g))) (places_of (λ a. in_class g a b) (left_atoms g))

-- each case of its predicate that may hold; a data type has no case
abbrev pub folds : Defs → Goal → ℕ → Atom → List ERule
folds defs g r b = map (λ i. rule_of.Fold r i) (places_of (may_hold g b) (body_of defs b.of).formula.cases)

abbrev pub by_atom : Defs → Goal → ℕ → Atom → List ERule
by_atom defs g r b = matches g r b ++ unfolds g b ++ lemma_steps defs g b ++ folds defs g r b

-- ---- at a simple goal

-- what is tried at a place, if there is one
abbrev pub by_place : (ℕ → List ERule) → Option ℕ → List ERule
by_place rules None = []
by_place rules (Some n) = rules n

-- the first right atom whose root is known is taken
unfoldable pub by_atoms : Defs → Goal → List ERule
by_atoms defs g = by_place (λ r. by_atom defs g r (atom_at r (right_atoms g))) (first_place (is_known g) (right_atoms g))

-- without right atoms
unfoldable pub by_empty : ℕ → Goal → List ERule
by_empty level g = if list_any (is_mixed g.opens) (right_pure g) then [] else rule_of.Empty level ∷ []

-- the first right conjunct that gives an open variable its value, else the right atoms
abbrev pub by_equation : Defs → ℕ → Goal → Option ℕ → List ERule
by_equation defs level g (Some c) = rule_of.Instantiate c ∷ []
by_equation defs level g None = if is_nil (right_atoms g) then by_empty level g else by_atoms defs g

-- ---- at a goal

-- whether the left side was not looked at and contradicts itself
unfoldable pub is_contradictory : Defs → ℕ → Goal → Bool
is_contradictory defs level g = not g.looked && is_answered (question_of defs g (rule_of.False level))

-- by the right side
unfoldable pub by_right : Defs → ℕ → Goal → List ERule
by_right defs level g =
    if not (has_one_case g.right) then map (λ i. rule_of.RightOr i) (all_places g.right.cases) else
    if binds g.right then rule_of.RightExists ∷ [] else
    by_equation defs level g (first_place (is_equation g.opens) (right_pure g))

-- by the left side, and then by the right side
unfoldable pub choices : Defs → ℕ → Goal → List ERule
choices defs level g =
    if not (has_one_case g.left) then rule_of.LeftOr ∷ [] else
    if binds g.left then rule_of.LeftExists ∷ [] else
    if is_contradictory defs level g then rule_of.False level ∷ [] else
    by_right defs level g

-- a fold, an unfold or a lemma step: a path of a search may have so many alone
abbrev pub is_paid : ERule → Bool
is_paid rule_of.LeftOr = false
is_paid rule_of.LeftExists = false
is_paid (rule_of.False n) = false
is_paid (rule_of.Split f) = false
is_paid (rule_of.RightOr i) = false
is_paid rule_of.RightExists = false
is_paid (rule_of.Instantiate c) = false
is_paid (rule_of.Match r l) = false
is_paid (rule_of.Unfold l) = true
is_paid (rule_of.Fold r i) = true
is_paid (rule_of.Empty n) = false
is_paid (rule_of.Lemma j l) = true
