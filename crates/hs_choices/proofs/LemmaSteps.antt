-- The lemmas at one left atom after another.
use Rattle.std.proofs.Common.{◌≡◌, ℕ, zero, suc, ◌+◌, ◌-◌, ◌<◌, true, List, [], ◌∷◌, ◌++◌, length, get_or, drop, refl, sym, ap, ◌∙◌, append_assoc, arith}
use Rattle.std.specs.List.{flat_map}
use Rattle.hs_heap.specs.declared.formula.Atom.{Atom}
use Rattle.hs_heap.specs.declared.definitions.Defs.{Defs}
use Rattle.hs_goal.specs.declared.goal.Goal.{Goal}
use Rattle.hs_goal.specs.declared.rule.ERule.{ERule}
use Rattle.hs_rules.specs.Parts.{no_atom, atom_at, left_atoms}
use Rattle.hs_choices.specs.Places.{places_from}
use Rattle.hs_choices.specs.Tests.{in_class}
use Rattle.hs_choices.specs.Choices.{lemmas_at}
use Rattle.hs_choices.proofs.Passing.{places-here}

same_item : {X : Type 0} (xs : List X) (i : ℕ) (d e : X) → i < length xs → get_or xs i d ≡ get_or xs i e
same_item [] i d e less = absurd (omega arith)
same_item (x ∷ xs) zero d e less = refl
same_item (x ∷ xs) (suc i) d e less = same_item xs i d e (omega arith)

module _ (defs : Defs) (g : Goal) (b : Atom) where
  abbrev At : ℕ → List ERule
  At n = lemmas_at defs b n (atom_at n (left_atoms g))

  -- what is left to push from the left atom of index i on
  abbrev Rest : ℕ → List ERule
  Rest i = flat_map At (places_from (λ a. in_class g a b) (i + 1) (drop i (left_atoms g)))

  -- after those of a left atom of the class
  pub one_more : (i : ℕ) (a : Atom) (l : ℕ) (before now whole : List ERule) → i < length (left_atoms g) → a ≡ get_or (left_atoms g) i a → in_class g a b ≡ true → l ≡ i + 1 →
      before ++ Rest i ≡ whole → now ≡ before ++ lemmas_at defs b l a → now ++ Rest (i + 1) ≡ whole
  one_more i a l before now whole less is near place e f =
      let atoms = left_atoms g in
      let at_i : i + 1 - 1 ≡ i = omega arith in
      let found : atom_at (i + 1) atoms ≡ a = ap (λ k. get_or atoms k no_atom) at_i ∙ same_item atoms i no_atom a less ∙ sym is in
      let these : lemmas_at defs b l a ≡ At (i + 1) = (λ j. lemmas_at defs b (place j) (sym found j)) in
      let near_i : in_class g (get_or atoms i a) b ≡ true = ap (λ (x : Atom). in_class g x b) (sym is) ∙ near in
      let rest : Rest i ≡ At (i + 1) ++ Rest (i + 1) = ap (λ ns. flat_map At ns) (places-here (λ x. in_class g x b) (i + 1) i atoms a less near_i) in
      ap (λ rules. rules ++ Rest (i + 1)) (f ∙ ap (λ rules. before ++ rules) these) ∙ append_assoc before (At (i + 1)) (Rest (i + 1)) ∙ ap (λ rules. before ++ rules) (sym rest) ∙ e
