-- The subgoals of each rule.
use Rattle.std.specs.Prelude.{ℕ, ◌+◌, true, false, List, [], ◌∷◌, ◌++◌, map, length}
use Rattle.hs_pure.specs.declared.pure.Pure.{Pure}
use Rattle.hs_pure.specs.declared.pure.Pure.TheVariants as pure_of
use Rattle.hs_heap.specs.declared.formula.Disjunct.{Disjunct}
use Rattle.hs_heap.specs.declared.definitions.Defs.{Defs}
use Rattle.hs_heap.specs.Instance.{Body, body_of_lemma, body_or_none, body_of, lemma_at, instantiated, next_after}
use Rattle.hs_goal.specs.declared.goal.Goal.{Goal}
use Rattle.hs_goal.specs.declared.rule.ERule.{ERule}
use Rattle.hs_goal.specs.declared.rule.ERule.TheVariants as rule_of
use Rattle.hs_goal.specs.Classes.{the_case}
use Rattle.hs_rules.specs.Parts.{without, atom_at, conjunct_at, case_at, only, plain, left_atoms, left_pure, right_atoms, right_pure, replaced, fresh_variables, opened, still_open, equations}

-- one per disjunct
abbrev pub one_each : Goal → List Disjunct → List Goal
one_each g ds = map (λ d. record g { left = only d; looked = false }) ds

-- what the left disjunct binds gets new numbers
abbrev pub left_opened : Goal → Disjunct → Goal
left_opened g d = record g { left = only (opened d g.next); next = g.next + length d.bound; looked = false }

-- what the right disjunct binds gets new numbers and is open
abbrev pub right_opened : Goal → Disjunct → Goal
right_opened g d =
    record g { opens = g.opens ++ fresh_variables d g.next; right = only (opened d g.next); next = g.next + length d.bound; looked = true }

-- one more left conjunct
abbrev pub with_conjunct : Goal → Pure → Goal
with_conjunct g f = record g { left = plain (left_atoms g) (left_pure g ++ f ∷ []); looked = false }

-- one right disjunct
abbrev pub with_right_case : Goal → ℕ → Goal
with_right_case g i = record g { right = only (case_at i g.right.cases); looked = true }

-- the conjunct moves to the left side, and its open variable is open no more
abbrev pub instantiated_by : Goal → ℕ → Goal
instantiated_by g c = record g {
  left = plain (left_atoms g) (left_pure g ++ conjunct_at c (right_pure g) ∷ []);
  opens = still_open (conjunct_at c (right_pure g)) g.opens;
  right = plain (right_atoms g) (without c (right_pure g));
  looked = true;
}

-- the left atom is used up, the right one is gone, and the equations of their arguments come first
abbrev pub matched : Goal → ℕ → ℕ → Goal
matched g r l = record g {
  used = g.used ++ atom_at l (left_atoms g) ∷ [];
  left = plain (without l (left_atoms g)) (left_pure g);
  right = plain (without r (right_atoms g))
      (equations (atom_at r (right_atoms g)).args (atom_at l (left_atoms g)).args ++ right_pure g);
  looked = true;
}

-- each case of a body in the place of the left atom
abbrev pub left_replaced : Goal → ℕ → Body → Goal
left_replaced g l b =
    let a = atom_at l (left_atoms g) in
    record g {
      left = record { cases = map (replaced l (the_case g.left)) (instantiated b a.root a.args g.next).cases };
      next = next_after b g.next;
      looked = false;
    }

-- one case of a body in the place of the right atom
abbrev pub right_replaced : Goal → ℕ → ℕ → Body → Goal
right_replaced g r i b =
    let a = atom_at r (right_atoms g) in
    record g {
      right = only (replaced r (the_case g.right) (case_at i (instantiated b a.root a.args g.next).cases));
      next = next_after b g.next;
      looked = true;
    }

-- ---- the column

-- in order, where the rule applies
abbrev pub subgoals_of : Defs → Goal → ERule → List Goal
subgoals_of defs g rule_of.LeftOr = one_each g g.left.cases
subgoals_of defs g rule_of.LeftExists = left_opened g (the_case g.left) ∷ []
subgoals_of defs g (rule_of.False n) = []
subgoals_of defs g (rule_of.Split f) = with_conjunct g f ∷ with_conjunct g (pure_of.Not f) ∷ []
subgoals_of defs g (rule_of.RightOr i) = with_right_case g i ∷ []
subgoals_of defs g rule_of.RightExists = right_opened g (the_case g.right) ∷ []
subgoals_of defs g (rule_of.Instantiate c) = instantiated_by g c ∷ []
subgoals_of defs g (rule_of.Match r l) = matched g r l ∷ []
subgoals_of defs g (rule_of.Unfold l) = left_replaced g l (body_of defs (atom_at l (left_atoms g)).of) ∷ []
subgoals_of defs g (rule_of.Fold r i) = right_replaced g r i (body_of defs (atom_at r (right_atoms g)).of) ∷ []
subgoals_of defs g (rule_of.Empty n) = []
subgoals_of defs g (rule_of.Lemma j l) = left_replaced g l (body_or_none body_of_lemma (lemma_at defs j)) ∷ []
