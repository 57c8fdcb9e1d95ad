-- Proofs put one after the other, under a step that concludes from them.
use Rattle.std.specs.Prelude.{ℕ, ◌+◌, List, [], ◌∷◌, ◌++◌, map, length}
use Rattle.std.specs.List.{fold}
use Rattle.hs_heap.specs.declared.formula.Formula.{Formula}
use Rattle.hs_goal.specs.declared.goal.Goal.{Goal}
use Rattle.hs_goal.specs.declared.rule.ERule.{ERule}
use Rattle.hs_erule.specs.declared.step.Step.{Step}
use Rattle.hs_erule.specs.declared.step.Proof.{Proof}

-- the step when n steps are put before those that its premises count
abbrev pub shifted : ℕ → Step → Step
shifted n s = record { goal = s.goal; residue = s.residue; rule = s.rule; premises = map (λ p. n + p) s.premises }

-- the steps of proofs one after the other, behind n steps
abbrev pub placed : ℕ → List Proof → List Step
placed n [] = []
placed n (p ∷ parts) = map (shifted n) p.steps ++ placed (n + length p.steps) parts

-- the numbers of their last steps
abbrev pub ends_of : ℕ → List Proof → List ℕ
ends_of n [] = []
ends_of n (p ∷ parts) = (n + length p.steps) ∷ ends_of (n + length p.steps) parts

-- the residue of the last step, and without a step no disjunct
abbrev pub residue_shown : Proof → Formula
residue_shown p = fold (λ (f : Formula) (s : Step). s.residue) (record { cases = [] }) p.steps

-- the goal with the residue, by a rule from the conclusions of the parts
abbrev pub joined_by : Goal → ERule → Formula → List Proof → Proof
joined_by g rule residue parts = record {
  steps = placed 0 parts ++ (record { goal = g; residue = residue; rule = rule; premises = ends_of 0 parts }) ∷ [];
}
