-- What falls at each rule that is no fold, no unfold and no lemma step.
use Rattle.std.specs.Prelude.{ℕ, ◌+◌, ◌*◌, List, [], ◌∷◌, length}
use Rattle.hs_heap.specs.declared.formula.Disjunct.{Disjunct}
use Rattle.hs_goal.specs.declared.goal.Goal.{Goal}

-- what a left disjunct has to give up
abbrev pub left_weight : Disjunct → ℕ
left_weight d = 1 + length d.bound

-- what a right disjunct has to give up: a variable twice, since it is bound and then open
abbrev pub right_weight : Disjunct → ℕ
right_weight d = 1 + 2 * length d.bound + length d.atoms

-- all disjuncts together
abbrev pub total : (Disjunct → ℕ) → List Disjunct → ℕ
total w [] = 0
total w (d ∷ ds) = w d + total w ds

-- the open variables and both sides
abbrev pub weight : Goal → ℕ
weight g = length g.opens + total left_weight g.left.cases + total right_weight g.right.cases
