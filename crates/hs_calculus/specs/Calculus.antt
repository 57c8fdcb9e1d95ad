-- Goals, the rules that may be tried at each, and what a rule leaves to prove.
use Rattle.std.specs.Prelude.{ℕ, ◌<◌, ◌≡◌, Bool, false, List}
use Rattle.std.specs.List.{AllByRecursion}

-- a proof calculus, where P is what a derivation is
pub record Calculus (G R P : Type 0) : Type 0 where
  -- in the order in which they are tried
  pub choices : G → List R
  -- uses up one of the rank, as a fold or an unfold
  pub is_paid : R → Bool
  pub subgoals : G → R → List G
  -- the question of the rule, if it has one, is true
  pub holds : G → R → Bool
  -- the derivation by a rule, from one for each subgoal
  pub join : G → R → List P → P
  -- falls to the subgoals of a choice that is not paid
  pub size : G → ℕ

-- so a path on which nothing is paid ends
abbrev pub Falls : {G R P : Type 0} → Calculus G R P → Type 0
Falls {G} {R} c =
    (g : G) → AllByRecursion (λ (rule : R). c.is_paid rule ≡ false → AllByRecursion (λ (s : G). c.size s < c.size g) (c.subgoals g rule)) (c.choices g)
