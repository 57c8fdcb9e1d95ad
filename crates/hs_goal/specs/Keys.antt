-- Variables by keys, and what their links say of classes.
use Rattle.std.specs.Prelude.{◌≡◌, ℕ, ◌+◌, ◌*◌, ◌↔◌, if◌then◌else◌, List}
use Rattle.hs_pure.specs.declared.var.Var.{Var}
use Rattle.hs_pure.specs.declared.pure.Pure.{Pure}
use Rattle.hs_goal.specs.Classes.{SameClass}
use Rattle.hs_goal.specs.Links.{Links, AllFall, end_of}

-- the key of a variable, which no other variable has
abbrev pub key : Var → ℕ
key v = 2 * v.number + (if v.bag then 1 else 0)

-- the links from two variables end alike where the conjuncts join them
pub record HaveClasses (ps : List Pure) (f : Links) : Type 0 where
  pub fall : AllFall f
  pub joined : (a b : Var) → (end_of f (key a) ≡ end_of f (key b)) ↔ SameClass ps a b
