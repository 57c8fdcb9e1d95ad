-- What variables are worth.
use Rattle.std.specs.Prelude.{ℤ, pos, Bool, ◌&&◌, ◌==◌, if◌then◌else◌}
use mathlib.Core.Bool.{beq}
use Rattle.hs_pure.specs.Multiset.{Multiset, nothing}
use Rattle.hs_pure.specs.declared.var.Var.{Var}

-- what a variable is worth: by its kind one part or the other is read
pub record Value : Type 0 where
  pub number : ℤ
  pub bag : Multiset

-- a stack gives each number variable an integer and each bag variable a bag
abbrev pub Stack : Type 0
Stack = Var → Value

-- whether two variables are one
abbrev pub same : Var → Var → Bool
same u v = (u.number == v.number) && beq u.bag v.bag

-- the stack with x as the value of u
abbrev pub with_value : Var → Value → Stack → Stack
with_value u x s v = if same u v then x else s v

-- the integer x as the value of a number variable
abbrev pub number_value : ℤ → Value
number_value x = record { number = x; bag = nothing }

-- the bag m as the value of a bag variable
abbrev pub bag_value : Multiset → Value
bag_value m = record { number = pos 0; bag = m }
