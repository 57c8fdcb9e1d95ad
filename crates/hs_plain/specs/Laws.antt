-- What the layers above use of questions.
use Rattle.std.specs.Prelude.{◌≡◌, ◌↔◌, false, IsTrue}
use Rattle.std.specs.List.{Contains}
use Rattle.hs_pure.specs.declared.var.Var.{Var}
use Rattle.hs_pure.specs.declared.pure.Pure.{Pure}
use Rattle.hs_pure.specs.Assertion.{assertion_of}
use Rattle.hs_pure.specs.Occurs.{is_free, has_bags}
use Rattle.hs_pure.specs.Sums.{IsOrdered}
use Rattle.hs_plain.specs.Variables.{free_variables, RiseFrom}

-- the list has the free variables, and no others
abbrev pub FreeVariablesAreFree : Type 0
FreeVariablesAreFree = (p : Pure) (v : Var) → has_bags p ≡ false → Contains (free_variables (assertion_of p)) v ↔ IsTrue (is_free v p)

-- they rise, so that each is there once
abbrev pub FreeVariablesRise : Type 0
FreeVariablesRise = (p : Pure) → IsOrdered p → RiseFrom 0 (free_variables (assertion_of p))
