-- Tables that give each variable a representative of its class.
use Rattle.std.specs.Prelude.{ℕ, ◌↔◌, Bool, IsTrue, ◌==◌, List, nat_eq}
use Rattle.std.specs.Option.{unwrap_or}
use Rattle.indexmap.specs.IndexMap.{get}
use Rattle.hs_pure.specs.declared.var.Var.{Var}
use Rattle.hs_pure.specs.declared.pure.Pure.{Pure}
use Rattle.hs_goal.specs.declared.table.Classes.{Classes}
use Rattle.hs_goal.specs.Classes.{SameClass}
use Rattle.hs_goal.specs.Keys.{key}

-- the key of the variable that stands for the class of v: what the table has for v, or v itself
abbrev pub representative : Classes → Var → ℕ
representative c v = unwrap_or (get nat_eq c.table (key v)) (key v)

-- whether a table has two variables in one class
abbrev pub joined_in : Classes → Var → Var → Bool
joined_in c a b = representative c a == representative c b

-- a table has the classes of these conjuncts
abbrev pub AreClasses : List Pure → Classes → Type 0
AreClasses ps c = (a b : Var) → IsTrue (joined_in c a b) ↔ SameClass ps a b
