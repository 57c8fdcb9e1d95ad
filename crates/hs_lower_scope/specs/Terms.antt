-- Expressions of a block.
use Rattle.std.specs.Prelude.{ℕ, Bool, true, false, List, [], ◌∷◌, map, Option, Some, None}
use Rattle.std.specs.Option.{unwrap_or}
use Rattle.hs_tree.specs.declared.ident.Ident.{Ident}
use Rattle.hs_tree.specs.declared.expr.PartTree.{PartTree}
use Rattle.hs_tree.specs.declared.expr.PartTree.TheVariants as part
use Rattle.hs_tree.specs.declared.expr.ExprTree.{ExprTree}
use Rattle.hs_tree.specs.declared.expr.ExprKind.{ExprKind}
use Rattle.hs_tree.specs.declared.expr.ExprKind.TheVariants as expr
use Rattle.hs_pure.specs.declared.var.Var.{Var}
use Rattle.hs_pure.specs.declared.lin.Lin.{Lin}
use Rattle.hs_norm_formula.specs.declared.sum.Term.{Term}
use Rattle.hs_norm_formula.specs.Sum.{added, zero_sum}
use Rattle.hs_lower_scope.specs.declared.sum.Part.{Part}
use Rattle.hs_lower_scope.specs.Scope.{Scope, slot_of}

-- ---- what an expression is

-- the parts of a sum
abbrev pub parts_of : ExprKind → List (Bool × PartTree)
parts_of (expr.Sum parts) = parts
parts_of _ = []

abbrev pub bare_part : Bool × PartTree → Option Ident
bare_part (false, part.Name x) = Some x
bare_part _ = None

abbrev pub bare_parts : List (Bool × PartTree) → Option Ident
bare_parts (p ∷ []) = bare_part p
bare_parts _ = None

-- the variable of an expression that is nothing else
abbrev pub bare : ExprTree → Option Ident
bare e = bare_parts (parts_of e.kind)

abbrev pub is_null_part : Bool × PartTree → Bool
is_null_part (false, part.Null) = true
is_null_part _ = false

abbrev pub is_null_parts : List (Bool × PartTree) → Bool
is_null_parts (p ∷ []) = is_null_part p
is_null_parts _ = false

-- whether an expression is `null` alone
abbrev pub is_null : ExprTree → Bool
is_null e = is_null_parts (parts_of e.kind)

-- the variable of a part, where it has one
abbrev pub part_variable : Bool × PartTree → Option Ident
part_variable (minus, part.Number m) = None
part_variable (minus, part.Times m x) = Some x
part_variable (minus, part.Name x) = Some x
part_variable (minus, part.Null) = None

-- ---- its term

-- slot k is the number variable k
abbrev pub slot_var : ℕ → Var
slot_var k = record { number = k; bag = false }

module _ (scope : Scope) where
  abbrev pub variable_term : Ident → Option Var
  variable_term x = Some (slot_var (slot_of scope x.text))

  -- a part as what is added: its variable and how often it counts
  abbrev pub part_term : Bool × PartTree → Term
  part_term (minus, part.Number m) = record { minus = minus; var = None; size = m }
  part_term (minus, part.Times m x) = record { minus = minus; var = variable_term x; size = m }
  part_term (minus, part.Name x) = record { minus = minus; var = variable_term x; size = 1 }
  part_term (minus, part.Null) = record { minus = minus; var = None; size = 0 }

  -- the term of an expression: its parts added up, which no light sum lacks
  abbrev pub term_of : ExprTree → Lin
  term_of e = unwrap_or (added (map part_term (parts_of e.kind))) zero_sum

-- a part of the code as a term of sums
abbrev pub term_by : Part → Term
term_by p = record { minus = p.minus; var = p.var; size = p.size }
