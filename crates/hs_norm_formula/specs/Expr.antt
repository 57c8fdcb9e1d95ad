-- Expressions as numbers and as bags.
use Rattle.std.specs.Prelude.{ℕ, nat_eq, length, slice_get, Bool, true, false, if◌then◌else◌, List, map, Option, Some, None, unwrap_or}
use Rattle.std.specs.List.{fold}
use Rattle.hs_tree.specs.declared.ident.Ident.{Ident}
use Rattle.hs_tree.specs.declared.expr.PartTree.{PartTree}
use Rattle.hs_tree.specs.declared.expr.PartTree.TheVariants as part
use Rattle.hs_tree.specs.declared.expr.ExprTree.{ExprTree, fold-ExprTree}
use Rattle.hs_tree.specs.declared.expr.ExprKind.TheOpen.{ExprKind-F}
use Rattle.hs_pure.specs.declared.lin.Lin.{Lin}
use Rattle.hs_pure.specs.declared.bag.Bag.{Bag}
use Rattle.hs_pure.specs.declared.bag.Bag.TheVariants as set
use Rattle.hs_numbering.specs.declared.fault.Problem.TheVariants.{Kind}
use Rattle.hs_numbering.specs.Names.{is_upper}
use Rattle.hs_numbering.specs.Numbering.{Builder, ◌>>=◌, ◌>>◌, ◌<$>◌, pure, each, blame, resolve}
use Rattle.hs_norm_formula.specs.Sum.{sum, zero_sum}

abbrev pub names_bag : Option Ident → Bool
names_bag None = false
names_bag (Some x) = is_upper x.text

-- What an expression is: read as a name, as a number and as a bag.
pub record Readings : Type 0 where
  pub name : Option Ident
  pub is_bag : Bool
  pub number : Builder Lin
  pub bag : Builder Bag

-- the name of a part that is a name alone
abbrev pub name_of : Option (Bool × PartTree) → Option Ident
name_of (Some (false, part.Name x)) = Some x
name_of _ = None

-- a name alone
abbrev pub bare_name : List (Bool × PartTree) → Option Ident
bare_name parts = if nat_eq (length parts) 1 then name_of (slice_get parts 0) else None

-- a sum where a bag belongs
abbrev pub no_bag : List (Bool × PartTree) → ℕ → Builder Bag
no_bag parts at = blame at Kind >> sum parts at >> pure set.Empty

-- a bag's name alone is a bag
abbrev pub sum_bag : List (Bool × PartTree) → ℕ → Option Ident → Builder Bag
sum_bag parts at None = no_bag parts at
sum_bag parts at (Some x) = if is_upper x.text then set.Name <$> resolve x else no_bag parts at

abbrev pub add_one : Option Bag → Lin → Bag
add_one None a = set.One a
add_one (Some b) a = set.Union b (set.One a)

-- the bag of these elements, joined from the left
abbrev pub joined : List Lin → Bag
joined elements = unwrap_or (fold (λ found a. Some (add_one found a)) None elements) set.Empty

-- braces
abbrev pub literal : List (Builder Lin) → Builder Bag
literal elements = joined <$> each (λ e. e) elements

abbrev pub both : (Bag → Bag → Bag) → Builder Bag → Builder Bag → Builder Bag
both operation p q = do
  a ← p
  b ← q
  pure (operation a b)

-- a bag where a number belongs
abbrev pub no_number : ℕ → Builder Lin
no_number at = blame at Kind >> pure zero_sum

-- an expression that can only be a bag
abbrev pub of_bag : ℕ → Builder Bag → Readings
of_bag at b = record { name = None; is_bag = true; number = no_number at; bag = b }

abbrev pub kind_level : ExprKind-F (ℕ → Readings) Readings → ℕ → Readings
kind_level (ExprKind-F.Sum parts) at = record {
  name = bare_name parts;
  is_bag = names_bag (bare_name parts);
  number = sum parts at;
  bag = sum_bag parts at (bare_name parts);
}
kind_level (ExprKind-F.Braces elements) at = of_bag at (literal (map (λ e. e.number) elements))
kind_level (ExprKind-F.Union a b) at = of_bag at (both set.Union a.bag b.bag)
kind_level (ExprKind-F.Inter a b) at = of_bag at (both set.Inter a.bag b.bag)
kind_level (ExprKind-F.Diff a b) at = of_bag at (both set.Diff a.bag b.bag)

-- each way to read an expression
abbrev pub readings : ExprTree → Readings
readings = fold-ExprTree (ℕ → Readings) Readings kind_level (λ e. e.kind e.at)

-- an expression where a number belongs
unfoldable pub number : ExprTree → Builder Lin
number e = (readings e).number

-- an expression where a bag belongs
unfoldable pub bag : ExprTree → Builder Bag
bag e = (readings e).bag

-- the name that an expression is
unfoldable pub bare : ExprTree → Option Ident
bare e = (readings e).name

-- it can only be a bag
unfoldable pub is_bag : ExprTree → Bool
is_bag e = (readings e).is_bag
