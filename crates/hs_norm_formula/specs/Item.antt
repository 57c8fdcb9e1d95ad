-- Pure formulas.
use Rattle.std.specs.Prelude.{ℕ, ◌^◌, nat_le, ℤ, pos, Bool, true, false, if◌then◌else◌, ◌&&◌, List, [], ◌∷◌}
use Rattle.hs_tree.specs.declared.ident.Ident.{Ident}
use Rattle.hs_tree.specs.declared.item.RelTree.{RelTree}
use Rattle.hs_tree.specs.declared.item.RelTree.TheVariants as rel
use Rattle.hs_tree.specs.declared.expr.ExprTree.{ExprTree}
use Rattle.hs_tree.specs.declared.item.ItemTree.{ItemTree, ItemTree-F, fold-ItemTree}
use Rattle.hs_tree.specs.declared.item.PureTree.{PureTree, PureTree-F, fold-PureTree}
use Rattle.hs_tree.specs.declared.item.ItemKind.TheOpen.{ItemKind-F}
use Rattle.hs_pure.specs.declared.var.Var.{Var}
use Rattle.hs_pure.specs.declared.lin.Lin.{Lin}
use Rattle.hs_pure.specs.declared.bag.Bag.{Bag}
use Rattle.hs_pure.specs.declared.pure.Pure.{Pure}
use Rattle.hs_pure.specs.declared.pure.Pure.TheVariants as pure_of
use Rattle.hs_numbering.specs.declared.fault.Problem.TheVariants.{Shape}
use Rattle.hs_numbering.specs.Numbering.{Builder, ◌>>=◌, ◌>>◌, ◌<$>◌, pure, each, blame, bind, enter, leave}
use Rattle.hs_norm_formula.specs.Sum.{blame_kind}
use Rattle.hs_norm_formula.specs.Expr.{number, bag, is_bag}

-- joined by "and", where a single one is itself
abbrev pub conj : List Pure → Pure
conj (p ∷ []) = p
conj ps = pure_of.And ps

-- joined by "or", where a single one is itself
abbrev pub disj : List Pure → Pure
disj (p ∷ []) = p
disj ps = pure_of.Or ps

-- the number variable that a quantifier binds
unfoldable pub bind_number : Ident → Builder Var
bind_number x = do
  v ← bind x
  blame_kind x.at v.bag
  pure v

abbrev pub blame_shape : ℕ → Bool → Builder (Unit {0})
blame_shape at true = blame at Shape
blame_shape at false = pure tt

-- a divisor, from 1 to 2^126
abbrev pub divisor_of : ℕ → ℕ → Bool → Builder ℤ
divisor_of d at true = pure (pos d)
divisor_of d at false = blame at Shape >> pure (pos 1)

unfoldable pub divides : ℕ → ExprTree → ℕ → Builder Pure
divides d t at = do
  divisor ← divisor_of d at (nat_le 1 d && nat_le d (2 ^ 126))
  a ← number t
  pure (pure_of.Divides divisor a)

-- it is of bags by its sign or by its left side
abbrev pub is_of_bags : RelTree → ExprTree → Bool
is_of_bags rel.Subset l = true
is_of_bags rel.Within l = true
is_of_bags rel.Eq l = is_bag l
is_of_bags rel.Ne l = is_bag l
is_of_bags _ l = false

-- `>` turns its sides
abbrev pub compared : RelTree → Lin → Lin → Pure
compared rel.Lt a b = pure_of.Lt a b
compared rel.Le a b = pure_of.Le a b
compared rel.Gt a b = pure_of.Lt b a
compared rel.Ge a b = pure_of.Le b a
compared rel.Ne a b = pure_of.Not (pure_of.Eq a b)
compared _ a b = pure_of.Eq a b

abbrev pub compared_bags : RelTree → Bag → Bag → Pure
compared_bags rel.Subset a b = pure_of.Subset a b
compared_bags rel.Ne a b = pure_of.Not (pure_of.BagEq a b)
compared_bags _ a b = pure_of.BagEq a b

-- a relation of bags, or of a number and a bag
unfoldable pub of_bags : RelTree → ExprTree → ExprTree → Builder Pure
of_bags rel.Within l r = do
  a ← number l
  b ← bag r
  pure (pure_of.Member a b)
of_bags s l r = do
  a ← bag l
  b ← bag r
  pure (compared_bags s a b)

abbrev pub of_numbers : RelTree → ExprTree → ExprTree → Builder Pure
of_numbers s l r = do
  a ← number l
  b ← number r
  pure (compared s a b)

-- a relation of bags stands under no quantifier
unfoldable pub relation : RelTree → ExprTree → ExprTree → Bool → ℕ → Builder Pure
relation s l r inside at =
    if is_of_bags s l then blame_shape at inside >> of_bags s l r else of_numbers s l r

abbrev pub quantified : (Var → Pure → Pure) → Ident → Builder Pure → Builder Pure
quantified q x body = do
  v ← bind_number x
  p ← body
  leave
  pure (q v p)

-- the binder's scope is the formula alone, and its number comes before those of the bag
abbrev pub all_of_bag : Ident → ExprTree → Builder Pure → Builder Pure
all_of_bag x elements body = do
  v ← bind_number x
  leave
  b ← bag elements
  enter x v
  p ← body
  leave
  pure (pure_of.AllOf v b p)

-- Builders for items, told whether they stand under a quantifier.
abbrev pub Inner : Type 0
Inner = Bool → Builder Pure

abbrev pub all_of : Bool → List Inner → Builder (List Pure)
all_of inside = each (λ i. i inside)

abbrev pub cases : Bool → List (List Inner) → Builder (List Pure)
cases inside = each (λ case. conj <$> all_of inside case)

abbrev pub kind_level : ItemKind-F (ℕ → Inner) Inner Inner → ℕ → Inner
kind_level ItemKind-F.True at inside = pure (pure_of.And [])
kind_level ItemKind-F.False at inside = pure (pure_of.Or [])
kind_level (ItemKind-F.Not i) at inside = pure_of.Not <$> i inside
kind_level (ItemKind-F.Group p) at inside = p inside
kind_level (ItemKind-F.Exists x p) at inside = quantified pure_of.Exists x (p true)
kind_level (ItemKind-F.Forall x p) at inside = quantified pure_of.Forall x (p true)
kind_level (ItemKind-F.All x b p) at inside = blame_shape at inside >> all_of_bag x b (p true)
kind_level (ItemKind-F.Divides d t) at inside = divides d t at
kind_level (ItemKind-F.Rel s l r) at inside = relation s l r inside at

abbrev pub tree_level : ItemTree-F (ℕ → Inner) Inner Inner → Inner
tree_level i = i.kind i.at

abbrev pub pure_level : PureTree-F (ℕ → Inner) Inner Inner → Inner
pure_level p inside = disj <$> cases inside p.cases

-- the normal form of an item
abbrev pub item : ItemTree → Inner
item = fold-ItemTree (ℕ → Inner) Inner Inner kind_level tree_level pure_level

-- the normal form of what stands in parentheses
abbrev pub disjunction : PureTree → Inner
disjunction = fold-PureTree (ℕ → Inner) Inner Inner kind_level tree_level pure_level

-- the conjunction of items that stand under no quantifier
abbrev pub conjunction : List Inner → Builder Pure
conjunction items = conj <$> all_of false items
