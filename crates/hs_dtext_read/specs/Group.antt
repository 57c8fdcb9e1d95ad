-- A pure formula in parentheses that stands alone.
use Rattle.std.specs.Prelude.{List, [], ◌∷◌}
use Rattle.hs_tree.specs.declared.item.ItemTree.{ItemTree}
use Rattle.hs_tree.specs.declared.item.PureTree.{PureTree}
use Rattle.hs_tree.specs.declared.item.ItemKind.TheVariants as kind

-- the one item
abbrev pub one_item : PureTree → List ItemTree
one_item t = record { kind = kind.Group t; at = 0 } ∷ []
