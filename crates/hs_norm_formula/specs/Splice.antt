-- Conjuncts that are themselves an "and" are spliced.
use Rattle.std.specs.Prelude.{false, List, ◌∷◌, []}
use Rattle.std.specs.List.{flat_map}
use Rattle.hs_pure.specs.declared.pure.Pure.{Pure, fold-Pure, map-Pure, roll-Pure}
use Rattle.hs_pure.specs.declared.pure.Pure.TheOpen.{Pure-F}
use Rattle.hs_numbering.specs.Numbering.{Builder, ◌<$>◌}
use Rattle.hs_norm_formula.specs.Item.{Inner, all_of}

-- of an "and" those of its members, else the formula itself
abbrev pub members : Pure-F (List Pure) → Pure → List Pure
members (Pure-F.And parts) p = flat_map (λ ps. ps) parts
members _ p = p ∷ []

-- the formula again, and its conjuncts
abbrev pub split_level : Pure-F (Pure × List Pure) → Pure × List Pure
split_level z = (roll-Pure (map-Pure (Pure × List Pure) Pure (λ e. e.0) z), members (map-Pure (Pure × List Pure) (List Pure) (λ e. e.1) z) (roll-Pure (map-Pure (Pure × List Pure) Pure (λ e. e.0) z)))

-- the conjuncts of a formula, at every depth
abbrev pub conjuncts : Pure → List Pure
conjuncts p = (fold-Pure (Pure × List Pure) split_level p).1

-- the conjuncts of items that stand under no quantifier
abbrev pub conjuncts_of : List Inner → Builder (List Pure)
conjuncts_of items = flat_map conjuncts <$> all_of false items
