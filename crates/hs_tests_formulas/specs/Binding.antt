-- Whether anything is bound in a formula.
use Rattle.std.specs.Prelude.{Bool, true, false}
use Rattle.std.specs.List.{list_any}
use Rattle.hs_pure.specs.declared.pure.Pure.{Pure, fold-Pure}
use Rattle.hs_pure.specs.declared.pure.Pure.TheOpen.{Pure-F}

abbrev pub binds_level : Pure-F Bool → Bool
binds_level (Pure-F.Eq a b) = false
binds_level (Pure-F.Lt a b) = false
binds_level (Pure-F.Le a b) = false
binds_level (Pure-F.Divides d a) = false
binds_level (Pure-F.BagEq a b) = false
binds_level (Pure-F.Subset a b) = false
binds_level (Pure-F.Member a b) = false
binds_level (Pure-F.AllOf u b p) = true
binds_level (Pure-F.Not p) = p
binds_level (Pure-F.And ps) = list_any (λ p. p) ps
binds_level (Pure-F.Or ps) = list_any (λ p. p) ps
binds_level (Pure-F.Exists u p) = true
binds_level (Pure-F.Forall u p) = true

-- whether a quantifier or an AllOf occurs
abbrev pub binds : Pure → Bool
binds = fold-Pure Bool binds_level
