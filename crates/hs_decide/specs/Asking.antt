-- What may be asked.
use Rattle.std.specs.Prelude.{◌<◌, ◌^◌, IsTrue}
use Rattle.hs_pure.specs.declared.pure.Pure.{Pure}
use Rattle.hs_pure.specs.declared.var.Var.{Var}
use Rattle.hs_pure.specs.Occurs.{occurs, is_bags_plain}
use Rattle.hs_pure.specs.Sums.{IsOrdered}

-- no bag literal stands under a quantifier or inside of an `all`, the terms of sums are in order, and numbers are low
pub record IsAskable (p : Pure) : Type 0 where
  pub plain : IsTrue (is_bags_plain p)
  pub ordered : IsOrdered p
  pub low : (v : Var) → IsTrue (occurs v p) → v.number < 2 ^ 31
