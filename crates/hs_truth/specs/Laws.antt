-- Truth is decided at each stack.
use Rattle.std.specs.Prelude.{◌⊎◌, IsTrue}
use Rattle.hs_pure.specs.declared.pure.Pure.{Pure}
use Rattle.hs_pure.specs.Stack.{Stack}
use Rattle.hs_pure.specs.Truth.{TrueAt}
use Rattle.hs_pure.specs.Occurs.{is_bags_plain}
use Rattle.hs_pure.specs.Sums.{IsOrdered}

-- a formula in order, whose bag literals stand outside of quantifiers, is true or is not
abbrev pub PlainTruthIsDecided : Type 0
PlainTruthIsDecided = (s : Stack) (p : Pure) → IsTrue (is_bags_plain p) → IsOrdered p → TrueAt s p ⊎ (¬ (TrueAt s p))
