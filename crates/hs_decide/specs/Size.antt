-- The size of a question.
use Rattle.std.specs.Prelude.{ℕ}
use Rattle.hs_pure.specs.Assertion.{Assertion}
use Rattle.hs_reduction.specs.Reduction.{bagless}
use Rattle.hs_plain.specs.Size.{plain_size}

-- the most atoms that a stage of the plain decision has, after the reduction of bags
abbrev pub size_of : Assertion → ℕ
size_of q = plain_size (bagless q)
