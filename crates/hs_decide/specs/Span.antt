-- Where a number of the plain decision of a question passes 128 bits, and which questions are spent.
use Rattle.std.specs.Prelude.{ℕ, suc, ◌<◌, ◌⊎◌}
use Rattle.hs_pure.specs.Assertion.{Assertion}
use Rattle.hs_pure.specs.Mirror.{assertion_top}
use Rattle.hs_reduction.specs.Layout.{layout}
use Rattle.hs_reduction.specs.Instance.{replaced}
use Rattle.hs_reduction.specs.Reduction.{bagless}
use Rattle.hs_counts.specs.Counts.{HasWideElement, counts_of}
use Rattle.hs_bag.specs.Substituting.{ReductionIsWide}
use Rattle.hs_plain.specs.Span.{plain_values, PlainIsWide}
use Rattle.hs_decide.specs.Size.{size_of}

-- the value of an element term at the plain values passes 128 bits
abbrev pub ElementIsWide : Assertion → Type 0
ElementIsWide q = HasWideElement (plain_values (bagless q)) (counts_of (layout (suc (assertion_top q)) q))

-- a number passes 128 bits: of the reduction of bags, of the plain decision, or of an element term's value
abbrev pub SpanIsWide : Assertion → Type 0
SpanIsWide q = ReductionIsWide replaced (suc (assertion_top q)) q ⊎ PlainIsWide (bagless q) ⊎ ElementIsWide q

-- the plain decision takes more than the given atoms, or numbers past 128 bits
abbrev pub IsSpent : ℕ → Assertion → Type 0
IsSpent atoms q = (atoms < size_of q) ⊎ SpanIsWide q
