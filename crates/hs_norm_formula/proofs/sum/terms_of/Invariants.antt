use Rattle.std.proofs.Common.{◌≡◌, take}
use Rattle.hs_numbering.specs.Numbering.{each}
use Rattle.hs_norm_formula.specs.Sum.{term}
use Rattle.hs_norm_formula.proofs.sum.terms_of.Given as goal

abbrev pub invariant-loop-part : goal.invariant-loop-part
invariant-loop-part l = (l.terms, l.n) ≡ each term (take l.part-index l.parts) l.fn.n
