use Rattle.std.proofs.Common.{◌≡◌, drop}
use Rattle.hs_elimination.specs.Cases.{join_distinct}
use Rattle.hs_bag_parts.specs.Reading.{all_terms}
use Rattle.hs_bag_parts.proofs.reading.+terms.Given as goal

abbrev pub invariant-add_all_terms-loop-p : goal.invariant-add_all_terms-loop-p
invariant-add_all_terms-loop-p l = join_distinct l.listed (all_terms (drop l.p-index l.ps)) ≡ join_distinct l.initial.listed (all_terms l.ps)
