use Rattle.std.proofs.Common.{◌≡◌, take}
use Rattle.std.specs.List.{filter_map}
use Rattle.hs_numbering.specs.Numbering.{each_counted}
use Rattle.hs_norm_item.specs.Definitions.{lemma}
use Rattle.hs_norm.specs.Items.{lemma_of}
use Rattle.hs_norm.proofs.source.lemmas.Given as goal

abbrev pub invariant-loop-item : goal.invariant-loop-item
invariant-loop-item l = (l.found.items, l.n) ≡ each_counted (lemma l.d.table) (filter_map lemma_of (take l.item-index l.items)) l.fn.n
