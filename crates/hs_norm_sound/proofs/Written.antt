-- The formulas of a source that have a disjunct.
use Rattle.std.proofs.Common.{List, [], ◌∷◌}
use Rattle.std.specs.List.{All, AllByRecursion, filter_map}
use Rattle.std.proofs.lemmas.List.Elements.{recursion_from_All}
use Rattle.hs_tree.specs.declared.method.PairSource.{PairSource}
use Rattle.hs_tree.specs.declared.method.MethodSource.{MethodSource}
use Rattle.hs_tree.specs.declared.source.EntailTree.{EntailTree}
use Rattle.hs_tree.specs.declared.source.Source.{Source}
use Rattle.hs_tree.specs.declared.source.SourceItem.{SourceItem}
use Rattle.hs_tree.specs.declared.source.SourceItem.TheVariants.{Node, Pred, Entail, Method, Lemma}
use Rattle.hs_norm.specs.Items.{entail_of, method_of}
use Rattle.hs_read.specs.Written.{IsWritten, ItemIsWritten, HaveDisjuncts}

abbrev pub SidesWritten : EntailTree → Type 0
SidesWritten c = IsWritten c.left × IsWritten c.right

abbrev pub PairsWritten : MethodSource → Type 0
PairsWritten m = All (λ (p : PairSource). IsWritten p.pre × IsWritten p.post) m.pairs

entails_of : (items : List SourceItem) → AllByRecursion ItemIsWritten items → AllByRecursion SidesWritten (filter_map entail_of items)
entails_of [] h = tt
entails_of (Node d ∷ items) h = entails_of items h.1
entails_of (Pred p ∷ items) h = entails_of items h.1
entails_of (Entail e ∷ items) h = (h.0, entails_of items h.1)
entails_of (Method m ∷ items) h = entails_of items h.1
entails_of (Lemma l ∷ items) h = entails_of items h.1

methods_of : (items : List SourceItem) → AllByRecursion ItemIsWritten items → AllByRecursion PairsWritten (filter_map method_of items)
methods_of [] h = tt
methods_of (Node d ∷ items) h = methods_of items h.1
methods_of (Pred p ∷ items) h = methods_of items h.1
methods_of (Entail e ∷ items) h = methods_of items h.1
methods_of (Method m ∷ items) h = (h.0, methods_of items h.1)
methods_of (Lemma l ∷ items) h = methods_of items h.1

pub entails_written : (source : Source) → HaveDisjuncts source → AllByRecursion SidesWritten (filter_map entail_of source.items)
entails_written source h = entails_of source.items (recursion_from_All ItemIsWritten source.items h)

pub methods_written : (source : Source) → HaveDisjuncts source → AllByRecursion PairsWritten (filter_map method_of source.items)
methods_written source h = methods_of source.items (recursion_from_All ItemIsWritten source.items h)
