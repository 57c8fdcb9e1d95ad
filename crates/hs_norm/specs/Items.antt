-- The items of a source by kind.
use Rattle.std.specs.Prelude.{Option, Some, None}
use Rattle.hs_tree.specs.declared.source.DataTree.{DataTree}
use Rattle.hs_tree.specs.declared.source.PredTree.{PredTree}
use Rattle.hs_tree.specs.declared.source.EntailTree.{EntailTree}
use Rattle.hs_tree.specs.declared.source.LemmaTree.{LemmaTree}
use Rattle.hs_tree.specs.declared.method.MethodSource.{MethodSource}
use Rattle.hs_tree.specs.declared.source.SourceItem.{SourceItem}
use Rattle.hs_tree.specs.declared.source.SourceItem.TheVariants.{Node, Pred, Entail, Method, Lemma}

abbrev pub data_of : SourceItem → Option DataTree
data_of (Node d) = Some d
data_of _ = None

abbrev pub pred_of : SourceItem → Option PredTree
pred_of (Pred p) = Some p
pred_of _ = None

abbrev pub entail_of : SourceItem → Option EntailTree
entail_of (Entail e) = Some e
entail_of _ = None

abbrev pub method_of : SourceItem → Option MethodSource
method_of (Method m) = Some m
method_of _ = None

abbrev pub lemma_of : SourceItem → Option LemmaTree
lemma_of (Lemma l) = Some l
lemma_of _ = None
