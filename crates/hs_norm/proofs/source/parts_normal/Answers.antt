use Rattle.std.proofs.Common.{◌∙◌, List, map}
use Rattle.std.specs.List.{filter_map}
use Rattle.hs_heap.specs.declared.definitions.NodeDef.{NodeDef}
use Rattle.hs_heap.specs.declared.definitions.PredDef.{PredDef}
use Rattle.hs_heap.specs.declared.definitions.Lemma.{Lemma}
use Rattle.hs_numbering.specs.declared.names.Names.{Names}
use Rattle.hs_numbering.specs.Numbering.{each_counted}
use Rattle.hs_norm_item.specs.declared.forms.Entailment.{Entailment}
use Rattle.hs_norm.specs.declared.resolved.MethodTree.{MethodTree}
use Rattle.hs_norm.specs.declared.resolved.Resolved.{Resolved}
use Rattle.hs_norm.specs.Items.{data_of, pred_of, entail_of, method_of, lemma_of}
use Rattle.hs_norm_item.specs.Definitions.{node, pred, lemma}
use Rattle.hs_norm_item.specs.Claims.{entailment}
use Rattle.hs_norm.specs.Normal.{method}
use Rattle.hs_norm.proofs.Stages.{steps}
use Rattle.hs_norm.proofs.source.parts_normal.Goals as goal

abbrev parts : List NodeDef → List PredDef → List Names → List Entailment → List MethodTree → List Lemma → List Names → Resolved
parts nodes preds pred_names entailments methods lemmas lemma_names = record {
  defs = record { nodes = nodes; preds = preds; lemmas = lemmas };
  pred_names = pred_names;
  entailments = entailments;
  methods = methods;
  lemma_names = lemma_names;
}

abbrev whole : List NodeDef → List (PredDef × Names) → List Entailment → List MethodTree → List (Lemma × Names) → Resolved
whole nodes preds entailments methods lemmas =
    parts nodes (map (λ p. p.0) preds) (map (λ p. p.1) preds) entailments methods (map (λ l. l.0) lemmas) (map (λ l. l.1) lemmas)

pub returns : goal.returns
returns c =
    (λ j. (parts c.in_ok-nodes.nodes (c.in_ok-preds-2.ensures.preds j) (c.in_ok-preds-2.ensures.names j) c.in_ok-entailments.entailments c.in_ok-methods.methods (c.in_ok-lemmas-2.ensures.lemmas j) (c.in_ok-lemmas-2.ensures.names j), c.lemmas.new.n))
    ∙ steps (each_counted (node c.args.d.now.table) (filter_map data_of c.args.items.now))
    (each_counted (pred c.args.d.now.table) (filter_map pred_of c.args.items.now))
    (each_counted (entailment c.args.d.now.table) (filter_map entail_of c.args.items.now))
    (each_counted (method c.args.d.now) (filter_map method_of c.args.items.now))
    (each_counted (lemma c.args.d.now.table) (filter_map lemma_of c.args.items.now))
    whole c.args.n.now c.nodes.new.n c.preds.new.n c.entailments.new.n c.methods.new.n c.lemmas.new.n
    c.in_ok-nodes.nodes c.in_ok-preds.field-0.items c.in_ok-entailments.entailments c.in_ok-methods.methods c.in_ok-lemmas.field-0.items
    c.in_ok-nodes.ensures c.in_ok-preds.ensures c.in_ok-entailments.ensures c.in_ok-methods.ensures c.in_ok-lemmas.ensures
