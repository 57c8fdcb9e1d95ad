-- What the table of a source is: its data types and predicates, by number.
use Rattle.std.proofs.Common.{◌≡◌, ℕ, false, List, [], ◌∷◌, map, refl, sym, ap, subst}
use Rattle.std.specs.List.{AllByRecursion, AllZip, filter_map}
use Rattle.hs_tree.specs.declared.ident.Ident.{Ident}
use Rattle.hs_tree.specs.declared.source.DataTree.{DataTree}
use Rattle.hs_tree.specs.declared.source.PredTree.{PredTree}
use Rattle.hs_tree.specs.declared.source.SourceItem.{SourceItem}
use Rattle.hs_pure.specs.declared.var.Var.{Var}
use Rattle.hs_heap.specs.declared.definitions.PredDef.{PredDef}
use Rattle.hs_heap.specs.Sound.{kinds}
use Rattle.hs_numbering.specs.declared.names.Names.{Names}
use Rattle.hs_numbering.specs.declared.fault.Limit.TheVariants.{Nodes, Preds, Params}
use Rattle.hs_numbering.specs.declared.numbering.Numbering.{Numbering}
use Rattle.hs_numbering.specs.declared.numbering.Reading.TheVariants.{Closed}
use Rattle.hs_numbering.specs.Names.{is_upper}
use Rattle.hs_numbering.specs.Numbering.{each_counted, start}
use Rattle.hs_norm_formula.specs.declared.table.Entry.{Entry}
use Rattle.hs_norm_formula.specs.Formula.{limit, formula}
use Rattle.hs_norm.specs.declared.resolved.Resolved.{Resolved}
use Rattle.hs_norm_item.specs.Claim.{fix_self}
use Rattle.hs_declared.specs.Declaring.{entries, blame_repeated}
use Rattle.hs_norm.specs.Items.{data_of, pred_of}
use Rattle.hs_norm_item.specs.Definitions.{field, node, param, params, pred}
use Rattle.hs_norm_sound.specs.Entries.{NodeIsOf, PredIsOf}
use Rattle.hs_norm_sound.proofs.Passing.{zip_weaker, zip_maps, counted_all}
use Rattle.hs_norm_sound.proofs.Stays.{FaultsStay, field_keeps, param_keeps, invariant_keeps}
use Rattle.hs_norm_sound.proofs.Fixing.{fix_is}
use Rattle.hs_norm_sound.proofs.Source.{Built, SourceBuilt}
use Rattle.hs_norm_sound.proofs.Entries.{EntryIs, entries_are}

node_is_of : (table : List Entry) (k : ℕ) (d : DataTree) (n : Numbering) → (node table k d n).1.faults ≡ [] → NodeIsOf d (node table k d n).0
node_is_of table k d n e =
    let s1 = (limit 256 Nodes d.at k n).1 in
    let s2 = (blame_repeated (map (λ f. f.name) d.fields) s1).1 in
    record {
      name = refl;
      fields = zip_maps (λ f g. Unit {0}) (λ f. false) (λ f. false) (λ f g _. refl) d.fields (each_counted (field table) d.fields s2).0
          (counted_all (field table) (field_keeps table) (λ f g. Unit {0}) (λ k f n e. tt) d.fields s2 e);
    }

-- a parameter has the kind of its name
param_kind : (k : ℕ) (x : Ident) (n : Numbering) → (param k x n).1.faults ≡ [] → (param k x n).0.bag ≡ is_upper x.text
param_kind k x n e = ap (λ out. out.0.bag) (fix_is x (limit 16 Params x.at k n).1 e).1

pub params_kinds : (at : ℕ) (xs : List Ident) (n : Numbering) → (params at xs n).1.faults ≡ [] → kinds (params at xs n).0 ≡ map (λ x. is_upper x.text) xs
params_kinds at xs n e =
    let s2 = (blame_repeated xs (fix_self at n).1).1 in
    zip_maps (λ (x : Ident) (v : Var). v.bag ≡ is_upper x.text) (λ x. is_upper x.text) (λ v. v.bag) (λ x v h. h) xs (each_counted param xs s2).0
    (counted_all param param_keeps (λ (x : Ident) (v : Var). v.bag ≡ is_upper x.text) param_kind xs s2 e)

module _ (stay : FaultsStay) where
  pred_is_of : (table : List Entry) (k : ℕ) (p : PredTree) (n : Numbering) → (pred table k p n).1.faults ≡ [] → PredIsOf p (pred table k p n).0.0
  pred_is_of table k p n e =
      let s2 = (limit 256 Preds p.at k (start Closed n.faults)).1 in
      let s3 = (params p.at p.params s2).1 in
      let s4 = (formula table p.body s3).1 in
      record { name = refl; kinds = params_kinds p.at p.params s2 (stay.formulas table p.body s3 (invariant_keeps stay p.inv s4 e)) }

  module _ (items : List SourceItem) (r : Resolved) (b : SourceBuilt items r) where
    pub nodes_are_of : AllZip NodeIsOf (filter_map data_of items) r.defs.nodes
    nodes_are_of = zip_weaker (Built (node (entries items))) NodeIsOf (λ d nd h. subst (NodeIsOf d) (sym h.3) (node_is_of (entries items) h.0 d h.1 h.2)) (filter_map data_of items) r.defs.nodes b.nodes

    from_pairs : (ps : List PredTree) (qs : List (PredDef × Names)) → AllZip (Built (pred (entries items))) ps qs → AllZip PredIsOf ps (map (λ q. q.0) qs)
    from_pairs [] [] h = tt
    from_pairs [] (q ∷ qs) h = absurd h
    from_pairs (p ∷ ps) [] h = absurd h
    from_pairs (p ∷ ps) (q ∷ qs) h = (subst (λ (z : PredDef × Names). PredIsOf p z.0) (sym h.0.3) (pred_is_of (entries items) h.0.0 p h.0.1 h.0.2), from_pairs ps qs h.1)

    pub preds_are_of : AllZip PredIsOf (filter_map pred_of items) r.defs.preds
    preds_are_of = subst (AllZip PredIsOf (filter_map pred_of items)) (sym b.preds_are) (from_pairs (filter_map pred_of items) b.preds b.preds_built)

    pub table_is : AllByRecursion (EntryIs r.defs) (entries items)
    table_is = entries_are r.defs items nodes_are_of preds_are_of
