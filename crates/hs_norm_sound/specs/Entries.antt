-- What the definitions of a source are.
use Rattle.std.specs.Prelude.{◌≡◌, ◌++◌, false, map}
use Rattle.std.specs.List.{AllZip, filter_map}
use Rattle.hs_tree.specs.declared.source.DataTree.{DataTree}
use Rattle.hs_tree.specs.declared.source.PredTree.{PredTree}
use Rattle.hs_tree.specs.declared.source.Source.{Source}
use Rattle.hs_heap.specs.declared.definitions.NodeDef.{NodeDef}
use Rattle.hs_heap.specs.declared.definitions.PredDef.{PredDef}
use Rattle.hs_heap.specs.Sound.{kinds}
use Rattle.hs_norm.specs.declared.resolved.Resolved.{Resolved}
use Rattle.hs_declared.specs.Declaring.{entries}
use Rattle.hs_norm.specs.Items.{data_of, pred_of}
use Rattle.hs_formula_fits.specs.Fits.{EntriesFit}
use Rattle.hs_norm_sound.specs.Methods.{AreApart}
use Rattle.hs_numbering.specs.Names.{is_upper}

-- a data type keeps its name, and has as many fields
pub record NodeIsOf (d : DataTree) (n : NodeDef) : Type 0 where
  pub name : n.name ≡ d.name.text
  pub fields : map (λ f. false) n.fields ≡ map (λ f. false) d.fields

-- a predicate keeps its name, and its parameters have the kinds of their names
pub record PredIsOf (p : PredTree) (q : PredDef) : Type 0 where
  pub name : q.name ≡ p.name.text
  pub kinds : kinds q.params ≡ map (λ x. is_upper x.text) p.params

-- what a source declares is there by its number, and no two names of a kind are equal
pub record DefinesSource (source : Source) (r : Resolved) : Type 0 where
  pub nodes : AllZip NodeIsOf (filter_map data_of source.items) r.defs.nodes
  pub preds : AllZip PredIsOf (filter_map pred_of source.items) r.defs.preds
  pub entries : EntriesFit r.defs (entries source.items)
  pub definitions : AreApart (map (λ d. d.name) r.defs.nodes ++ map (λ p. p.name) r.defs.preds)
  pub lemmas : AreApart (map (λ l. l.name) r.defs.lemmas)
  pub methods : AreApart (map (λ m. m.name) r.methods)
