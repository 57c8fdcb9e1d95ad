-- What is known of a source that is served.
use Rattle.std.proofs.Common.{◌≡◌, ℕ, Bool, true, false, ◌&&◌, List, [], ◌∷◌, length, Option, Some, None, Ok, refl, sym, ap, ◌∙◌}
use Rattle.std.specs.List.{list_all, filter_map}
use Rattle.std.proofs.lemmas.List.{length-map}
use Rattle.hs_heap.specs.declared.definitions.PredDef.{PredDef}
use Rattle.hs_tree.specs.declared.source.Source.{Source}
use Rattle.hs_tree.specs.declared.source.SourceItem.{SourceItem}
use Rattle.hs_numbering.specs.declared.fault.Fault.{Fault}
use Rattle.hs_numbering.specs.declared.names.Names.{Names}
use Rattle.hs_numbering.specs.declared.numbering.Numbering.{Numbering}
use Rattle.hs_numbering.specs.declared.numbering.Reading.TheVariants.{Closed}
use Rattle.hs_numbering.specs.Numbering.{start, each_counted}
use Rattle.hs_numbering.specs.Least.{least}
use Rattle.hs_norm_formula.specs.Numbered.{outcome}
use Rattle.hs_norm.specs.declared.resolved.Resolved.{Resolved}
use Rattle.hs_declared.specs.Declaring.{entries, blame_second}
use Rattle.hs_norm.specs.Items.{data_of, pred_of}
use Rattle.hs_norm_item.specs.Definitions.{node, pred}
use Rattle.hs_norm.specs.Normal.{items_normal, normal_of}
use Rattle.hs_norm_sound.specs.Laws.{DefinitionsAreSound}
use Rattle.hs_lower_sound.specs.Laws.{SourcesAreLowerable, LoweredProgramsAreSound}
use Rattle.hs_heap.specs.Sound.{IsSound}
use Rattle.hs_core.specs.declared.program.Program.{Program}
use Rattle.hs_core.specs.Sound.{IsSoundProgram}
use Rattle.hs_tool.specs.Served.{is_nil, is_served, has_no_variant}
use Rattle.hs_report_laws.specs.Laws.{IsProgramOf}

-- ---- names

built_is : {A : Type 0} (o : Option Fault) (a r : A) → outcome o a ≡ Ok r → a ≡ r
built_is None a r e = cc
built_is (Some f) a r e = absurd cc

-- the numbering at which the predicates are built
abbrev before_preds : List SourceItem → Numbering
before_preds items = (each_counted (node (entries items)) (filter_map data_of items) (blame_second items (start Closed [])).1).1

-- the predicates with their names
abbrev preds_built : List SourceItem → List (PredDef × Names)
preds_built items = (each_counted (pred (entries items)) (filter_map pred_of items) (before_preds items)).0

-- each predicate has its source names
pub named_preds : (tree : Source) (r : Resolved) → normal_of tree ≡ Ok r → length r.pred_names ≡ length r.defs.preds
named_preds tree r e =
    let same = built_is (least (items_normal tree.items (start Closed [])).1.faults) (items_normal tree.items (start Closed [])).0 r e in
    sym (ap (λ (x : Resolved). length x.pred_names) same)
    ∙ (length-map (preds_built tree.items) (λ (p : PredDef × Names). p.1) ∙ sym (length-map (preds_built tree.items) (λ (p : PredDef × Names). p.0)))
    ∙ ap (λ (x : Resolved). length x.defs.preds) same

-- ---- sources that are served

nil_is : {A : Type 0} (xs : List A) → is_nil xs ≡ true → xs ≡ []
nil_is [] e = refl
nil_is (x ∷ xs) e = absurd cc

first : (a b : Bool) → (a && b) ≡ true → a ≡ true
first true b e = refl
first false b e = absurd cc

-- a source that is served has no lemmas
pub without_lemmas : (r : Resolved) → is_served r ≡ true → r.defs.lemmas ≡ []
without_lemmas r e = nil_is r.defs.lemmas (first (is_nil r.defs.lemmas) (list_all has_no_variant r.methods) e)

module _ (bytes : List ℕ) (r : Resolved) (program : Program) (is : IsProgramOf bytes r program) where
  pub definitions_sound : DefinitionsAreSound → IsSound r.defs
  definitions_sound sound = sound is.tree r is.read.normal

  pub program_sound : SourcesAreLowerable → LoweredProgramsAreSound → IsSoundProgram r.defs program
  program_sound lowerable sound = sound r program (lowerable 64 bytes is.read.tokens is.tree r is.read.spelled is.read.normal) is.lowered
