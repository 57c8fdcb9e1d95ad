-- The pairs of the methods of a source.
use Rattle.std.proofs.Common.{◌≡◌, ℕ, suc, ◌≤◌, false, List, [], ◌∷◌, length, is_some, refl, sym, ap, subst}
use Rattle.std.specs.List.{All, AllByRecursion, AllZip, filter_map}
use Rattle.std.proofs.lemmas.List.Elements.{All-from_recursion, recursion_from_All}
use Rattle.hs_tree.specs.declared.method.ParamTree.{ParamTree}
use Rattle.hs_tree.specs.declared.method.PairSource.{PairSource}
use Rattle.hs_tree.specs.declared.method.MethodSource.{MethodSource}
use Rattle.hs_tree.specs.declared.source.SourceItem.{SourceItem}
use Rattle.hs_numbering.specs.declared.fault.Limit.TheVariants.{Methods}
use Rattle.hs_numbering.specs.declared.numbering.Numbering.{Numbering}
use Rattle.hs_numbering.specs.Names.{is_upper}
use Rattle.hs_numbering.specs.Numbering.{each_counted}
use Rattle.hs_norm_formula.specs.Formula.{limit}
use Rattle.hs_norm.specs.declared.resolved.Param.{Param}
use Rattle.hs_norm_item.specs.declared.forms.PairTree.{PairTree}
use Rattle.hs_norm.specs.declared.resolved.MethodTree.{MethodTree}
use Rattle.hs_norm.specs.declared.resolved.Resolved.{Resolved}
use Rattle.hs_declared.specs.Declaring.{entries, declarations}
use Rattle.hs_norm.specs.Items.{method_of}
use Rattle.hs_declared.specs.Types.{optional_type}
use Rattle.hs_norm_item.specs.Claims.{pair}
use Rattle.hs_norm.specs.Normal.{method_param, method}
use Rattle.hs_formula_fits.specs.Laws.{FormulasFit, NumbersFit}
use Rattle.hs_read.specs.Written.{IsWritten}
use Rattle.hs_norm_sound.specs.Claims.{PairIsNormal, HasDisjunct}
use Rattle.hs_norm_sound.proofs.Passing.{zip_right, counted_all, counted_keeps}
use Rattle.hs_norm_sound.proofs.Stays.{FaultsStay, optional_type_keeps, pair_keeps}
use Rattle.hs_norm_sound.proofs.Source.{Built, SourceBuilt, method_param_keeps, body_keeps}
use Rattle.hs_norm_sound.proofs.Entries.{entries_fit}
use Rattle.hs_norm_sound.proofs.Defined.{table_is}
use Rattle.hs_norm_sound.proofs.Methods.{param_lower, zip_left}
use Rattle.hs_norm_sound.proofs.Pairs.{PairRead, pair_read}
use Rattle.hs_norm_sound.proofs.Written.{PairsWritten}

zip_length : {A B : Type 0} (R : A → B → Type 0) (xs : List A) (ys : List B) → AllZip R xs ys → length ys ≡ length xs
zip_length R [] [] h = refl
zip_length R [] (y ∷ ys) h = absurd h
zip_length R (x ∷ xs) [] h = absurd h
zip_length R (x ∷ xs) (y ∷ ys) h = ap (λ k. suc k) (zip_length R xs ys h.1)

module _ (formulas : FormulasFit) (numbers : NumbersFit) (stay : FaultsStay) (items : List SourceItem) (r : Resolved) (b : SourceBuilt items r) where
  -- the pairs of a method side by side with those of the source
  abbrev PairsRead : MethodSource → MethodTree → Type 0
  PairsRead m t = AllZip (PairRead r.defs (length t.params)) m.pairs t.pairs

  pairs_read : (k : ℕ) (m : MethodSource) (n : Numbering) → (method (declarations items) k m n).1.faults ≡ [] → PairsRead m (method (declarations items) k m n).0
  pairs_read k m n e =
      let table = entries items in
      let s1 = (limit 1024 Methods m.at k n).1 in
      let params = each_counted (method_param table) m.params s1 in
      let s3 = (optional_type table m.result params.1).1 in
      let s4 = (each_counted (pair table m.params (is_some m.result)) m.pairs s3).1 in
      let e4 = body_keeps (declarations items) m s4 e in
      let e3 = counted_keeps (pair table m.params (is_some m.result)) (pair_keeps stay table m.params (is_some m.result)) m.pairs s3 e4 in
      let e2 = optional_type_keeps table m.result params.1 e3 in
      let lower = counted_all (method_param table) (method_param_keeps table) (λ (p : ParamTree) (q : Param). is_upper p.name.text ≡ false) (param_lower table) m.params s1 e2 in
      let long = zip_length (λ (p : ParamTree) (q : Param). is_upper p.name.text ≡ false) m.params params.0 lower in
      subst (λ j. AllZip (PairRead r.defs j) m.pairs (each_counted (pair table m.params (is_some m.result)) m.pairs s3).0) (sym long)
      (counted_all (pair table m.params (is_some m.result)) (pair_keeps stay table m.params (is_some m.result)) (PairRead r.defs (length m.params))
      (pair_read formulas numbers stay r.defs table (entries_fit r.defs table (table_is stay items r b)) m.params (zip_left (λ (p : ParamTree). is_upper p.name.text ≡ false) m.params params.0 lower) (is_some m.result)) m.pairs s3 e4)

  read_of : (m : MethodSource) (t : MethodTree) → Built (method (declarations items)) m t → PairsRead m t
  read_of m t h = subst (PairsRead m) (sym h.3) (pairs_read h.0 m h.1 h.2)

  abbrev PairsNormal : MethodTree → Type 0
  PairsNormal t = All (PairIsNormal r.defs (length t.params)) t.pairs

  pub pairs_normal : All PairsNormal r.methods
  pairs_normal = All-from_recursion PairsNormal r.methods (zip_right (Built (method (declarations items))) PairsNormal
      (λ m t h. All-from_recursion (PairIsNormal r.defs (length t.params)) t.pairs (zip_right (PairRead r.defs (length t.params)) (PairIsNormal r.defs (length t.params)) (λ p q g. g.normal) m.pairs t.pairs (read_of m t h)))
      (filter_map method_of items) r.methods b.methods)

  abbrev Filled : PairTree → Type 0
  Filled q = HasDisjunct q.pair_pre × HasDisjunct q.pair_post

  abbrev Written : PairSource → Type 0
  Written p = IsWritten p.pre × IsWritten p.post

  filled_each : (k : ℕ) (ps : List PairSource) (qs : List PairTree) → AllByRecursion Written ps → AllZip (PairRead r.defs k) ps qs → AllByRecursion Filled qs
  filled_each k [] [] w h = tt
  filled_each k [] (q ∷ qs) w h = absurd h
  filled_each k (p ∷ ps) [] w h = absurd h
  filled_each k (p ∷ ps) (q ∷ qs) w h = ((subst (λ j. 1 ≤ j) (sym h.0.pre) w.0.0, subst (λ j. 1 ≤ j) (sym h.0.post) w.0.1), filled_each k ps qs w.1 h.1)

  filled_all : (ms : List MethodSource) (ts : List MethodTree) → AllByRecursion PairsWritten ms → AllZip (Built (method (declarations items))) ms ts → AllByRecursion (λ (t : MethodTree). All Filled t.pairs) ts
  filled_all [] [] w h = tt
  filled_all [] (t ∷ ts) w h = absurd h
  filled_all (m ∷ ms) [] w h = absurd h
  filled_all (m ∷ ms) (t ∷ ts) w h = (All-from_recursion Filled t.pairs (filled_each (length t.params) m.pairs t.pairs (recursion_from_All Written m.pairs w.0) (read_of m t h.0)), filled_all ms ts w.1 h.1)

  pub pairs_filled : AllByRecursion PairsWritten (filter_map method_of items) → All (λ (t : MethodTree). All Filled t.pairs) r.methods
  pairs_filled w = All-from_recursion (λ (t : MethodTree). All Filled t.pairs) r.methods (filled_all (filter_map method_of items) r.methods w b.methods)
