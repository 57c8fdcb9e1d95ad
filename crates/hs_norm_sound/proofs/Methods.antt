-- The methods of a source use what it declares.
use Rattle.std.proofs.Common.{◌≡◌, ℕ, zero, suc, ◌+◌, ◌≤◌, ◌<◌, Bool, true, false, List, [], ◌∷◌, length, map, Option, Some, None, slice_get, is_some, refl, sym, ap, ◌∙◌, subst, arith}
use Rattle.std.specs.List.{AllByRecursion, AllZip, Contains, filter_map}
use Rattle.std.specs.Str.{bytes_eq}
use Rattle.std.proofs.lemmas.List.{length-map}
use Rattle.std.proofs.lemmas.List.Elements.{All-from_recursion}
use Rattle.std.proofs.lemmas.Slice.Eq.{bytes_eq-Decides}
use Rattle.hs_tree.specs.declared.ident.Ident.{Ident}
use Rattle.hs_tree.specs.declared.method.TypeTree.{TypeTree}
use Rattle.hs_tree.specs.declared.method.TypeTree.TheVariants as tree
use Rattle.hs_tree.specs.declared.method.CallTree.{CallTree}
use Rattle.hs_tree.specs.declared.method.ParamTree.{ParamTree}
use Rattle.hs_tree.specs.declared.method.MethodSource.{MethodSource}
use Rattle.hs_tree.specs.declared.source.SourceItem.{SourceItem}
use Rattle.hs_tree.specs.declared.source.SourceItem.TheVariants.{Node, Pred, Entail, Method, Lemma}
use Rattle.hs_heap.specs.declared.definitions.NodeDef.{NodeDef}
use Rattle.hs_heap.specs.declared.definitions.Defs.{Defs}
use Rattle.hs_heap.specs.Sound.{node_at}
use Rattle.hs_numbering.specs.declared.fault.Problem.TheVariants.{Kind}
use Rattle.hs_numbering.specs.declared.fault.Limit.TheVariants.{Params, Methods}
use Rattle.hs_numbering.specs.declared.numbering.Numbering.{Numbering}
use Rattle.hs_numbering.specs.Names.{is_upper}
use Rattle.hs_numbering.specs.Numbering.{each_counted}
use Rattle.hs_norm_formula.specs.declared.table.Entry.{Entry}
use Rattle.hs_norm_formula.specs.Table.{entry}
use Rattle.hs_norm_formula.specs.Formula.{limit}
use Rattle.hs_norm_formula.specs.Sum.{blame_kind}
use Rattle.hs_norm.specs.declared.resolved.Resolved.{Resolved}
use Rattle.hs_declared.specs.Names.{place, item_at}
use Rattle.hs_declared.specs.Declaring.{method_name, param_count, entries, blame_repeated, declarations}
use Rattle.hs_norm.specs.Items.{method_of}
use Rattle.hs_declared.specs.Types.{as_node, type_of, type_by, optional_type}
use Rattle.hs_norm_item.specs.Claims.{pair}
use Rattle.hs_norm_block.specs.Program.{locals}
use Rattle.hs_norm.specs.Normal.{method_param, own_names, method, body}
use Rattle.hs_norm_sound.specs.Uses.{Use, Name, Call, New, Number, block_uses}
use Rattle.hs_norm_sound.specs.Uses as uses
use Rattle.hs_norm_sound.specs.Methods.{IsLightSum, KindIsThere, OptionIsThere, IsDeclared, ParamFits, MethodIsDeclared}
use Rattle.hs_norm_sound.proofs.Passing.{not_pushed, zip_weaker, counted_keeps, counted_all, joined}
use Rattle.hs_norm_sound.proofs.Found.{found_at, get_contains, get_below, some_eq}
use Rattle.hs_norm_sound.proofs.Apart.{repeated_apart, apart_of}
use Rattle.hs_norm_sound.proofs.Blocks.{block_passes}
use Rattle.hs_norm_sound.proofs.Stays.{FaultsStay, type_keeps, optional_type_keeps, pair_keeps}
use Rattle.hs_norm_sound.proofs.Source.{Built, SourceBuilt, method_param_keeps, body_keeps}
use Rattle.hs_norm_sound.proofs.Entries.{EntryIs, NodeFound, node_found}
use Rattle.hs_norm_sound.proofs.Defined.{table_is}

-- ---- calls

-- the method that is found by its name, with its number of parameters
record MethodAt (items : List SourceItem) (text : List ℕ) (count : ℕ) : Type 0 where
  item : MethodSource
  has : Contains (filter_map method_of items) item
  name : item.name.text ≡ text
  params : length item.params ≡ count

contains_more : {X : Type 0} (y : X) (xs : List X) (x : X) → Contains xs x → Contains (y ∷ xs) x
contains_more y xs x h = let lt = h.1 in (suc h.0, omega arith, h.2)

method_at : (items : List SourceItem) (k : ℕ) (x : Ident) (count : ℕ) → slice_get (filter_map method_name items) k ≡ Some x → slice_get (filter_map param_count items) k ≡ Some count → MethodAt items x.text count
method_at [] k x count e f = cc
method_at (Node d ∷ items) k x count e f = let r = method_at items k x count e f in record { item = r.item; has = r.has; name = r.name; params = r.params }
method_at (Pred d ∷ items) k x count e f = let r = method_at items k x count e f in record { item = r.item; has = r.has; name = r.name; params = r.params }
method_at (Entail d ∷ items) k x count e f = let r = method_at items k x count e f in record { item = r.item; has = r.has; name = r.name; params = r.params }
method_at (Lemma d ∷ items) k x count e f = let r = method_at items k x count e f in record { item = r.item; has = r.has; name = r.name; params = r.params }
method_at (Method m ∷ items) zero x count e f = record {
  item = m;
  has = (0, positive (length (filter_map method_of items)), refl);
  name = ap (λ (y : Ident). y.text) (some_eq m.name x e);
  params = some_eq (length m.params) count f;
}
  where
    positive : (k : ℕ) → 0 < suc k
    positive k = omega arith
method_at (Method m ∷ items) (suc k) x count e f = let r = method_at items k x count e f in record { item = r.item; has = contains_more m (filter_map method_of items) r.item r.has; name = r.name; params = r.params }

call_found : (items : List SourceItem) (text : List ℕ) (count : ℕ) → item_at (filter_map param_count items) (place text (filter_map method_name items)) ≡ Some count → MethodAt items text count
call_found items text count e = go (place text (filter_map method_name items)) refl e
  where
    none : (i : ℕ) → 0 + i ≡ i
    none i = omega arith

    go : (o : Option ℕ) → place text (filter_map method_name items) ≡ o → item_at (filter_map param_count items) o ≡ Some count → MethodAt items text count
    go None p h = cc
    go (Some j) p h =
        let f = found_at (λ x. bytes_eq text x.text) (filter_map method_name items) 0 j p in
        let at : j ≡ f.place = f.is ∙ none f.place in
        let same : text ≡ f.item.text = (bytes_eq-Decides text f.item.text).0 f.passes in
        subst (λ t. MethodAt items t count) (sym same) (method_at items f.place f.item count f.got (ap (slice_get (filter_map param_count items)) (sym at) ∙ h))

-- ---- types

there : (defs : Defs) (k : ℕ) (d : NodeDef) → node_at defs k ≡ Some d → (1 ≤ k) × (k ≤ length defs.nodes)
there defs zero d e = cc
there defs (suc k) d e = let lt = get_below defs.nodes k d e in (omega arith, omega arith)

node_contains : (defs : Defs) (k : ℕ) (d : NodeDef) → node_at defs k ≡ Some d → Contains defs.nodes d
node_contains defs zero d e = cc
node_contains defs (suc k) d e = get_contains defs.nodes k d e

module _ (defs : Defs) (table : List Entry) (are : AllByRecursion (EntryIs defs) table) where
  kind_there : (t : TypeTree) (n : Numbering) → (type_of table t n).1.faults ≡ [] → KindIsThere defs (type_of table t n).0
  kind_there (tree.Int at) n e = tt
  kind_there (tree.Named x) n e = go (as_node (entry x.text table)) refl e
    where
      go : (o : Option (ℕ × Entry)) → as_node (entry x.text table) ≡ o → (type_by x o n).1.faults ≡ [] → KindIsThere defs (type_by x o n).0
      go None p e = absurd (not_pushed n.faults _ e)
      go (Some found) p e = let f = node_found defs x.text table found p are in there defs found.0 f.node f.at

  option_there : (o : Option TypeTree) (n : Numbering) → (optional_type table o n).1.faults ≡ [] → OptionIsThere defs (optional_type table o n).0
  option_there None n e = tt
  option_there (Some t) n e = kind_there t n e

  param_fits : (k : ℕ) (p : ParamTree) (n : Numbering) → (method_param table k p n).1.faults ≡ [] → ParamFits defs p (method_param table k p n).0
  param_fits k p n e = (refl, kind_there p.kind (blame_kind p.name.at (is_upper p.name.text) (limit 16 Params p.at k n).1).1 e)

lower_of : (at : ℕ) (b : Bool) (n : Numbering) → (blame_kind at b n).1.faults ≡ [] → b ≡ false
lower_of at true n e = absurd (not_pushed n.faults (record { at = at; problem = Kind }) e)
lower_of at false n e = refl

pub param_lower : (table : List Entry) (k : ℕ) (p : ParamTree) (n : Numbering) → (method_param table k p n).1.faults ≡ [] → is_upper p.name.text ≡ false
param_lower table k p n e =
    let s1 = (limit 16 Params p.at k n).1 in
    let s2 = (blame_kind p.name.at (is_upper p.name.text) s1).1 in
    lower_of p.name.at (is_upper p.name.text) s1 (type_keeps table p.kind s2 e)

pub zip_left : {A B : Type 0} (P : A → Type 0) (xs : List A) (ys : List B) → AllZip (λ x y. P x) xs ys → AllByRecursion P xs
zip_left P [] [] h = tt
zip_left P [] (y ∷ ys) h = absurd h
zip_left P (x ∷ xs) [] h = absurd h
zip_left P (x ∷ xs) (y ∷ ys) h = (h.0, zip_left P xs ys h.1)

names_lower : (ps : List ParamTree) → AllByRecursion (λ (p : ParamTree). is_upper p.name.text ≡ false) ps → AllByRecursion (λ (x : Ident). is_upper x.text ≡ false) (map (λ p. p.name) ps)
names_lower [] h = tt
names_lower (p ∷ ps) h = (h.0, names_lower ps h.1)

-- ---- methods

module _ (stay : FaultsStay) (items : List SourceItem) (r : Resolved) (b : SourceBuilt items r) where
  abbrev ms : List MethodSource
  ms = filter_map method_of items

  abbrev F : List Ident → Use → Type 0
  F names = IsDeclared r.defs ms names

  found : (x : Ident) (f : ℕ × Entry) → as_node (entry x.text (entries items)) ≡ Some f → NodeFound r.defs x.text f
  found x f p = node_found r.defs x.text (entries items) f p (table_is stay items r b)

  call_holds : (names : List Ident) (c : CallTree) (count : ℕ) → item_at (declarations items).counts (place c.name.text (declarations items).methods) ≡ Some count → count ≡ length c.args → F names (Call c)
  call_holds names c count p e = let m = call_found items c.name.text count p in (m.item, m.has, m.name, m.params ∙ e)

  new_holds : (names : List Ident) (x : Ident) (count : ℕ) (f : ℕ × Entry) → as_node (entry x.text (entries items)) ≡ Some f → length f.1.kinds ≡ count → F names (New x count)
  new_holds names x count f p e =
      let n = found x f p in
      (n.node, node_contains r.defs f.0 n.node n.at, n.name, sym (length-map n.node.fields (λ f. false)) ∙ ap length n.fields ∙ e)

  kind_holds : (names : List Ident) (x : Ident) (f : ℕ × Entry) → as_node (entry x.text (entries items)) ≡ Some f → F names (uses.Kind (tree.Named x))
  kind_holds names x f p = let n = found x f p in (n.node, node_contains r.defs f.0 n.node n.at, n.name)

  uses_declared : (m : MethodSource) (n : Numbering) → (body (declarations items) m n).1.faults ≡ [] →
      AllByRecursion (F (own_names m)) (block_uses m.block) × AllByRecursion (λ (x : Ident). is_upper x.text ≡ false) (locals m.block)
  uses_declared m n e =
      let names = own_names m in
      let passed = block_passes (declarations items) names (F names) (λ x y has is lt. (y, has, is, lt)) (call_holds names) (new_holds names) (λ at. tt) (kind_holds names)
      (λ t parts is light. subst IsLightSum (sym is) light) m.block in
      ((passed.0 (blame_repeated names n).1 e).1, (passed.1 (blame_repeated names n).1 e).1)

  method_declared : (k : ℕ) (m : MethodSource) (n : Numbering) → (method (declarations items) k m n).1.faults ≡ [] → MethodIsDeclared r.defs ms m (method (declarations items) k m n).0
  method_declared k m n e =
      let table = entries items in
      let s1 = (limit 1024 Methods m.at k n).1 in
      let s2 = (each_counted (method_param table) m.params s1).1 in
      let s3 = (optional_type table m.result s2).1 in
      let s4 = (each_counted (pair table m.params (is_some m.result)) m.pairs s3).1 in
      let e4 = body_keeps (declarations items) m s4 e in
      let e3 = counted_keeps (pair table m.params (is_some m.result)) (pair_keeps stay table m.params (is_some m.result)) m.pairs s3 e4 in
      let e2 = optional_type_keeps table m.result s2 e3 in
      let names = own_names m in
      let u = uses_declared m s4 e in
      let lower = zip_left (λ p. is_upper p.name.text ≡ false) m.params (each_counted (method_param table) m.params s1).0
      (counted_all (method_param table) (method_param_keeps table) (λ p q. is_upper p.name.text ≡ false) (param_lower table) m.params s1 e2) in
      record {
        name = refl;
        block = refl;
        params = counted_all (method_param table) (method_param_keeps table) (ParamFits r.defs) (param_fits r.defs table (table_is stay items r b)) m.params s1 e2;
        result = option_there r.defs table (table_is stay items r b) m.result s2 e3;
        apart = apart_of names (repeated_apart names s4 (block_first m s4 e));
        lower = All-from_recursion (λ (x : Ident). is_upper x.text ≡ false) names (joined (λ (x : Ident). is_upper x.text ≡ false) (map (λ p. p.name) m.params) (locals m.block) (names_lower m.params lower) u.1);
        uses = All-from_recursion (F names) (block_uses m.block) u.0;
      }
    where
      block_first : (m : MethodSource) (n : Numbering) → (body (declarations items) m n).1.faults ≡ [] → (blame_repeated (own_names m) n).1.faults ≡ []
      block_first m n e = ((block_passes (declarations items) (own_names m) (λ _. Unit {0}) (λ x y _ _ _. tt) (λ c count _ _. tt) (λ x count found _ _. tt) (λ at. tt) (λ x found _. tt) (λ t parts _ _. tt) m.block).0 (blame_repeated (own_names m) n).1 e).0

  pub methods_declared : AllZip (MethodIsDeclared r.defs ms) ms r.methods
  methods_declared = zip_weaker (Built (method (declarations items))) (MethodIsDeclared r.defs ms) (λ m t h. subst (MethodIsDeclared r.defs ms m) (sym h.3) (method_declared h.0 m h.1 h.2)) ms r.methods b.methods
