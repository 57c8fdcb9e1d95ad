-- The normal form of a source is lowerable.
use Rattle.std.proofs.Common.{◌≡◌, ℕ, zero, suc, List, [], ◌∷◌, ◌++◌, length, map, Option, Some, None, slice_get, slice_index_or, refl, sym, ap, ◌∙◌, subst, arith}
use Rattle.std.specs.List.{All, AllZip, Contains, filter_map, flat_map}
use Rattle.std.proofs.lemmas.List.Elements.{All-from_recursion, All-weaker}
use Rattle.hs_tree.specs.declared.ident.Ident.{Ident}
use Rattle.hs_tree.specs.declared.method.ParamTree.{ParamTree}
use Rattle.hs_tree.specs.declared.method.MethodSource.{MethodSource}
use Rattle.hs_tree.specs.declared.method.CondTree.{CondTree}
use Rattle.hs_tree.specs.declared.method.BlockTree.{BlockTree, BlockTree-F, map-BlockTree, roll-BlockTree, ind-BlockTree, fold-roll-BlockTree}
use Rattle.hs_tree.specs.declared.method.StatementTree.{StatementTree, StatementTree-F, map-StatementTree, roll-StatementTree, fold-roll-StatementTree}
use Rattle.hs_tree.specs.declared.method.StatementKind.{StatementKind, fold-StatementKind, map-StatementKind, roll-StatementKind, fold-roll-StatementKind}
use Rattle.hs_tree.specs.declared.method.StatementKind.TheOpen.{StatementKind-F}
use Rattle.hs_tree.specs.declared.source.Source.{Source}
use Rattle.hs_heap.specs.declared.definitions.NodeDef.{NodeDef}
use Rattle.hs_heap.specs.declared.definitions.PredDef.{PredDef}
use Rattle.hs_heap.specs.declared.definitions.Defs.{Defs}
use Rattle.hs_heap.specs.Sound.{IsSound}
use Rattle.hs_norm.specs.declared.resolved.Param.{Param}
use Rattle.hs_norm.specs.declared.resolved.MethodTree.{MethodTree}
use Rattle.hs_norm.specs.declared.resolved.Resolved.{Resolved}
use Rattle.hs_norm.specs.Items as items
use Rattle.hs_norm.specs.Normal.{own_names}
use Rattle.hs_norm_block.specs.Program.{kind_locals, statement_locals, locals}
use Rattle.hs_norm_sound.specs.Claims.{PairIsNormal, HasDisjunct}
use Rattle.hs_norm_sound.specs.Entries.{DefinesSource}
use Rattle.hs_norm_sound.specs.Uses.{Use, Name, Call, New, Kind, Number, block_uses}
use Rattle.hs_norm_sound.specs.Methods.{KindIsThere, IsDeclared, ParamFits, MethodIsDeclared}
use Rattle.hs_norm_sound.proofs.Passing.{zip_right}
use Rattle.hs_lower_scope.specs.declared.variable.Variable.{Variable}
use Rattle.hs_lower_scope.specs.Scope.{scope_of, param_variable, kind_variables, statement_variables, block_variables}
use Rattle.hs_lower_sound.specs.Lowerable.{IsThere, MethodIsLowerable, IsLowerable}
use Rattle.hs_lower_sound.proofs.Places.{get_of_contains, find_apart, apart_front}
use Rattle.hs_lower_sound.proofs.Pairs.{pair_fits}

-- ---- the locals of a block

abbrev names_of : List Variable → List (List ℕ)
names_of vs = map (λ v. v.name) vs

abbrev texts_of : List Ident → List (List ℕ)
texts_of xs = map (λ x. x.text) xs

-- variables that have these names in order
abbrev Named : List Variable × List Ident → Type 0
Named b = names_of b.0 ≡ texts_of b.1

map_append : {X Y : Type 0} (f : X → Y) (xs ys : List X) → map f (xs ++ ys) ≡ map f xs ++ map f ys
map_append f [] ys = refl
map_append f (x ∷ xs) ys = ap (λ zs. f x ∷ zs) (map_append f xs ys)

named_append : (vs us : List Variable) (xs ys : List Ident) → Named (vs, xs) → Named (us, ys) → Named (vs ++ us, xs ++ ys)
named_append vs us xs ys h g = map_append (λ (v : Variable). v.name) vs us ∙ (λ i. h i ++ g i) ∙ sym (map_append (λ (x : Ident). x.text) xs ys)

module _ (defs : Defs) where
  abbrev block_declared : BlockTree-F (List Variable) (List Variable) (List Variable) → List Variable
  block_declared b = flat_map (λ xs. xs) b.statements

  abbrev block_locals : BlockTree-F (List Ident) (List Ident) (List Ident) → List Ident
  block_locals b = flat_map (λ xs. xs) b.statements

  abbrev statement_level : {A : Type 0} → StatementTree-F A A A → A
  statement_level s = s.kind

  abbrev declared_of : StatementKind → List Variable
  declared_of = fold-StatementKind (List Variable) (List Variable) (List Variable) (kind_variables defs) block_declared statement_level

  abbrev locals_of : StatementKind → List Ident
  locals_of = fold-StatementKind (List Ident) (List Ident) (List Ident) kind_locals block_locals statement_level

  abbrev QK : StatementKind → Type 0
  QK k = Named (declared_of k, locals_of k)

  abbrev QB : BlockTree → Type 0
  QB b = Named (block_variables defs b, locals b)

  abbrev QS : StatementTree → Type 0
  QS s = Named (statement_variables defs s, statement_locals s)

  abbrev K : Type 0
  K = (k : StatementKind) × QK k

  abbrev B : Type 0
  B = (b : BlockTree) × QB b

  abbrev S : Type 0
  S = (s : StatementTree) × QS s

  abbrev bare_kind : StatementKind-F K B S → StatementKind-F StatementKind BlockTree StatementTree
  bare_kind = map-StatementKind K B S StatementKind BlockTree StatementTree (λ e. e.0) (λ e. e.0) (λ e. e.0)

  abbrev kind_both : StatementKind-F StatementKind BlockTree StatementTree → List Variable × List Ident
  kind_both z = (
    kind_variables defs (map-StatementKind StatementKind BlockTree StatementTree (List Variable) (List Variable) (List Variable) declared_of (block_variables defs) (statement_variables defs) z),
    kind_locals (map-StatementKind StatementKind BlockTree StatementTree (List Ident) (List Ident) (List Ident) locals_of locals statement_locals z),
  )

  branch_named : (c : CondTree) (body : B) (other : Option B) → Named (kind_both (bare_kind (StatementKind-F.Branch c body other)))
  branch_named c body None = named_append (block_variables defs body.0) [] (locals body.0) [] body.1 refl
  branch_named c body (Some b) = named_append (block_variables defs body.0) (block_variables defs b.0) (locals body.0) (locals b.0) body.1 b.1

  kinds_named : (k : StatementKind-F K B S) → Named (kind_both (bare_kind k))
  kinds_named (StatementKind-F.Local t x v) = refl
  kinds_named (StatementKind-F.Assign x v) = refl
  kinds_named (StatementKind-F.Store x f e) = refl
  kinds_named (StatementKind-F.Call c) = refl
  kinds_named (StatementKind-F.Branch c body other) = branch_named c body other
  kinds_named (StatementKind-F.Return e) = refl

  rows_named : (ss : List S) → Named (flat_map (λ xs. xs) (map (statement_variables defs) (map (λ e. e.0) ss)), flat_map (λ xs. xs) (map statement_locals (map (λ e. e.0) ss)))
  rows_named [] = refl
  rows_named (s ∷ ss) = named_append (statement_variables defs s.0) (flat_map (λ xs. xs) (map (statement_variables defs) (map (λ e. e.0) ss))) (statement_locals s.0) (flat_map (λ xs. xs) (map statement_locals (map (λ e. e.0) ss))) s.1 (rows_named ss)

  all_kinds : (x : StatementKind-F StatementKind BlockTree StatementTree) (y : StatementKind-F K B S) → bare_kind y ≡ x → QK (roll-StatementKind x)
  all_kinds x y is = subst Named (λ i. (
    sym (fold-roll-StatementKind (List Variable) (List Variable) (List Variable) (kind_variables defs) block_declared statement_level x) i,
    sym (fold-roll-StatementKind (List Ident) (List Ident) (List Ident) kind_locals block_locals statement_level x) i,
  ))
      (subst (λ z. Named (kind_both z)) is (kinds_named y))

  all_blocks : (x : BlockTree-F StatementKind BlockTree StatementTree) (y : BlockTree-F K B S) → map-BlockTree K B S StatementKind BlockTree StatementTree (λ e. e.0) (λ e. e.0) (λ e. e.0) y ≡ x → QB (roll-BlockTree x)
  all_blocks x y is = subst Named (λ i. (
    sym (fold-roll-BlockTree (List Variable) (List Variable) (List Variable) (kind_variables defs) block_declared statement_level x) i,
    sym (fold-roll-BlockTree (List Ident) (List Ident) (List Ident) kind_locals block_locals statement_level x) i,
  ))
      (subst (λ z. Named (
        block_declared (map-BlockTree StatementKind BlockTree StatementTree (List Variable) (List Variable) (List Variable) declared_of (block_variables defs) (statement_variables defs) z),
        block_locals (map-BlockTree StatementKind BlockTree StatementTree (List Ident) (List Ident) (List Ident) locals_of locals statement_locals z),
      )) is (rows_named y.statements))

  all_statements : (x : StatementTree-F StatementKind BlockTree StatementTree) (y : StatementTree-F K B S) → map-StatementTree K B S StatementKind BlockTree StatementTree (λ e. e.0) (λ e. e.0) (λ e. e.0) y ≡ x → QS (roll-StatementTree x)
  all_statements x y is = subst Named (λ i. (
    sym (fold-roll-StatementTree (List Variable) (List Variable) (List Variable) (kind_variables defs) block_declared statement_level x) i,
    sym (fold-roll-StatementTree (List Ident) (List Ident) (List Ident) kind_locals block_locals statement_level x) i,
  ))
      (subst (λ z. Named (
        statement_level (map-StatementTree StatementKind BlockTree StatementTree (List Variable) (List Variable) (List Variable) declared_of (block_variables defs) (statement_variables defs) z),
        statement_level (map-StatementTree StatementKind BlockTree StatementTree (List Ident) (List Ident) (List Ident) locals_of locals statement_locals z),
      )) is y.kind.1)

  locals_named : (b : BlockTree) → Named (block_variables defs b, locals b)
  locals_named = ind-BlockTree QK QB QS all_kinds all_blocks all_statements

params_named : (defs : Defs) (ps : List ParamTree) (qs : List Param) → AllZip (ParamFits defs) ps qs → Named (map param_variable qs, map (λ p. p.name) ps)
params_named defs [] [] h = refl
params_named defs [] (q ∷ qs) h = absurd h
params_named defs (p ∷ ps) [] h = absurd h
params_named defs (p ∷ ps) (q ∷ qs) h = λ i. h.0.0 i ∷ params_named defs ps qs h.1 i

-- ---- names

abbrev HasName : List Variable → Ident → Type 0
HasName vs x = (v : Variable) × Contains vs v × (v.name ≡ x.text)

name_more : (u : Variable) (vs : List Variable) (x : Ident) → HasName vs x → HasName (u ∷ vs) x
name_more u vs x h = let lt = h.1.1 in (h.0, (suc h.1.0, omega arith, h.1.2), h.2)

name_found : (vs : List Variable) (ys : List Ident) (k : ℕ) (y : Ident) → Named (vs, ys) → slice_get ys k ≡ Some y → HasName vs y
name_found [] [] k y h e = cc
name_found [] (z ∷ ys) k y h e = cc
name_found (v ∷ vs) [] k y h e = cc
name_found (v ∷ vs) (z ∷ ys) zero y h e =
    let same : z ≡ y = cc in
    let named : v.name ≡ z.text = cc in
    (v, (0, omega arith, refl), named ∙ ap (λ (x : Ident). x.text) same)
name_found (v ∷ vs) (z ∷ ys) (suc k) y h e = let rest : names_of vs ≡ texts_of ys = cc in name_more v vs y (name_found vs ys k y rest e)

-- ---- lists side by side

zip_at : {A B : Type 0} (R : A → B → Type 0) (xs : List A) (ys : List B) (k : ℕ) (x : A) → AllZip R xs ys → slice_get xs k ≡ Some x → (y : B) × (slice_get ys k ≡ Some y) × R x y
zip_at R [] [] k x h e = cc
zip_at R [] (y ∷ ys) k x h e = absurd h
zip_at R (z ∷ xs) [] k x h e = absurd h
zip_at R (z ∷ xs) (y ∷ ys) zero x h e = let same : z ≡ x = cc in (y, refl, subst (λ a. R a y) same h.0)
zip_at R (z ∷ xs) (y ∷ ys) (suc k) x h e = zip_at R xs ys k x h.1 e

zip_length : {A B : Type 0} (R : A → B → Type 0) (xs : List A) (ys : List B) → AllZip R xs ys → length ys ≡ length xs
zip_length R [] [] h = refl
zip_length R [] (y ∷ ys) h = absurd h
zip_length R (x ∷ xs) [] h = absurd h
zip_length R (x ∷ xs) (y ∷ ys) h = ap (λ k. suc k) (zip_length R xs ys h.1)

-- ---- methods

module _ (source : Source) (r : Resolved) (names : DefinesSource source r) where
  abbrev ms : List MethodSource
  ms = filter_map items.method_of source.items

  abbrev Declared : MethodSource → MethodTree → Type 0
  Declared = MethodIsDeclared r.defs ms

  module _ (declared : AllZip Declared ms r.methods) where
    there : (s : MethodSource) (m : MethodTree) → Declared s m → (u : Use) → IsDeclared r.defs ms (own_names s) u → IsThere (scope_of r m) u
    there s m d (Name x) h =
        let own : Named ((scope_of r m).variables, own_names s) =
        named_append (map param_variable m.params) (block_variables r.defs m.block) (map (λ p. p.name) s.params) (locals s.block) (params_named r.defs s.params m.params d.params)
        (subst (λ b. Named (block_variables r.defs b, locals s.block)) (sym d.block) (locals_named r.defs s.block)) in
        let found = name_found (scope_of r m).variables (own_names s) h.1.0 h.0 own (get_of_contains (own_names s) h.0 h.1) in
        (found.0, found.1, found.2 ∙ h.2)
    there s m d (Call c) h =
        let f = zip_at Declared ms r.methods h.1.0 h.0 declared (get_of_contains ms h.0 h.1) in
        let same = f.2 in (
          f.0,
          find_apart (λ (q : MethodTree). q.name) c.name.text r.methods h.1.0 f.0 names.methods f.1 (same.name ∙ h.2),
          zip_length (ParamFits r.defs) h.0.params f.0.params same.params ∙ h.3,
        )
    there s m d (New x count) h = (
      h.0,
      find_apart (λ (n : NodeDef). n.name) x.text r.defs.nodes h.1.0 h.0 (apart_front (map (λ (n : NodeDef). n.name) r.defs.nodes) (map (λ (p : PredDef). p.name) r.defs.preds) names.definitions) (get_of_contains r.defs.nodes h.0 h.1) h.2,
      h.3,
    )
    there s m d (Kind t) h = h
    there s m d (Number e) h = h

    abbrev Normal : MethodTree → Type 0
    Normal m = All (PairIsNormal r.defs (length m.params)) m.pairs

    abbrev Filled : MethodTree → Type 0
    Filled m = All (λ p. HasDisjunct p.pair_pre × HasDisjunct p.pair_post) m.pairs

    method_lowerable : (s : MethodSource) (m : MethodTree) → Declared s m → Normal m → Filled m → MethodIsLowerable r m
    method_lowerable s m d normal filled = record {
      params = All-from_recursion (λ (p : Param). KindIsThere r.defs p.kind) m.params (zip_right (ParamFits r.defs) (λ p. KindIsThere r.defs p.kind) (λ p q h. h.1) s.params m.params d.params);
      result = d.result;
      uses = subst (λ b. All (IsThere (scope_of r m)) (block_uses b)) (sym d.block) (All-weaker (IsDeclared r.defs ms (own_names s)) (IsThere (scope_of r m)) (there s m d) (block_uses s.block) d.uses);
      pairs = λ k p within. pair_fits r m (slice_index_or m.pairs k p) (normal k p within) (filled k p within);
    }

    abbrev Of : MethodTree → Type 0
    Of m = (s : MethodSource) × Declared s m

    of_sources : All Of r.methods
    of_sources = All-from_recursion Of r.methods (zip_right Declared Of (λ s m h. (s, h)) ms r.methods declared)

    pub lowerable : IsSound r.defs → All Normal r.methods → All Filled r.methods → IsLowerable r
    lowerable defs normal filled = record {
      defs = defs;
      methods = λ k m within. let of = of_sources k m within in method_lowerable of.0 (slice_index_or r.methods k m) of.1 (normal k m within) (filled k m within);
    }
