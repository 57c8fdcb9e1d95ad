-- The entry of a data type or predicate is found by its name.
use Rattle.std.proofs.Common.{◌≡◌, ◌≢◌, ℕ, zero, suc, ◌+◌, ◌-◌, ◌<◌, ◌^◌, Bool, true, false, if◌then◌else◌, List, [], ◌∷◌, ◌++◌, length, length-append, map, take, Option, Some, None, unwrap_or, slice_get, append_assoc, refl, sym, ap, subst, ◌∙◌, add-one, arith}
use Rattle.std.specs.List.{fold, AllByRecursion, position_from}
use Rattle.std.specs.Option.{option_map}
use Rattle.std.specs.Str.{bytes_eq}
use Rattle.std.specs.Bool.{Decides}
use Rattle.std.proofs.lemmas.List.{append-nil, map-append, take-map}
use Rattle.std.proofs.lemmas.Slice.Eq.{bytes_eq-Decides}
use Rattle.hs_heap.specs.declared.formula.Of.{Of}
use Rattle.hs_heap.specs.declared.formula.Of.TheVariants.{Node, Pred}
use Rattle.hs_heap.specs.declared.definitions.NodeDef.{NodeDef}
use Rattle.hs_heap.specs.declared.definitions.PredDef.{PredDef}
use Rattle.hs_heap.specs.declared.definitions.Defs.{Defs}
use Rattle.hs_heap.specs.Sound.{argument_kinds}
use Rattle.hs_norm_formula.specs.declared.table.Entry.{Entry}
use Rattle.hs_norm_formula.specs.Table.{place, entry_at, entry}
use Rattle.hs_norm_formula.specs.Numbered.{node_entry, pred_entry, counted, nameable, entries_of}
use Rattle.hs_print.specs.Formula.{node_name, pred_name, of_text}
use Rattle.hs_written.specs.Writable.{of_number, names_of, AreDifferent}

abbrev name_of : Entry → List ℕ
name_of e = e.name

-- ---- the first with a name

position_suc : (test : Entry → Bool) (es : List Entry) (k : ℕ) → position_from test (suc k) es ≡ option_map suc (position_from test k es)
position_suc test [] k = refl
position_suc test (e ∷ es) k = of (test e) (position_suc test es (k + 1))
  where
    moved : suc k + 1 ≡ suc (k + 1)
    moved = omega arith

    of : (b : Bool) → position_from test (suc (k + 1)) es ≡ option_map suc (position_from test (k + 1) es) →
        (if b then Some (suc k) else position_from test (suc k + 1) es) ≡ option_map suc (if b then Some k else position_from test (k + 1) es)
    of true h = refl
    of false h = (λ j. position_from test (moved j) es) ∙ h

entry-cons : (name : List ℕ) (e : Entry) (es : List Entry) → entry name (e ∷ es) ≡ (if bytes_eq name e.name then Some e else entry name es)
entry-cons name e es = of (bytes_eq name e.name)
  where
    behind : (o : Option ℕ) → entry_at (e ∷ es) (option_map suc o) ≡ entry_at es o
    behind None = refl
    behind (Some i) = refl

    of : (b : Bool) → entry_at (e ∷ es) (if b then Some 0 else position_from (λ e. bytes_eq name e.name) 1 es) ≡ (if b then Some e else entry name es)
    of true = refl
    of false = ap (entry_at (e ∷ es)) (position_suc (λ e. bytes_eq name e.name) es 0) ∙ behind (place name es)

apart_at : (x : List ℕ) (es : List Entry) (i : ℕ) (e : Entry) → AllByRecursion (λ y. x ≢ y) (map name_of es) → slice_get es i ≡ Some e → x ≢ e.name
apart_at x [] i e d h = absurd cc
apart_at x (y ∷ es) zero e d h = λ p. d.0 (p ∙ ap (λ (o : Option Entry). (unwrap_or o y).name) (sym h))
apart_at x (y ∷ es) (suc i) e d h = apart_at x es i e d.1 h

not_decided : (b : Bool) (P : Type 0) → Decides b P → (P → ⊥) → b ≡ false
not_decided true P d no_p = absurd (no_p (d.0 refl))
not_decided false P d no_p = refl

found : (es : List Entry) (i : ℕ) (e : Entry) → AreDifferent (map name_of es) → slice_get es i ≡ Some e → entry e.name es ≡ Some e
found [] i e d h = absurd cc
found (x ∷ es) zero e d h =
    let same : bytes_eq e.name x.name ≡ true = (bytes_eq-Decides e.name x.name).1 (ap (λ (o : Option Entry). (unwrap_or o x).name) (sym h)) in
    entry-cons e.name x es ∙ (λ j. if same j then Some x else entry e.name es) ∙ h
found (x ∷ es) (suc i) e d h =
    let other : bytes_eq e.name x.name ≡ false = not_decided (bytes_eq e.name x.name) (e.name ≡ x.name) (bytes_eq-Decides e.name x.name) (λ p. apart_at x.name es i e d.0 h (sym p)) in
    entry-cons e.name x es ∙ (λ j. if other j then Some x else entry e.name es) ∙ found es i e d.1 h

-- ---- entries by their number

module _ {A B : Type 0} (f : ℕ → A → B) where
  counted_from : ℕ → List A → List B
  counted_from k [] = []
  counted_from k (x ∷ xs) = f (suc k) x ∷ counted_from (suc k) xs

  fold-counted : (ys : List B) (xs : List A) → fold (λ done x. done ++ f (length done + 1) x ∷ []) ys xs ≡ ys ++ counted_from (length ys) xs
  unfolding counted_from
  fold-counted ys [] = sym (append-nil ys)
  fold-counted ys (x ∷ xs) =
      let more : length (ys ++ f (length ys + 1) x ∷ []) ≡ suc (length ys) = omega (arith, length-append ys (f (length ys + 1) x ∷ [])) in
      fold-counted (ys ++ f (length ys + 1) x ∷ []) xs
      ∙ (λ j. (ys ++ f (length ys + 1) x ∷ []) ++ counted_from (more j) xs)
      ∙ (λ j. (ys ++ f (add-one (length ys) j) x ∷ []) ++ counted_from (suc (length ys)) xs)
      ∙ append_assoc ys (f (suc (length ys)) x ∷ []) (counted_from (suc (length ys)) xs)

  at_counted : (k : ℕ) (xs : List A) (i : ℕ) (x : A) → slice_get xs i ≡ Some x → slice_get (counted_from k xs) i ≡ Some (f (suc (k + i)) x)
  unfolding counted_from
  at_counted k [] i x h = absurd cc
  at_counted k (y ∷ xs) zero x h = let e : k ≡ k + 0 = omega arith in λ j. Some (f (suc (e j)) (unwrap_or (h j) y))
  at_counted k (y ∷ xs) (suc i) x h = let e : suc k + i ≡ k + suc i = omega arith in at_counted (suc k) xs i x h ∙ λ j. Some (f (suc (e j)) x)

  counted_at : (xs : List A) (i : ℕ) (x : A) → slice_get xs i ≡ Some x → slice_get (counted f xs) i ≡ Some (f (suc i) x)
  counted_at xs i x h = let e : 0 + i ≡ i = omega arith in (λ j. slice_get (fold-counted [] xs j) i) ∙ at_counted 0 xs i x h ∙ λ j. Some (f (suc (e j)) x)

  map-counted_from : (g : B → List ℕ) (h : A → List ℕ) → ((k : ℕ) (x : A) → g (f k x) ≡ h x) → (k : ℕ) (xs : List A) → map g (counted_from k xs) ≡ map h xs
  unfolding counted_from
  map-counted_from g h is k [] = refl
  map-counted_from g h is k (x ∷ xs) = λ j. is (suc k) x j ∷ map-counted_from g h is (suc k) xs j

  map-counted : (g : B → List ℕ) (h : A → List ℕ) → ((k : ℕ) (x : A) → g (f k x) ≡ h x) → (xs : List A) → map g (counted f xs) ≡ map h xs
  map-counted g h is xs = ap (map g) (fold-counted [] xs) ∙ map-counted_from g h is 0 xs

-- ---- lists that are cut off

module _ {A : Type 0} where
  at_take : (m : ℕ) (xs : List A) (i : ℕ) → i < m → slice_get (take m xs) i ≡ slice_get xs i
  at_take zero xs i h = absurd (omega arith)
  at_take (suc m) [] i h = refl
  at_take (suc m) (x ∷ xs) zero h = refl
  at_take (suc m) (x ∷ xs) (suc i) h = at_take m xs i (omega arith)

  at_left : (xs ys : List A) (i : ℕ) (x : A) → slice_get xs i ≡ Some x → slice_get (xs ++ ys) i ≡ Some x
  at_left [] ys i x h = absurd cc
  at_left (y ∷ xs) ys zero x h = h
  at_left (y ∷ xs) ys (suc i) x h = at_left xs ys i x h

  at_right : (xs ys : List A) (i : ℕ) (x : A) → slice_get ys i ≡ Some x → (k : ℕ) × (slice_get (xs ++ ys) k ≡ Some x)
  at_right [] ys i x h = (i, h)
  at_right (y ∷ xs) ys i x h = let r = at_right xs ys i x h in (suc r.0, r.1)

module _ (P : List ℕ → Type 0) where
  all_take : (n : ℕ) (ys : List (List ℕ)) → AllByRecursion P ys → AllByRecursion P (take n ys)
  all_take zero ys h = tt
  all_take (suc n) [] h = tt
  all_take (suc n) (y ∷ ys) h = (h.0, all_take n ys h.1)

  all_right : (xs ys : List (List ℕ)) → AllByRecursion P (xs ++ ys) → AllByRecursion P ys
  all_right [] ys h = h
  all_right (x ∷ xs) ys h = all_right xs ys h.1

  all_cut : (m n : ℕ) (xs ys : List (List ℕ)) → AllByRecursion P (xs ++ ys) → AllByRecursion P (take m xs ++ take n ys)
  all_cut zero n xs ys h = all_take n ys (all_right xs ys h)
  all_cut (suc m) n [] ys h = all_take n ys h
  all_cut (suc m) n (x ∷ xs) ys h = (h.0, all_cut m n xs ys h.1)

different_take : (n : ℕ) (ys : List (List ℕ)) → AreDifferent ys → AreDifferent (take n ys)
different_take zero ys h = tt
different_take (suc n) [] h = tt
different_take (suc n) (y ∷ ys) h = (all_take (λ z. y ≢ z) n ys h.0, different_take n ys h.1)

different_right : (xs ys : List (List ℕ)) → AreDifferent (xs ++ ys) → AreDifferent ys
different_right [] ys h = h
different_right (x ∷ xs) ys h = different_right xs ys h.1

different_cut : (m n : ℕ) (xs ys : List (List ℕ)) → AreDifferent (xs ++ ys) → AreDifferent (take m xs ++ take n ys)
different_cut zero n xs ys h = different_take n ys (different_right xs ys h)
different_cut (suc m) n [] ys h = different_take n ys h
different_cut (suc m) n (x ∷ xs) ys h = (all_cut (λ z. x ≢ z) m n xs ys h.0, different_cut m n xs ys h.1)

-- ---- the entries of definitions

names-entries : (defs : Defs) → map name_of (entries_of defs) ≡ take (2 ^ 32 - 1) (map (λ d. d.name) defs.nodes) ++ take (2 ^ 32 - 1) (map (λ p. p.name) defs.preds)
names-entries defs =
    map-append name_of (counted node_entry (nameable defs.nodes)) (counted pred_entry (nameable defs.preds))
    ∙ (λ j. map-counted node_entry name_of (λ d. d.name) (λ k d. refl) (nameable defs.nodes) j ++ map-counted pred_entry name_of (λ p. p.name) (λ k p. refl) (nameable defs.preds) j)
    ∙ (λ j. sym (take-map (λ (d : NodeDef). d.name) (2 ^ 32 - 1) defs.nodes) j ++ sym (take-map (λ (p : PredDef). p.name) (2 ^ 32 - 1) defs.preds) j)

different-entries : (defs : Defs) → AreDifferent (names_of defs) → AreDifferent (map name_of (entries_of defs))
different-entries defs h = subst AreDifferent (sym (names-entries defs)) (different_cut (2 ^ 32 - 1) (2 ^ 32 - 1) (map (λ d. d.name) defs.nodes) (map (λ p. p.name) defs.preds) h)

within : (k m : ℕ) → suc k < m → k < m - 1
within k m h = omega arith

module _ (defs : Defs) (different : AreDifferent (names_of defs)) (name : List ℕ) (ks : List Bool) where
  node_found : (k : ℕ) (d : Option NodeDef) → slice_get defs.nodes k ≡ d → suc k < 2 ^ 32 → option_map (λ (d : NodeDef). map (λ f. false) d.fields) d ≡ Some ks → name ≡ node_name d →
      entry name (entries_of defs) ≡ Some (record { name = name; of = Node (suc k); kinds = ks })
  node_found k None h small e is = absurd cc
  node_found k (Some d) h small e is =
      let at = at_left (counted node_entry (nameable defs.nodes)) (counted pred_entry (nameable defs.preds)) k (node_entry (suc k) d)
      (counted_at node_entry (nameable defs.nodes) k d (at_take (2 ^ 32 - 1) defs.nodes k (within k (2 ^ 32) small) ∙ h)) in
      (λ j. entry (is j) (entries_of defs)) ∙ found (entries_of defs) k (node_entry (suc k) d) (different-entries defs different) at
      ∙ λ j. Some (record { name = sym is j; of = Node (suc k); kinds = unwrap_or (e j) ks })

  pred_found : (k : ℕ) (p : Option PredDef) → slice_get defs.preds k ≡ p → suc k < 2 ^ 32 → option_map (λ (p : PredDef). map (λ v. v.bag) p.params) p ≡ Some ks → name ≡ pred_name p →
      entry name (entries_of defs) ≡ Some (record { name = name; of = Pred (suc k); kinds = ks })
  pred_found k None h small e is = absurd cc
  pred_found k (Some p) h small e is =
      let at = at_right (counted node_entry (nameable defs.nodes)) (counted pred_entry (nameable defs.preds)) k (pred_entry (suc k) p)
      (counted_at pred_entry (nameable defs.preds) k p (at_take (2 ^ 32 - 1) defs.preds k (within k (2 ^ 32) small) ∙ h)) in
      (λ j. entry (is j) (entries_of defs)) ∙ found (entries_of defs) at.0 (pred_entry (suc k) p) (different-entries defs different) at.1
      ∙ λ j. Some (record { name = sym is j; of = Pred (suc k); kinds = unwrap_or (e j) ks })

  pub entry_found : (o : Of) → of_number o < 2 ^ 32 → argument_kinds defs o ≡ Some ks → name ≡ of_text defs o → entry name (entries_of defs) ≡ Some (record { name = name; of = o; kinds = ks })
  entry_found (Node zero) small e is = absurd cc
  entry_found (Node (suc k)) small e is = node_found k (slice_get defs.nodes k) refl small e is
  entry_found (Pred zero) small e is = absurd cc
  entry_found (Pred (suc k)) small e is = pred_found k (slice_get defs.preds k) refl small e is
