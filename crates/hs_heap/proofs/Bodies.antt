-- An instantiated body means the body at the values of the root and the arguments.
use Rattle.std.proofs.Common.{◌≡◌, ℕ, zero, suc, ◌+◌, ◌<◌, pos, Bool, true, false, not, ◌||◌, IsTrue, ◌⊎◌, inl, inr, List, [], ◌∷◌, map, refl, sym, ap, ◌∙◌, subst, slice_get, arith}
use Rattle.std.specs.List.{list_any, All}
use Rattle.std.proofs.lemmas.Bool.{or_cases, and_from}
use Rattle.std.proofs.lemmas.List.Elements.{All-nil, All-cons, All-head, All-tail}
use Rattle.hs_pure.specs.declared.var.Var.{Var}
use Rattle.hs_pure.specs.declared.pure.Pure.{Pure}
use Rattle.hs_pure.specs.Stack.{Stack, Value, same, with_value, number_value}
use Rattle.hs_pure.specs.Occurs.{is_free, is_bound, occurs}
use Rattle.hs_pure.specs.Truth.{TrueAt}
use Rattle.hs_pure.specs.Sums.{KeepsKinds}
use Rattle.hs_pure.proofs.Agree.{Agree}
use Rattle.hs_pure.proofs.Vars.{or_left, or_right, same-from}
use Rattle.hs_heap.specs.declared.formula.Atom.{Atom}
use Rattle.hs_heap.specs.declared.formula.Disjunct.{Disjunct}
use Rattle.hs_heap.specs.declared.definitions.Defs.{Defs}
use Rattle.hs_heap.specs.Heap.{Heap}
use Rattle.hs_heap.specs.Meaning.{Meaning, argument_at, parameter_value, is_in, self_var, with_arguments, pred_at, FormulaHolds}
use Rattle.hs_heap.specs.Variables.{is_free_in_disjunct, is_free_in_formula, occurs_in_disjunct, occurs_in_formula}
use Rattle.hs_heap.specs.declared.formula.Of.{Of}
use Rattle.hs_heap.specs.declared.formula.Of.TheVariants.{Node, Pred}
use Rattle.hs_heap.specs.declared.definitions.PredDef.{PredDef}
use Rattle.hs_heap.specs.declared.definitions.Lemma.{Lemma}
use Rattle.hs_heap.specs.Sound.{AtomFits, PureFits, DisjunctFits, PredIsSound, LemmaIsSound, IsSound, kinds}
use Rattle.hs_heap.proofs.Stacks.{same_true, same_itself, same_turned, with_value-other, same_is, SameBut-refl, SameBut-none}
use Rattle.hs_heap.specs.Renamed.{is_bound_in_disjunct, is_bound_in_formula, DisjunctKeepsApart}
use Rattle.hs_heap.specs.Instance.{Body, CaseFits, BodyFits, body_of, body_of_pred, body_of_inv, body_of_lemma, body_or_none, lemma_at, conjunct_alone, is_named, is_other_var, is_other, count_below, put_arguments, new_number, body_renaming, instantiated, stack_of_body}
use Rattle.hs_heap.proofs.Booleans.{bool_cases, or_false_left, or_false_right, clash, not_of_false}
use Rattle.hs_heap.proofs.Free.{cases_agree}
use Rattle.hs_heap.proofs.Renaming.{before, cases_renamed, renamed_cases}
use Rattle.hs_heap.proofs.Occurring.{bound_occurs}
use Rattle.hs_heap.proofs.Counts.{count-passes, count-tells}
use Rattle.hs_heap.proofs.Lists.{any_forth}
use Rattle.hs_heap.proofs.Sources.{cases_source, cases_bound_source, cases_occurs_source}
use Rattle.hs_heap.specs.Laws.{IsNew}
use Rattle.hs_heap.proofs.Cleaning.{clean, KindsFit}
use Rattle.hs_heap.proofs.CleaningHeaps.{HasNumberRoot, CaseKindsFit, value_of_kind, cases_clean, clean_cases}

-- ---- arguments in the place of parameters

pub put-out : (ws args : List Var) (e : Var → Var) (v : Var) → is_in v ws ≡ false → put_arguments ws args e v ≡ e v
put-out [] args e v out = refl
put-out (w ∷ ws) [] e v out = refl
put-out (w ∷ ws) (a ∷ args) e v out =
    let f = same_turned w v (or_false_left (same v w) (is_in v ws) out) in
    rw f (put-out ws args e v (or_false_right (same v w) (is_in v ws) out))

put-same : (w : Var) (ws : List Var) (a : Var) (args : List Var) (e : Var → Var) (v : Var) → same w v ≡ true → put_arguments (w ∷ ws) (a ∷ args) e v ≡ a
put-same w ws a args e v is = rw is refl

put-other : (w : Var) (ws : List Var) (a : Var) (args : List Var) (e : Var → Var) (v : Var) → same w v ≡ false → put_arguments (w ∷ ws) (a ∷ args) e v ≡ put_arguments ws args e v
put-other w ws a args e v isnt = rw isnt refl

-- the same variable, either way round
same_swapped : (u v : Var) → same u v ≡ true → same v u ≡ true
same_swapped u v e = same_is v u (sym (same_true u v e))

later : (v w : Var) (ws : List Var) → is_in v (w ∷ ws) ≡ true → same w v ≡ false → is_in v ws ≡ true
later v w ws e f = elim (or_cases (same v w) (is_in v ws) e) [ inl k ↦ clash (same_swapped v w k) f | inr k ↦ k ]

pub put-in : (ws args : List Var) (e : Var → Var) (v : Var) → kinds ws ≡ kinds args → is_in v ws ≡ true → is_in (put_arguments ws args e v) args ≡ true
put-in [] args e v k i = absurd cc
put-in (w ∷ ws) [] e v k i = absurd cc
put-in (w ∷ ws) (a ∷ args) e v k i = elim (bool_cases (same w v)) [
  | inl is ↦ subst (λ u. is_in u (a ∷ args) ≡ true) (sym (put-same w ws a args e v is)) (or_left (same a a) (is_in a args) (same_itself a))
  | inr isnt ↦ subst (λ u. is_in u (a ∷ args) ≡ true) (sym (put-other w ws a args e v isnt))
      (or_right (same (put_arguments ws args e v) a) (is_in (put_arguments ws args e v) args) (put-in ws args e v (cc) (later v w ws i isnt)))
]

pub put-kind : (ws args : List Var) (e : Var → Var) (v : Var) → kinds ws ≡ kinds args → (e v).bag ≡ v.bag → (put_arguments ws args e v).bag ≡ v.bag
put-kind [] args e v k f = f
put-kind (w ∷ ws) [] e v k f = f
put-kind (w ∷ ws) (a ∷ args) e v k f = elim (bool_cases (same w v)) [
  | inl is ↦ let g : w.bag ≡ v.bag = ap (λ (u : Var). u.bag) (same_true w v is) in let h : w.bag ≡ a.bag = cc in rw is (sym h ∙ g)
  | inr isnt ↦ ap (λ (u : Var). u.bag) (put-other w ws a args e v isnt) ∙ put-kind ws args e v (cc) f
]

with_first : (w : Var) (y : Value) (t : Stack) (v : Var) → same w v ≡ true → y ≡ with_value w y t v
with_first w y t v is = rw is refl

pub put-value : (ws args : List Var) (e : Var → Var) (s z : Stack) (v : Var) → kinds ws ≡ kinds args → is_in v ws ≡ true →
    parameter_value (argument_at s (put_arguments ws args e v)) ≡ with_arguments ws (map (argument_at s) args) z v
put-value [] args e s z v k i = absurd cc
put-value (w ∷ ws) [] e s z v k i = absurd cc
put-value (w ∷ ws) (a ∷ args) e s z v k i = elim (bool_cases (same w v)) [
  | inl is ↦ ap (λ u. parameter_value (argument_at s u)) (put-same w ws a args e v is) ∙ with_first w (parameter_value (argument_at s a)) (with_arguments ws (map (argument_at s) args) z) v is
  | inr isnt ↦ ap (λ u. parameter_value (argument_at s u)) (put-other w ws a args e v isnt) ∙ put-value ws args e s z v (cc) (later v w ws i isnt)
      ∙ sym (with_value-other w (parameter_value (argument_at s a)) (with_arguments ws (map (argument_at s) args) z) v isnt)
]

-- ---- bodies

cases_bound_occurs : (ds : List Disjunct) (u : Var) → IsTrue (list_any (is_bound_in_disjunct u) ds) → IsTrue (list_any (occurs_in_disjunct u) ds)
cases_bound_occurs [] u e = e
cases_bound_occurs (d ∷ ds) u e = elim (or_cases (is_bound_in_disjunct u d) (list_any (is_bound_in_disjunct u) ds) e) [
  | inl k ↦ or_left (occurs_in_disjunct u d) (list_any (occurs_in_disjunct u) ds) (bound_occurs u d k)
  | inr k ↦ or_right (occurs_in_disjunct u d) (list_any (occurs_in_disjunct u) ds) (cases_bound_occurs ds u k)
]

module _ (defs : Defs) (b : Body) (root : Var) (args : List Var) (fresh : ℕ) (fits : BodyFits defs b)
    (root_kind : root.bag ≡ false) (arity : kinds b.params ≡ kinds args) (below : (v : Var) → IsTrue (is_in v (root ∷ args)) → v.number < fresh) where
  abbrev ρ : Var → Var
  ρ = body_renaming b root args fresh

  all_kinds : kinds (self_var ∷ b.params) ≡ kinds (root ∷ args)
  all_kinds = λ i. sym root_kind i ∷ arity i

  keeps : KeepsKinds ρ
  keeps v = put-kind (self_var ∷ b.params) (root ∷ args) (new_number b fresh) v all_kinds refl

  -- a variable that occurs and is not named has a number that is counted
  other_counts : (v : Var) → IsTrue (occurs_in_formula v b.formula) → is_named b v ≡ false → is_other b v.number ≡ true
  other_counts v o n = go v.number v.bag (and_from (occurs_in_formula v b.formula) (not (is_named b v)) o (not_of_false n))
    where
      go : (k : ℕ) (bag : Bool) → is_other_var b (record { number = k; bag = bag }) ≡ true → is_other b k ≡ true
      go k true e = or_right (is_other_var b (record { number = k; bag = false })) (is_other_var b (record { number = k; bag = true })) e
      go k false e = or_left (is_other_var b (record { number = k; bag = false })) (is_other_var b (record { number = k; bag = true })) e

  apart : (u v : Var) → is_named b u ≡ false → IsTrue (occurs_in_formula u b.formula) → IsTrue (occurs_in_formula v b.formula) → ρ u ≡ ρ v → u ≡ v
  apart u v n o p e =
      let at_u = put-out (self_var ∷ b.params) (root ∷ args) (new_number b fresh) u n in
      let number_u : (ρ u).number ≡ fresh + count_below (is_other b) u.number = ap (λ (w : Var). w.number) at_u in
      let numbers : (ρ u).number ≡ (ρ v).number = ap (λ (w : Var). w.number) e in
      elim (bool_cases (is_named b v)) [
        | inl named ↦
            let low : (ρ v).number < fresh = below (ρ v) (put-in (self_var ∷ b.params) (root ∷ args) (new_number b fresh) v all_kinds named) in
            absurd (omega arith)
        | inr unnamed ↦
            let at_v = put-out (self_var ∷ b.params) (root ∷ args) (new_number b fresh) v unnamed in
            let number_v : (ρ v).number ≡ fresh + count_below (is_other b) v.number = ap (λ (w : Var). w.number) at_v in
            let counts : count_below (is_other b) u.number ≡ count_below (is_other b) v.number = omega arith in
            let same_number = count-tells (is_other b) u.number v.number (other_counts u o n) (other_counts v p unnamed) counts in
            let bags : (ρ u).bag ≡ (ρ v).bag = ap (λ (w : Var). w.bag) e in
            same_true u v (same-from u v same_number (sym (keeps u) ∙ bags ∙ keeps v))
      ]

  -- what a disjunct binds is not named
  bound_unnamed : (d : Disjunct) → CaseFits defs (self_var ∷ b.params) b.next d → (u : Var) → IsTrue (is_bound_in_disjunct u d) → is_named b u ≡ false
  bound_unnamed d f u i = elim (or_cases (is_in u d.bound) (list_any (is_bound u) d.pure) i) [
    | inl k ↦ f.apart u k
    | inr k ↦ inside d.pure f.pure k
  ]
    where
      inside : (ps : List Pure) → All (PureFits (self_var ∷ b.params) b.next) ps → IsTrue (list_any (is_bound u) ps) → is_named b u ≡ false
      inside [] f k = absurd cc
      inside (p ∷ ps) f k = elim (or_cases (is_bound u p) (list_any (is_bound u) ps) k) [
        | inl h ↦ (All-head (PureFits (self_var ∷ b.params) b.next) p ps f).apart u h
        | inr h ↦ inside ps (All-tail (PureFits (self_var ∷ b.params) b.next) p ps f) h
      ]

  keeps_apart : (ds : List Disjunct) → ((v : Var) → IsTrue (list_any (occurs_in_disjunct v) ds) → IsTrue (occurs_in_formula v b.formula)) →
      All (CaseFits defs (self_var ∷ b.params) b.next) ds → All (DisjunctKeepsApart ρ) ds
  keeps_apart [] inside f = All-nil (DisjunctKeepsApart ρ)
  keeps_apart (d ∷ ds) inside f = All-cons (DisjunctKeepsApart ρ) d ds
      (λ u v i o e. apart u v (bound_unnamed d (All-head (CaseFits defs (self_var ∷ b.params) b.next) d ds f) u i)
      (inside u (or_left (occurs_in_disjunct u d) (list_any (occurs_in_disjunct u) ds) (bound_occurs u d i)))
      (inside v (or_left (occurs_in_disjunct v d) (list_any (occurs_in_disjunct v) ds) o)) e)
      (keeps_apart ds (λ v o. inside v (or_right (occurs_in_disjunct v d) (list_any (occurs_in_disjunct v) ds) o)) (All-tail (CaseFits defs (self_var ∷ b.params) b.next) d ds f))

  -- ---- values

  free_named : (ds : List Disjunct) → All (CaseFits defs (self_var ∷ b.params) b.next) ds → (v : Var) → IsTrue (list_any (is_free_in_disjunct v) ds) → is_named b v ≡ true
  free_named [] f v e = absurd cc
  free_named (d ∷ ds) f v e = elim (or_cases (is_free_in_disjunct v d) (list_any (is_free_in_disjunct v) ds) e) [
    | inl k ↦ (All-head (CaseFits defs (self_var ∷ b.params) b.next) d ds f).among v k
    | inr k ↦ free_named ds (All-tail (CaseFits defs (self_var ∷ b.params) b.next) d ds f) v k
  ]

  abbrev body_at : Stack → Stack
  body_at s = stack_of_body b (s root).number (map (argument_at s) args)

  values : (s : Stack) → Agree (λ v. list_any (is_free_in_disjunct v) b.formula.cases) (clean (before ρ s)) (body_at s)
  values s v e =
      let zero : Stack = λ w. number_value (pos 0) in
      let root_value : parameter_value (argument_at s root) ≡ number_value (s root).number = rw root_kind refl in
      let named = free_named b.formula.cases fits v e in
      value_of_kind s v (ρ v) (keeps v)
      ∙ put-value (self_var ∷ b.params) (root ∷ args) (new_number b fresh) s zero v all_kinds named
      ∙ ap (λ y. with_value self_var y (with_arguments b.params (map (argument_at s) args) zero) v) root_value

  kinds_fit : (ds : List Disjunct) → All (CaseFits defs (self_var ∷ b.params) b.next) ds → All CaseKindsFit ds
  kinds_fit [] f = All-nil CaseKindsFit
  kinds_fit (d ∷ ds) f = All-cons CaseKindsFit d ds (one d (All-head (CaseFits defs (self_var ∷ b.params) b.next) d ds f)) (kinds_fit ds (All-tail (CaseFits defs (self_var ∷ b.params) b.next) d ds f))
    where
      roots : (atoms : List Atom) → All (AtomFits defs) atoms → All HasNumberRoot atoms
      roots [] f = All-nil HasNumberRoot
      roots (a ∷ rest) f = All-cons HasNumberRoot a rest (All-head (AtomFits defs) a rest f).0 (roots rest (All-tail (AtomFits defs) a rest f))

      pures : (ps : List Pure) → All (PureFits (self_var ∷ b.params) b.next) ps → All KindsFit ps
      pures [] f = All-nil KindsFit
      pures (p ∷ ps) f =
          let g = (All-head (PureFits (self_var ∷ b.params) b.next) p ps f).formed in
          All-cons KindsFit p ps (record { ordered = g.ordered; bags = g.bags; binders = g.binders }) (pures ps (All-tail (PureFits (self_var ∷ b.params) b.next) p ps f))

      one : (d : Disjunct) → CaseFits defs (self_var ∷ b.params) b.next d → CaseKindsFit d
      one d f = record { roots = roots d.atoms f.atoms; pure = pures d.pure f.pure }

  pub body_from_instantiated : (x : Meaning) (s : Stack) (h : Heap) → FormulaHolds x s h (instantiated b root args fresh) → FormulaHolds x (body_at s) h b.formula
  body_from_instantiated x s h q =
      cases_agree x b.formula.cases (clean (before ρ s)) (body_at s) h (values s)
      (cases_clean x b.formula.cases (before ρ s) h (kinds_fit b.formula.cases fits)
      (cases_renamed ρ keeps x s (before ρ s) h b.formula.cases (λ v e. refl) (keeps_apart b.formula.cases (λ v o. o) fits) q))

  pub instantiated_from_body : (x : Meaning) (s : Stack) (h : Heap) → FormulaHolds x (body_at s) h b.formula → FormulaHolds x s h (instantiated b root args fresh)
  instantiated_from_body x s h q =
      renamed_cases ρ keeps x s (before ρ s) h b.formula.cases (λ v e. refl) (keeps_apart b.formula.cases (λ v o. o) fits)
      (clean_cases x b.formula.cases (before ρ s) h (kinds_fit b.formula.cases fits)
      (cases_agree x b.formula.cases (body_at s) (clean (before ρ s)) h (λ v e. sym (values s v e)) q))

  -- ---- numbers

  others_numbered : (ds : List Disjunct) → All (CaseFits defs (self_var ∷ b.params) b.next) ds → (v : Var) → IsTrue (list_any (occurs_in_disjunct v) ds) → v.number < b.next
  others_numbered ds f v = any_forth occurs_in_disjunct (λ (v : Var). v.number < b.next) ds (λ i d less v o. ((f i d less).numbers v o).1) v

  named_image : (v : Var) → is_named b v ≡ true → IsTrue (is_in (ρ v) (root ∷ args))
  named_image v n = put-in (self_var ∷ b.params) (root ∷ args) (new_number b fresh) v all_kinds n

  other_image : (v : Var) → IsTrue (occurs_in_formula v b.formula) → is_named b v ≡ false → IsNew b fresh (ρ v)
  other_image v o n =
      let e : (ρ v).number ≡ fresh + count_below (is_other b) v.number = ap (λ (w : Var). w.number) (put-out (self_var ∷ b.params) (root ∷ args) (new_number b fresh) v n) in
      let less = count-passes (is_other b) v.number b.next (other_counts v o n) (others_numbered b.formula.cases fits v o) in
      (omega arith, omega arith)

  pub instantiated_binds : (v : Var) → IsTrue (is_bound_in_formula v (instantiated b root args fresh)) → IsNew b fresh v
  instantiated_binds v e =
      let (w, bound, is) = cases_bound_source ρ b.formula.cases v e in
      let unnamed = any_forth is_bound_in_disjunct (λ v. is_named b v ≡ false) b.formula.cases (λ i d less. bound_unnamed _ (fits i d less)) w bound in
      subst (IsNew b fresh) (sym is) (other_image w (cases_bound_occurs b.formula.cases w bound) unnamed)

  pub instantiated_free : (v : Var) → IsTrue (is_free_in_formula v (instantiated b root args fresh)) → IsTrue (is_in v (root ∷ args))
  instantiated_free v e =
      let (w, free, is) = cases_source ρ b.formula.cases v e in
      subst (λ u. IsTrue (is_in u (root ∷ args))) (sym is) (named_image w (free_named b.formula.cases fits w free))

  pub instantiated_occurs : (v : Var) → IsTrue (occurs_in_formula v (instantiated b root args fresh)) → IsTrue (is_in v (root ∷ args)) ⊎ IsNew b fresh v
  instantiated_occurs v e =
      let (w, o, is) = cases_occurs_source ρ b.formula.cases v e in
      elim (bool_cases (is_named b w)) [
        | inl named ↦ inl (subst (λ u. IsTrue (is_in u (root ∷ args))) (sym is) (named_image w named))
        | inr unnamed ↦ inr (subst (IsNew b fresh) (sym is) (other_image w o unnamed))
      ]

-- ---- a conjunct alone

module _ (x : Meaning) where
  pub alone_holds : (s : Stack) (p : Pure) → TrueAt s p → FormulaHolds x s [] (conjunct_alone p)
  alone_holds s p e = inl (record { at = s; same = SameBut-refl [] s; pure = (e, tt); atoms = refl })

  pub alone_true : (s : Stack) (h : Heap) (p : Pure) → FormulaHolds x s h (conjunct_alone p) → TrueAt s p
  alone_true s h p (inl q) = subst (λ t. TrueAt t p) (SameBut-none q.same) q.pure.0
  alone_true s h p (inr q) = absurd q

-- ---- the bodies of sound definitions

module _ (defs : Defs) where
  get_fits : {A : Type 0} (body : A → Body) (P : A → Type 0) → ((a : A) → P a → BodyFits defs (body a)) → (xs : List A) (n : ℕ) → All P xs → BodyFits defs (body_or_none body (slice_get xs n))
  get_fits body P f [] n h = All-nil _
  get_fits body P f (x ∷ xs) zero h = f x (All-head P x xs h)
  get_fits body P f (x ∷ xs) (suc n) h = get_fits body P f xs n (All-tail P x xs h)

  case_fits : (names : List Var) (next : ℕ) (d : Disjunct) → DisjunctFits defs names next d → CaseFits defs names next d
  case_fits names next d f = record { apart = f.apart; among = f.among; numbers = f.numbers; atoms = f.atoms; pure = f.pure }

  pred_body_fits : (p : PredDef) → PredIsSound defs p → BodyFits defs (body_of_pred p)
  pred_body_fits p f i d less = case_fits (self_var ∷ p.params) p.next _ (f.body i d less)

  lemma_body_fits : (l : Lemma) → LemmaIsSound defs l → BodyFits defs (body_of_lemma l)
  lemma_body_fits l f = All-cons (CaseFits defs (self_var ∷ l.params) l.next) l.right [] (case_fits (self_var ∷ l.params) l.next l.right f.right) (All-nil _)

  of_one : (b : Bool) → (b || false) ≡ true → b ≡ true
  of_one true e = e
  of_one false e = e

  inv_body_fits : (p : PredDef) → PredIsSound defs p → BodyFits defs (body_of_inv p)
  inv_body_fits p f = All-cons (CaseFits defs (self_var ∷ p.params) p.next) _ [] (record {
    apart = λ u i. absurd cc;
    among = λ v e. f.invariant_among v (of_one (is_free v p.inv) e);
    numbers = λ v e. f.invariant.numbers v (of_one (occurs v p.inv) e);
    atoms = All-nil (AtomFits defs);
    pure = All-cons (PureFits (self_var ∷ p.params) p.next) p.inv [] f.invariant (All-nil _);
  }) (All-nil _)

  module _ (sound : IsSound defs) where
    pub bodies_fit : (o : Of) → BodyFits defs (body_of defs o)
    bodies_fit (Node n) = All-nil _
    bodies_fit (Pred zero) = All-nil _
    bodies_fit (Pred (suc n)) = get_fits body_of_pred (PredIsSound defs) pred_body_fits defs.preds n sound.preds

    pub invariants_fit : (n : ℕ) → BodyFits defs (body_or_none body_of_inv (pred_at defs n))
    invariants_fit zero = All-nil _
    invariants_fit (suc n) = get_fits body_of_inv (PredIsSound defs) inv_body_fits defs.preds n sound.preds

    pub lemmas_fit : (n : ℕ) → BodyFits defs (body_or_none body_of_lemma (lemma_at defs n))
    lemmas_fit zero = All-nil _
    lemmas_fit (suc n) = get_fits body_of_lemma (LemmaIsSound defs) lemma_body_fits defs.lemmas n sound.lemmas
