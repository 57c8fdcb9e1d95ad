-- What rows give fits the calls.
use Rattle.std.proofs.Common.{◌≡◌, ℕ, suc, zero, ◌+◌, ◌^◌, ◌<◌, ◌≤◌, List, [], ◌∷◌, Option, Some, None, slice_get, option_map, refl, sym, ◌∙◌, subst, arith}
use Rattle.std.specs.Prelude.{IsSome}
use Rattle.std.specs.List.{list_any, All}
use Rattle.std.proofs.lemmas.List.Elements.{All-head, All-tail}
use Rattle.hs_pure.specs.declared.var.Var.{Var}
use Rattle.hs_pure.specs.Occurs.{occurs}
use Rattle.hs_pure.proofs.Vars.{or_left, or_right}
use Rattle.hs_heap.specs.declared.formula.Of.TheVariants.{Pred}
use Rattle.hs_heap.specs.declared.formula.Disjunct.{Disjunct}
use Rattle.hs_heap.specs.declared.definitions.PredDef.{PredDef}
use Rattle.hs_heap.specs.declared.definitions.Lemma.{Lemma}
use Rattle.hs_heap.specs.declared.definitions.Defs.{Defs}
use Rattle.hs_heap.specs.Meaning.{is_in, pred_at}
use Rattle.hs_heap.specs.Variables.{in_atom}
use Rattle.hs_heap.specs.Sound.{AtomFits, DisjunctFits, PredIsSound, LemmaIsSound, IsSound, kinds}
use Rattle.hs_heap.specs.Instance.{ArgumentsFit, body_of, body_of_pred, body_of_lemma, body_or_none, lemma_at}
use Rattle.hs_xpure.specs.Invariants.{pred_atom}
use Rattle.hs_xpure.specs.Laws.{AtomsFit}

pub atoms_fit : (defs : Defs) (free : List Var) (next : ℕ) (d : Disjunct) → DisjunctFits defs free next d → AtomsFit defs d.atoms next
atoms_fit defs free next d fits = record {
  each = fits.atoms;
  below = λ v o. (fits.numbers v (or_right (is_in v d.bound) _ (or_left (list_any (in_atom v) d.atoms) (list_any (occurs v) d.pure) o))).1;
}

module _ (defs : Defs) (pred : ℕ) (root : Var) (args : List Var) (n : ℕ) (fits : AtomsFit defs (pred_atom pred root args ∷ []) n) where
  fit : AtomFits defs (pred_atom pred root args)
  fit = All-head (AtomFits defs) (pred_atom pred root args) [] fits.each

  pub pred_there : IsSome (pred_at defs pred)
  pred_there = there (pred_at defs pred) fit.1
    where
      there : (o : Option PredDef) → option_map (λ (p : PredDef). kinds p.params) o ≡ Some (kinds args) → IsSome o
      there None e = absurd cc
      there (Some p) e = refl

  pub arguments_fit : ArgumentsFit (body_of defs (Pred pred)).params root args n
  arguments_fit = of (pred_at defs pred) fit.1
    where
      of : (o : Option PredDef) → option_map (λ (p : PredDef). kinds p.params) o ≡ Some (kinds args) → ArgumentsFit (body_or_none body_of_pred o).params root args n
      of None e = absurd cc
      of (Some p) e = record { number_root = fit.0; arity = cc; below = λ v o. fits.below v (or_left (in_atom v (pred_atom pred root args)) _ o) }

at_place : (P : PredDef → Type 0) (ps : List PredDef) (i : ℕ) → All P ps → (o : Option PredDef) → slice_get ps i ≡ o → (next : ℕ) → ((p : PredDef) → P p → p.next ≤ next) → (body_or_none body_of_pred o).next ≤ next
at_place P ps i all None e next low = omega arith
at_place P [] i all (Some p) e next low = absurd cc
at_place P (q ∷ ps) zero all (Some p) e next low = let f : q ≡ p = cc in low p (subst P f (All-head P q ps all))
at_place P (q ∷ ps) (suc i) all (Some p) e next low = at_place P ps i (All-tail P q ps all) (Some p) e next low

pub has_room : (defs : Defs) (pred n : ℕ) → IsSound defs → n ≤ 2 ^ 30 → n + (body_of defs (Pred pred)).next < 2 ^ 32
has_room defs zero n sound low = omega arith
has_room defs (suc i) n sound low =
    let f = at_place (PredIsSound defs) defs.preds i sound.preds (slice_get defs.preds i) refl 1024 (λ p s. s.head.bounded) in omega arith

-- ---- lemmas

lemma_in : (ls : List Lemma) (P : Lemma → Type 0) (i : ℕ) (l : Lemma) → All P ls → slice_get ls i ≡ Some l → P l
lemma_in [] P i l all e = absurd cc
lemma_in (m ∷ ls) P zero l all e = let f : m ≡ l = cc in subst P f (All-head P m ls all)
lemma_in (m ∷ ls) P (suc i) l all e = lemma_in ls P i l (All-tail P m ls all) e

lemma_sound : (defs : Defs) (j : ℕ) (l : Lemma) → IsSound defs → lemma_at defs j ≡ Some l → LemmaIsSound defs l
lemma_sound defs zero l sound e = absurd cc
lemma_sound defs (suc i) l sound e = lemma_in defs.lemmas (LemmaIsSound defs) i l sound.lemmas e

module _ (defs : Defs) (j : ℕ) (l : Lemma) (e : lemma_at defs j ≡ Some l) where
  pub lemma_there : IsSome (lemma_at defs j)
  lemma_there = subst IsSome (sym e) refl

  pub lemma_arguments_fit : IsSound defs → (pred : ℕ) → l.pred ≡ pred → (root : Var) (args : List Var) (n : ℕ) → AtomsFit defs (pred_atom pred root args ∷ []) n →
      ArgumentsFit (body_or_none body_of_lemma (lemma_at defs j)).params root args n
  lemma_arguments_fit sound pred is root args n some =
      let fits = subst (λ k. AtomsFit defs (pred_atom k root args ∷ []) n) (sym is) some in
      let whole = lemma_sound defs j l sound e in
      let fit = All-head (AtomFits defs) (pred_atom l.pred root args) [] fits.each in
      let same : Some (kinds l.params) ≡ Some (kinds args) = sym whole.like ∙ fit.1 in
      subst (λ o. ArgumentsFit (body_or_none body_of_lemma o).params root args n) (sym e)
      (record { number_root = fit.0; arity = cc; below = λ v o. fits.below v (or_left (in_atom v (pred_atom l.pred root args)) _ o) })

  pub lemma_has_room : IsSound defs → (n : ℕ) → n ≤ 2 ^ 30 → n + (body_or_none body_of_lemma (lemma_at defs j)).next < 2 ^ 32
  lemma_has_room sound n low =
      let whole = lemma_sound defs j l sound e in
      subst (λ o. n + (body_or_none body_of_lemma o).next < 2 ^ 32) (sym e) (let f = whole.head.bounded in omega arith)
