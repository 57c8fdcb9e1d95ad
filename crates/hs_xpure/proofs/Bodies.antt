-- What is known of bodies and invariants at a root and arguments.
use Rattle.std.proofs.Common.{◌≡◌, ℕ, suc, zero, ◌<◌, ◌≤◌, false, IsTrue, ◌⊎◌, List, [], ◌∷◌, map, Some, None, slice_get, option_map, refl, sym, ap, ◌∙◌, subst}
use Rattle.std.specs.List.{list_any, All, AllByRecursion}
use Rattle.std.proofs.lemmas.List.Elements.{All-nil, All-cons, All-head, All-tail}
use Rattle.hs_pure.specs.declared.var.Var.{Var}
use Rattle.hs_pure.specs.Occurs.{is_bound, occurs}
use Rattle.hs_pure.specs.Sums.{KeepsKinds}
use Rattle.hs_pure.proofs.Vars.{or_left, or_right}
use Rattle.hs_heap.specs.declared.formula.Of.TheVariants.{Pred}
use Rattle.hs_heap.specs.declared.formula.Atom.{Atom}
use Rattle.hs_heap.specs.declared.formula.Disjunct.{Disjunct}
use Rattle.hs_heap.specs.declared.definitions.PredDef.{PredDef}
use Rattle.hs_heap.specs.declared.definitions.Defs.{Defs}
use Rattle.hs_heap.specs.Meaning.{is_in, self_var, pred_at}
use Rattle.hs_heap.specs.Variables.{occurs_in_formula}
use Rattle.hs_heap.specs.Sound.{AtomFits, IsSound, argument_kinds, kinds}
use Rattle.hs_heap.specs.Renamed.{renamed_atom, renamed_disjunct, is_bound_in_disjunct}
use Rattle.hs_heap.specs.Instance.{Body, BodyFits, CaseFits, ArgumentsFit, body_of_pred, body_of_inv, body_or_none, new_number, body_renaming, instantiated, instantiated_inv, next_after}
use Rattle.hs_heap.proofs.Bodies.{put-kind}
use Rattle.hs_heap.proofs.Satisfied.{sound_bodies_fit, instantiated_binds_new}
use Rattle.hs_xpure.specs.Laws.{IsBetween}
use Rattle.hs_xpure.specs.Invariants.{pred_atom}
use Rattle.hs_xpure.proofs.Used.{Passing, Uses}

-- of the root or an argument, or new
abbrev pub IsPlacedIn : List Var → ℕ → ℕ → Var → Type 0
IsPlacedIn vs n m v = IsTrue (is_in v vs) ⊎ IsBetween n m v

-- ---- predicates that are there

at_place : {X : Type 0} (P : X → Type 0) (xs : List X) (i : ℕ) (x : X) → All P xs → slice_get xs i ≡ Some x → P x
at_place P [] i x f e = absurd cc
at_place P (y ∷ xs) zero x f e = let g : y ≡ x = cc in subst P g (All-head P y xs f)
at_place P (y ∷ xs) (suc i) x f e = at_place P xs i x (All-tail P y xs f) e

pub pred_in : (P : PredDef → Type 0) (defs : Defs) (pred : ℕ) (p : PredDef) → All P defs.preds → pred_at defs pred ≡ Some p → P p
pred_in P defs zero p f e = absurd cc
pred_in P defs (suc i) p f e = at_place P defs.preds i p f e

pub pred_kinds : (defs : Defs) (pred : ℕ) (p : PredDef) (root : Var) (args : List Var) → AtomFits defs (pred_atom pred root args) → pred_at defs pred ≡ Some p → kinds p.params ≡ kinds args
pred_kinds defs pred p root args fits e =
    let f : argument_kinds defs (Pred pred) ≡ Some (kinds p.params) = ap (option_map (λ (q : PredDef). kinds q.params)) e in
    let g : Some (kinds p.params) ≡ Some (kinds args) = sym f ∙ fits.1 in cc

pub no_pred : {A : Type 0} (defs : Defs) (pred : ℕ) (root : Var) (args : List Var) → AtomFits defs (pred_atom pred root args) → pred_at defs pred ≡ None → A
no_pred defs pred root args fits e =
    let f : argument_kinds defs (Pred pred) ≡ None = ap (option_map (λ (q : PredDef). kinds q.params)) e in
    let g : None ≡ Some (kinds args) = sym f ∙ fits.1 in absurd cc

-- the arguments of an atom that fits
pub arguments_fit : (defs : Defs) (pred : ℕ) (p : PredDef) (root : Var) (args : List Var) (n : ℕ) → AtomFits defs (pred_atom pred root args) →
    ((v : Var) → IsTrue (is_in v (root ∷ args)) → v.number < n) → pred_at defs pred ≡ Some p → ArgumentsFit p.params root args n
arguments_fit defs pred p root args n fits below e = record { number_root = fits.0; arity = pred_kinds defs pred p root args fits e; below = below }

module _ (defs : Defs) (sound : IsSound defs) (pred : ℕ) (p : PredDef) (e : pred_at defs pred ≡ Some p) where
  pub pred_body_fits : BodyFits defs (body_of_pred p)
  pred_body_fits = subst (λ o. BodyFits defs (body_or_none body_of_pred o)) e ((sound_bodies_fit defs sound).0 (Pred pred))

  pub pred_inv_fits : BodyFits defs (body_of_inv p)
  pred_inv_fits = subst (λ o. BodyFits defs (body_or_none body_of_inv o)) e ((sound_bodies_fit defs sound).1 pred)

-- what occurs in an invariant at a root and arguments
pub inv_uses : (defs : Defs) (p : PredDef) (root : Var) (args : List Var) (n : ℕ) → BodyFits defs (body_of_inv p) → ArgumentsFit p.params root args n →
    Uses (IsPlacedIn (root ∷ args) n (next_after (body_of_inv p) n)) (instantiated_inv p root args n)
inv_uses defs p root args n fits at v o =
    (instantiated_binds_new defs (body_of_inv p) root args n fits at v).2 (or_left _ _ (or_left (occurs v (instantiated_inv p root args n)) _ o))

-- ---- cases of an instantiated body

-- each case's atoms fit
abbrev pub CasesAtomsFit : Defs → List Disjunct → Type 0
CasesAtomsFit defs ds = AllByRecursion (λ (d : Disjunct). All (AtomFits defs) d.atoms) ds

-- what each case binds is numbered from n on
abbrev pub CasesBindFrom : ℕ → List Disjunct → Type 0
CasesBindFrom n ds = AllByRecursion (λ (d : Disjunct). (v : Var) → IsTrue (is_in v d.bound) → n ≤ v.number) ds

module _ (defs : Defs) (ρ : Var → Var) (keep : KeepsKinds ρ) where
  kinds_renamed : (vs : List Var) → kinds (map ρ vs) ≡ kinds vs
  kinds_renamed [] = refl
  kinds_renamed (v ∷ vs) = let e = keep v in let f = kinds_renamed vs in λ i. e i ∷ f i

  atoms_fit_renamed : (atoms : List Atom) → All (AtomFits defs) atoms → All (AtomFits defs) (map (renamed_atom ρ) atoms)
  atoms_fit_renamed [] f = All-nil (AtomFits defs)
  atoms_fit_renamed (a ∷ rest) f =
      let g = All-head (AtomFits defs) a rest f in
      All-cons (AtomFits defs) (renamed_atom ρ a) (map (renamed_atom ρ) rest)
      (keep a.root ∙ g.0, g.1 ∙ ap (λ ks. Some ks) (sym (kinds_renamed a.args)))
      (atoms_fit_renamed rest (All-tail (AtomFits defs) a rest f))

module _ (defs : Defs) (b : Body) (root : Var) (args : List Var) (n : ℕ) (root_kind : root.bag ≡ false) (arity : kinds b.params ≡ kinds args) where
  pub keeps : KeepsKinds (body_renaming b root args n)
  keeps v =
      let all_kinds : kinds (self_var ∷ b.params) ≡ kinds (root ∷ args) = λ i. sym root_kind i ∷ arity i in
      put-kind (self_var ∷ b.params) (root ∷ args) (new_number b n) v all_kinds refl

  abbrev Fits : Disjunct → Type 0
  Fits d = CaseFits defs (self_var ∷ b.params) b.next d

  pub cases_atoms_fit : (ds : List Disjunct) → All Fits ds → CasesAtomsFit defs (map (renamed_disjunct (body_renaming b root args n)) ds)
  cases_atoms_fit [] f = tt
  cases_atoms_fit (d ∷ ds) f = (atoms_fit_renamed defs (body_renaming b root args n) keeps d.atoms (All-head Fits d ds f).atoms, cases_atoms_fit ds (All-tail Fits d ds f))

module _ (defs : Defs) (b : Body) (fits : BodyFits defs b) (root : Var) (args : List Var) (n : ℕ) (at : ArgumentsFit b.params root args n) where
  pub body_uses : Passing (IsPlacedIn (root ∷ args) n (next_after b n)) (λ v. occurs_in_formula v (instantiated b root args n))
  body_uses v o = (instantiated_binds_new defs b root args n fits at v).2 o

  pub body_atoms_fit : CasesAtomsFit defs (instantiated b root args n).cases
  body_atoms_fit = cases_atoms_fit defs b root args n at.number_root at.arity b.formula.cases fits

  pub body_binds : CasesBindFrom n (instantiated b root args n).cases
  body_binds = go (instantiated b root args n).cases (λ v k. (instantiated_binds_new defs b root args n fits at v).0 k)
    where
      go : (ds : List Disjunct) → ((v : Var) → IsTrue (list_any (is_bound_in_disjunct v) ds) → IsBetween n (next_after b n) v) → CasesBindFrom n ds
      go [] f = tt
      go (d ∷ ds) f = (
        λ v i. (f v (or_left (is_bound_in_disjunct v d) (list_any (is_bound_in_disjunct v) ds) (or_left (is_in v d.bound) (list_any (is_bound v) d.pure) i))).0,
        go ds (λ v k. f v (or_right (is_bound_in_disjunct v d) (list_any (is_bound_in_disjunct v) ds) k)),
      )
