-- What is formed, step by step.
use Rattle.std.proofs.Common.{rules, ◌≡◌, ℕ, zero, suc, ◌+◌, ◌<◌, ◌≤◌, IsTrue, inl, inr, List, [], ◌∷◌, ◌++◌, take, length, get_or, Option, Some, None, IsSome, refl, sym, ap, ◌∙◌, arith}
use Rattle.std.specs.List.{list_any}
use Rattle.std.proofs.lemmas.Bool.{or_cases}
use Rattle.std.proofs.lemmas.List.{append-nil, append_assoc, take_more}
use Rattle.std.proofs.lemmas.List.Elements.{All-nil, All-cons, All-head, All-get_or}
use Rattle.hs_pure.specs.declared.var.Var.{Var}
use Rattle.hs_pure.specs.declared.pure.Pure.{Pure}
use Rattle.hs_pure.proofs.Vars.{or_left, or_right}
use Rattle.hs_heap.specs.declared.formula.Of.TheVariants.{Pred}
use Rattle.hs_heap.specs.declared.formula.Atom.{Atom}
use Rattle.hs_heap.specs.declared.formula.Disjunct.{Disjunct}
use Rattle.hs_heap.specs.declared.definitions.PredDef.{PredDef}
use Rattle.hs_heap.specs.declared.definitions.Defs.{Defs}
use Rattle.hs_heap.specs.Meaning.{pred_at, is_in}
use Rattle.hs_heap.specs.Variables.{in_atom, occurs_in_disjunct}
use Rattle.hs_heap.specs.Sound.{AtomFits, PredIsSound, IsSound}
use Rattle.hs_heap.specs.Instance.{ArgumentsFit, body_of, body_of_pred, body_of_inv, body_or_none, instantiated, instantiated_inv, next_after}
use Rattle.hs_xpure.specs.declared.formed.Formed.{Formed}
use Rattle.hs_xpure.specs.Approximation.{Former, unformed, combined, atoms_formed, case_formed, cases_formed, inv_formed, inv_of, form}
use Rattle.hs_xpure.specs.Counts.{Taken, of_taken, atoms_taken, cases_taken, pred_taken}
use Rattle.hs_xpure.specs.Invariants.{pred_atom}
use Rattle.hs_xpure.specs.Laws.{AtomsFit, CasesFit, IsInAtoms}
use Rattle.hs_xpure.proofs.Bodies.{CasesAtomsFit, pred_in, no_pred, arguments_fit, pred_body_fits, body_atoms_fit, body_uses}
use Rattle.hs_xpure.proofs.Numbers.{InCases, AreBelow, atoms_in_case}
use Rattle.hs_xpure.proofs.Counting.{atoms_next, cases_next, form_next}

combined-none : (f : Formed) → combined f (unformed f.next) ≡ f
combined-none f = let e = append-nil f.pure in let g = append-nil f.addresses in λ i. record { pure = e i; addresses = g i; next = f.next }

combined-first : (n : ℕ) (f : Formed) → combined (unformed n) f ≡ f
combined-first n f = refl

combined_assoc : (f g h : Formed) → combined f (combined g h) ≡ combined (combined f g) h
combined_assoc f g h =
    let e = append_assoc f.pure g.pure h.pure in
    let d = append_assoc f.addresses g.addresses h.addresses in
    λ i. record { pure = sym e i; addresses = sym d i; next = h.next }

module _ (former : Former) where
  atoms_append : (xs : List Atom) (a : Atom) (n : ℕ) → atoms_formed former (xs ++ a ∷ []) n ≡ combined (atoms_formed former xs n) (former a (atoms_formed former xs n).next)
  atoms_append [] a n = combined-none (former a n)
  atoms_append (x ∷ xs) a n =
      let m = (former x n).next in
      ap (combined (former x n)) (atoms_append xs a m) ∙ combined_assoc (former x n) (atoms_formed former xs m) (former a (atoms_formed former xs m).next)

  pub atoms_more : (atoms : List Atom) (i : ℕ) (d : Atom) (n : ℕ) → i < length atoms →
      atoms_formed former (take (i + 1) atoms) n ≡ combined (atoms_formed former (take i atoms) n) (former (get_or atoms i d) (atoms_formed former (take i atoms) n).next)
  atoms_more atoms i d n less = ap (λ xs. atoms_formed former xs n) (take_more atoms i d less) ∙ atoms_append (take i atoms) (get_or atoms i d) n

  cases_append : (ds : List Disjunct) (d : Disjunct) (n : ℕ) → cases_formed former (ds ++ d ∷ []) n ≡ combined (cases_formed former ds n) (case_formed former d (cases_formed former ds n).next)
  cases_append [] d n = combined-none (case_formed former d n)
  cases_append (x ∷ xs) d n =
      let m = (case_formed former x n).next in
      ap (combined (case_formed former x n)) (cases_append xs d m) ∙ combined_assoc (case_formed former x n) (cases_formed former xs m) (case_formed former d (cases_formed former xs m).next)

  pub cases_more : (ds : List Disjunct) (i : ℕ) (d : Disjunct) (n : ℕ) → i < length ds →
      cases_formed former (take (i + 1) ds) n ≡ combined (cases_formed former (take i ds) n) (case_formed former (get_or ds i d) (cases_formed former (take i ds) n).next)
  cases_more ds i d n less = ap (λ xs. cases_formed former xs n) (take_more ds i d less) ∙ cases_append (take i ds) (get_or ds i d) n

-- ---- room

atoms_upto : (taken : Taken) (atoms : List Atom) (i : ℕ) (d : Atom) → i < length atoms → atoms_taken taken (take i atoms) + of_taken taken (get_or atoms i d).of ≤ atoms_taken taken atoms
atoms_upto taken [] i d less = absurd (omega arith)
atoms_upto taken (a ∷ rest) zero d less = omega arith
atoms_upto taken (a ∷ rest) (suc i) d less = let e = atoms_upto taken rest i d (omega arith) in omega arith

cases_upto : (taken : Taken) (ds : List Disjunct) (i : ℕ) (d : Disjunct) → i < length ds → cases_taken taken (take i ds) + atoms_taken taken (get_or ds i d).atoms ≤ cases_taken taken ds
cases_upto taken [] i d less = absurd (omega arith)
cases_upto taken (c ∷ ds) zero d less = omega arith
cases_upto taken (c ∷ ds) (suc i) d less = let e = cases_upto taken ds i d (omega arith) in omega arith

module _ (defs : Defs) (level : ℕ) where
  -- where the first atoms are formed, there is room for the next
  pub atom_room : (atoms : List Atom) (i : ℕ) (d : Atom) (n top : ℕ) (all : Formed) → i < length atoms → all ≡ atoms_formed (form defs level) (take i atoms) n →
      n + atoms_taken (pred_taken defs level) atoms ≤ top → all.next + of_taken (pred_taken defs level) (get_or atoms i d).of ≤ top
  atom_room atoms i d n top all less is room =
      let e : all.next ≡ n + atoms_taken (pred_taken defs level) (take i atoms) = ap (λ (f : Formed). f.next) is ∙ atoms_next (pred_taken defs level) (form defs level) (form_next defs level) (take i atoms) n in
      let f = atoms_upto (pred_taken defs level) atoms i d less in
      omega arith

  pub case_room : (ds : List Disjunct) (i : ℕ) (d : Disjunct) (n top : ℕ) (all : Formed) → i < length ds → all ≡ cases_formed (form defs level) (take i ds) n →
      n + cases_taken (pred_taken defs level) ds ≤ top → all.next + atoms_taken (pred_taken defs level) (get_or ds i d).atoms ≤ top
  case_room ds i d n top all less is room =
      let e : all.next ≡ n + cases_taken (pred_taken defs level) (take i ds) = ap (λ (f : Formed). f.next) is ∙ cases_next (pred_taken defs level) (form defs level) (form_next defs level) (take i ds) n in
      let f = cases_upto (pred_taken defs level) ds i d less in
      omega arith

  pub atoms_rise : (atoms : List Atom) (n : ℕ) (all : Formed) → all ≡ atoms_formed (form defs level) atoms n → n ≤ all.next
  atoms_rise atoms n all is =
      let e : all.next ≡ n + atoms_taken (pred_taken defs level) atoms = ap (λ (f : Formed). f.next) is ∙ atoms_next (pred_taken defs level) (form defs level) (form_next defs level) atoms n in
      omega arith

  pub cases_rise : (ds : List Disjunct) (n : ℕ) (all : Formed) → all ≡ cases_formed (form defs level) ds n → n ≤ all.next
  cases_rise ds n all is =
      let e : all.next ≡ n + cases_taken (pred_taken defs level) ds = ap (λ (f : Formed). f.next) is ∙ cases_next (pred_taken defs level) (form defs level) (form_next defs level) ds n in
      omega arith

-- ---- what fits

pub fits_later : (defs : Defs) (atoms : List Atom) (n m : ℕ) → n ≤ m → AtomsFit defs atoms n → AtomsFit defs atoms m
fits_later defs atoms n m le f = record { each = f.each; below = λ v k. let d = f.below v k in omega arith }

in_atoms_at : (atoms : List Atom) (i : ℕ) (d : Atom) → i < length atoms → (v : Var) → IsTrue (in_atom v (get_or atoms i d)) → IsInAtoms atoms v
in_atoms_at [] i d less v k = absurd (omega arith)
in_atoms_at (a ∷ rest) zero d less v k = or_left (in_atom v a) (list_any (in_atom v) rest) k
in_atoms_at (a ∷ rest) (suc i) d less v k = or_right (in_atom v a) (list_any (in_atom v) rest) (in_atoms_at rest i d (omega arith) v k)

pub in_one : (a : Atom) (v : Var) → IsInAtoms (a ∷ []) v → IsTrue (in_atom v a)
in_one a v k = elim (or_cases (in_atom v a) (list_any (in_atom v) []) k) [ inl e ↦ e | inr e ↦ absurd cc ]

pub atom_fits_at : (defs : Defs) (atoms : List Atom) (i : ℕ) (d : Atom) (n m : ℕ) → i < length atoms → n ≤ m → AtomsFit defs atoms n → AtomsFit defs (get_or atoms i d ∷ []) m
atom_fits_at defs atoms i d n m less le f = record {
  each = All-cons (AtomFits defs) (get_or atoms i d) [] (All-get_or (AtomFits defs) atoms i d less f.each) (All-nil (AtomFits defs));
  below = λ v k. let e = f.below v (in_atoms_at atoms i d less v (in_one (get_or atoms i d) v k)) in omega arith;
}

pub case_fits_at : (defs : Defs) (ds : List Disjunct) (i : ℕ) (d : Disjunct) (n m : ℕ) → i < length ds → n ≤ m → CasesFit defs ds n → AtomsFit defs (get_or ds i d).atoms m
case_fits_at defs ds i d n m less le f = fits_later defs (get_or ds i d).atoms n m le (All-get_or (λ (c : Disjunct). AtomsFit defs c.atoms n) ds i d less f)

-- the atom of a predicate
pub pred_atom_is : (a : Atom) (pred : ℕ) → a.of ≡ Pred pred → a ≡ pred_atom pred a.root a.args
pred_atom_is a pred e = λ i. record { root = a.root; of = e i; args = a.args }

module _ (defs : Defs) (sound : IsSound defs) (pred : ℕ) (root : Var) (args : List Var) (n : ℕ) (fits : AtomsFit defs (pred_atom pred root args ∷ []) n) where
  the_atom_fits : AtomFits defs (pred_atom pred root args)
  the_atom_fits = All-head (AtomFits defs) (pred_atom pred root args) [] fits.each

  arguments_below : (v : Var) → IsTrue (is_in v (root ∷ args)) → v.number < n
  arguments_below v k = fits.below v (or_left (is_in v (root ∷ args)) (list_any (in_atom v) []) k)

  each_fits : (m : ℕ) (ds : List Disjunct) → CasesAtomsFit defs ds → AreBelow m (InCases ds) → CasesFit defs ds m
  each_fits m [] f low = All-nil _
  each_fits m (d ∷ ds) (f, fs) low = All-cons (λ (c : Disjunct). AtomsFit defs c.atoms m) d ds
      (record { each = f; below = λ v k. low v (or_left (occurs_in_disjunct v d) (list_any (occurs_in_disjunct v) ds) (atoms_in_case d v k)) })
      (each_fits m ds fs (λ v k. low v (or_right (occurs_in_disjunct v d) (list_any (occurs_in_disjunct v) ds) k)))

  some_cases_fit : (o : Option PredDef) → pred_at defs pred ≡ o →
      CasesFit defs (instantiated (body_or_none body_of_pred o) root args n).cases (next_after (body_or_none body_of_pred o) n)
  some_cases_fit None e = no_pred defs pred root args the_atom_fits e
  some_cases_fit (Some p) e =
      let at = arguments_fit defs pred p root args n the_atom_fits arguments_below e in
      let b = body_of_pred p in
      let body_fits = pred_body_fits defs sound pred p e in
      each_fits (next_after b n) (instantiated b root args n).cases (body_atoms_fit defs b body_fits root args n at)
      (λ v k. elim (body_uses defs b body_fits root args n at v k) [ inl i ↦ let d = at.below v i in omega arith | inr i ↦ i.1 ])

  pub body_cases_fit_at : CasesFit defs (instantiated (body_of defs (Pred pred)) root args n).cases (next_after (body_of defs (Pred pred)) n)
  body_cases_fit_at = some_cases_fit (pred_at defs pred) refl

  some_there : (o : Option PredDef) → pred_at defs pred ≡ o → IsSome o
  some_there None e = no_pred defs pred root args the_atom_fits e
  some_there (Some p) e = search rules

  -- what hs_heap's calls ask
  pub pred_exists : IsSome (pred_at defs pred)
  pred_exists = some_there (pred_at defs pred) refl

  some_arguments : (o : Option PredDef) → pred_at defs pred ≡ o → ArgumentsFit (body_or_none body_of_pred o).params root args n
  some_arguments None e = no_pred defs pred root args the_atom_fits e
  some_arguments (Some p) e = arguments_fit defs pred p root args n the_atom_fits arguments_below e

  pub pred_arguments : ArgumentsFit (body_of defs (Pred pred)).params root args n
  pred_arguments = some_arguments (pred_at defs pred) refl

  some_room : n ≤ 2147483648 → (o : Option PredDef) → pred_at defs pred ≡ o → n + (body_or_none body_of_pred o).next < 4294967296
  some_room le None e = no_pred defs pred root args the_atom_fits e
  some_room le (Some p) e = let f = (pred_in (PredIsSound defs) defs pred p sound.preds e).head.bounded in omega arith

  pub pred_room : n ≤ 2147483648 → n + (body_of defs (Pred pred)).next < 4294967296
  pred_room le = some_room le (pred_at defs pred) refl

  some_inv_is : (o : Option PredDef) → pred_at defs pred ≡ o → (inv : Pure) (next : ℕ) (pure : List Pure) (addresses : List ℕ) → pure ≡ inv ∷ [] → addresses ≡ [] →
      ((p : PredDef) → pred_at defs pred ≡ Some p → inv ≡ instantiated_inv p root args n) → ((p : PredDef) → pred_at defs pred ≡ Some p → next ≡ next_after (body_of_inv p) n) →
      record { pure = pure; addresses = addresses; next = next } ≡ inv_formed o root args n
  some_inv_is None e inv next pure addresses is none f g = no_pred defs pred root args the_atom_fits e
  some_inv_is (Some p) e inv next pure addresses is none f g =
      let d = f p e in let h = g p e in let k = is ∙ (λ i. d i ∷ []) in
      λ i. record { pure = k i; addresses = none i; next = h i }

  pub inv_is : (inv : Pure) (next : ℕ) (pure : List Pure) (addresses : List ℕ) → pure ≡ inv ∷ [] → addresses ≡ [] →
      ((p : PredDef) → pred_at defs pred ≡ Some p → inv ≡ instantiated_inv p root args n) → ((p : PredDef) → pred_at defs pred ≡ Some p → next ≡ next_after (body_of_inv p) n) →
      record { pure = pure; addresses = addresses; next = next } ≡ inv_of defs pred root args n
  inv_is = some_inv_is (pred_at defs pred) refl
