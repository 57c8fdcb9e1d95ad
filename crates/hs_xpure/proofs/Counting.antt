-- What is formed takes as many numbers as are counted.
use Rattle.std.proofs.Common.{◌≡◌, ℕ, zero, suc, ◌+◌, List, [], ◌∷◌, map, Option, Some, None, refl, ap, arith}
use Rattle.hs_pure.specs.declared.var.Var.{Var}
use Rattle.hs_heap.specs.declared.formula.Of.{Of}
use Rattle.hs_heap.specs.declared.formula.Of.TheVariants.{Node, Pred}
use Rattle.hs_heap.specs.declared.formula.Atom.{Atom}
use Rattle.hs_heap.specs.declared.formula.Disjunct.{Disjunct}
use Rattle.hs_heap.specs.declared.definitions.PredDef.{PredDef}
use Rattle.hs_heap.specs.declared.definitions.Defs.{Defs}
use Rattle.hs_heap.specs.Meaning.{pred_at}
use Rattle.hs_heap.specs.Renamed.{renamed_atom, renamed_disjunct}
use Rattle.hs_heap.specs.Instance.{Body, body_of_pred, body_or_none, body_renaming, instantiated, next_after}
use Rattle.hs_xpure.specs.Approximation.{Former, atoms_formed, case_formed, cases_formed, body_cases, body_formed, inv_formed, inv_of, inv_and_body_of, of_formed, form}
use Rattle.hs_xpure.specs.Counts.{Taken, of_taken, atoms_taken, cases_taken, body_taken, inv_taken, inv_and_body_taken, pred_taken}

-- each atom takes what is counted
abbrev pub Counts : Taken → Former → Type 0
Counts taken former = (a : Atom) (n : ℕ) → (former a n).next ≡ n + of_taken taken a.of

module _ (taken : Taken) (ρ : Var → Var) where
  renamed_atoms_taken : (atoms : List Atom) → atoms_taken taken (map (renamed_atom ρ) atoms) ≡ atoms_taken taken atoms
  renamed_atoms_taken [] = refl
  renamed_atoms_taken (a ∷ rest) = ap (λ k. of_taken taken a.of + k) (renamed_atoms_taken rest)

  pub renamed_cases_taken : (ds : List Disjunct) → cases_taken taken (map (renamed_disjunct ρ) ds) ≡ cases_taken taken ds
  renamed_cases_taken [] = refl
  renamed_cases_taken (d ∷ ds) = let e = renamed_atoms_taken d.atoms in let f = renamed_cases_taken ds in omega arith

module _ (taken : Taken) (former : Former) (counts : Counts taken former) where
  pub atoms_next : (atoms : List Atom) (n : ℕ) → (atoms_formed former atoms n).next ≡ n + atoms_taken taken atoms
  atoms_next [] n = omega arith
  atoms_next (a ∷ rest) n = let e = counts a n in let f = atoms_next rest (former a n).next in omega arith

  pub cases_next : (ds : List Disjunct) (n : ℕ) → (cases_formed former ds n).next ≡ n + cases_taken taken ds
  cases_next [] n = omega arith
  cases_next (d ∷ ds) n = let e = atoms_next d.atoms n in let f = cases_next ds (case_formed former d n).next in omega arith

  pub body_next : (b : Body) (root : Var) (args : List Var) (n : ℕ) → (body_cases former b root args n).next ≡ n + body_taken taken b
  body_next b root args n =
      let e = cases_next (instantiated b root args n).cases (next_after b n) in
      let f = renamed_cases_taken taken (body_renaming b root args n) b.formula.cases in
      omega arith

module _ (defs : Defs) where
  some_inv_next : (o : Option PredDef) (root : Var) (args : List Var) (n : ℕ) → (inv_formed o root args n).next ≡ n + inv_taken o
  some_inv_next None root args n = omega arith
  some_inv_next (Some p) root args n = refl

  pub inv_next : (pred : ℕ) (root : Var) (args : List Var) (n : ℕ) → (inv_of defs pred root args n).next ≡ n + inv_taken (pred_at defs pred)
  inv_next pred root args n = some_inv_next (pred_at defs pred) root args n

  module _ (taken : Taken) (former : Former) (counts : Counts taken former) where
    some_next : (o : Option PredDef) (root : Var) (args : List Var) (n : ℕ) →
        (body_formed former (body_or_none body_of_pred o) root args (inv_formed o root args n).next).next ≡ n + inv_and_body_taken taken o
    some_next None root args n = omega arith
    some_next (Some p) root args n = let e = body_next taken former counts (body_of_pred p) root args (inv_formed (Some p) root args n).next in omega arith

    by_body : (o : Of) (root : Var) (args : List Var) (n : ℕ) → (of_formed (inv_and_body_of defs former) o root args n).next ≡ n + of_taken (λ pred. inv_and_body_taken taken (pred_at defs pred)) o
    by_body (Node kind) root args n = omega arith
    by_body (Pred pred) root args n = some_next (pred_at defs pred) root args n

  by_inv : (o : Of) (root : Var) (args : List Var) (n : ℕ) → (of_formed (inv_of defs) o root args n).next ≡ n + of_taken (λ pred. inv_taken (pred_at defs pred)) o
  by_inv (Node kind) root args n = omega arith
  by_inv (Pred pred) root args n = inv_next pred root args n

  pub form_next : (level : ℕ) → Counts (pred_taken defs level) (form defs level)
  form_next zero a n = by_inv a.of a.root a.args n
  form_next (suc level) a n = by_body (pred_taken defs level) (form defs level) (form_next level) a.of a.root a.args n
