-- What atoms hold of depends on the values of their variables alone.
use Rattle.std.proofs.Common.{◌≡◌, ℤ, List, [], ◌∷◌, map, refl, ap}
use Rattle.std.specs.List.{AllByRecursion}
use Rattle.hs_pure.specs.Stack.{Value, Stack}
use Rattle.hs_pure.specs.declared.var.Var.{Var}
use Rattle.hs_heap.specs.declared.formula.Of.{Of}
use Rattle.hs_heap.specs.declared.formula.Atom.{Atom}
use Rattle.hs_heap.specs.Heap.{Heap}
use Rattle.hs_heap.specs.Meaning.{Argument, argument_at, Meaning, OfHolds, AtomHolds, AtomsHold}

-- s and t have one value at each of these
abbrev pub Agree : Stack → Stack → List Var → Type 0
Agree s t vs = AllByRecursion (λ v. s v ≡ t v) vs

-- s and t have one value at each variable of an atom
pub record AtomAgrees (s t : Stack) (a : Atom) : Type 0 where
  pub root : s a.root ≡ t a.root
  pub args : Agree s t a.args

pub arguments_agree : (vs : List Var) (s t : Stack) → Agree s t vs → map (argument_at s) vs ≡ map (argument_at t) vs
arguments_agree [] s t same = refl
arguments_agree (v ∷ vs) s t (e, same) =
    let first : argument_at s v ≡ argument_at t v = rw e in
    let more = arguments_agree vs s t same in cc

module _ (x : Meaning) where
  pub OfHolds-same : (o : Of) (h : Heap) {r r' : ℤ} {ns ns' : List Argument} → r ≡ r' → ns ≡ ns' → OfHolds x o r ns h → OfHolds x o r' ns' h
  OfHolds-same o h e f p = rw (← e, ← f) p

  pub atom_agrees : (a : Atom) (s t : Stack) (h : Heap) → AtomAgrees s t a → AtomHolds x s h a → AtomHolds x t h a
  atom_agrees a s t h same p =
      OfHolds-same a.of h (ap (λ (v : Value). v.number) same.root) (arguments_agree a.args s t same.args) p

  pub atoms_agree : (atoms : List Atom) (s t : Stack) (h : Heap) → AllByRecursion (AtomAgrees s t) atoms → AtomsHold x s h atoms → AtomsHold x t h atoms
  atoms_agree [] s t h same p = p
  atoms_agree (a ∷ rest) s t h (first, same) (h1, h2, parts, one, more) =
      (h1, h2, parts, atom_agrees a s t h1 first one, atoms_agree rest s t h2 same more)
