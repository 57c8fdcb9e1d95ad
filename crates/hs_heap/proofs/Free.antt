-- What holds depends on the free variables alone.
use Rattle.std.proofs.Common.{◌≡◌, Bool, not, ◌||◌, inl, inr, List, [], ◌∷◌, map, refl, sym, ◌∙◌, ap}
use Rattle.std.specs.List.{list_any}
use Rattle.std.proofs.lemmas.Bool.{and_from}
use Rattle.hs_pure.specs.declared.var.Var.{Var}
use Rattle.hs_pure.specs.declared.pure.Pure.{Pure}
use Rattle.hs_pure.specs.Stack.{Stack, Value, same, same as same_of}
use Rattle.hs_pure.specs.Occurs.{is_free}
use Rattle.hs_pure.proofs.Agree.{Agree, truth-agree}
use Rattle.hs_pure.proofs.Vars.{or_left, or_right}
use Rattle.hs_heap.specs.declared.formula.Atom.{Atom}
use Rattle.hs_heap.specs.declared.formula.Disjunct.{Disjunct}
use Rattle.hs_heap.specs.Heap.{Heap}
use Rattle.hs_heap.specs.Meaning.{Meaning, argument_at, is_in, SameBut, AllTrueAt, AtomHolds, AtomsHold, DisjunctHolds, SomeHolds}
use Rattle.hs_heap.specs.Variables.{in_atom, is_free_in_disjunct}
use Rattle.hs_heap.proofs.Stacks.{same_itself, with_values, with_values-in, with_values-out, SameBut-with_values}
use Rattle.hs_heap.proofs.Agree.{OfHolds-same}
use Rattle.hs_heap.proofs.Booleans.{bool_cases, not_of_false}

pub Agree-sym : (test : Var → Bool) (s t : Stack) → Agree test s t → Agree test t s
Agree-sym test s t h v i = sym (h v i)

pub all_true_agrees : (ps : List Pure) (s t : Stack) → Agree (λ v. list_any (is_free v) ps) s t → AllTrueAt s ps → AllTrueAt t ps
all_true_agrees [] s t same e = tt
all_true_agrees (p ∷ ps) s t same (e, f) = (
  (truth-agree p s t (λ v h. same v (or_left (is_free v p) (list_any (is_free v) ps) h))).0 e,
  all_true_agrees ps s t (λ v h. same v (or_right (is_free v p) (list_any (is_free v) ps) h)) f,
)

pub arguments_agree : (vs : List Var) (s t : Stack) → Agree (λ v. is_in v vs) s t → map (argument_at s) vs ≡ map (argument_at t) vs
arguments_agree [] s t same = refl
arguments_agree (w ∷ ws) s t same =
    let e : s w ≡ t w = same w (or_left (same_of w w) (is_in w ws) (same_itself w)) in
    let first : argument_at s w ≡ argument_at t w = rw e in
    let more : map (argument_at s) ws ≡ map (argument_at t) ws = arguments_agree ws s t (λ v h. same v (or_right (same_of v w) (is_in v ws) h)) in
    cc

pub root_agrees : (a : Atom) (s t : Stack) → Agree (λ v. in_atom v a) s t → s a.root ≡ t a.root
root_agrees a s t h = h a.root (or_left (same a.root a.root) (is_in a.root a.args) (same_itself a.root))

pub args_agree : (a : Atom) (s t : Stack) → Agree (λ v. in_atom v a) s t → map (argument_at s) a.args ≡ map (argument_at t) a.args
args_agree a s t h = arguments_agree a.args s t (λ v e. h v (or_right (same v a.root) (is_in v a.args) e))

module _ (x : Meaning) where
  pub atom_agrees : (a : Atom) (s t : Stack) (h : Heap) → Agree (λ v. in_atom v a) s t → AtomHolds x s h a → AtomHolds x t h a
  atom_agrees a s t h same p = OfHolds-same x a.of h (ap (λ (v : Value). v.number) (root_agrees a s t same)) (args_agree a s t same) p

  pub atoms_agree : (atoms : List Atom) (s t : Stack) (h : Heap) → Agree (λ v. list_any (in_atom v) atoms) s t → AtomsHold x s h atoms → AtomsHold x t h atoms
  atoms_agree [] s t h same p = p
  atoms_agree (a ∷ rest) s t h same (h1, h2, parts, one, more) = (
    h1,
    h2,
    parts,
    atom_agrees a s t h1 (λ v e. same v (or_left (in_atom v a) (list_any (in_atom v) rest) e)) one,
    atoms_agree rest s t h2 (λ v e. same v (or_right (in_atom v a) (list_any (in_atom v) rest) e)) more,
  )

  -- the variables that stand in a disjunct outside of its binders
  abbrev pub stands : Disjunct → Var → Bool
  stands d v = list_any (in_atom v) d.atoms || list_any (is_free v) d.pure

  -- the values that a case was given for its bound variables serve at t too
  rebound : (d : Disjunct) (s t at : Stack) → SameBut d.bound s at → Agree (λ v. is_free_in_disjunct v d) s t → Agree (stands d) at (with_values d.bound at t)
  rebound d s t at but same v e = elim (bool_cases (is_in v d.bound)) [
    | inl is ↦ sym (with_values-in d.bound at t v is)
    | inr isnt ↦
        but.same v isnt ∙ same v (and_from (not (is_in v d.bound)) (stands d v) (not_of_false isnt) e) ∙ sym (with_values-out d.bound at t v isnt)
  ]

  pub case_agrees : (d : Disjunct) (s t : Stack) (h : Heap) → Agree (λ v. is_free_in_disjunct v d) s t → DisjunctHolds x s h d → DisjunctHolds x t h d
  case_agrees d s t h same p =
      let new = with_values d.bound p.at t in
      let agree = rebound d s t p.at p.same same in
      record {
        at = new;
        same = SameBut-with_values d.bound p.at t;
        pure = all_true_agrees d.pure p.at new (λ v e. agree v (or_right (list_any (in_atom v) d.atoms) (list_any (is_free v) d.pure) e)) p.pure;
        atoms = atoms_agree d.atoms p.at new h (λ v e. agree v (or_left (list_any (in_atom v) d.atoms) (list_any (is_free v) d.pure) e)) p.atoms;
      }

  pub cases_agree : (ds : List Disjunct) (s t : Stack) (h : Heap) → Agree (λ v. list_any (is_free_in_disjunct v) ds) s t → SomeHolds x s h ds → SomeHolds x t h ds
  cases_agree [] s t h same p = p
  cases_agree (d ∷ ds) s t h same (inl p) = inl (case_agrees d s t h (λ v e. same v (or_left (is_free_in_disjunct v d) (list_any (is_free_in_disjunct v) ds) e)) p)
  cases_agree (d ∷ ds) s t h same (inr p) = inr (cases_agree ds s t h (λ v e. same v (or_right (is_free_in_disjunct v d) (list_any (is_free_in_disjunct v) ds) e)) p)
