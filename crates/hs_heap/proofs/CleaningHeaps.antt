-- What formulas of fitting kinds hold of depends on the parts of values that are of their variables' kinds.
use Rattle.std.proofs.Common.{◌≡◌, true, false, inl, inr, List, [], ◌∷◌, map, refl, sym, ◌∙◌, ap, subst}
use Rattle.std.specs.List.{All}
use Rattle.std.proofs.lemmas.List.Elements.{All-head, All-tail}
use mathlib.Core.Path.{fun_ext}
use Rattle.hs_pure.specs.declared.var.Var.{Var}
use Rattle.hs_pure.specs.declared.pure.Pure.{Pure}
use Rattle.hs_pure.specs.Stack.{Stack}
use Rattle.hs_heap.specs.declared.formula.Atom.{Atom}
use Rattle.hs_heap.specs.declared.formula.Disjunct.{Disjunct}
use Rattle.hs_heap.specs.Heap.{Heap}
use Rattle.hs_heap.specs.Meaning.{Meaning, argument_at, parameter_value, is_in, AllTrueAt, AtomsHold, DisjunctHolds, SomeHolds}
use Rattle.hs_heap.proofs.Stacks.{with_values, with_values-in, with_values-out, SameBut-with_values}
use Rattle.hs_heap.proofs.Agree.{OfHolds-same}
use Rattle.hs_heap.proofs.Booleans.{bool_cases}
use Rattle.hs_heap.proofs.Cleaning.{of_kind, clean, KindsFit, truth-clean}

argument_clean : (s : Stack) (v : Var) → argument_at (clean s) v ≡ argument_at s v
argument_clean s v = elim (bool_cases v.bag) [ inl is ↦ rw is refl | inr isnt ↦ rw isnt refl ]

arguments_clean : (s : Stack) (vs : List Var) → map (argument_at (clean s)) vs ≡ map (argument_at s) vs
arguments_clean s [] = refl
arguments_clean s (v ∷ vs) = let e = arguments_clean s vs in let f = argument_clean s v in cc

-- the part of a variable's kind is the value of an argument of that kind
pub value_of_kind : (s : Stack) (v w : Var) → w.bag ≡ v.bag → of_kind v (s w) ≡ parameter_value (argument_at s w)
value_of_kind s v w e = elim (bool_cases v.bag) [
  | inl is ↦ let f : w.bag ≡ true = e ∙ is in rw (is, f) refl
  | inr isnt ↦ let f : w.bag ≡ false = e ∙ isnt in rw (isnt, f) refl
]

root_clean : (s : Stack) (v : Var) → v.bag ≡ false → (clean s v).number ≡ (s v).number
root_clean s v e = rw e refl

clean_twice : (s : Stack) (v : Var) → clean (clean s) v ≡ clean s v
clean_twice s v = elim (bool_cases v.bag) [ inl is ↦ rw is refl | inr isnt ↦ rw isnt refl ]

all_true_clean : (ps : List Pure) (s : Stack) → All KindsFit ps → AllTrueAt s ps → AllTrueAt (clean s) ps
all_true_clean [] s f e = tt
all_true_clean (p ∷ ps) s f (d, e) = ((truth-clean p (All-head KindsFit p ps f) s).0 d, all_true_clean ps s (All-tail KindsFit p ps f) e)

clean_all_true : (ps : List Pure) (s : Stack) → All KindsFit ps → AllTrueAt (clean s) ps → AllTrueAt s ps
clean_all_true [] s f e = tt
clean_all_true (p ∷ ps) s f (d, e) = ((truth-clean p (All-head KindsFit p ps f) s).1 d, clean_all_true ps s (All-tail KindsFit p ps f) e)

-- the root is a number variable
abbrev pub HasNumberRoot : Atom → Type 0
HasNumberRoot a = a.root.bag ≡ false

pub record CaseKindsFit (d : Disjunct) : Type 0 where
  pub roots : All HasNumberRoot d.atoms
  pub pure : All KindsFit d.pure

module _ (x : Meaning) where
  atoms_clean : (atoms : List Atom) (s : Stack) (h : Heap) → All HasNumberRoot atoms → AtomsHold x s h atoms → AtomsHold x (clean s) h atoms
  atoms_clean [] s h f p = p
  atoms_clean (a ∷ rest) s h f (h1, h2, parts, one, more) = (
    h1,
    h2,
    parts,
    OfHolds-same x a.of h1 (sym (root_clean s a.root (All-head HasNumberRoot a rest f))) (sym (arguments_clean s a.args)) one,
    atoms_clean rest s h2 (All-tail HasNumberRoot a rest f) more,
  )

  clean_atoms : (atoms : List Atom) (s : Stack) (h : Heap) → All HasNumberRoot atoms → AtomsHold x (clean s) h atoms → AtomsHold x s h atoms
  clean_atoms [] s h f p = p
  clean_atoms (a ∷ rest) s h f (h1, h2, parts, one, more) = (
    h1,
    h2,
    parts,
    OfHolds-same x a.of h1 (root_clean s a.root (All-head HasNumberRoot a rest f)) (arguments_clean s a.args) one,
    clean_atoms rest s h2 (All-tail HasNumberRoot a rest f) more,
  )

  case_clean : (d : Disjunct) (s : Stack) (h : Heap) → CaseKindsFit d → DisjunctHolds x s h d → DisjunctHolds x (clean s) h d
  case_clean d s h f p = record {
    at = clean p.at;
    same = record { same = λ v e. ap (of_kind v) (p.same.same v e) };
    pure = all_true_clean d.pure p.at f.pure p.pure;
    atoms = atoms_clean d.atoms p.at h f.roots p.atoms;
  }

  clean_case : (d : Disjunct) (s : Stack) (h : Heap) → CaseKindsFit d → DisjunctHolds x (clean s) h d → DisjunctHolds x s h d
  clean_case d s h f p =
      let new = with_values d.bound p.at s in
      let same_clean : clean p.at ≡ clean new = fun_ext (λ v. elim (bool_cases (is_in v d.bound)) [
        | inl is ↦ ap (of_kind v) (sym (with_values-in d.bound p.at s v is))
        | inr isnt ↦ ap (of_kind v) (p.same.same v isnt) ∙ clean_twice s v ∙ ap (of_kind v) (sym (with_values-out d.bound p.at s v isnt))
      ]) in
      record {
        at = new;
        same = SameBut-with_values d.bound p.at s;
        pure = clean_all_true d.pure new f.pure (subst (λ t. AllTrueAt t d.pure) same_clean (all_true_clean d.pure p.at f.pure p.pure));
        atoms = clean_atoms d.atoms new h f.roots (subst (λ t. AtomsHold x t h d.atoms) same_clean (atoms_clean d.atoms p.at h f.roots p.atoms));
      }

  pub cases_clean : (ds : List Disjunct) (s : Stack) (h : Heap) → All CaseKindsFit ds → SomeHolds x s h ds → SomeHolds x (clean s) h ds
  cases_clean [] s h f p = p
  cases_clean (d ∷ ds) s h f (inl p) = inl (case_clean d s h (All-head CaseKindsFit d ds f) p)
  cases_clean (d ∷ ds) s h f (inr p) = inr (cases_clean ds s h (All-tail CaseKindsFit d ds f) p)

  pub clean_cases : (ds : List Disjunct) (s : Stack) (h : Heap) → All CaseKindsFit ds → SomeHolds x (clean s) h ds → SomeHolds x s h ds
  clean_cases [] s h f p = p
  clean_cases (d ∷ ds) s h f (inl p) = inl (clean_case d s h (All-head CaseKindsFit d ds f) p)
  clean_cases (d ∷ ds) s h f (inr p) = inr (clean_cases ds s h (All-tail CaseKindsFit d ds f) p)
