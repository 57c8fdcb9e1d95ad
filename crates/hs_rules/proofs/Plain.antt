-- Simple sides, and what a rule's proof needs of stacks.
use Rattle.std.proofs.Common.{ℕ, zero, suc, ◌≤◌, ◌≡◌, Bool, true, false, ◌||◌, inl, inr, List, [], ◌∷◌, ◌++◌, length, get_or, refl, sym, ◌∙◌, ap, subst, arith}
use Rattle.std.specs.List.{list_any, Contains}
use Rattle.hs_pure.specs.declared.var.Var.{Var}
use Rattle.hs_pure.specs.declared.pure.Pure.{Pure}
use Rattle.hs_pure.specs.Stack.{Stack}
use Rattle.hs_pure.specs.Truth.{TrueAt}
use Rattle.hs_pure.specs.Occurs.{is_free}
use Rattle.hs_pure.proofs.Agree.{Agree}
use Rattle.hs_heap.specs.declared.formula.Atom.{Atom}
use Rattle.hs_heap.specs.declared.formula.Disjunct.{Disjunct}
use Rattle.hs_heap.specs.declared.formula.Formula.{Formula}
use Rattle.hs_heap.specs.Heap.{Heap}
use Rattle.hs_heap.specs.Meaning.{Meaning, is_in, SameBut, AllTrueAt, AtomsHold, FormulaHolds}
use Rattle.hs_heap.specs.Variables.{in_atom, is_free_in_formula}
use Rattle.hs_heap.proofs.Stacks.{SameBut-refl, SameBut-none}
use Rattle.hs_heap.proofs.Booleans.{bool_cases, or_false_left, or_false_right, clash}
use Rattle.hs_goal.specs.Classes.{nothing, the_case, IsSimple}
use Rattle.hs_rules.specs.Parts.{only, plain}

-- a side with one disjunct is that one
pub only_case : (f : Formula) → length f.cases ≡ 1 → f ≡ only (the_case f)
only_case f one = λ i. record { cases = go f.cases one i }
  where
    go : (ds : List Disjunct) → length ds ≡ 1 → ds ≡ get_or ds 0 nothing ∷ []
    go [] e = absurd (omega arith)
    go (d ∷ []) e = refl
    go (d ∷ c ∷ ds) e = absurd (omega arith)

-- a simple side has its atoms and conjuncts alone
pub simple_is : (f : Formula) → IsSimple f → f ≡ plain (the_case f).atoms (the_case f).pure
simple_is f s =
    let d = the_case f in
    let bare : d ≡ record { bound = []; atoms = d.atoms; pure = d.pure } = λ i. record { bound = s.unbound i; atoms = d.atoms; pure = d.pure } in
    only_case f s.one ∙ ap only bare

module _ (x : Meaning) where
  pub record PlainHolds (s : Stack) (h : Heap) (atoms : List Atom) (pure : List Pure) : Type 0 where
    pub pure_true : AllTrueAt s pure
    pub atoms_hold : AtomsHold x s h atoms

  pub plain_holds : (s : Stack) (h : Heap) (atoms : List Atom) (pure : List Pure) → FormulaHolds x s h (plain atoms pure) → PlainHolds s h atoms pure
  plain_holds s h atoms pure (inl p) =
      let e = SameBut-none p.same in
      record { pure_true = subst (λ t. AllTrueAt t pure) e p.pure; atoms_hold = subst (λ t. AtomsHold x t h atoms) e p.atoms }
  plain_holds s h atoms pure (inr p) = absurd p

  pub plain_from : (s : Stack) (h : Heap) (atoms : List Atom) (pure : List Pure) → AllTrueAt s pure → AtomsHold x s h atoms → FormulaHolds x s h (plain atoms pure)
  plain_from s h atoms pure e p = inl (record { at = s; same = SameBut-refl [] s; pure = e; atoms = p })

pub AllTrue-append : (s : Stack) (ps qs : List Pure) → AllTrueAt s ps → AllTrueAt s qs → AllTrueAt s (ps ++ qs)
AllTrue-append s [] qs e f = f
AllTrue-append s (p ∷ ps) qs (d, e) f = (d, AllTrue-append s ps qs e f)

pub AllTrue-first : (s : Stack) (ps qs : List Pure) → AllTrueAt s (ps ++ qs) → AllTrueAt s ps
AllTrue-first s [] qs e = tt
AllTrue-first s (p ∷ ps) qs (d, e) = (d, AllTrue-first s ps qs e)

pub AllTrue-second : (s : Stack) (ps qs : List Pure) → AllTrueAt s (ps ++ qs) → AllTrueAt s qs
AllTrue-second s [] qs e = e
AllTrue-second s (p ∷ ps) qs (d, e) = AllTrue-second s ps qs e

pub AllTrue-insert : (s : Stack) (ps : List Pure) (p : Pure) (qs : List Pure) → TrueAt s p → AllTrueAt s (ps ++ qs) → AllTrueAt s (ps ++ p ∷ qs)
AllTrue-insert s [] p qs e f = (e, f)
AllTrue-insert s (q ∷ ps) p qs e (d, f) = (d, AllTrue-insert s ps p qs e f)

pub AllTrue-at : (s : Stack) (ps : List Pure) (d : Pure) (k : ℕ) → suc k ≤ length ps → AllTrueAt s ps → TrueAt s (get_or ps k d)
AllTrue-at s [] d k less e = absurd (omega arith)
AllTrue-at s (p ∷ ps) d zero less (e, f) = e
AllTrue-at s (p ∷ ps) d (suc k) less (e, f) = AllTrue-at s ps d k (omega arith) f

pub AllTrue-contains : (s : Stack) (ps : List Pure) (p : Pure) → AllTrueAt s ps → Contains ps p → TrueAt s p
AllTrue-contains s ps p e (k, less, is) = subst (TrueAt s) is (AllTrue-at s ps p k less e)

-- what does not have the changed variables agrees
pub Agree-apart : (vs : List Var) (test : Var → Bool) {s t : Stack} → ((v : Var) → is_in v vs ≡ true → test v ≡ false) → SameBut vs s t → Agree test s t
Agree-apart vs test apart p v e = elim (bool_cases (is_in v vs)) [
  | inl is ↦ clash e (apart v is)
  | inr isnt ↦ sym (p.same v isnt)
]

-- stacks that differ on numbers from n on agree on what is below n
pub Agree-below : (n : ℕ) (vs : List Var) (test : Var → Bool) {s t : Stack} → ((v : Var) → is_in v vs ≡ true → n ≤ v.number) → ((v : Var) → test v ≡ true → suc v.number ≤ n) → SameBut vs s t → Agree test s t
Agree-below n vs test high low p v e = elim (bool_cases (is_in v vs)) [
  | inl is ↦ let h = high v is in let k = low v e in absurd (omega arith)
  | inr isnt ↦ sym (p.same v isnt)
]

pub record IsApart (atoms : List Atom) (pure : List Pure) (v : Var) : Type 0 where
  pub no_atom : list_any (in_atom v) atoms ≡ false
  pub no_pure : list_any (is_free v) pure ≡ false

pub plain_apart : (atoms : List Atom) (pure : List Pure) (v : Var) → is_free_in_formula v (plain atoms pure) ≡ false → IsApart atoms pure v
plain_apart atoms pure v e =
    let f : (list_any (in_atom v) atoms || list_any (is_free v) pure) ≡ false = or_false_left (list_any (in_atom v) atoms || list_any (is_free v) pure) false e in
    record {
      no_atom = or_false_left (list_any (in_atom v) atoms) (list_any (is_free v) pure) f;
      no_pure = or_false_right (list_any (in_atom v) atoms) (list_any (is_free v) pure) f;
    }

pub atom_apart : (xs : List Atom) (a : Atom) (ys : List Atom) (v : Var) → list_any (in_atom v) (xs ++ a ∷ ys) ≡ false → in_atom v a ≡ false
atom_apart [] a ys v e = or_false_left (in_atom v a) (list_any (in_atom v) ys) e
atom_apart (b ∷ xs) a ys v e = atom_apart xs a ys v (or_false_right (in_atom v b) (list_any (in_atom v) (xs ++ a ∷ ys)) e)
