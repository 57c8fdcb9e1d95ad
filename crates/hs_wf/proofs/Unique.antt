-- Definitions have one first fault.
use Rattle.std.proofs.Common.{◌≡◌, inl, inr, ℕ, zero, suc, ◌+◌, true, false, List, [], ◌∷◌, Option, Some, None, refl, sym, ap, ◌∙◌, subst, slice_get, take}
use Rattle.std.specs.List.{All, list_any}
use Rattle.std.proofs.lemmas.List.Elements.{All-head, All-tail}
use Rattle.hs_pure.specs.declared.var.Var.{Var}
use Rattle.hs_heap.specs.declared.formula.Atom.{Atom}
use Rattle.hs_heap.specs.declared.formula.Disjunct.{Disjunct}
use Rattle.hs_heap.specs.declared.definitions.PredDef.{PredDef}
use Rattle.hs_heap.specs.declared.definitions.Defs.{Defs}
use Rattle.hs_wf.specs.declared.case.CaseFault.{CaseFault}
use Rattle.hs_wf.specs.declared.case.CaseFault.TheVariants as case
use Rattle.hs_wf.specs.declared.error.WfError.{WfError}
use Rattle.hs_wf.specs.declared.error.WfError.TheVariants.{RootPredicate, NoRoot, Unreached, Memory}
use Rattle.hs_wf.specs.Founded.{CaseIsFounded, PredIsFounded, names_of}
use Rattle.hs_wf.specs.Faults.{IsFirstUnreached, IsCaseFault, IsFirstInCases, IsFirstInPreds, IsFirstAt, IsFirstFault, error_of}
use Rattle.hs_wf.specs.Laws.{FirstFaultsAreUnique}
use Rattle.hs_wf.proofs.Firsts.{at_place, case_fault_excludes}

some_is : {A : Type 0} (x y : A) → Some x ≡ Some y → x ≡ y
some_is x y e = cc

-- the first element that is not good stands at one place
module _ {A : Type 0} (Good : A → Type 0) where
  unless_good : (z x : A) → Some z ≡ Some x → ¬ (Good x) → ¬ (Good z)
  unless_good z x e bad good = bad (subst Good (some_is z x e) good)

  first_place : (xs : List A) (i j : ℕ) (x y : A) → slice_get xs i ≡ Some x → slice_get xs j ≡ Some y
      → All Good (take i xs) → All Good (take j xs) → ¬ (Good x) → ¬ (Good y) → i ≡ j
  first_place [] i j x y e f g h a b = absurd cc
  first_place (z ∷ xs) zero zero x y e f g h a b = refl
  first_place (z ∷ xs) zero (suc j) x y e f g h a b = absurd (unless_good z x e a (All-head Good z (take j xs) h))
  first_place (z ∷ xs) (suc i) zero x y e f g h a b = absurd (unless_good z y f b (All-head Good z (take i xs) g))
  first_place (z ∷ xs) (suc i) (suc j) x y e f g h a b =
      ap suc (first_place xs i j x y e f (All-tail Good z (take i xs) g) (All-tail Good z (take j xs) h) a b)

-- ---- one case

unreached_is : (names : List Var) (d : Disjunct) (atoms : List Atom) (v w : Var) → IsFirstUnreached names d atoms v → IsFirstUnreached names d atoms w → v ≡ w
unreached_is names d [] v w f g = absurd f
unreached_is names d (a ∷ rest) v w (inl f) (inl g) = sym f.1 ∙ g.1
unreached_is names d (a ∷ rest) v w (inl f) (inr g) = absurd (f.0 g.0)
unreached_is names d (a ∷ rest) v w (inr f) (inl g) = absurd (g.0 f.0)
unreached_is names d (a ∷ rest) v w (inr f) (inr g) = unreached_is names d rest v w f.1 g.1

case_fault_is : (names : List Var) (d : Disjunct) (f g : CaseFault) → IsCaseFault names d f → IsCaseFault names d g → f ≡ g
case_fault_is names d case.RootPredicate case.RootPredicate a b = refl
case_fault_is names d case.RootPredicate case.NoRoot a b = absurd (cc (a, b.0))
case_fault_is names d case.RootPredicate (case.Unreached w) a b = absurd (cc (a, b.0))
case_fault_is names d case.NoRoot case.RootPredicate a b = absurd (cc (a.0, b))
case_fault_is names d case.NoRoot case.NoRoot a b = refl
case_fault_is names d case.NoRoot (case.Unreached w) a b = absurd (a.1 b.1)
case_fault_is names d (case.Unreached v) case.RootPredicate a b = absurd (cc (a.0, b))
case_fault_is names d (case.Unreached v) case.NoRoot a b = absurd (b.1 a.1)
case_fault_is names d (case.Unreached v) (case.Unreached w) a b = ap case.Unreached (unreached_is names d d.atoms v w a.2 b.2)

-- ---- places

case_is : (names : List Var) (cases : List Disjunct) (i j : ℕ) (f g : CaseFault) → IsFirstInCases names cases i f → IsFirstInCases names cases j g → (i ≡ j) × (f ≡ g)
case_is names cases i j f g a b =
    let place = first_place (CaseIsFounded names) cases i j a.case b.case a.there b.there a.before b.before
    (case_fault_excludes names a.case f a.is) (case_fault_excludes names b.case g b.is) in
    let same : a.case ≡ b.case = some_is a.case b.case (sym a.there ∙ ap (slice_get cases) place ∙ b.there) in
    (place, case_fault_is names b.case f g (subst (λ d. IsCaseFault names d f) same a.is) b.is)

unfounded : (preds : List PredDef) (n i : ℕ) (f : CaseFault) (a : IsFirstInPreds preds n i f) → ¬ (PredIsFounded a.pred)
unfounded preds n i f a h =
    let c = a.first in
    case_fault_excludes (names_of a.pred) c.case f c.is (at_place (CaseIsFounded (names_of a.pred)) a.pred.body.cases i c.case c.there h)

pred_is : (preds : List PredDef) (n m i j : ℕ) (f g : CaseFault) → IsFirstInPreds preds n i f → IsFirstInPreds preds m j g → (n ≡ m) × (i ≡ j) × (f ≡ g)
pred_is preds n m i j f g a b =
    let place = first_place PredIsFounded preds n m a.pred b.pred a.there b.there a.before b.before (unfounded preds n i f a) (unfounded preds m j g b) in
    let same : a.pred ≡ b.pred = some_is a.pred b.pred (sym a.there ∙ ap (slice_get preds) place ∙ b.there) in
    let inner = case_is (names_of b.pred) b.pred.body.cases i j f g (subst (λ (p : PredDef). IsFirstInCases (names_of p) p.body.cases i f) same a.first) b.first in
    (place, inner.0, inner.1)

error_is : (defs : Defs) (p q k l : ℕ) (f g : CaseFault) → IsFirstAt defs p k f → IsFirstAt defs q l g → error_of p k f ≡ error_of q l g
error_is defs p q k l f g a b =
    let both = pred_is defs.preds a.n b.n a.i b.i f g a.first b.first in
    let e : p ≡ q = a.pred_is ∙ ap (λ n. n + 1) both.0 ∙ sym b.pred_is in
    let d : k ≡ l = a.case_is ∙ ap (λ n. n + 1) both.1 ∙ sym b.case_is in
    λ i. error_of (e i) (d i) (both.2 i)

-- an error as that of a fault at its place
pub record IsAt (defs : Defs) (e : WfError) : Type 0 where
  pub pred : ℕ
  pub case : ℕ
  pub fault : CaseFault
  pub first : IsFirstAt defs pred case fault
  pub is : e ≡ error_of pred case fault

is_at : (defs : Defs) (e : WfError) → IsFirstFault defs e → ¬ (e ≡ Memory) → IsAt defs e
is_at defs (RootPredicate p k) f some = record { pred = p; case = k; fault = case.RootPredicate; first = f; is = refl }
is_at defs (NoRoot p k) f some = record { pred = p; case = k; fault = case.NoRoot; first = f; is = refl }
is_at defs (Unreached p k v) f some = record { pred = p; case = k; fault = case.Unreached v; first = f; is = refl }
is_at defs Memory f some = absurd (some refl)

pub first_faults_are_unique : FirstFaultsAreUnique
first_faults_are_unique defs e d f g some other =
    let a = is_at defs e f some in
    let b = is_at defs d g other in
    a.is ∙ error_is defs a.pred b.pred a.case b.case a.fault b.fault a.first b.first ∙ sym b.is
