-- The first fault of definitions that are not founded.
use Rattle.std.specs.Prelude.{◌≡◌, ◌⊎◌, ℕ, ◌+◌, true, false, List, [], ◌∷◌, Some, take, slice_get}
use Rattle.std.specs.List.{All, list_any}
use Rattle.hs_pure.specs.declared.var.Var.{Var}
use Rattle.hs_heap.specs.declared.formula.Atom.{Atom}
use Rattle.hs_heap.specs.declared.formula.Disjunct.{Disjunct}
use Rattle.hs_heap.specs.declared.definitions.PredDef.{PredDef}
use Rattle.hs_heap.specs.declared.definitions.Defs.{Defs}
use Rattle.hs_wf.specs.declared.error.WfError.{WfError}
use Rattle.hs_wf.specs.declared.error.WfError.TheVariants.{RootPredicate, NoRoot, Unreached, Memory}
use Rattle.hs_wf.specs.declared.case.CaseFault.{CaseFault}
use Rattle.hs_wf.specs.declared.case.CaseFault.TheVariants as case
use Rattle.hs_wf.specs.Founded.{IsReached, is_root_predicate, HasOneRoot, CaseIsFounded, PredIsFounded, names_of}

-- v is the root of the first atom whose root is not reached
abbrev pub IsFirstUnreached : List Var → Disjunct → List Atom → Var → Type 0
IsFirstUnreached names d [] v = ⊥
IsFirstUnreached names d (a ∷ rest) v =
    ((¬ IsReached names d a.root) × (a.root ≡ v)) ⊎ (IsReached names d a.root × IsFirstUnreached names d rest v)

-- what is wrong with a case, the first of the three
abbrev pub IsCaseFault : List Var → Disjunct → CaseFault → Type 0
IsCaseFault names d case.RootPredicate = list_any is_root_predicate d.atoms ≡ true
IsCaseFault names d case.NoRoot = (list_any is_root_predicate d.atoms ≡ false) × (¬ HasOneRoot d.atoms)
IsCaseFault names d (case.Unreached v) =
    (list_any is_root_predicate d.atoms ≡ false) × HasOneRoot d.atoms × IsFirstUnreached names d d.atoms v

-- the case after i others has the fault, and those are founded
pub record IsFirstInCases (names : List Var) (cases : List Disjunct) (i : ℕ) (fault : CaseFault) : Type 0 where
  pub case : Disjunct
  pub there : slice_get cases i ≡ Some case
  pub before : All (CaseIsFounded names) (take i cases)
  pub is : IsCaseFault names case fault

-- the same of the predicate after n others
pub record IsFirstInPreds (preds : List PredDef) (n i : ℕ) (fault : CaseFault) : Type 0 where
  pub pred : PredDef
  pub there : slice_get preds n ≡ Some pred
  pub before : All PredIsFounded (take n preds)
  pub first : IsFirstInCases (names_of pred) pred.body.cases i fault

-- the predicate and the case are named by number from 1
pub record IsFirstAt (defs : Defs) (pred case : ℕ) (fault : CaseFault) : Type 0 where
  pub n : ℕ
  pub i : ℕ
  pub pred_is : pred ≡ n + 1
  pub case_is : case ≡ i + 1
  pub first : IsFirstInPreds defs.preds n i fault

-- the error of a fault, by the numbers of the predicate and of its case
abbrev pub error_of : ℕ → ℕ → CaseFault → WfError
error_of pred number case.RootPredicate = RootPredicate pred number
error_of pred number case.NoRoot = NoRoot pred number
error_of pred number (case.Unreached v) = Unreached pred number v

-- the error is that of the first fault; nothing is said of want of memory
abbrev pub IsFirstFault : Defs → WfError → Type 0
IsFirstFault defs (RootPredicate pred number) = IsFirstAt defs pred number case.RootPredicate
IsFirstFault defs (NoRoot pred number) = IsFirstAt defs pred number case.NoRoot
IsFirstFault defs (Unreached pred number v) = IsFirstAt defs pred number (case.Unreached v)
IsFirstFault defs Memory = Unit {0}
