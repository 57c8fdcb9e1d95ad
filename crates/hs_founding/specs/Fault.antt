-- The refusal of definitions that are not founded.
use Rattle.std.specs.Prelude.{◌≡◌, ℕ, zero, suc, List, Option, Some, None, slice_get}
use Rattle.hs_pure.specs.declared.var.Var.{Var}
use Rattle.hs_heap.specs.declared.definitions.PredDef.{PredDef}
use Rattle.hs_heap.specs.Meaning.{pred_at}
use Rattle.hs_wf.specs.Faults.{IsFirstFault}
use Rattle.hs_wf.specs.declared.error.WfError.{WfError}
use Rattle.hs_wf.specs.declared.error.WfError.TheVariants as fault
use Rattle.hs_numbering.specs.declared.names.Names.{Names}
use Rattle.hs_norm.specs.declared.resolved.Resolved.{Resolved}
use Rattle.hs_print.specs.Variable.{named_text}
use Rattle.hs_print.specs.declared.refusal.Refusal.{Refusal}
use Rattle.hs_print.specs.declared.refusal.Refusal.TheVariants as refusal

-- the source names of the predicate of a number from 1
abbrev pub names_at : List Names → ℕ → Option Names
names_at all zero = None
names_at all (suc n) = slice_get all n

-- the predicate of a number has this name
pub record IsNamed (r : Resolved) (number : ℕ) (name : List ℕ) : Type 0 where
  pub pred : PredDef
  pub there : pred_at r.defs number ≡ Some pred
  pub is : name ≡ pred.name

-- this is how the variable is printed under the names of the predicate of a number
pub record IsPrinted (r : Resolved) (number : ℕ) (v : Var) (text : List ℕ) : Type 0 where
  pub names : Names
  pub there : names_at r.pred_names number ≡ Some names
  pub is : text ≡ named_text names v

-- the definitions are not founded, and this tells their first fault
abbrev pub HasFoundingFault : Resolved → Refusal → Type 0
HasFoundingFault r (refusal.RootPredicate name case) =
    (number : ℕ) × IsFirstFault r.defs (fault.RootPredicate number case) × IsNamed r number name
HasFoundingFault r (refusal.NoRoot name case) = (number : ℕ) × IsFirstFault r.defs (fault.NoRoot number case) × IsNamed r number name
HasFoundingFault r (refusal.Unreached name case root) =
    (number : ℕ) × (v : Var) × IsFirstFault r.defs (fault.Unreached number case v) × IsNamed r number name × IsPrinted r number v root
HasFoundingFault r _ = ⊥
