-- A formula whose variables are written by their numbers.
use Rattle.std.specs.Prelude.{◌≡◌, ◌⊎◌, ℕ, ◌+◌, ◌-◌, ◌^◌, false, List, [], ◌∷◌, ◌++◌, length, map, take, Option, Some, None, Result, Ok, Err}
use Rattle.std.specs.List.{fold}
use Rattle.hs_tree.specs.declared.formula.FormulaTree.{FormulaTree}
use Rattle.hs_heap.specs.declared.formula.Of.TheVariants as of
use Rattle.hs_heap.specs.declared.formula.Formula.{Formula}
use Rattle.hs_heap.specs.declared.definitions.Defs.{Defs}
use Rattle.hs_heap.specs.declared.definitions.NodeDef.{NodeDef}
use Rattle.hs_heap.specs.declared.definitions.PredDef.{PredDef}
use Rattle.hs_numbering.specs.declared.fault.Fault.{Fault}
use Rattle.hs_numbering.specs.declared.fault.Problem.{Problem}
use Rattle.hs_numbering.specs.declared.fault.Problem.TheVariants as problem
use Rattle.hs_numbering.specs.declared.numbering.Numbering.{Numbering}
use Rattle.hs_numbering.specs.declared.numbering.Reading.TheVariants.{Numbered}
use Rattle.hs_numbering.specs.Least.{least}
use Rattle.hs_numbering.specs.Numbering.{start}
use Rattle.hs_norm_formula.specs.declared.table.Entry.{Entry}
use Rattle.hs_norm_formula.specs.declared.by_number.NormError.{NormError}
use Rattle.hs_norm_formula.specs.declared.by_number.NormError.TheVariants as error
use Rattle.hs_norm_formula.specs.Formula.{formula}

-- ---- declarations

abbrev pub node_entry : ℕ → NodeDef → Entry
node_entry k d = record { name = d.name; of = of.Node k; kinds = map (λ f. false) d.fields }

abbrev pub pred_entry : ℕ → PredDef → Entry
pred_entry k d = record { name = d.name; of = of.Pred k; kinds = map (λ v. v.bag) d.params }

-- each with its number, from 1
abbrev pub counted : {A B : Type 0} → (ℕ → A → B) → List A → List B
counted f xs = fold (λ done x. done ++ f (length done + 1) x ∷ []) [] xs

-- no atom can name more, since its number has 32 bits
abbrev pub nameable : {A : Type 0} → List A → List A
nameable xs = take (2 ^ 32 - 1) xs

abbrev pub entries_of : Defs → List Entry
entries_of defs = counted node_entry (nameable defs.nodes) ++ counted pred_entry (nameable defs.preds)

-- ---- faults

abbrev pub error_at : ℕ → Problem → NormError
error_at at (problem.Unknown x) = error.Unknown x
error_at at (problem.Twice x) = error.Twice x
error_at at problem.Kind = error.Kind at
error_at at problem.Arity = error.Arity at
error_at at (problem.TooMany l) = error.TooMany at l
error_at at problem.Shape = error.Shape at

abbrev pub error_of : Fault → NormError
error_of f = error_at f.at f.problem

-- the first fault, or what was built
abbrev pub outcome : {A : Type 0} → Option Fault → A → Result A NormError
outcome None a = Ok a
outcome (Some f) a = Err (error_of f)

abbrev pub answer : {A : Type 0} → A × Numbering → Result A NormError
answer built = outcome (least built.1.faults) built.0

-- the formula that is written with numbers, over these definitions
abbrev pub numbered : Defs → FormulaTree → Result Formula NormError
numbered defs tree = answer (formula (entries_of defs) tree (start Numbered []))

-- the call answers this, or memory ran out
abbrev pub Gives : {A : Type 0} → Result A NormError → Result A NormError → Type 0
Gives wanted result = (result ≡ wanted) ⊎ (result ≡ Err error.Memory)
