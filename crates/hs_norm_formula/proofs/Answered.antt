-- What is answered of what was built.
use Rattle.std.proofs.Common.{◌≡◌, List, [], Option, None, Some, Result, Ok, refl, ap, ◌∙◌, subst}
use Rattle.hs_tree.specs.declared.formula.FormulaTree.{FormulaTree}
use Rattle.hs_heap.specs.declared.formula.Formula.{Formula}
use Rattle.hs_heap.specs.declared.definitions.Defs.{Defs}
use Rattle.hs_numbering.specs.declared.fault.Fault.{Fault}
use Rattle.hs_numbering.specs.declared.numbering.Numbering.{Numbering}
use Rattle.hs_numbering.specs.declared.numbering.Reading.TheVariants.{Numbered}
use Rattle.hs_numbering.specs.Least.{least}
use Rattle.hs_numbering.specs.Numbering.{start}
use Rattle.hs_norm_formula.specs.declared.by_number.NormError.{NormError}
use Rattle.hs_norm_formula.specs.Formula.{formula}
use Rattle.hs_norm_formula.specs.Numbered.{Gives, answer, outcome, entries_of, numbered}

-- what is answered is what was built, and there is no fault
pub outcome-Ok : {A : Type 0} (o : Option Fault) (a r : A) → outcome o a ≡ Ok r → (o ≡ None) × (a ≡ r)
outcome-Ok None a r e = (refl, cc)
outcome-Ok (Some f) a r e = cc

-- of a pair and its faults
pub gives_answer : {A : Type 0} (built : A × Numbering) (a : A) (n : Numbering) (faults : List Fault) (r : Result A NormError) → (a, n) ≡ built → faults ≡ n.faults → Gives (outcome (least faults) a) r → Gives (answer built) r
gives_answer built a n faults r is same given = subst (λ b. Gives (answer b) r) is (subst (λ fs. Gives (outcome (least fs) a) r) same given)

pub gives_numbered : (defs : Defs) (tree : FormulaTree) (first : Numbering) (a : Formula) (n : Numbering) (faults : List Fault) (r : Result Formula NormError) → first ≡ start Numbered [] →
    (a, n) ≡ formula (entries_of defs) tree first → faults ≡ n.faults → Gives (outcome (least faults) a) r → Gives (numbered defs tree) r
gives_numbered defs tree first a n faults r is built = gives_answer (formula (entries_of defs) tree (start Numbered [])) a n faults r (built ∙ ap (formula (entries_of defs) tree) is)
