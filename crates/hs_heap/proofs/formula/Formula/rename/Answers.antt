use Rattle.std.proofs.Common.{◌≡◌, ◌↔◌, ℕ, sym, subst}
use Rattle.hs_pure.specs.Rename.{renaming}
use Rattle.hs_pure.specs.Stack.{Stack}
use Rattle.hs_pure.specs.Sums.{KeepsKinds}
use Rattle.hs_pure.proofs.Lists.{if_ok_weaker}
use Rattle.hs_heap.specs.declared.formula.Formula.{Formula}
use Rattle.hs_heap.specs.declared.definitions.Defs.{Defs}
use Rattle.hs_heap.specs.Heap.{Heap}
use Rattle.hs_heap.specs.Meaning.{SatisfiesAtDepth}
use Rattle.hs_heap.specs.Renamed.{renamed_formula}
use Rattle.hs_heap.proofs.Satisfied.{renamed_is_satisfied}
use Rattle.hs_heap.proofs.formula.Formula.rename.Goals as goal

pub returns-clause-satisfied : goal.returns-clause-satisfied
returns-clause-satisfied c =
    let f = c.args.self.now in
    let same : Formula → Type 0 = λ g. g ≡ renamed_formula (renaming c.args.map.now) c.args.self.now in
    let alike : Formula → Type 0 = λ g. KeepsKinds (renaming c.args.map.now) → (defs : Defs) (k : ℕ) (s : Stack) (h : Heap) → SatisfiesAtDepth defs k s h g ↔ SatisfiesAtDepth defs k (λ v. s (renaming c.args.map.now v)) h c.args.self.now in
    if_ok_weaker same alike c.put_names.result
    (λ g e keeps defs k s h. subst (λ z. SatisfiesAtDepth defs k s h z ↔ SatisfiesAtDepth defs k (λ v. s (renaming c.args.map.now v)) h c.args.self.now) (sym e)
    (renamed_is_satisfied (renaming c.args.map.now) f keeps c.requires.apart defs k s h))
    c.put_names.ensures
