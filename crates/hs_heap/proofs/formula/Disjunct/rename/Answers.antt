use Rattle.std.proofs.Common.{◌≡◌, ◌↔◌, ℕ, refl, sym, subst}
use Rattle.hs_pure.specs.Rename.{renaming}
use Rattle.hs_pure.specs.Stack.{Stack}
use Rattle.hs_pure.specs.Sums.{KeepsKinds}
use Rattle.hs_pure.proofs.Lists.{if_ok_weaker}
use Rattle.hs_heap.specs.declared.formula.Disjunct.{Disjunct}
use Rattle.hs_heap.specs.declared.definitions.Defs.{Defs}
use Rattle.hs_heap.specs.Heap.{Heap}
use Rattle.hs_heap.specs.Meaning.{meaning_at_depth, DisjunctHolds}
use Rattle.hs_heap.specs.Renamed.{renamed_disjunct}
use Rattle.hs_heap.proofs.Renaming.{before, case_renamed, renamed_case_holds}
use Rattle.hs_heap.proofs.formula.Disjunct.rename.Goals as goal

pub returns-clause-satisfied : goal.returns-clause-satisfied
returns-clause-satisfied c =
    let d = c.args.self.now in
    let same : Disjunct → Type 0 = λ e. e ≡ renamed_disjunct (renaming c.args.map.now) c.args.self.now in
    let alike : Disjunct → Type 0 = λ e. KeepsKinds (renaming c.args.map.now) → (defs : Defs) (k : ℕ) (s : Stack) (h : Heap) →
    DisjunctHolds (meaning_at_depth defs k) s h e ↔ DisjunctHolds (meaning_at_depth defs k) (λ v. s (renaming c.args.map.now v)) h c.args.self.now in
    if_ok_weaker same alike c.put_names.result
    (λ e is keeps defs k s h. subst (λ z. DisjunctHolds (meaning_at_depth defs k) s h z ↔ DisjunctHolds (meaning_at_depth defs k) (λ v. s (renaming c.args.map.now v)) h c.args.self.now) (sym is) (
      case_renamed (renaming c.args.map.now) keeps (meaning_at_depth defs k) d s (before (renaming c.args.map.now) s) (λ v e. refl) c.requires.apart h,
      renamed_case_holds (renaming c.args.map.now) keeps (meaning_at_depth defs k) d s (before (renaming c.args.map.now) s) (λ v e. refl) c.requires.apart h,
    ))
    c.put_names.ensures
