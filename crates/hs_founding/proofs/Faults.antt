-- The first fault of definitions, as a refusal.
use Rattle.std.proofs.Common.{◌≡◌, ℕ, zero, suc, ◌+◌, ◌<◌, List, [], ◌∷◌, length, Option, Some, None, refl, sym, ap, ◌∙◌, subst, slice_get, arith}
use Rattle.std.specs.Prelude.{IsSome}
use Rattle.hs_pure.specs.declared.var.Var.{Var}
use Rattle.hs_heap.specs.declared.definitions.PredDef.{PredDef}
use Rattle.hs_heap.specs.declared.definitions.Defs.{Defs}
use Rattle.hs_heap.specs.Meaning.{pred_at}
use Rattle.hs_wf.specs.Founded.{IsFounded}
use Rattle.hs_wf.specs.Faults.{IsFirstAt, IsFirstFault}
use Rattle.hs_wf.specs.Laws.{FaultsExcludeFounded, FirstFaultsAreUnique}
use Rattle.hs_wf.specs.declared.case.CaseFault.{CaseFault}
use Rattle.hs_wf.specs.declared.error.WfError.{WfError}
use Rattle.hs_wf.specs.declared.error.WfError.TheVariants as fault
use Rattle.hs_norm.specs.declared.resolved.Resolved.{Resolved}
use Rattle.hs_print.specs.declared.refusal.Refusal.{Refusal}
use Rattle.hs_print.specs.declared.refusal.Refusal.TheVariants as refusal
use Rattle.hs_print.specs.Variable.{named_text}
use Rattle.hs_founding.specs.Fault.{names_at, IsNamed, IsPrinted, HasFoundingFault}
use Rattle.hs_founding.specs.Laws.{FaultsAreUnique, FoundedHaveNoFault}

-- the predicate of a fault is there
pub there_at : (defs : Defs) (pred number : ℕ) (f : CaseFault) → IsFirstAt defs pred number f → IsSome (pred_at defs pred)
there_at defs pred number f at =
    let one : at.n + 1 ≡ suc at.n = omega arith in
    subst (λ (n : ℕ). IsSome (pred_at defs n)) (sym (at.pred_is ∙ one)) (subst IsSome (sym at.first.there) refl)

pub no_fault : FaultsExcludeFounded → FoundedHaveNoFault
no_fault excludes r founded (refusal.RootPredicate name case) h = excludes r.defs (fault.RootPredicate h.0 case) h.1 (λ e. cc) founded
no_fault excludes r founded (refusal.NoRoot name case) h = excludes r.defs (fault.NoRoot h.0 case) h.1 (λ e. cc) founded
no_fault excludes r founded (refusal.Unreached name case root) h = excludes r.defs (fault.Unreached h.0 case h.1) h.2 (λ e. cc) founded
no_fault excludes r founded _ h = absurd h

-- ---- one refusal

some_is : {A : Type 0} (x y : A) → Some x ≡ Some y → x ≡ y
some_is x y e = cc

name_is : (r : Resolved) (n m : ℕ) (a b : List ℕ) → n ≡ m → IsNamed r n a → IsNamed r m b → a ≡ b
name_is r n m a b e f g =
    let same = some_is f.pred g.pred (sym f.there ∙ ap (pred_at r.defs) e ∙ g.there) in
    f.is ∙ ap (λ (p : PredDef). p.name) same ∙ sym g.is

root_is : (r : Resolved) (n m : ℕ) (v w : Var) (a b : List ℕ) → n ≡ m → v ≡ w → IsPrinted r n v a → IsPrinted r m w b → a ≡ b
root_is r n m v w a b e d f g =
    let same = some_is f.names g.names (sym f.there ∙ ap (names_at r.pred_names) e ∙ g.there) in
    f.is ∙ (λ i. named_text (same i) (d i)) ∙ sym g.is

-- what an error says
abbrev pred_of : WfError → ℕ
pred_of (fault.RootPredicate n k) = n
pred_of (fault.NoRoot n k) = n
pred_of (fault.Unreached n k v) = n
pred_of fault.Memory = 0

abbrev case_of : WfError → ℕ
case_of (fault.RootPredicate n k) = k
case_of (fault.NoRoot n k) = k
case_of (fault.Unreached n k v) = k
case_of fault.Memory = 0

abbrev root_of : Var → WfError → Var
root_of d (fault.RootPredicate n k) = d
root_of d (fault.NoRoot n k) = d
root_of d (fault.Unreached n k v) = v
root_of d fault.Memory = d

module _ (unique : FirstFaultsAreUnique) where
  pub one_fault : FaultsAreUnique
  one_fault r (refusal.RootPredicate a k) (refusal.RootPredicate b l) f g =
      let e = unique r.defs (fault.RootPredicate f.0 k) (fault.RootPredicate g.0 l) f.1 g.1 (λ x. cc) (λ x. cc) in
      let name = name_is r f.0 g.0 a b (ap pred_of e) f.2 g.2 in
      let case = ap case_of e in λ i. refusal.RootPredicate (name i) (case i)
  one_fault r (refusal.NoRoot a k) (refusal.NoRoot b l) f g =
      let e = unique r.defs (fault.NoRoot f.0 k) (fault.NoRoot g.0 l) f.1 g.1 (λ x. cc) (λ x. cc) in
      let name = name_is r f.0 g.0 a b (ap pred_of e) f.2 g.2 in
      let case = ap case_of e in λ i. refusal.NoRoot (name i) (case i)
  one_fault r (refusal.Unreached a k x) (refusal.Unreached b l y) f g =
      let e = unique r.defs (fault.Unreached f.0 k f.1) (fault.Unreached g.0 l g.1) f.2 g.2 (λ x. cc) (λ x. cc) in
      let name = name_is r f.0 g.0 a b (ap pred_of e) f.3 g.3 in
      let root = root_is r f.0 g.0 f.1 g.1 x y (ap pred_of e) (ap (root_of f.1) e) f.4 g.4 in
      let case = ap case_of e in λ i. refusal.Unreached (name i) (case i) (root i)
  one_fault r (refusal.RootPredicate a k) (refusal.NoRoot b l) f g = absurd (cc (unique r.defs (fault.RootPredicate f.0 k) (fault.NoRoot g.0 l) f.1 g.1 (λ x. cc) (λ x. cc)))
  one_fault r (refusal.RootPredicate a k) (refusal.Unreached b l y) f g = absurd (cc (unique r.defs (fault.RootPredicate f.0 k) (fault.Unreached g.0 l g.1) f.1 g.2 (λ x. cc) (λ x. cc)))
  one_fault r (refusal.NoRoot a k) (refusal.RootPredicate b l) f g = absurd (cc (unique r.defs (fault.NoRoot f.0 k) (fault.RootPredicate g.0 l) f.1 g.1 (λ x. cc) (λ x. cc)))
  one_fault r (refusal.NoRoot a k) (refusal.Unreached b l y) f g = absurd (cc (unique r.defs (fault.NoRoot f.0 k) (fault.Unreached g.0 l g.1) f.1 g.2 (λ x. cc) (λ x. cc)))
  one_fault r (refusal.Unreached a k x) (refusal.RootPredicate b l) f g = absurd (cc (unique r.defs (fault.Unreached f.0 k f.1) (fault.RootPredicate g.0 l) f.2 g.1 (λ x. cc) (λ x. cc)))
  one_fault r (refusal.Unreached a k x) (refusal.NoRoot b l) f g = absurd (cc (unique r.defs (fault.Unreached f.0 k f.1) (fault.NoRoot g.0 l) f.2 g.1 (λ x. cc) (λ x. cc)))
  one_fault r _ (refusal.RootPredicate b l) f g = absurd f
  one_fault r _ (refusal.NoRoot b l) f g = absurd f
  one_fault r _ (refusal.Unreached b l y) f g = absurd f
  one_fault r cause _ f g = absurd g
