-- A first fault excludes that all is founded.
use Rattle.std.proofs.Common.{◌≡◌, inl, inr, ℕ, zero, suc, ◌<◌, ◌≤◌, true, false, List, [], ◌∷◌, length, get_or, Option, Some, None, refl, sym, ap, ◌∙◌, subst, arith, slice_get, ◌+◌, take}
use Rattle.std.specs.List.{All, list_any}
use Rattle.std.specs.Option.{MatchOption}
use Rattle.std.proofs.lemmas.List.{take_more, take_all}
use Rattle.std.proofs.lemmas.List.Elements.{All-push}
use Rattle.hs_pure.specs.declared.var.Var.{Var}
use Rattle.hs_heap.specs.declared.formula.Atom.{Atom}
use Rattle.hs_heap.specs.declared.formula.Disjunct.{Disjunct}
use Rattle.hs_heap.specs.declared.definitions.PredDef.{PredDef}
use Rattle.hs_heap.specs.declared.definitions.Defs.{Defs}
use Rattle.hs_wf.specs.declared.case.CaseFault.{CaseFault}
use Rattle.hs_wf.specs.declared.case.CaseFault.TheVariants as case
use Rattle.hs_wf.specs.declared.error.WfError.{WfError}
use Rattle.hs_wf.specs.declared.error.WfError.TheVariants.{RootPredicate, NoRoot, Unreached, Memory}
use Rattle.hs_wf.specs.Founded.{IsReached, is_root_predicate, CaseIsFounded, PredIsFounded, IsFounded, names_of}
use Rattle.hs_wf.specs.Faults.{IsFirstUnreached, IsCaseFault, IsFirstInPreds, IsFirstAt, IsFirstFault, error_of}
use Rattle.hs_wf.specs.Laws.{FaultsExcludeFounded}

-- what is there has what all have
pub at_place : {A : Type 0} (P : A → Type 0) (xs : List A) (i : ℕ) (x : A) → slice_get xs i ≡ Some x → All P xs → P x
at_place P [] i x e h = absurd cc
at_place P (y ∷ xs) zero x e h = let is : y ≡ x = cc in subst P is (h zero y (omega arith))
at_place P (y ∷ xs) (suc i) x e h = at_place P xs i x e (λ j d less. h (suc j) d (omega arith))

first_is_unreached : (names : List Var) (d : Disjunct) (atoms : List Atom) (v : Var) → IsFirstUnreached names d atoms v → All (λ a. IsReached names d a.root) atoms → ⊥
first_is_unreached names d [] v f h = absurd f
first_is_unreached names d (a ∷ rest) v (inl f) h = f.0 (h zero a (omega arith))
first_is_unreached names d (a ∷ rest) v (inr f) h = first_is_unreached names d rest v f.1 (λ i e less. h (suc i) e (omega arith))

pub case_fault_excludes : (names : List Var) (d : Disjunct) (fault : CaseFault) → IsCaseFault names d fault → ¬ (CaseIsFounded names d)
case_fault_excludes names d case.RootPredicate f h = let e = h.no_predicate in absurd (cc (e, f))
case_fault_excludes names d case.NoRoot f h = f.1 h.one_root
case_fault_excludes names d (case.Unreached v) f h = first_is_unreached names d d.atoms v f.2 h.reached

excludes : (defs : Defs) (pred number : ℕ) (fault : CaseFault) → IsFirstAt defs pred number fault → ¬ (IsFounded defs)
excludes defs pred number fault f h =
    let p = f.first.pred in
    let found : PredIsFounded f.first.pred = at_place PredIsFounded defs.preds f.n p f.first.there h in
    let c = f.first.first in
    case_fault_excludes (names_of p) c.case fault c.is (at_place (CaseIsFounded (names_of p)) p.body.cases f.i c.case c.there found)

pub faults_exclude : FaultsExcludeFounded
faults_exclude defs (RootPredicate pred number) f some = excludes defs pred number case.RootPredicate f
faults_exclude defs (NoRoot pred number) f some = excludes defs pred number case.NoRoot f
faults_exclude defs (Unreached pred number v) f some = excludes defs pred number (case.Unreached v) f
faults_exclude defs Memory f some = absurd (some refl)

-- ---- steps of the walks

pub match_none : {A : Type 0} (o : Option A) (P : Type 0) (Q : A → Type 0) → o ≡ None → MatchOption o P Q → P
match_none None P Q e h = h
match_none (Some x) P Q e h = absurd cc

pub match_some : {A : Type 0} (o : Option A) (x : A) (P : Type 0) (Q : A → Type 0) → o ≡ Some x → MatchOption o P Q → Q x
match_some None x P Q e h = absurd cc
match_some (Some y) x P Q e h = let is : y ≡ x = cc in subst Q is h

-- one more of the list
pub all_more : {A : Type 0} (P : A → Type 0) (xs : List A) (i : ℕ) (x : A) → i < length xs → x ≡ get_or xs i x → All P (take i xs) → P x → All P (take (i + 1) xs)
all_more P xs i x less is h p = subst (All P) (sym (take_more xs i x less)) (All-push P (take i xs) (get_or xs i x) h (subst P is p))

pub all_of : {A : Type 0} (P : A → Type 0) (xs : List A) (i : ℕ) → length xs ≤ i → All P (take i xs) → All P xs
all_of P xs i le h = subst (All P) (take_all i xs le) h

pub there_at : {A : Type 0} (xs : List A) (i : ℕ) (x : A) → i < length xs → x ≡ get_or xs i x → slice_get xs i ≡ Some x
there_at [] i x less is = absurd (omega arith)
there_at (y ∷ xs) zero x less is = ap Some (sym is)
there_at (y ∷ xs) (suc i) x less is = there_at xs i x (omega arith) is

pub error_is_first : (defs : Defs) (n i : ℕ) (fault : CaseFault) → IsFirstInPreds defs.preds n i fault → IsFirstFault defs (error_of (n + 1) (i + 1) fault)
error_is_first defs n i case.RootPredicate f = record { n = n; i = i; pred_is = refl; case_is = refl; first = f }
error_is_first defs n i case.NoRoot f = record { n = n; i = i; pred_is = refl; case_is = refl; first = f }
error_is_first defs n i (case.Unreached v) f = record { n = n; i = i; pred_is = refl; case_is = refl; first = f }
