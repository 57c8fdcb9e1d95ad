-- Satisfaction at each depth, as the layers above use it.
use Rattle.std.proofs.Common.{◌≡◌, ℕ, ◌||◌, IsTrue, List, [], ◌∷◌, map, refl, sym, ap, ◌∙◌}
use Rattle.std.specs.List.{All, list_any}
use Rattle.hs_pure.specs.declared.var.Var.{Var}
use Rattle.hs_pure.specs.declared.pure.Pure.{Pure}
use Rattle.hs_pure.specs.Stack.{Stack}
use Rattle.hs_heap.specs.declared.formula.Disjunct.{Disjunct}
use Rattle.hs_heap.specs.declared.formula.Formula.{Formula}
use Rattle.hs_heap.specs.declared.definitions.Defs.{Defs}
use Rattle.hs_heap.specs.Heap.{Heap}
use Rattle.hs_heap.specs.Meaning.{argument_at, parameter_value, meaning_at_depth, SatisfiesAtDepth}
use Rattle.hs_heap.specs.Variables.{is_free_in_formula}
use Rattle.hs_heap.specs.WellFormed.{IsProper}
use Rattle.hs_heap.specs.Instance.{body_of_inv, instantiated_inv, stack_of_body}
use Rattle.hs_heap.specs.Laws.{ApartMayRename, ConjunctsAreOfFree, AtomsAreOfVariables, SatisfactionIsOfFree, HasKinds, SatisfactionIsOfKinds, RenamedIsSatisfied, RenamedVariables, SoundBodiesFit, InstantiatedMeansBody, InstantiatedMeansInvariant, InstantiatedBindsNew}
use Rattle.hs_pure.specs.Occurs.{occurs}
use Rattle.hs_pure.specs.Rename.{InRange}
use Rattle.hs_pure.specs.Sums.{IsOrdered}
use Rattle.hs_pure.proofs.Vars.{or_left, or_right}
use Rattle.hs_pure.proofs.Apart.{apart_in_range}
use Rattle.std.proofs.lemmas.List.Elements.{All-nil, All-cons, All-head, All-tail}
use Rattle.hs_heap.specs.Variables.{in_atom, occurs_in_disjunct}
use Rattle.hs_heap.specs.Meaning.{is_in}
use Rattle.hs_heap.proofs.Occurring.{bound_occurs}
use Rattle.hs_heap.proofs.Free.{all_true_agrees, atoms_agree, cases_agree}
use Rattle.hs_heap.proofs.Cleaning.{clean, KindsFit}
use Rattle.hs_heap.proofs.CleaningHeaps.{CaseKindsFit, cases_clean, clean_cases, value_of_kind}
use Rattle.hs_heap.proofs.Renaming.{before, cases_renamed, renamed_cases}
use Rattle.hs_heap.proofs.Sources.{cases_source, cases_bound_source, cases_occurs_source}
use Rattle.hs_heap.proofs.Bodies.{body_from_instantiated, instantiated_from_body, instantiated_binds, instantiated_free, instantiated_occurs, alone_holds, alone_true, bodies_fit, invariants_fit, lemmas_fit}

pub conjuncts_are_of_free : ConjunctsAreOfFree
conjuncts_are_of_free ps s t same = (all_true_agrees ps s t same, all_true_agrees ps t s (λ v e. sym (same v e)))

pub atoms_are_of_variables : AtomsAreOfVariables
atoms_are_of_variables defs k atoms s t h same =
    (atoms_agree (meaning_at_depth defs k) atoms s t h same, atoms_agree (meaning_at_depth defs k) atoms t s h (λ v e. sym (same v e)))

pub satisfaction_is_of_free : SatisfactionIsOfFree
satisfaction_is_of_free defs k f s t h same =
    (cases_agree (meaning_at_depth defs k) f.cases s t h same, cases_agree (meaning_at_depth defs k) f.cases t s h (λ v e. sym (same v e)))

proper_kinds : (p : Pure) → IsProper p → KindsFit p
proper_kinds p f = record { ordered = f.ordered; bags = f.bags; binders = f.binders }

case_kinds : (d : Disjunct) → HasKinds d → CaseKindsFit d
case_kinds d f = record { roots = f.roots; pure = λ i p less. proper_kinds _ (f.pure i p less) }

of_kinds : (defs : Defs) (k : ℕ) (f : Formula) (s t : Stack) (h : Heap) → All CaseKindsFit f.cases → ((v : Var) → IsTrue (is_free_in_formula v f) → argument_at s v ≡ argument_at t v) →
    SatisfiesAtDepth defs k s h f → SatisfiesAtDepth defs k t h f
of_kinds defs k f s t h fits same p =
    let x = meaning_at_depth defs k in
    clean_cases x f.cases t h fits (cases_agree x f.cases (clean s) (clean t) h (λ v e. value_of_kind s v v refl ∙ ap parameter_value (same v e) ∙ sym (value_of_kind t v v refl)) (cases_clean x f.cases s h fits p))

pub satisfaction_is_of_kinds : SatisfactionIsOfKinds
satisfaction_is_of_kinds defs k f s t h kinds same =
    let fits : All CaseKindsFit f.cases = λ i d less. case_kinds _ (kinds i d less) in
    (of_kinds defs k f s t h fits same, of_kinds defs k f t s h fits (λ v e. sym (same v e)))

pub apart_may_rename : ApartMayRename
apart_may_rename ρ d ordered apart = (
  λ u v b o e. apart u v (bound_occurs u d b) o e,
  λ i p less. range d.pure ordered (λ u v o k e. apart u v (inside u o) (inside v k) e) i p less,
)
  where
    inside : (v : Var) → IsTrue (list_any (occurs v) d.pure) → IsTrue (occurs_in_disjunct v d)
    inside v o = or_right (is_in v d.bound) (list_any (in_atom v) d.atoms || list_any (occurs v) d.pure) (or_right (list_any (in_atom v) d.atoms) (list_any (occurs v) d.pure) o)

    range : (ps : List Pure) → All IsOrdered ps → ((u v : Var) → IsTrue (list_any (occurs u) ps) → IsTrue (list_any (occurs v) ps) → ρ u ≡ ρ v → u ≡ v) → All (InRange ρ) ps
    range [] o k = All-nil (InRange ρ)
    range (p ∷ ps) o k = All-cons (InRange ρ) p ps
        (apart_in_range ρ p (All-head IsOrdered p ps o) (λ u v a b. k u v (or_left (occurs u p) (list_any (occurs u) ps) a) (or_left (occurs v p) (list_any (occurs v) ps) b)))
        (range ps (All-tail IsOrdered p ps o) (λ u v a b. k u v (or_right (occurs u p) (list_any (occurs u) ps) a) (or_right (occurs v p) (list_any (occurs v) ps) b)))

pub renamed_is_satisfied : RenamedIsSatisfied
renamed_is_satisfied ρ f keeps apart defs k s h = (
  cases_renamed ρ keeps (meaning_at_depth defs k) s (before ρ s) h f.cases (λ v e. refl) apart,
  renamed_cases ρ keeps (meaning_at_depth defs k) s (before ρ s) h f.cases (λ v e. refl) apart,
)

pub renamed_variables : RenamedVariables
renamed_variables ρ f v = (cases_source ρ f.cases v, cases_bound_source ρ f.cases v, cases_occurs_source ρ f.cases v)

pub sound_bodies_fit : SoundBodiesFit
sound_bodies_fit defs sound = (bodies_fit defs sound, invariants_fit defs sound, lemmas_fit defs sound)

pub instantiated_means_body : InstantiatedMeansBody
instantiated_means_body defs b root args fresh fits f k s h = (
  body_from_instantiated defs b root args fresh fits f.number_root f.arity f.below (meaning_at_depth defs k) s h,
  instantiated_from_body defs b root args fresh fits f.number_root f.arity f.below (meaning_at_depth defs k) s h,
)

pub instantiated_means_invariant : InstantiatedMeansInvariant
instantiated_means_invariant defs p root args fresh fits f s =
    let x = meaning_at_depth defs 0 in
    let at = stack_of_body (body_of_inv p) (s root).number (map (argument_at s) args) in (
      λ e. alone_true x at [] p.inv (body_from_instantiated defs (body_of_inv p) root args fresh fits f.number_root f.arity f.below x s [] (alone_holds x s (instantiated_inv p root args fresh) e)),
      λ e. alone_true x s [] (instantiated_inv p root args fresh) (instantiated_from_body defs (body_of_inv p) root args fresh fits f.number_root f.arity f.below x s [] (alone_holds x at p.inv e)),
    )

pub instantiated_binds_new : InstantiatedBindsNew
instantiated_binds_new defs b root args fresh fits f v = (
  instantiated_binds defs b root args fresh fits f.number_root f.arity f.below v,
  instantiated_free defs b root args fresh fits f.number_root f.arity f.below v,
  instantiated_occurs defs b root args fresh fits f.number_root f.arity f.below v,
)
