-- The subgoals of a well-formed goal are well formed.
use Rattle.std.proofs.Common.{◌≡◌, ℕ, ◌+◌, ◌<◌, ◌≤◌, ◌^◌, true, false, not, IsTrue, inl, inr, List, [], ◌∷◌, ◌++◌, length, map, get_or, sym, ap, ◌∙◌, subst, arith}
use Rattle.std.specs.List.{list_any, All}
use Rattle.std.proofs.lemmas.Bool.{or_cases, false_from_ne_true}
use Rattle.std.proofs.lemmas.List.Folds.{list_any_at}
use Rattle.std.proofs.lemmas.List.Elements.{All-nil, All-cons, All-head, All-push, All-append, All-map, All-weaker}
use Rattle.hs_pure.specs.declared.var.Var.{Var}
use Rattle.hs_pure.specs.declared.pure.Pure.{Pure}
use Rattle.hs_pure.specs.declared.pure.Pure.TheVariants as pure_of
use Rattle.hs_pure.specs.declared.bag.Bag.TheVariants as bag_of
use Rattle.hs_pure.specs.Equated.{variable_sum}
use Rattle.hs_pure.specs.Stack.{same}
use Rattle.hs_pure.specs.Occurs.{is_free, is_free_level, occurs, occurs_level}
use Rattle.hs_pure.proofs.Vars.{or_left, or_right}
use Rattle.hs_pure.proofs.Views.{fold-Eq, fold-BagEq, fold-Not}
use Rattle.hs_pure.proofs.Renamed.{free-occurs_of}
use Rattle.hs_heap.specs.declared.formula.Disjunct.{Disjunct}
use Rattle.hs_heap.specs.declared.formula.Formula.{Formula}
use Rattle.hs_heap.specs.declared.definitions.Defs.{Defs}
use Rattle.hs_heap.specs.Meaning.{is_in, self_var}
use Rattle.hs_heap.specs.Variables.{in_atom, is_free_in_disjunct, is_free_in_formula}
use Rattle.hs_heap.specs.WellFormed.{is_and_level}
use Rattle.hs_heap.specs.Sound.{AtomFits, AreDistinct, DisjunctFits, FormulaFits, IsSound, kinds}
use Rattle.hs_heap.specs.Renamed.{renamed_disjunct}
use Rattle.hs_heap.specs.Instance.{Body, BodyFits, body_of, body_of_pred, body_of_lemma, body_or_none, lemma_at, body_renaming, instantiated, next_after}
use Rattle.hs_heap.proofs.Booleans.{clash}
use Rattle.hs_heap.proofs.Bodies.{instantiated_free}
use Rattle.hs_goal.specs.declared.goal.Goal.{Goal}
use Rattle.hs_goal.specs.declared.rule.ERule.{ERule}
use Rattle.hs_goal.specs.declared.rule.ERule.TheVariants as rule_of
use Rattle.hs_goal.specs.Shape.{AreBelow, CaseFits, SideFits, GoalFits}
use Rattle.hs_goal.specs.Classes.{nothing, the_case, IsSimple}
use Rattle.hs_rules.specs.Parts.{IsPlace, only, plain, without, atom_at, conjunct_at, case_at, no_atom, left_atoms, left_pure, right_atoms, right_pure, argument_equation, equations, fresh_variables, opened, replaced}
use Rattle.hs_rules.specs.Conditions.{BindsOnly, CanSplit, CanTakeCase, CanInstantiate, CanMatch, HasCondition}
use Rattle.hs_rules.specs.Subgoals.{one_each, left_opened, right_opened, with_conjunct, with_right_case, instantiated_by, matched, left_replaced, right_replaced, subgoals_of}
use Rattle.hs_rules.specs.Laws.{SubgoalsAreWellFormed, SubgoalsGrow}
use Rattle.hs_rules.proofs.Plain.{only_case, simple_is}
use Rattle.hs_rules.proofs.Variables.{only_first, is_in-append}
use Rattle.hs_rules.proofs.Fits.{args_fit, cases_below}
use Rattle.hs_rules.proofs.NewNumbers.{to_fresh-high}
use Rattle.hs_rules.proofs.Proper.{proper-Not, proper-equation, is_and-equation, equation_by_kind}
use Rattle.hs_rules.proofs.Fitting.{AtomIsGood, ConjunctIsGood, case_parts, case_whole, side_parts, plain_fits, atoms_higher, pure_higher, side_higher, All-without, All-in_place, All-place, distinct-append, is_in-kept, distinct-filter}
use Rattle.hs_rules.proofs.RenamedFits.{opened_fits, fresh_distinct, fresh_below, instantiated_fits}
use Rattle.hs_rules.proofs.Steps.{atom_fits}
use Rattle.hs_rules.proofs.Definitions.{lemma_sound, has_pred, lemma_arity}
use Rattle.hs_rules.proofs.Places.{IsPlace-map}
use Rattle.hs_rules.proofs.Rules.Questions.{closed_now}
use Rattle.hs_rules.proofs.Fresh.{stands_in, plain-free, any_append, any_without, any_at, opened_free, argument_equation-free}
use Rattle.hs_rules.proofs.FreshSteps.{plain_cases, all_replaced_free, args_below}

-- what stands in a simple side is free there
simple_free : (f : Formula) → IsSimple f → (v : Var) → IsTrue (stands_in v (the_case f).atoms (the_case f).pure) → IsTrue (is_free_in_formula v f)
simple_free f s v e = subst (λ (k : Formula). IsTrue (is_free_in_formula v k)) (sym (simple_is f s)) (plain-free (the_case f).atoms (the_case f).pure v ∙ e)

atom_free : (f : Formula) → IsSimple f → (v : Var) → IsTrue (list_any (in_atom v) (the_case f).atoms) → IsTrue (is_free_in_formula v f)
atom_free f s v e = simple_free f s v (or_left (list_any (in_atom v) (the_case f).atoms) (list_any (is_free v) (the_case f).pure) e)

conjunct_free : (f : Formula) → IsSimple f → (v : Var) → IsTrue (list_any (is_free v) (the_case f).pure) → IsTrue (is_free_in_formula v f)
conjunct_free f s v e = simple_free f s v (or_right (list_any (in_atom v) (the_case f).atoms) (list_any (is_free v) (the_case f).pure) e)

-- numbers below n are none of the new ones
not_fresh : (d : Disjunct) (n : ℕ) (v : Var) → v.number < n → is_in v (fresh_variables d n) ≡ false
not_fresh d n v less = false_from_ne_true (is_in v (fresh_variables d n)) (λ e. let h = to_fresh-high d.bound n d.bound (λ u k. k) v e in absurd (omega arith))

-- ---- equations of arguments

equation-occurs : (v w u : Var) → occurs u (argument_equation v w) ≡ is_free u (argument_equation v w)
equation-occurs v w u = equation_by_kind (λ p. occurs u p ≡ is_free u p) v w
    (λ k. fold-BagEq (occurs_level u) (bag_of.Name v) (bag_of.Name w) ∙ sym (fold-BagEq (is_free_level u) (bag_of.Name v) (bag_of.Name w)))
    (λ k. fold-Eq (occurs_level u) (variable_sum v) (variable_sum w) ∙ sym (fold-Eq (is_free_level u) (variable_sum v) (variable_sum w)))

equations_good : (defs : Defs) (next : ℕ) (vs ws : List Var) → kinds vs ≡ kinds ws → AreBelow next (λ v. is_in v vs) → AreBelow next (λ v. is_in v ws) → All (ConjunctIsGood defs next) (equations vs ws)
equations_good defs next [] ws e f g = All-nil (ConjunctIsGood defs next)
equations_good defs next (v ∷ vs) [] e f g = All-nil (ConjunctIsGood defs next)
equations_good defs next (v ∷ vs) (w ∷ ws) e f g = All-cons (ConjunctIsGood defs next) (argument_equation v w) (equations vs ws) (record {
  proper = proper-equation v w (cc);
  flat = is_and-equation v w;
  below = λ u o. elim (argument_equation-free v w u (sym (equation-occurs v w u) ∙ o)) [
    | inl k ↦ f u (or_left (same u v) (is_in u vs) k)
    | inr k ↦ g u (or_left (same u w) (is_in u ws) k)
  ];
}) (equations_good defs next vs ws (cc) (λ u i. f u (or_right (same u v) (is_in u vs) i)) (λ u i. g u (or_right (same u w) (is_in u ws) i)))

module _ (defs : Defs) (g : Goal) (fits : GoalFits defs g) where
  -- with another left side
  left_changed : (left : Formula) (next : ℕ) → g.next ≤ next → next ≤ 2 ^ 30 → SideFits defs next left →
      ((v : Var) → IsTrue (is_in v g.opens) → is_free_in_formula v left ≡ false) → GoalFits defs (record g { left = left; next = next; looked = false })
  left_changed left next le few side apart = record {
    used = fits.used;
    used_numbers = λ v e. let k = fits.used_numbers v e in omega arith;
    left = side;
    right = side_higher defs g.next next le g.right fits.right;
    opens_numbers = λ v e. let k = fits.opens_numbers v e in omega arith;
    few = few;
    distinct = fits.distinct;
    apart_used = fits.apart_used;
    apart_left = apart;
    some = fits.some;
  }

  -- with another right side of one disjunct
  right_changed : (d : Disjunct) (opens : List Var) (next : ℕ) → g.next ≤ next → next ≤ 2 ^ 30 → SideFits defs next (only d) →
      AreBelow next (λ v. is_in v opens) → AreDistinct opens → ((v : Var) → IsTrue (is_in v opens) → list_any (in_atom v) g.used ≡ false) →
      ((v : Var) → IsTrue (is_in v opens) → is_free_in_formula v g.left ≡ false) → GoalFits defs (record g { opens = opens; right = only d; next = next; looked = true })
  right_changed d opens next le few side numbers distinct apart_used apart_left = record {
    used = fits.used;
    used_numbers = λ v e. let k = fits.used_numbers v e in omega arith;
    left = side_higher defs g.next next le g.left fits.left;
    right = side;
    opens_numbers = numbers;
    few = few;
    distinct = distinct;
    apart_used = apart_used;
    apart_left = apart_left;
    some = λ e. cc;
  }

  -- what is free on the new left side is free on the old one
  apart_from : (left : Formula) → ((v : Var) → IsTrue (is_in v g.opens) → IsTrue (is_free_in_formula v left) → IsTrue (is_free_in_formula v g.left)) →
      (v : Var) → IsTrue (is_in v g.opens) → is_free_in_formula v left ≡ false
  apart_from left into v i = false_from_ne_true (is_free_in_formula v left) (λ e. clash (into v i e) (fits.apart_left v i))

  left_or_fits : All (GoalFits defs) (one_each g g.left.cases)
  left_or_fits = All-map (GoalFits defs) (λ d. record g { left = only d; looked = false }) g.left.cases (λ i z less.
      let d = get_or g.left.cases i z in
      left_changed (only d) g.next (omega arith) fits.few (All-cons (CaseFits defs g.next) d [] (fits.left i z less) (All-nil (CaseFits defs g.next)))
      (apart_from (only d) (λ v o e. list_any_at (is_free_in_disjunct v) g.left.cases i z less (only_first (is_free_in_disjunct v d) e))))

  case_fits : (f : Formula) → length f.cases ≡ 1 → SideFits defs g.next f → CaseFits defs g.next (the_case f)
  case_fits f one side = All-head (CaseFits defs g.next) (the_case f) [] (subst (λ (k : Formula). SideFits defs g.next k) (only_case f one) side)

  left_exists_fits : BindsOnly g.left → g.next + length (the_case g.left).bound ≤ 2 ^ 30 → GoalFits defs (left_opened g (the_case g.left))
  left_exists_fits can room =
      let d = the_case g.left in
      let m = g.next + length d.bound in
      left_changed (only (opened d g.next)) m (omega arith) room
      (All-cons (CaseFits defs m) (opened d g.next) [] (opened_fits defs g.next d (case_fits g.left can.one fits.left)) (All-nil (CaseFits defs m)))
      (apart_from (only (opened d g.next)) (λ v o e. subst (λ (f : Formula). IsTrue (is_free_in_formula v f)) (sym (only_case g.left can.one))
      (opened_free d g.next v (not_fresh d g.next v (fits.opens_numbers v o)) e)))

  right_exists_fits : BindsOnly g.right → g.next + length (the_case g.right).bound ≤ 2 ^ 30 → GoalFits defs (right_opened g (the_case g.right))
  right_exists_fits can room =
      let d = the_case g.right in
      let n = g.next in
      let m = n + length d.bound in
      let d_fits = case_fits g.right can.one fits.right in
      let high = to_fresh-high d.bound n d.bound (λ u k. k) in
      let either = λ (v : Var) (e : IsTrue (is_in v (g.opens ++ fresh_variables d n))). or_cases (is_in v g.opens) (is_in v (fresh_variables d n)) (sym (is_in-append v g.opens (fresh_variables d n)) ∙ e) in
      right_changed (opened d n) (g.opens ++ fresh_variables d n) m (omega arith) room
      (All-cons (CaseFits defs m) (opened d n) [] (opened_fits defs n d d_fits) (All-nil (CaseFits defs m)))
      (λ v e. elim (either v e) [ inl k ↦ (let h = fits.opens_numbers v k in omega arith) | inr k ↦ fresh_below defs n d d_fits v k ])
      (distinct-append g.opens (fresh_variables d n) fits.distinct (fresh_distinct defs n d d_fits) (λ v i. not_fresh d n v (fits.opens_numbers v i)))
      (λ v e. elim (either v e) [
        | inl k ↦ fits.apart_used v k
        | inr k ↦ false_from_ne_true (list_any (in_atom v) g.used) (λ u. let h = high v k in let l = fits.used_numbers v u in absurd (omega arith))
      ])
      (λ v e. elim (either v e) [
        | inl k ↦ fits.apart_left v k
        | inr k ↦ false_from_ne_true (is_free_in_formula v g.left) (λ u. let h = high v k in let l = cases_below defs n g.left.cases fits.left v u in absurd (omega arith))
      ])

  with_conjunct_fits : (f : Pure) → IsSimple g.left → ConjunctIsGood defs g.next f → ((v : Var) → IsTrue (is_free v f) → is_in v g.opens ≡ false) → GoalFits defs (with_conjunct g f)
  with_conjunct_fits f s good closed =
      let parts = side_parts defs g.next g.left s.one fits.left in
      left_changed (plain (left_atoms g) (left_pure g ++ f ∷ [])) g.next (omega arith) fits.few
      (plain_fits defs g.next (left_atoms g) (left_pure g ++ f ∷ []) parts.atoms (All-push (ConjunctIsGood defs g.next) (left_pure g) f parts.pure good))
      (apart_from (plain (left_atoms g) (left_pure g ++ f ∷ [])) (λ v o e. elim (plain_cases g v (left_atoms g) (left_pure g ++ f ∷ []) e) [
        | inl a ↦ atom_free g.left s v a
        | inr p ↦ elim (any_append (is_free v) (left_pure g) (f ∷ []) p) [
          | inl q ↦ conjunct_free g.left s v q
          | inr q ↦ clash o (closed v (only_first (is_free v f) q))
        ]
      ]))

  split_fits : (f : Pure) → CanSplit g f → All (GoalFits defs) (with_conjunct g f ∷ with_conjunct g (pure_of.Not f) ∷ [])
  split_fits f can =
      let closed = λ (v : Var) (e : IsTrue (is_free v f)). can.closed v (free-occurs_of f v e) in
      All-cons (GoalFits defs) (with_conjunct g f) (with_conjunct g (pure_of.Not f) ∷ [])
      (with_conjunct_fits f can.left (record { proper = can.proper; flat = can.flat; below = can.numbers }) closed)
      (All-cons (GoalFits defs) (with_conjunct g (pure_of.Not f)) [] (with_conjunct_fits (pure_of.Not f) can.left (record {
        proper = proper-Not f can.proper;
        flat = fold-Not is_and_level f;
        below = λ v e. can.numbers v (sym (fold-Not (occurs_level v) f) ∙ e);
      }) (λ v e. closed v (sym (fold-Not (is_free_level v) f) ∙ e))) (All-nil (GoalFits defs)))

  right_case_fits : (i : ℕ) → CanTakeCase g i → GoalFits defs (with_right_case g i)
  right_case_fits i can =
      right_changed (case_at i g.right.cases) g.opens g.next (omega arith) fits.few
      (All-cons (CaseFits defs g.next) (case_at i g.right.cases) [] (All-place (CaseFits defs g.next) i g.right.cases nothing can.place fits.right) (All-nil (CaseFits defs g.next)))
      fits.opens_numbers fits.distinct fits.apart_used fits.apart_left

  instantiate_fits : (c : ℕ) → CanInstantiate g c → GoalFits defs (instantiated_by g c)
  instantiate_fits c can =
      let p = conjunct_at c (right_pure g) in
      let l = side_parts defs g.next g.left can.left.one fits.left in
      let r = side_parts defs g.next g.right can.right.one fits.right in
      let was = is_in-kept (λ v. not (is_free v p)) g.opens in
      record {
        used = fits.used;
        used_numbers = fits.used_numbers;
        left = plain_fits defs g.next (left_atoms g) (left_pure g ++ p ∷ []) l.atoms
            (All-push (ConjunctIsGood defs g.next) (left_pure g) p l.pure (All-place (ConjunctIsGood defs g.next) c (right_pure g) (pure_of.And []) can.place r.pure));
        right = plain_fits defs g.next (right_atoms g) (without c (right_pure g)) r.atoms (All-without (ConjunctIsGood defs g.next) c (right_pure g) r.pure);
        opens_numbers = λ v e. fits.opens_numbers v (was v e);
        few = fits.few;
        distinct = distinct-filter (λ v. not (is_free v p)) g.opens fits.distinct;
        apart_used = λ v e. fits.apart_used v (was v e);
        apart_left = λ v e. false_from_ne_true (is_free_in_formula v (plain (left_atoms g) (left_pure g ++ p ∷ []))) (λ k. elim (plain_cases g v (left_atoms g) (left_pure g ++ p ∷ []) k) [
          | inl a ↦ clash (atom_free g.left can.left v a) (fits.apart_left v (was v e))
          | inr b ↦ elim (any_append (is_free v) (left_pure g) (p ∷ []) b) [
            | inl q ↦ clash (conjunct_free g.left can.left v q) (fits.apart_left v (was v e))
            | inr q ↦ clash e (closed_now p g.opens v (only_first (is_free v p) q))
          ]
        ]);
        some = λ e. cc;
      }

  match_fits : (r l : ℕ) → CanMatch g r l → GoalFits defs (matched g r l)
  match_fits r l can =
      let a = atom_at l (left_atoms g) in
      let b = atom_at r (right_atoms g) in
      let left = side_parts defs g.next g.left can.left.one fits.left in
      let right = side_parts defs g.next g.right can.right.one fits.right in
      let a_good = All-place (AtomIsGood defs g.next) l (left_atoms g) no_atom can.left_place left.atoms in
      let b_good = All-place (AtomIsGood defs g.next) r (right_atoms g) no_atom can.right_place right.atoms in
      let a_free = λ (v : Var) (k : IsTrue (in_atom v a)). atom_free g.left can.left v (any_at (in_atom v) l (left_atoms g) no_atom can.left_place k) in
      record {
        used = All-push (AtomFits defs) g.used a fits.used a_good.fits;
        used_numbers = λ v e. elim (any_append (in_atom v) g.used (a ∷ []) e) [ inl k ↦ fits.used_numbers v k | inr k ↦ a_good.below v (only_first (in_atom v a) k) ];
        left = plain_fits defs g.next (without l (left_atoms g)) (left_pure g) (All-without (AtomIsGood defs g.next) l (left_atoms g) left.atoms) left.pure;
        right = plain_fits defs g.next (without r (right_atoms g)) (equations b.args a.args ++ right_pure g) (All-without (AtomIsGood defs g.next) r (right_atoms g) right.atoms)
            (All-append (ConjunctIsGood defs g.next) (equations b.args a.args) (right_pure g)
            (equations_good defs g.next b.args a.args (args_fit defs b a b_good.fits a_good.fits can.one_name)
            (λ v i. b_good.below v (or_right (same v b.root) (is_in v b.args) i)) (λ v i. a_good.below v (or_right (same v a.root) (is_in v a.args) i))) right.pure);
        opens_numbers = fits.opens_numbers;
        few = fits.few;
        distinct = fits.distinct;
        apart_used = λ v e. false_from_ne_true (list_any (in_atom v) (g.used ++ a ∷ [])) (λ k. elim (any_append (in_atom v) g.used (a ∷ []) k) [
          | inl m ↦ clash m (fits.apart_used v e)
          | inr m ↦ clash (a_free v (only_first (in_atom v a) m)) (fits.apart_left v e)
        ]);
        apart_left = apart_from (plain (without l (left_atoms g)) (left_pure g)) (λ v o e. elim (plain_cases g v (without l (left_atoms g)) (left_pure g) e) [
          | inl k ↦ atom_free g.left can.left v (any_without (in_atom v) l (left_atoms g) no_atom can.left_place k)
          | inr k ↦ conjunct_free g.left can.left v k
        ]);
        some = λ e. cc;
      }

  -- ---- bodies

  module _ (b : Body) (body : FormulaFits defs (self_var ∷ b.params) b.next b.formula) where
    body_fits : BodyFits defs b
    body_fits i d less = let f = body i d less in record { apart = f.apart; among = f.among; numbers = f.numbers; atoms = f.atoms; pure = f.pure }

    -- a case of the body in the place of an atom of a side
    replaced_fits : (f : Formula) (l : ℕ) (d : Disjunct) → length f.cases ≡ 1 → SideFits defs g.next f → CaseFits defs (next_after b g.next) d →
        CaseFits defs (next_after b g.next) (replaced l (the_case f) d)
    replaced_fits f l d one side fit =
        let n = next_after b g.next in
        let parts = side_parts defs g.next f one side in
        let case_good = case_parts defs n d fit in
        let le : g.next ≤ n = omega arith in
        case_whole defs n (replaced l (the_case f) d) (record {
          distinct = case_good.distinct;
          bound = case_good.bound;
          atoms = All-in_place (AtomIsGood defs n) l d.atoms (the_case f).atoms case_good.atoms (atoms_higher defs g.next n le (the_case f).atoms parts.atoms);
          pure = All-append (ConjunctIsGood defs n) (the_case f).pure d.pure (pure_higher defs g.next n le (the_case f).pure parts.pure) case_good.pure;
        })

    unfold_fits : (l : ℕ) → IsSimple g.left → IsPlace l (left_atoms g) → kinds b.params ≡ kinds (atom_at l (left_atoms g)).args →
        next_after b g.next ≤ 2 ^ 30 → GoalFits defs (left_replaced g l b)
    unfold_fits l s place arity room =
        let a = atom_at l (left_atoms g) in
        let n = next_after b g.next in
        let root_kind = (atom_fits defs g.next g.left l s place fits.left).0 in
        let low = args_below defs g.next g.left l s place fits.left in
        let cases = (instantiated b a.root a.args g.next).cases in
        left_changed (record { cases = map (replaced l (the_case g.left)) cases }) n (omega arith) room
        (All-map (CaseFits defs n) (replaced l (the_case g.left)) cases
        (All-weaker (CaseFits defs n) (λ d. CaseFits defs n (replaced l (the_case g.left) d)) (λ d h. replaced_fits g.left l d s.one fits.left h) cases
        (instantiated_fits defs b body a.root a.args g.next root_kind arity low)))
        (apart_from (record { cases = map (replaced l (the_case g.left)) cases }) (λ v o e. elim (all_replaced_free l (the_case g.left) cases v place e) [
          | inl k ↦ atom_free g.left s v (any_at (in_atom v) l (left_atoms g) no_atom place (instantiated_free defs b a.root a.args g.next body_fits root_kind arity low v k))
          | inr k ↦ elim k [ inl m ↦ atom_free g.left s v m | inr m ↦ conjunct_free g.left s v m ]
        ]))

    fold_fits : (q i : ℕ) → IsSimple g.right → IsPlace q (right_atoms g) → IsPlace i b.formula.cases → kinds b.params ≡ kinds (atom_at q (right_atoms g)).args →
        next_after b g.next ≤ 2 ^ 30 → GoalFits defs (right_replaced g q i b)
    fold_fits q i s place case_place arity room =
        let a = atom_at q (right_atoms g) in
        let n = next_after b g.next in
        let cases = (instantiated b a.root a.args g.next).cases in
        let root_kind = (atom_fits defs g.next g.right q s place fits.right).0 in
        let low = args_below defs g.next g.right q s place fits.right in
        let at_case = IsPlace-map i (renamed_disjunct (body_renaming b a.root a.args g.next)) b.formula.cases case_place in
        let one = All-place (CaseFits defs n) i cases nothing at_case (instantiated_fits defs b body a.root a.args g.next root_kind arity low) in
        let d = replaced q (the_case g.right) (case_at i cases) in
        right_changed d g.opens n (omega arith) room
        (All-cons (CaseFits defs n) d [] (replaced_fits g.right q (case_at i cases) s.one fits.right one) (All-nil (CaseFits defs n)))
        (λ v e. let h = fits.opens_numbers v e in omega arith) fits.distinct fits.apart_used fits.apart_left

  -- ---- all rules

  one_fits : (sub : Goal) → GoalFits defs sub → All (GoalFits defs) (sub ∷ [])
  one_fits sub f = All-cons (GoalFits defs) sub [] f (All-nil (GoalFits defs))

  one_room : (sub : Goal) → All (λ (s : Goal). s.next ≤ 2 ^ 30) (sub ∷ []) → sub.next ≤ 2 ^ 30
  one_room sub room = All-head (λ (s : Goal). s.next ≤ 2 ^ 30) sub [] room

  by_rule : IsSound defs → (rule : ERule) → HasCondition defs g rule → All (λ (s : Goal). s.next ≤ 2 ^ 30) (subgoals_of defs g rule) → All (GoalFits defs) (subgoals_of defs g rule)
  by_rule sound rule_of.LeftOr can room = left_or_fits
  by_rule sound rule_of.LeftExists can room = one_fits (left_opened g (the_case g.left)) (left_exists_fits can (one_room (left_opened g (the_case g.left)) room))
  by_rule sound (rule_of.False n) can room = All-nil (GoalFits defs)
  by_rule sound (rule_of.Split f) can room = split_fits f can
  by_rule sound (rule_of.RightOr i) can room = one_fits (with_right_case g i) (right_case_fits i can)
  by_rule sound rule_of.RightExists can room = one_fits (right_opened g (the_case g.right)) (right_exists_fits can (one_room (right_opened g (the_case g.right)) room))
  by_rule sound (rule_of.Instantiate c) can room = one_fits (instantiated_by g c) (instantiate_fits c can)
  by_rule sound (rule_of.Match r l) can room = one_fits (matched g r l) (match_fits r l can)
  by_rule sound (rule_of.Unfold l) can room =
      let a = atom_at l (left_atoms g) in
      let p = has_pred defs sound a (atom_fits defs g.next g.left l can.left can.place fits.left) can.pred in
      let P : Body → Type 0 = λ c. next_after c g.next ≤ 2 ^ 30 → GoalFits defs (left_replaced g l c) in
      one_fits (left_replaced g l (body_of defs a.of)) (subst P (sym p.body_is) (unfold_fits (body_of_pred p.pred) p.sound.body l can.left can.place p.arity)
      (one_room (left_replaced g l (body_of defs a.of)) room))
  by_rule sound (rule_of.Fold q i) can room =
      let a = atom_at q (right_atoms g) in
      let p = has_pred defs sound a (atom_fits defs g.next g.right q can.right can.place fits.right) can.pred in
      let P : Body → Type 0 = λ c. IsPlace i c.formula.cases → next_after c g.next ≤ 2 ^ 30 → GoalFits defs (right_replaced g q i c) in
      one_fits (right_replaced g q i (body_of defs a.of)) (subst P (sym p.body_is)
      (λ at_case. fold_fits (body_of_pred p.pred) p.sound.body q i can.right can.place at_case p.arity) can.case_place
      (one_room (right_replaced g q i (body_of defs a.of)) room))
  by_rule sound (rule_of.Empty n) can room = All-nil (GoalFits defs)
  by_rule sound (rule_of.Lemma j l) can room =
      let a = atom_at l (left_atoms g) in
      let lem = can.lemma in
      let body_is : body_of_lemma lem ≡ body_or_none body_of_lemma (lemma_at defs j) = sym (ap (body_or_none body_of_lemma) can.there) in
      let Fits : Disjunct → Type 0 = DisjunctFits defs (self_var ∷ lem.params) lem.next in
      let P : Body → Type 0 = λ c. next_after c g.next ≤ 2 ^ 30 → GoalFits defs (left_replaced g l c) in
      one_fits (left_replaced g l (body_or_none body_of_lemma (lemma_at defs j))) (subst P body_is
      (unfold_fits (body_of_lemma lem) (All-cons Fits lem.right [] (lemma_sound defs j lem sound can.there).right (All-nil Fits)) l can.left can.place
      (lemma_arity defs sound j lem can.there a (atom_fits defs g.next g.left l can.left can.place fits.left) can.of_pred))
      (one_room (left_replaced g l (body_or_none body_of_lemma (lemma_at defs j))) room))

pub subgoals_fit : SubgoalsAreWellFormed
subgoals_fit defs sound g rule fits applies = by_rule defs g fits sound rule applies.condition applies.room

-- ---- new numbers

abbrev Grows : Goal → Goal → Type 0
Grows g sub = g.next ≤ sub.next

one_grows : (g sub : Goal) → g.next ≤ sub.next → All (Grows g) (sub ∷ [])
one_grows g sub le = All-cons (Grows g) sub [] le (All-nil (Grows g))

pub subgoals_grow : SubgoalsGrow
subgoals_grow defs g rule_of.LeftOr = All-map (Grows g) (λ d. record g { left = only d; looked = false }) g.left.cases (λ i d less. omega arith)
subgoals_grow defs g rule_of.LeftExists = one_grows g (left_opened g (the_case g.left)) (omega arith)
subgoals_grow defs g (rule_of.False n) = All-nil (Grows g)
subgoals_grow defs g (rule_of.Split f) = All-cons (Grows g) (with_conjunct g f) (with_conjunct g (pure_of.Not f) ∷ []) (omega arith) (one_grows g (with_conjunct g (pure_of.Not f)) (omega arith))
subgoals_grow defs g (rule_of.RightOr i) = one_grows g (with_right_case g i) (omega arith)
subgoals_grow defs g rule_of.RightExists = one_grows g (right_opened g (the_case g.right)) (omega arith)
subgoals_grow defs g (rule_of.Instantiate c) = one_grows g (instantiated_by g c) (omega arith)
subgoals_grow defs g (rule_of.Match r l) = one_grows g (matched g r l) (omega arith)
subgoals_grow defs g (rule_of.Unfold l) = one_grows g (left_replaced g l (body_of defs (atom_at l (left_atoms g)).of)) (omega arith)
subgoals_grow defs g (rule_of.Fold r i) = one_grows g (right_replaced g r i (body_of defs (atom_at r (right_atoms g)).of)) (omega arith)
subgoals_grow defs g (rule_of.Empty n) = All-nil (Grows g)
subgoals_grow defs g (rule_of.Lemma j l) = one_grows g (left_replaced g l (body_or_none body_of_lemma (lemma_at defs j))) (omega arith)
