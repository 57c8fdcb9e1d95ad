-- Right steps keep what goals mean.
use Rattle.std.proofs.Common.{◌≡◌, ℕ, suc, ◌-◌, ◌<◌, ◌≤◌, ◌⊎◌, inl, List, [], ◌∷◌, ◌++◌, take, drop, refl, sym, ◌∙◌, ap, subst, arith}
use Rattle.std.proofs.lemmas.List.Elements.{All-head}
use Rattle.hs_pure.specs.declared.var.Var.{Var}
use Rattle.hs_pure.specs.Stack.{Stack}
use Rattle.hs_heap.specs.declared.formula.Of.TheVariants.{Pred}
use Rattle.hs_heap.specs.declared.formula.Atom.{Atom}
use Rattle.hs_heap.specs.declared.formula.Formula.{Formula}
use Rattle.hs_heap.specs.declared.definitions.Defs.{Defs}
use Rattle.hs_heap.specs.Heap.{Heap, IsHeap}
use Rattle.hs_heap.specs.Meaning.{Meaning, AllTrueAt, AtomsHold, BodyHolds}
use Rattle.hs_heap.specs.Sound.{AtomFits, kinds, IsSound}
use Rattle.hs_heap.proofs.Least.{least, unfold_least, fold_least, least_from_satisfies, satisfies_atoms_from_least}
use Rattle.hs_heap.specs.Renamed.{renamed_disjunct}
use Rattle.hs_heap.specs.Instance.{Body, BodyFits, lemma_at, body_of_pred, body_of_lemma, body_of, body_or_none, body_renaming, instantiated, stack_of_body}
use Rattle.hs_heap.proofs.Bodies.{bodies_fit, lemmas_fit}
use Rattle.hs_goal.specs.declared.goal.Goal.{Goal}
use Rattle.hs_goal.specs.declared.rule.ERule.{ERule}
use Rattle.hs_goal.specs.declared.rule.ERule.TheVariants as rule_of
use Rattle.hs_goal.specs.Shape.{GoalFits, SideFits}
use Rattle.hs_goal.specs.Shape as shape
use Rattle.hs_goal.specs.Classes.{nothing, the_case, IsSimple}
use Rattle.hs_goal.specs.Anchored.{IsAnchored}
use Rattle.hs_rules.specs.Parts.{plain, atom_at, case_at, left_atoms, right_atoms, no_atom, IsPlace}
use Rattle.hs_rules.specs.Conditions.{CanUnfold, CanFold, CanUseLemma, HasCondition}
use Rattle.hs_rules.specs.Subgoals.{left_opened, right_opened, with_right_case, instantiated_by, matched, left_replaced, right_replaced, subgoals_of}
use Rattle.hs_rules.specs.Residues.{the_one, residue_of}
use Rattle.hs_truth.proofs.Decided.{truth_decided}
use Rattle.hs_xpure.specs.Approximation.{approximation_of}
use Rattle.hs_xpure.specs.Invariants.{InvariantsHold}
use Rattle.hs_xpure.specs.Laws.{AtomsFit, ApproximationIsTrue}
use Rattle.hs_rules.specs.Questions.{question_of, IsAnswered}
use Rattle.hs_rules.specs.Rules.{Judgement}
use Rattle.hs_rules.specs.Laws.{LemmasHoldBelow, AllHoldUpTo, AllHold, RightStepsHold, RightStepsKeepMeaning}
use Rattle.hs_rules.proofs.Places.{at_place, IsPlace-map}
use Rattle.hs_rules.proofs.Definitions.{has_pred, lemma_arity}
use Rattle.hs_rules.proofs.Plain.{simple_is}
use Rattle.hs_rules.proofs.Holds.{HoldsTo, holds_from, holds_into}
use Rattle.hs_rules.proofs.Fits.{All-middle}
use Rattle.hs_rules.proofs.Rules.Match.{match_pieces, match_keeps}
use Rattle.hs_rules.proofs.Rules.Cases.{AllHoldTo, goals, residues, left_or_keeps, right_or_keeps, split_keeps}
use Rattle.hs_rules.proofs.Rules.Binders.{left_exists_keeps, right_exists_keeps}
use Rattle.hs_rules.proofs.Rules.Questions.{instantiate_keeps, false_keeps, empty_keeps}
use Rattle.hs_rules.proofs.Rules.Bodies.{IsAround, unfold_keeps, fold_keeps}

-- a side at a place, with the body of its predicate
module _ (defs : Defs) (next : ℕ) (f : Formula) (l : ℕ) (simple : IsSimple f) (place : IsPlace l (the_case f).atoms) (fits : SideFits defs next f) where
  abbrev pub the_atom : Atom
  the_atom = atom_at l (the_case f).atoms

  side_is : f ≡ plain (take (l - 1) (the_case f).atoms ++ the_atom ∷ drop l (the_case f).atoms) (the_case f).pure
  side_is = simple_is f simple ∙ ap (λ as'. plain as' (the_case f).pure) (at_place l (the_case f).atoms no_atom place)

  side_fits : shape.CaseFits defs next (record { bound = []; atoms = take (l - 1) (the_case f).atoms ++ the_atom ∷ drop l (the_case f).atoms; pure = (the_case f).pure })
  side_fits = All-head (shape.CaseFits defs next) (record { bound = []; atoms = take (l - 1) (the_case f).atoms ++ the_atom ∷ drop l (the_case f).atoms; pure = (the_case f).pure }) [] (subst (λ (k : Formula). SideFits defs next k) side_is fits)

  pub atom_fits : AtomFits defs the_atom
  atom_fits = All-middle (AtomFits defs) (take (l - 1) (the_case f).atoms) the_atom (drop l (the_case f).atoms) side_fits.atoms

  abbrev around : (b : Body) (n : ℕ) → the_atom.of ≡ Pred n → kinds b.params ≡ kinds the_atom.args → IsAround defs b n next f
  around b n of_is arity = record {
    before = take (l - 1) (the_case f).atoms;
    atom = the_atom;
    after = drop l (the_case f).atoms;
    pure = (the_case f).pure;
    is = side_is;
    of_is = of_is;
    root_kind = atom_fits.0;
    arity = arity;
    fits = side_fits;
  }

-- ---- the rules on bodies

module _ (defs : Defs) (sound : IsSound defs) (m : ℕ) (g : Goal) (r : Formula) (fits : GoalFits defs g) where
  unfold_step : (l : ℕ) → CanUnfold g l → HoldsTo (least defs) m (left_replaced g l (body_of defs (atom_at l (left_atoms g)).of)) r → HoldsTo (least defs) m g r
  unfold_step l can holds =
      let a = atom_at l (left_atoms g) in
      let p = has_pred defs sound a (atom_fits defs g.next g.left l can.left can.place fits.left) can.pred in
      let b = body_of_pred p.pred in
      unfold_keeps (least defs) m defs b (subst (BodyFits defs) p.body_is (bodies_fit defs sound a.of)) p.number (suc m)
      (λ root args h is_heap small q. subst (λ o. BodyHolds (least defs) o root args h) p.there (unfold_least defs p.number root args h q))
      g (left_replaced g l b) r (around defs g.next g.left l can.left can.place fits.left b p.number p.is p.arity) refl (inl (omega arith))
      (subst (λ c. HoldsTo (least defs) m (left_replaced g l c) r) p.body_is holds)

  lemma_step : (k : ℕ) → LemmasHoldBelow k defs → (m < k) ⊎ (IsAnchored g × (m ≤ k)) → (j l : ℕ) → CanUseLemma defs g j l →
      HoldsTo (least defs) m (left_replaced g l (body_or_none body_of_lemma (lemma_at defs j))) r → HoldsTo (least defs) m g r
  lemma_step k given room j l can holds =
      let lem = can.lemma in
      let b = body_of_lemma lem in
      let arity = lemma_arity defs sound j lem can.there (atom_at l (left_atoms g)) (atom_fits defs g.next g.left l can.left can.place fits.left) can.of_pred in
      unfold_keeps (least defs) m defs b (subst (λ o. BodyFits defs (body_or_none body_of_lemma o)) can.there (lemmas_fit defs sound j)) lem.pred k
      (λ root args h is_heap small q. least_from_satisfies defs (stack_of_body b root args) h b.formula (given j lem can.there root args h is_heap small q.0 q.1))
      g (left_replaced g l b) r (around defs g.next g.left l can.left can.place fits.left b lem.pred can.of_pred arity) refl room
      (subst (λ o. HoldsTo (least defs) m (left_replaced g l (body_or_none body_of_lemma o)) r) can.there holds)

  fold_step : (q i : ℕ) → CanFold defs g q i → HoldsTo (least defs) m (right_replaced g q i (body_of defs (atom_at q (right_atoms g)).of)) r → HoldsTo (least defs) m g r
  fold_step q i can holds =
      let a = atom_at q (right_atoms g) in
      let p = has_pred defs sound a (atom_fits defs g.next g.right q can.right can.place fits.right) can.pred in
      let b = body_of_pred p.pred in
      let cases = (instantiated b a.root a.args g.next).cases in
      let place : IsPlace i cases = IsPlace-map i (renamed_disjunct (body_renaming b a.root a.args g.next)) b.formula.cases (subst (λ (c : Body). IsPlace i c.formula.cases) p.body_is can.case_place) in
      fold_keeps (least defs) m defs b (subst (BodyFits defs) p.body_is (bodies_fit defs sound a.of)) p.number
      (λ root args h k. fold_least defs p.number root args h (subst (λ o. BodyHolds (least defs) o root args h) (sym p.there) k))
      g (right_replaced g q i b) r (around defs g.next g.right q can.right can.place fits.right b p.number p.is p.arity)
      (take (i - 1) cases) (case_at i cases) (drop i cases) (at_place i cases nothing place) refl
      (subst (λ c. HoldsTo (least defs) m (right_replaced g q i c) r) p.body_is holds)

-- ---- all rules

one_premise : (x : Meaning) (m : ℕ) (sub : Goal) (ps : List Judgement) → goals ps ≡ sub ∷ [] → AllHoldTo x m ps → HoldsTo x m sub (the_one (residues ps))
one_premise x m sub [] e all = absurd cc
one_premise x m sub (p ∷ []) e all = let f : p.goal ≡ sub = cc in subst (λ g. HoldsTo x m g p.residue) f all.0
one_premise x m sub (p ∷ q ∷ ps) e all = absurd cc

all_into : (defs : Defs) (m : ℕ) (ps : List Judgement) → AllHoldUpTo m defs ps → AllHoldTo (least defs) m ps
all_into defs m [] all = tt
all_into defs m (p ∷ ps) (e, all) = (holds_into defs m p.goal p.residue e, all_into defs m ps all)

module _ (known : ApproximationIsTrue) (defs : Defs) (sound : IsSound defs) (invariants : InvariantsHold defs)
    (m k : ℕ) (given : LemmasHoldBelow k defs) (g : Goal) (fits : GoalFits defs g) (room : (m < k) ⊎ (IsAnchored g × (m ≤ k))) where
  shows : (level n : ℕ) (s : Stack) (h : Heap) (atoms : List Atom) → AtomsFit defs atoms n → IsHeap h → AtomsHold (least defs) s h atoms →
      (t : Stack) × ((v : Var) → v.number < n → s v ≡ t v) × AllTrueAt t (approximation_of defs level atoms n)
  shows level n s h atoms f is_heap p =
      let (t, agree, all, one) = known defs sound invariants level n s h atoms f is_heap (satisfies_atoms_from_least defs s h atoms p) in
      (t, agree, all)

  by_rule : (rule : ERule) → (ps : List Judgement) → HasCondition defs g rule → goals ps ≡ subgoals_of defs g rule → IsAnswered (question_of defs g rule) → AllHoldTo (least defs) m ps →
      HoldsTo (least defs) m g (residue_of g rule (residues ps))
  by_rule rule_of.LeftOr ps can e answered all = left_or_keeps (least defs) m g ps e all
  by_rule rule_of.LeftExists ps can e answered all =
      left_exists_keeps (least defs) m defs g (the_one (residues ps)) fits can (one_premise (least defs) m (left_opened g (the_case g.left)) ps e all)
  by_rule (rule_of.False n) ps can e answered all = false_keeps (least defs) m defs g fits shows n can answered
  by_rule (rule_of.Split f) ps can e answered all = split_keeps (least defs) m f g ps (λ s. truth_decided s f can.proper.plain can.proper.ordered) can e all
  by_rule (rule_of.RightOr i) ps can e answered all =
      right_or_keeps (least defs) m g i (the_one (residues ps)) can (one_premise (least defs) m (with_right_case g i) ps e all)
  by_rule rule_of.RightExists ps can e answered all =
      right_exists_keeps (least defs) m defs g (the_one (residues ps)) fits can (one_premise (least defs) m (right_opened g (the_case g.right)) ps e all)
  by_rule (rule_of.Instantiate c) ps can e answered all =
      instantiate_keeps (least defs) m defs g fits (the_one (residues ps)) c can (one_premise (least defs) m (instantiated_by g c) ps e all)
  by_rule (rule_of.Match r l) ps can e answered all =
      match_keeps (least defs) m g (matched g r l) (the_one (residues ps)) fits.apart_left (match_pieces defs g r l fits can) (one_premise (least defs) m (matched g r l) ps e all)
  by_rule (rule_of.Unfold l) ps can e answered all =
      unfold_step defs sound m g (the_one (residues ps)) fits l can (one_premise (least defs) m (left_replaced g l (body_of defs (atom_at l (left_atoms g)).of)) ps e all)
  by_rule (rule_of.Fold r i) ps can e answered all =
      fold_step defs sound m g (the_one (residues ps)) fits r i can (one_premise (least defs) m (right_replaced g r i (body_of defs (atom_at r (right_atoms g)).of)) ps e all)
  by_rule (rule_of.Empty n) ps can e answered all = empty_keeps (least defs) m defs g fits shows n can answered
  by_rule (rule_of.Lemma j l) ps can e answered all =
      lemma_step defs sound m g (the_one (residues ps)) fits k given room j l can (one_premise (least defs) m (left_replaced g l (body_or_none body_of_lemma (lemma_at defs j))) ps e all)

pub right_steps : ApproximationIsTrue → RightStepsHold
right_steps known defs sound invariants m k given g r rule ps room step all =
    holds_from defs m g r (subst (λ f. HoldsTo (least defs) m g f) (sym step.residue_is)
    (by_rule known defs sound invariants m k given g step.shape room rule ps step.applies.condition step.goals_are step.answered (all_into defs m ps all)))

all_up_to : (defs : Defs) (m : ℕ) (ps : List Judgement) → AllHold defs ps → AllHoldUpTo m defs ps
all_up_to defs m [] all = tt
all_up_to defs m (p ∷ ps) (e, all) = (e m, all_up_to defs m ps all)

pub right_steps_keep : ApproximationIsTrue → RightStepsKeepMeaning
right_steps_keep known defs sound invariants lemmas g r rule ps step all m =
    right_steps known defs sound invariants m (suc m) (lemmas m) g r rule ps (inl (omega arith)) step (all_up_to defs m ps all)
