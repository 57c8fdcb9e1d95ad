-- The rules on equations, and those with a question, keep what a goal means.
use Rattle.std.proofs.Common.{ℕ, ◌-◌, ◌<◌, ◌≡◌, Bool, true, false, not, inl, inr, List, [], ◌∷◌, ◌++◌, take, drop, refl, sym, ◌∙◌, subst, ap}
use Rattle.std.specs.List.{list_any}
use Rattle.std.proofs.lemmas.List.Elements.{All-head, All-append}
use Rattle.hs_pure.specs.declared.var.Var.{Var}
use Rattle.hs_pure.specs.declared.pure.Pure.{Pure}
use Rattle.hs_pure.specs.declared.pure.Pure.TheVariants as pure_of
use Rattle.hs_pure.specs.Stack.{Stack, same, with_value}
use Rattle.hs_pure.specs.Truth.{TrueAt}
use Rattle.hs_pure.specs.Occurs.{is_free}
use Rattle.hs_pure.proofs.Agree.{Agree, truth-agree}
use Rattle.hs_pure.proofs.Truths.{true-Or, Any-nil}
use Rattle.hs_heap.specs.declared.formula.Atom.{Atom}
use Rattle.hs_heap.specs.declared.formula.Formula.{Formula}
use Rattle.hs_heap.specs.declared.definitions.Defs.{Defs}
use Rattle.hs_heap.specs.Heap.{Heap, IsHeap}
use Rattle.hs_heap.specs.Meaning.{Meaning, is_in, AllTrueAt, AtomsHold, FormulaHolds}
use Rattle.hs_heap.specs.Variables.{in_atom, is_free_in_formula}
use Rattle.hs_heap.specs.Sound.{AtomFits}
use Rattle.hs_heap.proofs.Splits.{all_right}
use Rattle.hs_heap.proofs.Atoms.{atoms_join}
use Rattle.hs_heap.proofs.Stacks.{same_true, with_values, with_values-in, with_values-out, SameBut-with_values, SameBut-with_value}
use Rattle.hs_heap.proofs.Booleans.{bool_cases, clash}
use Rattle.std.proofs.lemmas.Bool.{or_cases}
use Rattle.std.proofs.lemmas.List.Folds.{list_any-append}
use Rattle.hs_heap.proofs.Free.{all_true_agrees, atoms_agree}
use Rattle.hs_goal.specs.declared.goal.Goal.{Goal}
use Rattle.hs_goal.specs.Shape.{GoalFits, SideFits, CaseFits}
use Rattle.hs_rules.specs.Parts.{plain, conjunct_at, left_atoms, left_pure, right_atoms, right_pure, still_open}
use Rattle.hs_rules.specs.Conditions.{IsEquationFor, CanInstantiate, CanBeFalse, CanBeEmpty}
use Rattle.hs_rules.specs.Subgoals.{instantiated_by}
use Rattle.hs_rules.specs.Residues.{no_case}
use Rattle.hs_xpure.specs.Approximation.{approximation_of}
use Rattle.hs_xpure.specs.Laws.{AtomsFit}
use Rattle.hs_rules.specs.Questions.{known, asked}
use Rattle.hs_rules.proofs.Places.{at_place}
use Rattle.hs_rules.proofs.Plain.{simple_is, plain_holds, plain_from, AllTrue-append, AllTrue-insert, Agree-apart, plain_apart}
use Rattle.hs_rules.proofs.Holds.{HoldsTo}
use Rattle.hs_rules.proofs.Fits.{atoms_below, pure_below}
use Rattle.hs_rules.proofs.Solved.{solved}
use Rattle.hs_rules.proofs.Asked.{is_in-filter, filter-yes, filter-no, asked_gives, true_conjunction}

-- what is still open is not free in the conjunct
pub closed_now : (p : Pure) (opens : List Var) (w : Var) → is_free w p ≡ true → is_in w (still_open p opens) ≡ false
closed_now p [] w f = refl
closed_now p (o ∷ os) w f = elim (bool_cases (is_free o p)) [
  | inl is ↦ subst (λ us. is_in w us ≡ false) (sym (filter-no (λ v. not (is_free v p)) o os (rw is refl))) (closed_now p os w f)
  | inr isnt ↦
      let other : same w o ≡ false = elim (bool_cases (same w o)) [
        | inl k ↦ clash (subst (λ u. is_free u p ≡ true) (same_true w o k) f) isnt
        | inr k ↦ k
      ] in
      subst (λ us. is_in w us ≡ false) (sym (filter-yes (λ v. not (is_free v p)) o os (rw isnt refl))) (rw other (closed_now p os w f))
]

alone : (v : Var) (test : Var → Bool) → test v ≡ false → (w : Var) → is_in w (v ∷ []) ≡ true → test w ≡ false
alone v test out w i = elim (or_cases (same w v) false i) [
  | inl is ↦ subst (λ u. test u ≡ false) (sym (same_true w v is)) out
  | inr isnt ↦ absurd cc
]

open_there : (opens : List Var) (v : Var) (p : Pure) → IsEquationFor opens v p → is_in v opens ≡ true
open_there opens v p (inl q) = q.open_there
open_there opens v p (inr q) = q.open_there

module _ (x : Meaning) (m : ℕ) (defs : Defs) (g : Goal) (fits : GoalFits defs g) where
  pub instantiate_keeps : (r : Formula) (c : ℕ) → CanInstantiate g c → HoldsTo x m (instantiated_by g c) r → HoldsTo x m g r
  instantiate_keeps r c can new =
      let v = can.variable in
      let p = conjunct_at c (right_pure g) in
      let before = take (c - 1) (right_pure g) in
      let after = drop c (right_pure g) in
      let is_open = open_there g.opens v p can.equation in
      let whole : g.right ≡ plain (right_atoms g) (before ++ p ∷ after) =
      simple_is g.right can.right ∙ ap (λ ps. plain (right_atoms g) ps) (at_place c (right_pure g) (pure_of.And []) can.place) in
      record {
        splits = λ s h hu hr is_heap size parts used left.
            let R : Formula → Type 0 = λ f. FormulaHolds x s hr f in
            let F : Formula → Type 0 = λ f. is_free_in_formula v f ≡ false in
            let l = plain_holds x s hr (left_atoms g) (left_pure g) (subst R (simple_is g.left can.left) left) in
            let out_of_left = plain_apart (left_atoms g) (left_pure g) v (subst F (simple_is g.left can.left) (fits.apart_left v is_open)) in
            let (y, solution) = solved g.opens p v s can.equation in
            let s' = with_value v y s in
            let changed = SameBut-with_value v y s in
            let out = new.splits s' h hu hr is_heap size parts
            (atoms_agree x g.used s s' hu (Agree-apart (v ∷ []) (λ w. list_any (in_atom w) g.used) (alone v (λ w. list_any (in_atom w) g.used) (fits.apart_used v is_open)) changed) used)
            (plain_from x s' hr (left_atoms g) (left_pure g ++ p ∷ [])
            (AllTrue-append s' (left_pure g) (p ∷ [])
            (all_true_agrees (left_pure g) s s' (Agree-apart (v ∷ []) (λ w. list_any (is_free w) (left_pure g)) (alone v (λ w. list_any (is_free w) (left_pure g)) out_of_left.no_pure) changed) l.pure_true) (solution, tt))
            (atoms_agree x (left_atoms g) s s' hr (Agree-apart (v ∷ []) (λ w. list_any (in_atom w) (left_atoms g)) (alone v (λ w. list_any (in_atom w) (left_atoms g)) out_of_left.no_atom) changed) l.atoms_hold)) in
            let right = plain_holds x out.at out.part (right_atoms g) (before ++ after) out.right_holds in
            let still : TrueAt out.at p = (truth-agree p s' out.at (λ w f. sym (out.same.same w (closed_now p g.opens w f)))).0 solution in
            let S : Formula → Type 0 = λ f. FormulaHolds x out.at out.part f in
            record {
              at = out.at;
              same = record {
                same = λ w e. out.same.same w (is_in-filter (λ u. not (is_free u p)) g.opens w e) ∙ changed.same w (elim (bool_cases (same w v)) [
                  | inl is ↦ clash is_open (subst (λ u. is_in u g.opens ≡ false) (same_true w v is) e)
                  | inr isnt ↦ rw isnt refl
                ]);
              };
              part = out.part;
              rest = out.rest;
              parts = out.parts;
              right_holds = subst S (sym whole) (plain_from x out.at out.part (right_atoms g) (before ++ p ∷ after)
                  (AllTrue-insert out.at before p after still right.pure_true) right.atoms_hold);
              residue_holds = out.residue_holds;
            };
      }

  left_fits : g.left ≡ plain (left_atoms g) (left_pure g) → CaseFits defs g.next (record { bound = []; atoms = left_atoms g; pure = left_pure g })
  left_fits is = All-head (CaseFits defs g.next) _ [] (subst (λ (f : Formula). SideFits defs g.next f) is fits.left)

  -- what is known of the atoms is true at some stack that differs on numbers from next on, where the atoms hold
  module _ (shows : (level n : ℕ) (s : Stack) (h : Heap) (atoms : List Atom) → AtomsFit defs atoms n → IsHeap h → AtomsHold x s h atoms →
      (t : Stack) × ((v : Var) → v.number < n → s v ≡ t v) × AllTrueAt t (approximation_of defs level atoms n)) where
    known_true : (level : ℕ) (simple : g.left ≡ plain (left_atoms g) (left_pure g)) (s : Stack) (h : Heap) → IsHeap h → AllTrueAt s (left_pure g) → AtomsHold x s h (g.used ++ left_atoms g) →
        (t : Stack) × ((v : Var) → v.number < g.next → s v ≡ t v) × TrueAt t (known defs g level)
    known_true level simple s h is_heap truth atoms =
        let d_fits = left_fits simple in
        let (t, agree, more) = shows level g.next s h (g.used ++ left_atoms g) (record {
          each = All-append (AtomFits defs) g.used (left_atoms g) fits.used d_fits.atoms;
          below = λ v e. elim (or_cases (list_any (in_atom v) g.used) (list_any (in_atom v) (left_atoms g)) (sym (list_any-append (in_atom v) g.used (left_atoms g)) ∙ e)) [
            | inl k ↦ fits.used_numbers v k
            | inr k ↦ atoms_below g.next (record { bound = []; atoms = left_atoms g; pure = left_pure g }) d_fits.numbers v k
          ];
        }) is_heap atoms in (
          t,
          agree,
          true_conjunction t (approximation_of defs level (g.used ++ left_atoms g) g.next ++ left_pure g)
              (AllTrue-append t (approximation_of defs level (g.used ++ left_atoms g) g.next) (left_pure g) more
              (all_true_agrees (left_pure g) s t (λ v e. agree v (pure_below g.next (record { bound = []; atoms = left_atoms g; pure = left_pure g }) d_fits.numbers v e)) truth)),
        )

    pub false_keeps : (level : ℕ) → CanBeFalse g level → ((s : Stack) → TrueAt s (known defs g level) → TrueAt s (pure_of.Or [])) → HoldsTo x m g no_case
    false_keeps level can answered = record {
      splits = λ s h hu hr is_heap size parts used left.
          let R : Formula → Type 0 = λ f. FormulaHolds x s hr f in
          let simple = simple_is g.left can.left in
          let l = plain_holds x s hr (left_atoms g) (left_pure g) (subst R simple left) in
          let (t, agree, truth) = known_true level simple s h is_heap l.pure_true (atoms_join x s g.used (left_atoms g) parts used l.atoms_hold) in
          absurd (Any-nil (TrueAt t) ((true-Or t []).0 (answered t truth)));
    }

    pub empty_keeps : (level : ℕ) → CanBeEmpty g level → ((s : Stack) → TrueAt s (known defs g level) → TrueAt s (asked g)) → HoldsTo x m g (plain (left_atoms g) (left_pure g ++ right_pure g))
    empty_keeps level can answered = record {
      splits = λ s h hu hr is_heap size parts used left.
          let R : Formula → Type 0 = λ f. FormulaHolds x s hr f in
          let simple = simple_is g.left can.left in
          let right_is : g.right ≡ plain [] (right_pure g) = simple_is g.right can.right ∙ ap (λ as'. plain as' (right_pure g)) can.no_atoms in
          let right_fits = All-head (CaseFits defs g.next) (record { bound = []; atoms = []; pure = right_pure g }) [] (subst (λ (f : Formula). SideFits defs g.next f) right_is fits.right) in
          let l = plain_holds x s hr (left_atoms g) (left_pure g) (subst R simple left) in
          let (t, agree_below, truth) = known_true level simple s h is_heap l.pure_true (atoms_join x s g.used (left_atoms g) parts used l.atoms_hold) in
          let u = asked_gives g.opens t (right_pure g) (answered t truth) in
          let back = with_values g.opens u.at s in
          let changed = SameBut-with_values g.opens u.at s in
          let agree : Agree (λ v. list_any (is_free v) (right_pure g)) u.at back = λ v e. elim (bool_cases (is_in v g.opens)) [
            | inl is ↦ sym (with_values-in g.opens u.at s v is)
            | inr isnt ↦ u.same.same v isnt ∙ sym (agree_below v (pure_below g.next (record { bound = []; atoms = []; pure = right_pure g }) right_fits.numbers v e)) ∙ sym (with_values-out g.opens u.at s v isnt)
          ] in
          let F : Var → Formula → Type 0 = λ v f. is_free_in_formula v f ≡ false in
          let apart = λ (v : Var) (is : is_in v g.opens ≡ true). plain_apart (left_atoms g) (left_pure g) v (subst (F v) simple (fits.apart_left v is)) in
          let right_now = all_true_agrees (right_pure g) u.at back agree u.pure in
          let S : Formula → Type 0 = λ f. FormulaHolds x back [] f in
          record {
            at = back;
            same = changed;
            part = [];
            rest = hr;
            parts = all_right hr;
            right_holds = subst S (sym right_is) (plain_from x back [] [] (right_pure g) right_now refl);
            residue_holds = plain_from x back hr (left_atoms g) (left_pure g ++ right_pure g)
                (AllTrue-append back (left_pure g) (right_pure g) (all_true_agrees (left_pure g) s back (Agree-apart g.opens (λ v. list_any (is_free v) (left_pure g)) (λ v is. (apart v is).no_pure) changed) l.pure_true) right_now)
                (atoms_agree x (left_atoms g) s back hr (Agree-apart g.opens (λ v. list_any (in_atom v) (left_atoms g)) (λ v is. (apart v is).no_atom) changed) l.atoms_hold);
          };
    }
