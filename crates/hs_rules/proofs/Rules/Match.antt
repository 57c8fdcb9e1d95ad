-- Match keeps what a goal means.
use Rattle.std.proofs.Common.{ℕ, ◌-◌, ◌≡◌, true, false, List, [], ◌∷◌, ◌++◌, map, take, drop, refl, sym, ◌∙◌, ap, subst}
use Rattle.std.specs.List.{All}
use Rattle.hs_pure.specs.declared.var.Var.{Var}
use Rattle.hs_pure.specs.declared.pure.Pure.{Pure}
use Rattle.hs_pure.specs.Stack.{Stack, Value}
use Rattle.hs_pure.proofs.Agree.{Agree}
use Rattle.hs_heap.specs.declared.formula.Of.{Of}
use Rattle.hs_heap.specs.declared.formula.Atom.{Atom}
use Rattle.hs_heap.specs.declared.formula.Formula.{Formula}
use Rattle.hs_heap.specs.declared.definitions.Defs.{Defs}
use Rattle.hs_heap.specs.Heap.{Heap}
use Rattle.hs_heap.specs.Meaning.{Meaning, argument_at, is_in, SameBut, AllTrueAt, OfHolds, AtomHolds, AtomsHold, FormulaHolds}
use Rattle.hs_heap.specs.Variables.{in_atom, is_free_in_formula}
use Rattle.hs_heap.specs.Sound.{AtomFits, kinds}
use Rattle.hs_heap.proofs.Splits.{regroup, all_left}
use Rattle.hs_heap.proofs.Agree.{OfHolds-same}
use Rattle.hs_heap.proofs.Atoms.{OneHolds, atoms_join, take_out, put_in}
use Rattle.hs_heap.proofs.Free.{args_agree}
use Rattle.hs_goal.specs.declared.goal.Goal.{Goal}
use Rattle.hs_goal.specs.Shape.{GoalFits, SideFits, CaseFits}
use Rattle.hs_goal.specs.Classes.{SameClass}
use Rattle.hs_rules.specs.Parts.{plain, atom_at, left_atoms, left_pure, right_atoms, right_pure, equations, no_atom}
use Rattle.hs_rules.specs.Conditions.{CanMatch}
use Rattle.hs_rules.specs.Subgoals.{matched}
use Rattle.std.proofs.lemmas.List.Elements.{All-head}
use Rattle.hs_rules.proofs.Places.{at_place}
use Rattle.hs_rules.proofs.Plain.{simple_is, plain_holds, plain_from, AllTrue-first, AllTrue-second, Agree-apart, plain_apart, atom_apart}
use Rattle.hs_rules.proofs.Values.{class_value, equations_values}
use Rattle.hs_rules.proofs.Holds.{SplitsBy, HoldsTo}
use Rattle.hs_rules.proofs.Fits.{All-middle, args_fit}

-- a match in pieces
pub record IsMatch (g sub : Goal) : Type 0 where
  pub before : List Atom
  pub atom : Atom
  pub after : List Atom
  pub pure : List Pure
  pub left_is : g.left ≡ plain (before ++ atom ∷ after) pure
  pub right_before : List Atom
  pub right_atom : Atom
  pub right_after : List Atom
  pub right_pure : List Pure
  pub right_is : g.right ≡ plain (right_before ++ right_atom ∷ right_after) right_pure
  pub one_name : right_atom.of ≡ atom.of
  pub arity : kinds right_atom.args ≡ kinds atom.args
  pub one_class : SameClass pure right_atom.root atom.root
  pub known : is_in right_atom.root g.opens ≡ false
  pub sub_is : sub ≡ record g {
    used = g.used ++ atom ∷ [];
    left = plain (before ++ after) pure;
    right = plain (right_before ++ right_after) (equations right_atom.args atom.args ++ right_pure);
    looked = true;
  }

pub match_pieces : (defs : Defs) (g : Goal) (r l : ℕ) → GoalFits defs g → CanMatch g r l → IsMatch g (matched g r l)
match_pieces defs g r l fits can =
    let left_is : g.left ≡ plain (take (l - 1) (left_atoms g) ++ atom_at l (left_atoms g) ∷ drop l (left_atoms g)) (left_pure g) =
    simple_is g.left can.left ∙ ap (λ as'. plain as' (left_pure g)) (at_place l (left_atoms g) no_atom can.left_place) in
    let right_is : g.right ≡ plain (take (r - 1) (right_atoms g) ++ atom_at r (right_atoms g) ∷ drop r (right_atoms g)) (right_pure g) =
    simple_is g.right can.right ∙ ap (λ as'. plain as' (right_pure g)) (at_place r (right_atoms g) no_atom can.right_place) in
    let left_fits : All (AtomFits defs) (take (l - 1) (left_atoms g) ++ atom_at l (left_atoms g) ∷ drop l (left_atoms g)) =
    (All-head (CaseFits defs g.next) _ [] (subst (λ (f : Formula). SideFits defs g.next f) left_is fits.left)).atoms in
    let right_fits : All (AtomFits defs) (take (r - 1) (right_atoms g) ++ atom_at r (right_atoms g) ∷ drop r (right_atoms g)) =
    (All-head (CaseFits defs g.next) _ [] (subst (λ (f : Formula). SideFits defs g.next f) right_is fits.right)).atoms in
    record {
      before = take (l - 1) (left_atoms g);
      atom = atom_at l (left_atoms g);
      after = drop l (left_atoms g);
      pure = left_pure g;
      left_is = left_is;
      right_before = take (r - 1) (right_atoms g);
      right_atom = atom_at r (right_atoms g);
      right_after = drop r (right_atoms g);
      right_pure = right_pure g;
      right_is = right_is;
      one_name = can.one_name;
      arity = args_fit defs (atom_at r (right_atoms g)) (atom_at l (left_atoms g))
          (All-middle (AtomFits defs) (take (r - 1) (right_atoms g)) (atom_at r (right_atoms g)) (drop r (right_atoms g)) right_fits)
          (All-middle (AtomFits defs) (take (l - 1) (left_atoms g)) (atom_at l (left_atoms g)) (drop l (left_atoms g)) left_fits)
          can.one_name;
      one_class = can.one_class;
      known = can.known;
      sub_is = refl;
    }

-- the right side at the stack that the subgoal gives: the matched part joins the subgoal's part
module _ (x : Meaning) (g sub : Goal) (r : Formula) (apart : (v : Var) → is_in v g.opens ≡ true → is_free_in_formula v g.left ≡ false) (step : IsMatch g sub)
    (s : Stack) (hr : Heap) (truth : AllTrueAt s step.pure) where
  one_agrees : (t : Stack) → SameBut g.opens s t → Agree (λ v. in_atom v step.atom) s t
  one_agrees t same = Agree-apart g.opens (λ v. in_atom v step.atom) (λ v is.
      let P : Formula → Type 0 = λ f. is_free_in_formula v f ≡ false in
      atom_apart step.before step.atom step.after v (plain_apart _ step.pure v (subst P step.left_is (apart v is))).no_atom) same

  right_atom_holds : (t : Stack) (h : Heap) → SameBut g.opens s t → AtomHolds x s h step.atom →
      AllTrueAt t (equations step.right_atom.args step.atom.args) → AtomHolds x t h step.right_atom
  right_atom_holds t h same p eqs =
      let e : (s step.atom.root).number ≡ (t step.right_atom.root).number = sym (ap (λ (y : Value). y.number) (same.same step.right_atom.root step.known) ∙ class_value s step.pure truth step.one_class) in
      let f : map (argument_at s) step.atom.args ≡ map (argument_at t) step.right_atom.args =
      args_agree step.atom s t (one_agrees t same) ∙ sym (equations_values t _ _ step.arity eqs) in
      let P : Of → Type 0 = λ o. OfHolds x o (t step.right_atom.root).number (map (argument_at t) step.right_atom.args) h in
      subst P (sym step.one_name) (OfHolds-same x step.atom.of h e f p)

  match_splits : (o : OneHolds x s hr step.atom (step.before ++ step.after)) → SplitsBy x sub.opens sub.right r s o.h2 → SplitsBy x g.opens g.right r s hr
  match_splits o out =
      let P : List Var → Type 0 = λ vs. SameBut vs s out.at in
      let Q : Formula → Type 0 = λ f. FormulaHolds x out.at out.part f in
      let same = subst P (ap (λ (t : Goal). t.opens) step.sub_is) out.same in
      let right = plain_holds x out.at out.part (step.right_before ++ step.right_after) (equations step.right_atom.args step.atom.args ++ step.right_pure)
      (subst Q (ap (λ (t : Goal). t.right) step.sub_is) out.right_holds) in
      let eqs = AllTrue-first out.at (equations step.right_atom.args step.atom.args) step.right_pure right.pure_true in
      let (k, inner, whole) = regroup o.parts out.parts in
      let R : Formula → Type 0 = λ f. FormulaHolds x out.at k f in
      record {
        at = out.at;
        same = same;
        part = k;
        rest = out.rest;
        parts = whole;
        right_holds = subst R (sym step.right_is) (plain_from x out.at k (step.right_before ++ step.right_atom ∷ step.right_after) step.right_pure
            (AllTrue-second out.at (equations step.right_atom.args step.atom.args) step.right_pure right.pure_true)
            (put_in x out.at step.right_before step.right_atom step.right_after inner (right_atom_holds out.at o.h1 same o.one eqs) right.atoms_hold));
        residue_holds = out.residue_holds;
      }

module _ (x : Meaning) (m : ℕ) where
  pub match_keeps : (g sub : Goal) (r : Formula) → ((v : Var) → is_in v g.opens ≡ true → is_free_in_formula v g.left ≡ false) → IsMatch g sub → HoldsTo x m sub r → HoldsTo x m g r
  match_keeps g sub r apart step holds = record {
    splits = λ s h hu hr is_heap size parts used left.
        let P : Formula → Type 0 = λ f. FormulaHolds x s hr f in
        let l = plain_holds x s hr (step.before ++ step.atom ∷ step.after) step.pure (subst P step.left_is left) in
        let o = take_out x s step.before step.atom step.after hr l.atoms_hold in
        let (k, used_parts, whole) = regroup parts o.parts in
        let Q : List Atom → Type 0 = λ as'. AtomsHold x s k as' in
        let R : Formula → Type 0 = λ f. FormulaHolds x s o.h2 f in
        match_splits x g sub r apart step s hr l.pure_true o (holds.splits s h k o.h2 is_heap size whole
        (subst Q (sym (ap (λ (t : Goal). t.used) step.sub_is)) (atoms_join x s g.used (step.atom ∷ []) used_parts used (o.h1, [], all_left o.h1, o.one, refl)))
        (subst R (sym (ap (λ (t : Goal). t.left) step.sub_is)) (plain_from x s o.h2 (step.before ++ step.after) step.pure l.pure_true o.rest)));
  }
