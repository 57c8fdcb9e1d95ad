-- The rules on bodies of predicates and lemmas keep what a goal means.
use Rattle.std.proofs.Common.{ℕ, ℤ, ◌≤◌, ◌<◌, ◌≡◌, true, false, ◌⊎◌, inl, inr, IsTrue, List, [], ◌∷◌, ◌++◌, length, map, sym, subst, arith}
use Rattle.std.specs.List.{list_any, All}
use Rattle.std.proofs.lemmas.List.Elements.{All-head, All-tail}
use Rattle.hs_pure.specs.declared.var.Var.{Var}
use Rattle.hs_pure.specs.declared.pure.Pure.{Pure}
use Rattle.hs_pure.specs.Stack.{Stack}
use Rattle.hs_pure.specs.Occurs.{is_free, is_bound}
use Rattle.hs_heap.specs.declared.formula.Of.{Of}
use Rattle.hs_heap.specs.declared.formula.Of.TheVariants.{Pred}
use Rattle.hs_heap.specs.declared.formula.Atom.{Atom}
use Rattle.hs_heap.specs.declared.formula.Disjunct.{Disjunct}
use Rattle.hs_heap.specs.declared.formula.Formula.{Formula}
use Rattle.hs_heap.specs.declared.definitions.Defs.{Defs}
use Rattle.hs_heap.specs.Heap.{Heap, IsHeap, Parts}
use Rattle.hs_heap.specs.Meaning.{Argument, Meaning, argument_at, is_in, AllTrueAt, OfHolds, AtomsHold, DisjunctHolds, SomeHolds, FormulaHolds}
use Rattle.hs_heap.specs.Variables.{in_atom}
use Rattle.hs_heap.specs.Sound.{kinds}
use Rattle.hs_heap.proofs.Splits.{regroup, length-parts, IsHeap-left, IsHeap-right}
use Rattle.hs_heap.proofs.Atoms.{BothHold, atoms_split, atoms_join, take_out, put_in, bring_out, regroup_right}
use Rattle.hs_heap.proofs.Lists.{any_back}
use Rattle.hs_heap.specs.Renamed.{is_bound_in_disjunct}
use Rattle.hs_heap.specs.Instance.{Body, instantiated, next_after, stack_of_body}
use Rattle.hs_pure.proofs.Vars.{or_left}
use Rattle.hs_rules.proofs.Variables.{SameBut-sym}
use Rattle.hs_heap.proofs.Free.{all_true_agrees, atoms_agree}
use Rattle.hs_heap.specs.Instance.{BodyFits}
use Rattle.hs_heap.proofs.Bodies.{body_from_instantiated, instantiated_from_body, instantiated_binds}
use Rattle.hs_goal.specs.declared.goal.Goal.{Goal}
use Rattle.hs_goal.specs.Shape.{CaseFits}
use Rattle.hs_goal.specs.Anchored.{IsAnchored}
use Rattle.hs_rules.specs.Parts.{plain, only}
use Rattle.hs_rules.proofs.Plain.{plain_holds, plain_from, AllTrue-append, AllTrue-first, AllTrue-second, Agree-below}
use Rattle.hs_rules.proofs.Holds.{HoldsTo}
use Rattle.hs_rules.proofs.Fits.{All-middle, any_others, any_middle, atoms_below, pure_below}
use Rattle.hs_rules.proofs.Anchors.{anchored_room}
use Rattle.hs_rules.proofs.Rules.Cases.{second_cases}

-- the case of a body between the other atoms, its conjuncts after those of the side
abbrev pub put_case : List Atom → List Atom → List Pure → Disjunct → Disjunct
put_case before after pure d = record { bound = d.bound; atoms = before ++ d.atoms ++ after; pure = pure ++ d.pure }

abbrev pub BindsFrom : ℕ → Disjunct → Type 0
BindsFrom n d = (v : Var) → IsTrue (is_bound_in_disjunct v d) → n ≤ v.number

bound_from : (n : ℕ) (d : Disjunct) → BindsFrom n d → (v : Var) → is_in v d.bound ≡ true → n ≤ v.number
bound_from n d h v i = h v (or_left (is_in v d.bound) (list_any (is_bound v) d.pure) i)

module _ (x : Meaning) (s : Stack) where
  -- atoms in the place of one
  put_list : (xs mid ys : List Atom) {h h1 h2 : Heap} → Parts h h1 h2 → AtomsHold x s h1 mid → AtomsHold x s h2 (xs ++ ys) → AtomsHold x s h (xs ++ mid ++ ys)
  put_list xs mid ys parts p q =
      let b = atoms_split x s xs ys _ q in
      let (k, l, r) = bring_out parts b.parts in
      let (j, inner, whole) = regroup r l in
      atoms_join x s (xs ++ mid) ys whole (atoms_join x s xs mid inner b.first p) b.second

  take_list : (xs mid ys : List Atom) (h : Heap) → AtomsHold x s h (xs ++ mid ++ ys) → BothHold x s h mid (xs ++ ys)
  take_list xs mid ys h p =
      let b = atoms_split x s (xs ++ mid) ys h p in
      let c = atoms_split x s xs mid _ b.first in
      let (k, l, r) = regroup_right b.parts c.parts in
      let (j, inner, whole) = bring_out r l in
      record { h1 = c.h2; h2 = j; parts = whole; first = c.second; second = atoms_join x s xs ys inner c.first b.second }

-- a side in pieces round an atom of a predicate, which becomes a body
pub record IsAround (defs : Defs) (b : Body) (n : ℕ) (next : ℕ) (f : Formula) : Type 0 where
  pub before : List Atom
  pub atom : Atom
  pub after : List Atom
  pub pure : List Pure
  pub is : f ≡ plain (before ++ atom ∷ after) pure
  pub of_is : atom.of ≡ Pred n
  pub root_kind : atom.root.bag ≡ false
  pub arity : kinds b.params ≡ kinds atom.args
  pub fits : CaseFits defs next (record { bound = []; atoms = before ++ atom ∷ after; pure = pure })

module _ (defs : Defs) (b : Body) (n next : ℕ) (f : Formula) (a : IsAround defs b n next f) where
  pub args_below : (v : Var) → IsTrue (is_in v (a.atom.root ∷ a.atom.args)) → v.number < next
  args_below v i = atoms_below next (record { bound = []; atoms = a.before ++ a.atom ∷ a.after; pure = a.pure }) a.fits.numbers v (any_middle (in_atom v) a.before a.atom a.after i)

  pub others_below : (v : Var) → IsTrue (list_any (in_atom v) (a.before ++ a.after)) → v.number < next
  others_below v i = atoms_below next (record { bound = []; atoms = a.before ++ a.atom ∷ a.after; pure = a.pure }) a.fits.numbers v (any_others (in_atom v) a.before a.atom a.after i)

  pub truths_below : (v : Var) → IsTrue (list_any (is_free v) a.pure) → v.number < next
  truths_below v i = pure_below next (record { bound = []; atoms = a.before ++ a.atom ∷ a.after; pure = a.pure }) a.fits.numbers v i

-- what an instantiated body binds has new numbers
binds_from : (defs : Defs) (b : Body) → BodyFits defs b → (root : Var) (args : List Var) (fresh : ℕ) → root.bag ≡ false → kinds b.params ≡ kinds args →
    ((v : Var) → IsTrue (is_in v (root ∷ args)) → v.number < fresh) → All (BindsFrom fresh) (instantiated b root args fresh).cases
binds_from defs b fits root args fresh root_kind arity low =
    any_back is_bound_in_disjunct (λ (v : Var). fresh ≤ v.number) (instantiated b root args fresh).cases
    (λ v e. (instantiated_binds defs b root args fresh fits root_kind arity low v e).0)

module _ (x : Meaning) (m : ℕ) (defs : Defs) (b : Body) (body_fits : BodyFits defs b) (n : ℕ) where
  -- a case of the instantiated body stands for the atom, beside the others
  replaced_holds : (next : ℕ) (before after : List Atom) (pure : List Pure) (s : Stack) {hr h1 h2 : Heap} → Parts hr h1 h2 →
      ((v : Var) → IsTrue (list_any (in_atom v) (before ++ after)) → v.number < next) → ((v : Var) → IsTrue (list_any (is_free v) pure) → v.number < next) →
      AllTrueAt s pure → AtomsHold x s h2 (before ++ after) →
      (ds : List Disjunct) → All (BindsFrom next) ds → SomeHolds x s h1 ds → SomeHolds x s hr (map (put_case before after pure) ds)
  replaced_holds next before after pure s parts low low_pure truth rest [] bounds q = absurd q
  replaced_holds next before after pure s {h2 = h2} parts low low_pure truth rest (d ∷ ds) bounds (inl q) =
      let high = bound_from next d (All-head (BindsFrom next) d ds bounds) in
      inl (record {
        at = q.at;
        same = q.same;
        pure = AllTrue-append q.at pure d.pure
            (all_true_agrees pure s q.at (Agree-below next d.bound (λ v. list_any (is_free v) pure) high low_pure q.same) truth) q.pure;
        atoms = put_list x q.at before d.atoms after parts q.atoms
            (atoms_agree x (before ++ after) s q.at h2 (Agree-below next d.bound (λ v. list_any (in_atom v) (before ++ after)) high low q.same) rest);
      })
  replaced_holds next before after pure s parts low low_pure truth rest (d ∷ ds) bounds (inr q) =
      inr (replaced_holds next before after pure s parts low low_pure truth rest ds (All-tail (BindsFrom next) d ds bounds) q)

  -- where the predicate implies the body on heaps of fewer than k nodes; k may be m where the goal is anchored, and is above m else
  module _ (k : ℕ) (opens : (root : ℤ) (args : List Argument) (h : Heap) → IsHeap h → length h < k → x n root args h → FormulaHolds x (stack_of_body b root args) h b.formula) where
    pub unfold_keeps : (g sub : Goal) (r : Formula) (a : IsAround defs b n g.next g.left) →
        sub ≡ record g {
          left = record { cases = map (put_case a.before a.after a.pure) (instantiated b a.atom.root a.atom.args g.next).cases };
          next = next_after b g.next;
          looked = false;
        } → (m < k) ⊎ (IsAnchored g × (m ≤ k)) → HoldsTo x m sub r → HoldsTo x m g r
    unfold_keeps g sub r a sub_is room holds =
        let P : Goal → Type 0 = λ t. HoldsTo x m t r in
        let new = subst P sub_is holds in
        let low = args_below defs b n g.next g.left a in
        record {
          splits = λ s h hu hr is_heap size parts used left.
              let R : Formula → Type 0 = λ f. FormulaHolds x s hr f in
              let l = plain_holds x s hr (a.before ++ a.atom ∷ a.after) a.pure (subst R a.is left) in
              let o = take_out x s a.before a.atom a.after hr l.atoms_hold in
              let N : Of → Type 0 = λ f. OfHolds x f (s a.atom.root).number (map (argument_at s) a.atom.args) o.h1 in
              let small : length o.h1 < k = let e = length-parts parts in let f = length-parts o.parts in elim room [
                | inl all ↦ omega arith
                | inr (anchored, less) ↦ let q = anchored_room x s g a.before a.atom a.after a.pure n anchored a.is a.of_is hu o.h2 used o.rest in omega arith
              ] in
              let body = instantiated_from_body defs b a.atom.root a.atom.args g.next body_fits a.root_kind a.arity low x s o.h1
              (opens (s a.atom.root).number (map (argument_at s) a.atom.args) o.h1 (IsHeap-left o.parts (IsHeap-right parts is_heap)) small (subst N a.of_is o.one)) in
              new.splits s h hu hr is_heap size parts used
              (replaced_holds g.next a.before a.after a.pure s o.parts (others_below defs b n g.next g.left a) (truths_below defs b n g.next g.left a) l.pure_true o.rest
              (instantiated b a.atom.root a.atom.args g.next).cases (binds_from defs b body_fits a.atom.root a.atom.args g.next a.root_kind a.arity low) body);
        }

  -- where the body implies the predicate
  module _ (closes : (root : ℤ) (args : List Argument) (h : Heap) → FormulaHolds x (stack_of_body b root args) h b.formula → x n root args h) where
    pub fold_keeps : (g sub : Goal) (r : Formula) (a : IsAround defs b n g.next g.right) (earlier : List Disjunct) (one : Disjunct) (later : List Disjunct) →
        (instantiated b a.atom.root a.atom.args g.next).cases ≡ earlier ++ one ∷ later →
        sub ≡ record g { right = only (put_case a.before a.after a.pure one); next = next_after b g.next; looked = true } →
        HoldsTo x m sub r → HoldsTo x m g r
    fold_keeps g sub r a earlier one later body_is sub_is holds =
        let P : Goal → Type 0 = λ t. HoldsTo x m t r in
        let new = subst P sub_is holds in
        let low = args_below defs b n g.next g.right a in
        let B : List Disjunct → Type 0 = λ ds. All (BindsFrom g.next) ds in
        let binds = All-middle (BindsFrom g.next) earlier one later (subst B body_is (binds_from defs b body_fits a.atom.root a.atom.args g.next a.root_kind a.arity low)) in
        let high = bound_from g.next one binds in
        record {
          splits = λ s h hu hr is_heap size parts used left.
              let out = new.splits s h hu hr is_heap size parts used left in
              elim (out.right_holds) [
                | inl q ↦
                    let t = take_list x q.at a.before one.atoms a.after out.part q.atoms in
                    let same = SameBut-sym q.same in
                    let others_hold = atoms_agree x (a.before ++ a.after) q.at out.at t.h2
                    (Agree-below g.next one.bound (λ v. list_any (in_atom v) (a.before ++ a.after)) high (others_below defs b n g.next g.right a) same) t.second in
                    let truth = all_true_agrees a.pure q.at out.at
                    (Agree-below g.next one.bound (λ v. list_any (is_free v) a.pure) high (truths_below defs b n g.next g.right a) same) (AllTrue-first q.at a.pure one.pure q.pure) in
                    let held : DisjunctHolds x out.at t.h1 one = record { at = q.at; same = q.same; pure = AllTrue-second q.at a.pure one.pure q.pure; atoms = t.first } in
                    let C : List Disjunct → Type 0 = λ ds. SomeHolds x out.at t.h1 ds in
                    let body = subst C (sym body_is) (second_cases x out.at t.h1 earlier (one ∷ later) (inl held)) in
                    let holds_there = closes (out.at a.atom.root).number (map (argument_at out.at) a.atom.args) t.h1
                    (body_from_instantiated defs b a.atom.root a.atom.args g.next body_fits a.root_kind a.arity low x out.at t.h1 body) in
                    let N : Of → Type 0 = λ f. OfHolds x f (out.at a.atom.root).number (map (argument_at out.at) a.atom.args) t.h1 in
                    let R : Formula → Type 0 = λ f. FormulaHolds x out.at out.part f in
                    record {
                      at = out.at;
                      same = out.same;
                      part = out.part;
                      rest = out.rest;
                      parts = out.parts;
                      right_holds = subst R (sym a.is) (plain_from x out.at out.part (a.before ++ a.atom ∷ a.after) a.pure truth
                          (put_in x out.at a.before a.atom a.after t.parts (subst N (sym a.of_is) holds_there) others_hold));
                      residue_holds = out.residue_holds;
                    }
                | inr q ↦ absurd q
              ];
        }
