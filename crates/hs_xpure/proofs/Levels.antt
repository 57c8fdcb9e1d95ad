-- Every level of the approximation is true wherever the atoms hold, and invariants hold where each follows from
-- its body.
use Rattle.std.proofs.Common.{◌≡◌, ◌⊎◌, inl, inr, ℕ, zero, suc, ◌<◌, ◌≤◌, ℤ, pos, ◌<ℤ◌, Bool, true, false, ◌||◌, IsTrue, List, [], ◌∷◌, map, Option, Some, None, refl, sym, ◌∙◌, ap, arith, subst, if◌then◌else◌}
use Rattle.std.specs.List.{All}
use Rattle.std.proofs.lemmas.List.Elements.{All-from_recursion}
use Rattle.hs_pure.specs.declared.var.Var.{Var}
use Rattle.hs_pure.specs.Stack.{Stack, Value, same, with_value, number_value}
use Rattle.hs_pure.specs.Truth.{TrueAt}
use Rattle.hs_pure.proofs.Agree.{truth-agree}
use Rattle.hs_pure.proofs.Renamed.{free-occurs_of}
use Rattle.hs_pure.proofs.Vars.{or_left, or_right}
use Rattle.hs_heap.specs.declared.formula.Of.{Of}
use Rattle.hs_heap.specs.declared.formula.Of.TheVariants.{Node, Pred}
use Rattle.hs_heap.specs.declared.formula.Atom.{Atom}
use Rattle.hs_heap.specs.declared.definitions.PredDef.{PredDef}
use Rattle.hs_heap.specs.declared.definitions.Defs.{Defs}
use Rattle.hs_heap.specs.Heap.{Heap, Parts, IsHeap}
use Rattle.hs_heap.specs.Meaning.{Argument, argument_at, parameter_value, is_in, self_var, with_arguments, pred_at, body_stack, OfHolds, AtomHolds, AtomsHold, BodyHolds, SatisfiesAtDepth, meaning_at_depth}
use Rattle.hs_heap.specs.Sound.{AtomFits, IsNumbered, AreNumberedFrom, PredIsSound, IsSound, kinds}
use Rattle.hs_heap.specs.Instance.{ArgumentsFit, body_of, body_of_pred, body_or_none}
use Rattle.hs_heap.proofs.Splits.{all_right, all_left, only_right, swap_parts}
use Rattle.hs_heap.proofs.Stacks.{with_value-same, with_value-other, same_true, same_false, same_itself}
use Rattle.hs_heap.proofs.Lists.{listed_forth}
use Rattle.hs_heap.proofs.Free.{arguments_agree}
use Rattle.hs_heap.proofs.Satisfied.{instantiated_means_body, instantiated_means_invariant}
use Rattle.hs_xpure.specs.Approximation.{Former, all_apart, address, atoms_formed, body_formed, inv_formed, inv_of, inv_and_body_of, node_formed, of_formed, form, approximation_of}
use Rattle.hs_xpure.specs.Invariants.{pred_atom, InvariantsHold, InvariantFollows}
use Rattle.hs_xpure.specs.Laws.{ApproximationIsTrue, InvariantsAreShown, NewNumbersAreInRange}
use Rattle.hs_xpure.proofs.Used.{Uses, all_use-append, uses_all_apart}
use Rattle.hs_xpure.proofs.Bodies.{pred_in, no_pred, arguments_fit, pred_kinds, pred_body_fits, pred_inv_fits}
use Rattle.hs_xpure.proofs.Numbers.{IsOldOrNew, FormerFits, AreBelow, InAtoms, InArguments, addresses_in, below_later, inv_fits, form_fits, atoms_fit}
use Rattle.hs_xpure.proofs.Places.{AreAddresses, no_addresses, IsPlace, at_address, all_true-append, true_equal, true_positive}
use Rattle.hs_xpure.proofs.Shown.{AgreeBelow, IsShown, FormerShows, formed_below, combined_shown, conjunction_true, atoms_shown, body_shown}

-- wherever a predicate holds at a depth, its invariant is true
abbrev HoldAt : Defs → ℕ → Type 0
HoldAt defs depth = (pred : ℕ) (p : PredDef) → pred_at defs pred ≡ Some p → (s : Stack) (h : Heap) (root : Var) (args : List Var) → AtomFits defs (pred_atom pred root args) → IsHeap h →
    meaning_at_depth defs depth pred (s root).number (map (argument_at s) args) h → TrueAt (body_stack p (s root).number (map (argument_at s) args)) p.inv

same_differ : (v : Var) (n : ℕ) → v.number < n → same (address n) v ≡ false
same_differ v n less = same_false (address n) v (λ e. let f : n ≡ v.number = ap (λ (u : Var). u.number) e in absurd (omega arith))

module _ (defs : Defs) (sound : IsSound defs) where
  -- the address of a node is its place
  node_shown : (depth kind : ℕ) (root : Var) (args : List Var) (n : ℕ) (s : Stack) (h : Heap) → AreBelow n (InArguments root args) →
      OfHolds (meaning_at_depth defs depth) (Node kind) (s root).number (map (argument_at s) args) h → IsShown n s h (node_formed root n)
  node_shown depth kind root args n s h low (only, positive) =
      let r = (s root).number in
      let t = with_value (address n) (number_value r) s in
      let is : at_address t n ≡ r = ap (λ (x : Value). x.number) (with_value-same (address n) (number_value r) s) in
      let agree : AgreeBelow n s t = λ v less. sym (with_value-other (address n) (number_value r) s v (same_differ v n less)) in
      let kept : (s root).number ≡ (t root).number = ap (λ (x : Value). x.number) (agree root (low root (or_left (same root root) (is_in root args) (same_itself root)))) in
      let P : Heap → Type 0 = λ g. IsPlace (at_address t n) g in
      let Q : ℤ → Type 0 = λ z. pos 0 <ℤ z in
      record {
        at = t;
        same = agree;
        truth = (true_equal t (address n) root (is ∙ kept), (true_positive t root (subst Q kept positive), tt));
        addresses = record { placed = (inr (subst P (sym only) (inl is)), tt); apart = tt };
      }

  module _ (depth : ℕ) (hold : HoldAt defs depth) where
    module _ (pred : ℕ) (root : Var) (args : List Var) (n : ℕ) (s : Stack) (h : Heap) (fits : AtomFits defs (pred_atom pred root args)) (low : AreBelow n (InArguments root args)) (is_heap : IsHeap h)
        (holds : meaning_at_depth defs depth pred (s root).number (map (argument_at s) args) h) where
      some_inv_shown : (o : Option PredDef) → pred_at defs pred ≡ o → IsShown n s [] (inv_formed o root args n)
      some_inv_shown None e = no_pred defs pred root args fits e
      some_inv_shown (Some p) e = record {
        at = s;
        same = λ v less. refl;
        truth = (
          (instantiated_means_invariant defs p root args n (pred_inv_fits defs sound pred p e) (arguments_fit defs pred p root args n fits low e) s).1
              (hold pred p e s h root args fits is_heap holds),
          tt,
        );
        addresses = no_addresses s [];
      }

      pub inv_shown : IsShown n s [] (inv_of defs pred root args n)
      inv_shown = some_inv_shown (pred_at defs pred) refl

      no_inv_addresses : (o : Option PredDef) → (inv_formed o root args n).addresses ≡ []
      no_inv_addresses None = refl
      no_inv_addresses (Some p) = refl

      pub inv_shown_anywhere : IsShown n s h (inv_of defs pred root args n)
      inv_shown_anywhere =
          let p = inv_shown in
          record { at = p.at; same = p.same; truth = p.truth; addresses = (let P : List ℕ → Type 0 = λ ks. AreAddresses p.at h ks in subst P (sym (no_inv_addresses (pred_at defs pred))) (no_addresses p.at h)) }

    by_inv : (o : Of) (root : Var) (args : List Var) (n : ℕ) (s : Stack) (h : Heap) → AtomFits defs (record { root = root; of = o; args = args }) → AreBelow n (InArguments root args) → IsHeap h →
        OfHolds (meaning_at_depth defs depth) o (s root).number (map (argument_at s) args) h → IsShown n s h (of_formed (inv_of defs) o root args n)
    by_inv (Node kind) root args n s h fits low is_heap holds = node_shown depth kind root args n s h low holds
    by_inv (Pred pred) root args n s h fits low is_heap holds = inv_shown_anywhere pred root args n s h fits low is_heap holds

    pub form_0_shows : FormerShows defs depth (form defs 0)
    form_0_shows a n s h fits low is_heap holds = by_inv a.of a.root a.args n s h fits low is_heap holds

  -- a predicate holds at a depth only where its body does at the depth below
  body_holds : (depth pred : ℕ) (p : PredDef) → pred_at defs pred ≡ Some p → (root : ℤ) (args : List Argument) (h : Heap) → meaning_at_depth defs (suc depth) pred root args h →
      SatisfiesAtDepth defs depth (body_stack p root args) h p.body
  body_holds depth pred p e root args h holds = let P : Option PredDef → Type 0 = λ o. BodyHolds (meaning_at_depth defs depth) o root args h in subst P e holds

  holds_at : (depth : ℕ) (p : PredDef) (h : Heap) {r r' : ℤ} {ns ns' : List Argument} → r ≡ r' → ns ≡ ns' → SatisfiesAtDepth defs depth (body_stack p r ns) h p.body → SatisfiesAtDepth defs depth (body_stack p r' ns') h p.body
  holds_at depth p h {r' = r'} {ns = ns} e f q =
      let P : ℤ → Type 0 = λ z. SatisfiesAtDepth defs depth (body_stack p z ns) h p.body in
      let Q : List Argument → Type 0 = λ zs. SatisfiesAtDepth defs depth (body_stack p r' zs) h p.body in
      subst Q f (subst P e q)

  module _ (hold : (depth : ℕ) → HoldAt defs depth) where
    module _ (former : Former) (fits : FormerFits defs former) (shows : (depth : ℕ) → FormerShows defs depth former) where
      module _ (depth pred : ℕ) (root : Var) (args : List Var) (n : ℕ) (s : Stack) (h : Heap) (atom_fits : AtomFits defs (pred_atom pred root args)) (low : AreBelow n (InArguments root args)) (is_heap : IsHeap h)
          (same_root : ℤ) (same_args : List Argument) (is_root : same_root ≡ (s root).number) (are_args : same_args ≡ map (argument_at s) args)
          (holds : meaning_at_depth defs (suc depth) pred same_root same_args h) where
        some_body_shown : (o : Option PredDef) → pred_at defs pred ≡ o → IsShown n s h (body_formed former (body_or_none body_of_pred o) root args n)
        some_body_shown None e = no_pred defs pred root args atom_fits e
        some_body_shown (Some p) e =
            let at = arguments_fit defs pred p root args n atom_fits low e in
            let b = body_of_pred p in
            let body_fits = pred_body_fits defs sound pred p e in
            let body = holds_at depth p h is_root are_args (body_holds depth pred p e same_root same_args h holds) in
            body_shown defs depth former fits (shows depth) b body_fits root args n at s h is_heap
            ((instantiated_means_body defs b root args n body_fits at depth s h).1 body)

      by_body : (depth : ℕ) (o : Of) (root : Var) (args : List Var) (n : ℕ) (s : Stack) (h : Heap) → AtomFits defs (record { root = root; of = o; args = args }) → AreBelow n (InArguments root args) → IsHeap h →
          OfHolds (meaning_at_depth defs depth) o (s root).number (map (argument_at s) args) h → IsShown n s h (of_formed (inv_and_body_of defs former) o root args n)
      by_body depth (Node kind) root args n s h atom_fits low is_heap holds = node_shown depth kind root args n s h low holds
      by_body zero (Pred pred) root args n s h atom_fits low is_heap holds = absurd holds
      by_body (suc depth) (Pred pred) root args n s h atom_fits low is_heap holds =
          let one = inv_of defs pred root args n in
          let fit = formed_below (InArguments root args) n one low (inv_fits defs sound pred root args n atom_fits low) in
          let q = inv_shown (suc depth) (hold (suc depth)) pred root args n s h atom_fits low is_heap holds in
          let same_value : (s root).number ≡ (q.at root).number = ap (λ (x : Value). x.number) (q.same root (low root (or_left (same root root) (is_in root args) (same_itself root)))) in
          let same_values : map (argument_at s) args ≡ map (argument_at q.at) args = arguments_agree args s q.at (λ v k. q.same v (low v (or_right (same v root) (is_in v args) k))) in
          combined_shown n s one (body_formed former (body_of defs (Pred pred)) root args one.next) (all_right h) is_heap fit q
          (some_body_shown depth pred root args one.next q.at h atom_fits (below_later (InArguments root args) n one.next fit.rises low) is_heap (s root).number (map (argument_at s) args) same_value same_values holds (pred_at defs pred) refl)

    pub form_shows : (level depth : ℕ) → FormerShows defs depth (form defs level)
    form_shows zero depth a n s h fits low is_heap holds = form_0_shows depth (hold depth) a n s h fits low is_heap holds
    form_shows (suc level) depth a n s h fits low is_heap holds =
        by_body (form defs level) (form_fits defs sound level) (form_shows level) depth a.of a.root a.args n s h fits low is_heap holds

-- the heap of one atom alone
one_holds : (defs : Defs) (depth : ℕ) (s : Stack) (h : Heap) (a : Atom) → AtomHolds (meaning_at_depth defs depth) s h a → AtomsHold (meaning_at_depth defs depth) s h (a ∷ [])
one_holds defs depth s h a p = (h, [], all_left h, p, refl)

holds_one : (defs : Defs) (depth : ℕ) (s : Stack) (h : Heap) (a : Atom) → AtomsHold (meaning_at_depth defs depth) s h (a ∷ []) → AtomHolds (meaning_at_depth defs depth) s h a
holds_one defs depth s h a (h1, h2, parts, p, none) =
    let q : Parts h h1 [] = subst (λ g. Parts h h1 g) none parts in
    let e : h ≡ h1 = only_right (swap_parts q) in
    subst (λ g. AtomHolds (meaning_at_depth defs depth) s g a) (sym e) p

hold_at : (defs : Defs) → InvariantsHold defs → (depth : ℕ) → HoldAt defs depth
hold_at defs hold depth pred p e s h root args fits is_heap holds =
    hold pred p e s h root args fits is_heap (depth, one_holds defs depth s h (pred_atom pred root args) holds)

pub approximation_is_true : ApproximationIsTrue
approximation_is_true defs sound hold level n s h atoms fit is_heap (depth, holds) =
    let former = form defs level in
    let all = atoms_formed former atoms n in
    let p = atoms_shown defs depth former (form_fits defs sound level) (form_shows defs sound (hold_at defs hold) level depth) atoms n s h fit.each fit.below is_heap holds in
    let truth = all_true-append p.at all.pure (all_apart all.addresses) p.truth p.addresses.apart in
    (p.at, p.same, truth, conjunction_true p.at (approximation_of defs level atoms n) truth)

-- ---- invariants

or_is : (a b : Bool) → (a || b) ≡ true → (a ≡ true) ⊎ (b ≡ true)
or_is true b e = inl refl
or_is false b e = inr e

listed_from : (m : ℕ) (us : List Var) → AreNumberedFrom m us → (u : Var) → IsTrue (is_in u us) → m ≤ u.number
listed_from m [] f u i = absurd cc
listed_from m (v ∷ us) (e, f) u i = elim (or_is (same u v) (is_in u us) i) [
  | inl is ↦ let g : u.number ≡ v.number = ap (λ (y : Var). y.number) (same_true u v is) in omega arith
  | inr k ↦ let g = listed_from (suc m) us f u k in omega arith
]

-- the parameters are worth their arguments
params_worth : (n : ℕ) (ws vs : List Var) (s z : Stack) → AreNumberedFrom n ws → kinds ws ≡ kinds vs →
    map (argument_at (with_arguments ws (map (argument_at s) vs) z)) ws ≡ map (argument_at s) vs
params_worth n [] [] s z f k = refl
params_worth n [] (v ∷ vs) s z f k = absurd cc
params_worth n (w ∷ ws) [] s z f k = absurd cc
params_worth n (w ∷ ws) (v ∷ vs) s z (e, f) k =
    let t = with_arguments ws (map (argument_at s) vs) z in
    let x = parameter_value (argument_at s v) in
    let kind : w.bag ≡ v.bag = cc in
    let more : kinds ws ≡ kinds vs = cc in
    let first : argument_at (with_value w x t) w ≡ argument_at s v = one w v s t kind in
    let later : map (argument_at (with_value w x t)) ws ≡ map (argument_at t) ws =
    arguments_agree ws (with_value w x t) t (λ u i. with_value-other w x t u (same_false w u (λ d. let g = listed_from (suc n) ws f u i in let g' : w.number ≡ u.number = ap (λ (y : Var). y.number) d in absurd (omega arith)))) in
    let rest = later ∙ params_worth (suc n) ws vs s z f more in
    λ i. first i ∷ rest i
  where
    one : (w v : Var) (s t : Stack) → w.bag ≡ v.bag → argument_at (with_value w (parameter_value (argument_at s v)) t) w ≡ argument_at s v
    one w v s t kind =
        let x = parameter_value (argument_at s v) in
        ap (λ (y : Value). if w.bag then Argument.Elements y.bag else Argument.Number y.number) (with_value-same w x t) ∙ own v.bag kind refl
      where
        own : (b : Bool) → w.bag ≡ b → v.bag ≡ b → (if w.bag then Argument.Elements (parameter_value (argument_at s v)).bag else Argument.Number (parameter_value (argument_at s v)).number) ≡ argument_at s v
        own true e f = rw (e, f) refl
        own false e f = rw (e, f) refl

module _ (defs : Defs) (sound : IsSound defs) (follows : All (InvariantFollows defs) defs.preds) where
  -- by induction on depth
  hold_deep : (depth : ℕ) → HoldAt defs depth
  hold_deep zero pred p e s h root args fits is_heap holds = absurd holds
  hold_deep (suc depth) pred p e s h root args fits is_heap holds =
      let whole = pred_in (PredIsSound defs) defs pred p sound.preds e in
      let root_value = (s root).number in
      let values = map (argument_at s) args in
      let zeros : Stack = λ v. number_value (pos 0) in
      let t = body_stack p root_value values in
      let n = p.next in
      let b = body_of_pred p in
      let low : AreBelow n (InArguments self_var p.params) = λ v i. (listed_forth (IsNumbered n) (self_var ∷ p.params) whole.head.numbers v i).1 in
      let at : ArgumentsFit p.params self_var p.params n = record { number_root = refl; arity = refl; below = low } in
      let is_root : root_value ≡ (t self_var).number = sym (ap (λ (x : Value). x.number) (with_value-same self_var (number_value root_value) (with_arguments p.params values zeros))) in
      let are_args : values ≡ map (argument_at t) p.params = sym (
      arguments_agree p.params t (with_arguments p.params values zeros) (λ u i. with_value-other self_var (number_value root_value) (with_arguments p.params values zeros) u
      (same_false self_var u (λ d. let g = listed_from 2 p.params whole.head.params_follow u i in let g' : 1 ≡ u.number = ap (λ (y : Var). y.number) d in absurd (omega arith))))
      ∙ params_worth 2 p.params args s zeros whole.head.params_follow (pred_kinds defs pred p root args fits e)) in
      let body_fits = pred_body_fits defs sound pred p e in
      let body = holds_at defs sound depth p h is_root are_args (body_holds defs sound depth pred p e root_value values h holds) in
      let q = body_shown defs depth (form defs 0) (form_fits defs sound 0) (form_0_shows defs sound depth (hold_deep depth)) b body_fits self_var p.params n at t h is_heap
      ((instantiated_means_body defs b self_var p.params n body_fits at depth t h).1 body) in
      (truth-agree p.inv q.at t (λ v f. sym (q.same v (whole.invariant.numbers v (free-occurs_of p.inv v f)).1))).0
      (pred_in (InvariantFollows defs) defs pred p follows e q.at q.truth.0)

pub invariants_are_shown : InvariantsAreShown
invariants_are_shown defs sound follows pred p e s h root args fits is_heap (depth, holds) =
    hold_deep defs sound follows depth pred p e s h root args fits is_heap (holds_one defs depth s h (pred_atom pred root args) holds)

-- ---- numbers

pub new_numbers_are_in_range : NewNumbersAreInRange
new_numbers_are_in_range defs sound level n atoms fit =
    let all = atoms_formed (form defs level) atoms n in
    let fits = atoms_fit defs (form defs level) (form_fits defs sound level) atoms n fit.each fit.below in
    let R = IsOldOrNew (InAtoms atoms) n all.next in (
      fits.rises,
      All-from_recursion (Uses R) (approximation_of defs level atoms n) (all_use-append R all.pure (all_apart all.addresses) fits.pure
          (uses_all_apart R all.addresses (addresses_in (InAtoms atoms) n all.next all.addresses fits.addresses))),
    )
