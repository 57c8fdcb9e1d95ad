-- The approximation of atoms is true wherever they hold.
use Rattle.std.proofs.Common.{◌≡◌, ◌⊎◌, inl, inr, ℕ, ◌<◌, ◌≤◌, ℤ, pos, List, [], ◌∷◌, ◌++◌, refl, sym, ap, ◌∙◌, arith, subst}
use Rattle.std.specs.List.{list_any, All, Any, AllByRecursion}
use Rattle.std.proofs.lemmas.List.Elements.{All-head, All-tail, All-from_recursion}
use Rattle.hs_pure.specs.declared.var.Var.{Var}
use Rattle.hs_pure.specs.declared.pure.Pure.{Pure}
use Rattle.hs_pure.specs.Stack.{Stack, Value}
use Rattle.hs_pure.specs.Truth.{TrueAt}
use Rattle.hs_pure.specs.Occurs.{occurs}
use Rattle.hs_pure.proofs.Vars.{or_left, or_right}
use Rattle.hs_pure.proofs.Truths.{true-And, true-Or, Any-first, Any-later, Any-cases, Any-nil}
use Rattle.hs_pure.proofs.Agree.{truth-agree}
use Rattle.hs_pure.proofs.Renamed.{free-occurs_of}
use Rattle.hs_heap.specs.declared.formula.Atom.{Atom}
use Rattle.hs_heap.specs.declared.formula.Disjunct.{Disjunct}
use Rattle.hs_heap.specs.declared.definitions.Defs.{Defs}
use Rattle.hs_heap.specs.Heap.{Heap, Parts, IsHeap}
use Rattle.hs_heap.specs.Meaning.{is_in, AllTrueAt, AtomHolds, AtomsHold, SomeHolds, SatisfiesAtDepth, meaning_at_depth}
use Rattle.hs_heap.specs.Variables.{in_atom, occurs_in_disjunct}
use Rattle.hs_heap.specs.Sound.{AtomFits}
use Rattle.hs_heap.specs.Instance.{Body, BodyFits, ArgumentsFit, instantiated, next_after}
use Rattle.hs_heap.proofs.Splits.{all_left, all_right, IsHeap-left, IsHeap-right}
use Rattle.hs_heap.proofs.Booleans.{bool_cases}
use Rattle.hs_heap.proofs.Satisfied.{atoms_are_of_variables}
use Rattle.hs_xpure.specs.declared.formed.Formed.{Formed}
use Rattle.hs_xpure.specs.Approximation.{Former, combined, conjunction, disjunction, address, all_apart, atoms_formed, case_formed, cases_formed, body_cases, body_formed}
use Rattle.hs_xpure.proofs.Used.{AllUse, AddressesIn, all_use_weaker, uses_all_apart}
use Rattle.hs_xpure.proofs.Bodies.{CasesAtomsFit, CasesBindFrom, body_atoms_fit, body_binds}
use Rattle.hs_xpure.proofs.Numbers.{IsOldOrNew, Within, FormedFits, FormerFits, AreBelow, InAtom, InAtoms, InPures, InCase, InCases, below_later, atoms_in_case, pures_in_case, case_fits, cases_fit, body_below}
use Rattle.hs_xpure.proofs.Places.{AreAddresses, no_addresses, both_addresses, null_addresses, at_address, AllNull, cut, cut_below, cut_null, all_true-append, IsPlace, Placed}

-- the stacks agree on numbers below n
abbrev pub AgreeBelow : ℕ → Stack → Stack → Type 0
AgreeBelow n s t = (v : Var) → v.number < n → s v ≡ t v

pub below_trans : (n m : ℕ) (s t u : Stack) → n ≤ m → AgreeBelow n s t → AgreeBelow m t u → AgreeBelow n s u
below_trans n m s t u le f g v less = f v less ∙ g v (omega arith)

-- a number below n
abbrev pub IsBelow : ℕ → Var → Type 0
IsBelow n v = v.number < n

-- what is formed has numbers below the next one, and its addresses are new
pub record FormedBelow (n : ℕ) (f : Formed) : Type 0 where
  pub rises : n ≤ f.next
  pub pure : AllUse (IsBelow f.next) f.pure
  pub addresses : Within n f.next f.addresses

pub formed_below : (old : Var → Type 0) (n : ℕ) (f : Formed) → AreBelow n old → FormedFits old n f → FormedBelow n f
formed_below old n f low fits = record {
  rises = fits.rises;
  pure = all_use_weaker (IsOldOrNew old n f.next) (IsBelow f.next) (λ v e. elim e [ inl o ↦ let d = low v o in let r = fits.rises in omega arith | inr k ↦ k.1 ]) f.pure fits.pure;
  addresses = fits.addresses;
}

all_true_below : (n : ℕ) (s t : Stack) (ps : List Pure) → AllUse (IsBelow n) ps → AgreeBelow n s t → AllTrueAt s ps → AllTrueAt t ps
all_true_below n s t [] fits same e = tt
all_true_below n s t (p ∷ ps) (f, fs) same (d, e) =
    ((truth-agree p s t (λ v h. same v (f v (free-occurs_of p v h)))).0 d, all_true_below n s t ps fs same e)

addresses_use : (low n : ℕ) (ks : List ℕ) → Within low n ks → AddressesIn (IsBelow n) ks
addresses_use low n [] w = tt
addresses_use low n (k ∷ ks) (d, e, w) = (e, addresses_use low n ks w)

-- addresses keep their values
number_at : (n k : ℕ) (s t : Stack) → k < n → AgreeBelow n s t → at_address s k ≡ at_address t k
number_at n k s t less same = ap (λ (x : Value). x.number) (same (address k) less)

placed_below : (low n : ℕ) (s t : Stack) (h : Heap) (ks : List ℕ) → Within low n ks → AgreeBelow n s t → Placed s h ks → Placed t h ks
placed_below low n s t h [] w same p = tt
placed_below low n s t h (k ∷ ks) (d, e, w) same (p, q) =
    let P : ℤ → Type 0 = λ z. (z ≡ pos 0) ⊎ IsPlace z h in
    (subst P (number_at n k s t e same) p, placed_below low n s t h ks w same q)

addresses_below : (low n : ℕ) (s t : Stack) (h : Heap) (ks : List ℕ) → Within low n ks → AgreeBelow n s t → AreAddresses s h ks → AreAddresses t h ks
addresses_below low n s t h ks w same p = record {
  placed = placed_below low n s t h ks w same p.placed;
  apart = all_true_below n s t (all_apart ks) (uses_all_apart (IsBelow n) ks (addresses_use low n ks w)) same p.apart;
}

null_below : (low n : ℕ) (s t : Stack) (ks : List ℕ) → Within low n ks → AgreeBelow n s t → AllNull s ks → AllNull t ks
null_below low n s t [] w same z = tt
null_below low n s t (k ∷ ks) (d, e, w) same (f, z) = (sym (number_at n k s t e same) ∙ f, null_below low n s t ks w same z)

-- at some stack with the same values below n the formulas are true, and the addresses are those of h
pub record Shown (n : ℕ) (s : Stack) (h : Heap) (ks : List ℕ) (holds : Stack → Type 0) : Type 0 where
  pub at : Stack
  pub same : AgreeBelow n s at
  pub truth : holds at
  pub addresses : AreAddresses at h ks

abbrev pub IsShown : ℕ → Stack → Heap → Formed → Type 0
IsShown n s h f = Shown n s h f.addresses (λ t. AllTrueAt t f.pure)

pub combined_shown : (n : ℕ) (s : Stack) {h a b : Heap} (one more : Formed) → Parts h a b → IsHeap h → FormedBelow n one →
    (p : IsShown n s a one) → IsShown one.next p.at b more → IsShown n s h (combined one more)
combined_shown n s {a = a} one more parts is_heap fits p q = record {
  at = q.at;
  same = below_trans n one.next s p.at q.at fits.rises p.same q.same;
  truth = all_true-append q.at one.pure more.pure (all_true_below one.next p.at q.at one.pure fits.pure q.same p.truth) q.truth;
  addresses = both_addresses parts is_heap q.at one.addresses more.addresses (addresses_below n one.next p.at q.at a one.addresses fits.addresses q.same p.addresses) q.addresses;
}

pub conjunction_true : (s : Stack) (ps : List Pure) → AllTrueAt s ps → TrueAt s (conjunction ps)
conjunction_true s ps e = go ps e
  where
    each : (ps : List Pure) → AllTrueAt s ps → All (TrueAt s) ps
    each ps e = All-from_recursion (TrueAt s) ps (by ps e)
      where
        by : (ps : List Pure) → AllTrueAt s ps → AllByRecursion (TrueAt s) ps
        by [] e = tt
        by (p ∷ ps) (d, e) = (d, by ps e)

    go : (ps : List Pure) → AllTrueAt s ps → TrueAt s (conjunction ps)
    go [] e = (true-And s []).1 (each [] e)
    go (p ∷ []) e = e.0
    go (p ∷ q ∷ ps) e = (true-And s (p ∷ q ∷ ps)).1 (each (p ∷ q ∷ ps) e)

disjunction_true : (s : Stack) (ps : List Pure) → Any (TrueAt s) ps → TrueAt s (disjunction ps)
disjunction_true s [] e = (true-Or s []).1 e
disjunction_true s (p ∷ []) e = single e
  where
    single : Any (TrueAt s) (p ∷ []) → TrueAt s p
    single e = elim (Any-cases (TrueAt s) p [] e) [ inl d ↦ d | inr d ↦ absurd (Any-nil (TrueAt s) d) ]
disjunction_true s (p ∷ q ∷ ps) e = (true-Or s (p ∷ q ∷ ps)).1 e

-- one of the cases is true at s itself
abbrev pub SomeOpen : Defs → ℕ → Stack → Heap → List Disjunct → Type 0
SomeOpen defs depth s h [] = ⊥
SomeOpen defs depth s h (d ∷ ds) = (AllTrueAt s d.pure × AtomsHold (meaning_at_depth defs depth) s h d.atoms) ⊎ SomeOpen defs depth s h ds

own_below : (n : ℕ) (ps : List Pure) → AreBelow n (InPures ps) → AllUse (IsBelow n) ps
own_below n [] low = tt
own_below n (p ∷ ps) low = (λ v k. low v (or_left (occurs v p) (list_any (occurs v) ps) k), own_below n ps (λ v k. low v (or_right (occurs v p) (list_any (occurs v) ps) k)))

module _ (defs : Defs) (depth : ℕ) where
  atoms_hold_below : (n : ℕ) (s t : Stack) (h : Heap) (atoms : List Atom) → AreBelow n (InAtoms atoms) → AgreeBelow n s t →
      AtomsHold (meaning_at_depth defs depth) s h atoms → AtomsHold (meaning_at_depth defs depth) t h atoms
  atoms_hold_below n s t h atoms low same p = (atoms_are_of_variables defs depth atoms s t h (λ v e. same v (low v e))).0 p

  case_below : (n : ℕ) (d : Disjunct) → AreBelow n (InCase d) → AllUse (IsBelow n) d.pure
  case_below n d low = own_below n d.pure (λ v k. low v (pures_in_case d v k))

  open_below : (n : ℕ) (s t : Stack) (h : Heap) (ds : List Disjunct) → AreBelow n (InCases ds) → AgreeBelow n s t → SomeOpen defs depth s h ds → SomeOpen defs depth t h ds
  open_below n s t h [] low same p = p
  open_below n s t h (d ∷ ds) low same (inl (pure, atoms)) =
      let here : AreBelow n (InCase d) = λ v k. low v (or_left (occurs_in_disjunct v d) (list_any (occurs_in_disjunct v) ds) k) in
      inl (all_true_below n s t d.pure (case_below n d here) same pure, atoms_hold_below n s t h d.atoms (λ v k. here v (atoms_in_case d v k)) same atoms)
  open_below n s t h (d ∷ ds) low same (inr p) = inr (open_below n s t h ds (λ v k. low v (or_right (occurs_in_disjunct v d) (list_any (occurs_in_disjunct v) ds) k)) same p)

  -- the bound variables of a case get values, which are new
  opened : (low : ℕ) (s : Stack) (h : Heap) (ds : List Disjunct) → CasesBindFrom low ds → SomeHolds (meaning_at_depth defs depth) s h ds →
      (t : Stack) × AgreeBelow low s t × SomeOpen defs depth t h ds
  opened low s h [] fits p = absurd p
  opened low s h (d ∷ ds) (f, fits) (inl p) = (
    p.at,
    λ v less. sym (p.same.same v (elim (bool_cases (is_in v d.bound)) [
      | inl is ↦ let le = f v is in absurd (omega arith)
      | inr isnt ↦ isnt
    ])),
    inl (p.pure, p.atoms),
  )
  opened low s h (d ∷ ds) (f, fits) (inr p) = let (t, same, o) = opened low s h ds fits p in (t, same, inr o)

  -- where an atom holds, it is shown
  abbrev pub FormerShows : Former → Type 0
  FormerShows former = (a : Atom) (n : ℕ) (s : Stack) (h : Heap) → AtomFits defs a → AreBelow n (InAtom a) → IsHeap h → AtomHolds (meaning_at_depth defs depth) s h a → IsShown n s h (former a n)

  module _ (former : Former) (fits : FormerFits defs former) (shows : FormerShows former) where
    pub atoms_shown : (atoms : List Atom) (n : ℕ) (s : Stack) (h : Heap) → All (AtomFits defs) atoms → AreBelow n (InAtoms atoms) → IsHeap h →
        AtomsHold (meaning_at_depth defs depth) s h atoms → IsShown n s h (atoms_formed former atoms n)
    atoms_shown [] n s h f low is_heap p = record { at = s; same = λ v less. refl; truth = tt; addresses = no_addresses s h }
    atoms_shown (a ∷ rest) n s h f low is_heap (h1, h2, parts, one, more) =
        let here : AreBelow n (InAtom a) = λ v k. low v (or_left (in_atom v a) (list_any (in_atom v) rest) k) in
        let later : AreBelow n (InAtoms rest) = λ v k. low v (or_right (in_atom v a) (list_any (in_atom v) rest) k) in
        let first = former a n in
        let fit = fits a n (All-head (AtomFits defs) a rest f) here in
        let p = shows a n s h1 (All-head (AtomFits defs) a rest f) here (IsHeap-left parts is_heap) one in
        let q = atoms_shown rest first.next p.at h2 (All-tail (AtomFits defs) a rest f) (below_later (InAtoms rest) n first.next fit.rises later) (IsHeap-right parts is_heap) (atoms_hold_below n s p.at h2 rest later p.same more) in
        combined_shown n s first (atoms_formed former rest first.next) parts is_heap (formed_below (InAtom a) n first here fit) p q

    case_shown : (d : Disjunct) (n : ℕ) (s : Stack) (h : Heap) → All (AtomFits defs) d.atoms → AreBelow n (InCase d) → IsHeap h → AllTrueAt s d.pure →
        AtomsHold (meaning_at_depth defs depth) s h d.atoms → IsShown n s h (case_formed former d n)
    case_shown d n s h f low is_heap pure atoms =
        let all = atoms_formed former d.atoms n in
        let p = atoms_shown d.atoms n s h f (λ v k. low v (atoms_in_case d v k)) is_heap atoms in
        record {
          at = p.at;
          same = p.same;
          truth = (
            conjunction_true p.at (all.pure ++ d.pure ++ all_apart all.addresses)
                (all_true-append p.at (all.pure ++ d.pure) (all_apart all.addresses)
                (all_true-append p.at all.pure d.pure p.truth (all_true_below n s p.at d.pure (case_below n d low) p.same pure)) p.addresses.apart),
            tt,
          );
          addresses = p.addresses;
        }

    any_append : (s : Stack) (ps qs : List Pure) → Any (TrueAt s) qs → Any (TrueAt s) (ps ++ qs)
    any_append s [] qs e = e
    any_append s (p ∷ ps) qs e = Any-later (TrueAt s) p (ps ++ qs) (any_append s ps qs e)

    -- the addresses of the other cases are null
    cases_shown : (ds : List Disjunct) (n : ℕ) (s : Stack) (h : Heap) → CasesAtomsFit defs ds → AreBelow n (InCases ds) → IsHeap h → SomeOpen defs depth s h ds →
        Shown n s h (cases_formed former ds n).addresses (λ t. Any (TrueAt t) (cases_formed former ds n).pure)
    cases_shown [] n s h f low is_heap p = absurd p
    cases_shown (d ∷ ds) n s h (f, fs) low is_heap (inl (pure, atoms)) =
        let here : AreBelow n (InCase d) = λ v k. low v (or_left (occurs_in_disjunct v d) (list_any (occurs_in_disjunct v) ds) k) in
        let later : AreBelow n (InCases ds) = λ v k. low v (or_right (occurs_in_disjunct v d) (list_any (occurs_in_disjunct v) ds) k) in
        let one = case_formed former d n in
        let fit = formed_below (InCase d) n one here (case_fits defs former fits d n f here) in
        let p = case_shown d n s h f here is_heap pure atoms in
        let more = cases_formed former ds one.next in
        let more_fit = cases_fit defs former fits ds one.next fs (below_later (InCases ds) n one.next fit.rises later) in
        let t = cut one.next p.at in
        let same = cut_below one.next p.at in
        record {
          at = t;
          same = below_trans n one.next s p.at t fit.rises p.same same;
          truth = Any-first (TrueAt t) _ more.pure (all_true_below one.next p.at t one.pure fit.pure same p.truth).0;
          addresses = both_addresses (all_left h) is_heap t one.addresses more.addresses
              (addresses_below n one.next p.at t h one.addresses fit.addresses same p.addresses)
              (null_addresses t [] more.addresses (cut_null one.next more.next p.at more.addresses more_fit.addresses));
        }
    cases_shown (d ∷ ds) n s h (f, fs) low is_heap (inr p) =
        let here : AreBelow n (InCase d) = λ v k. low v (or_left (occurs_in_disjunct v d) (list_any (occurs_in_disjunct v) ds) k) in
        let later : AreBelow n (InCases ds) = λ v k. low v (or_right (occurs_in_disjunct v d) (list_any (occurs_in_disjunct v) ds) k) in
        let one = case_formed former d n in
        let fit = formed_below (InCase d) n one here (case_fits defs former fits d n f here) in
        let more = cases_formed former ds one.next in
        let s' = cut n s in
        let q = cases_shown ds one.next s' h fs (below_later (InCases ds) n one.next fit.rises later) is_heap (open_below n s s' h ds later (cut_below n s) p) in
        record {
          at = q.at;
          same = below_trans n one.next s s' q.at fit.rises (cut_below n s) q.same;
          truth = any_append q.at one.pure more.pure q.truth;
          addresses = both_addresses (all_right h) is_heap q.at one.addresses more.addresses
              (null_addresses q.at [] one.addresses (null_below n one.next s' q.at one.addresses fit.addresses q.same (cut_null n one.next s one.addresses fit.addresses)))
              q.addresses;
        }

    pub body_shown : (b : Body) (body_fits : BodyFits defs b) (root : Var) (args : List Var) (n : ℕ) (at : ArgumentsFit b.params root args n) (s : Stack) (h : Heap) → IsHeap h →
        SatisfiesAtDepth defs depth s h (instantiated b root args n) → IsShown n s h (body_formed former b root args n)
    body_shown b body_fits root args n at s h is_heap holds =
        let m = next_after b n in
        let ds = (instantiated b root args n).cases in
        let (t, same, o) = opened n s h ds (body_binds defs b body_fits root args n at) holds in
        let o' : SomeOpen defs depth t h ds = o in
        let q = cases_shown ds m t h (body_atoms_fit defs b body_fits root args n at) (body_below defs former fits b body_fits root args n at) is_heap o' in
        record {
          at = q.at;
          same = below_trans n m s t q.at (omega arith) same q.same;
          truth = (disjunction_true q.at (body_cases former b root args n).pure q.truth, tt);
          addresses = q.addresses;
        }
