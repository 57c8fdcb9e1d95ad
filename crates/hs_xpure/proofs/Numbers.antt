-- The numbers that an approximation takes.
use Rattle.std.proofs.Common.{◌≡◌, ℕ, zero, suc, ◌<◌, ◌≤◌, ◌||◌, IsTrue, ◌⊎◌, inl, inr, List, [], ◌∷◌, ◌++◌, Option, Some, None, arith, refl}
use Rattle.std.specs.List.{list_any, All}
use Rattle.std.proofs.lemmas.List.Elements.{All-head, All-tail}
use Rattle.hs_pure.specs.declared.var.Var.{Var}
use Rattle.hs_pure.specs.declared.pure.Pure.{Pure}
use Rattle.hs_pure.specs.Stack.{same}
use Rattle.hs_pure.specs.Occurs.{occurs}
use Rattle.hs_pure.proofs.Vars.{or_left, or_right}
use Rattle.hs_heap.specs.declared.formula.Of.{Of}
use Rattle.hs_heap.specs.declared.formula.Of.TheVariants.{Node, Pred}
use Rattle.hs_heap.specs.declared.formula.Atom.{Atom}
use Rattle.hs_heap.specs.declared.formula.Disjunct.{Disjunct}
use Rattle.hs_heap.specs.declared.definitions.PredDef.{PredDef}
use Rattle.hs_heap.specs.declared.definitions.Defs.{Defs}
use Rattle.hs_heap.specs.Meaning.{is_in, pred_at}
use Rattle.hs_heap.specs.Variables.{in_atom, occurs_in_disjunct}
use Rattle.hs_heap.specs.Sound.{AtomFits, IsSound}
use Rattle.hs_heap.proofs.Stacks.{same_itself}
use Rattle.hs_heap.specs.Instance.{Body, BodyFits, ArgumentsFit, body_of, body_of_pred, body_or_none, instantiated, next_after}
use Rattle.hs_xpure.specs.declared.formed.Formed.{Formed}
use Rattle.hs_xpure.specs.Approximation.{Former, unformed, combined, address, all_apart, atoms_formed, case_formed, cases_formed, body_cases, body_formed, node_formed, inv_formed, inv_of, inv_and_body_of, of_formed, form}
use Rattle.hs_xpure.specs.Laws.{IsBetween}
use Rattle.hs_xpure.specs.Invariants.{pred_atom}
use Rattle.hs_xpure.proofs.Used.{AllUse, AddressesIn, all_use_weaker, all_use-append, uses_conjunction, uses_disjunction, uses_all_apart, uses_equal, uses_positive}
use Rattle.hs_xpure.proofs.Bodies.{CasesAtomsFit, no_pred, arguments_fit, pred_body_fits, pred_inv_fits, inv_uses, body_uses, body_atoms_fit}

-- of what was there, or new
abbrev pub IsOldOrNew : (Var → Type 0) → ℕ → ℕ → Var → Type 0
IsOldOrNew old n m v = old v ⊎ IsBetween n m v

-- the numbers lie from low to below high
abbrev pub Within : ℕ → ℕ → List ℕ → Type 0
Within low high [] = Unit {0}
Within low high (k ∷ ks) = (low ≤ k) × (k < high) × Within low high ks

-- what is formed from n on is of what was there or new, and its addresses are new
pub record FormedFits (old : Var → Type 0) (n : ℕ) (f : Formed) : Type 0 where
  pub rises : n ≤ f.next
  pub pure : AllUse (IsOldOrNew old n f.next) f.pure
  pub addresses : Within n f.next f.addresses

within_wider : (low mid high top : ℕ) (ks : List ℕ) → low ≤ mid → high ≤ top → Within mid high ks → Within low top ks
within_wider low mid high top [] le ge w = tt
within_wider low mid high top (k ∷ ks) le ge (d, e, w) = (omega arith, omega arith, within_wider low mid high top ks le ge w)

within_append : (low high : ℕ) (ks ls : List ℕ) → Within low high ks → Within low high ls → Within low high (ks ++ ls)
within_append low high [] ls w u = u
within_append low high (k ∷ ks) ls (d, e, w) u = (d, e, within_append low high ks ls w u)

pub addresses_in : (old : Var → Type 0) (n m : ℕ) (ks : List ℕ) → Within n m ks → AddressesIn (IsOldOrNew old n m) ks
addresses_in old n m [] w = tt
addresses_in old n m (k ∷ ks) (d, e, w) = (inr (d, e), addresses_in old n m ks w)

unformed_fits : (old : Var → Type 0) (n : ℕ) → FormedFits old n (unformed n)
unformed_fits old n = record { rises = omega arith; pure = tt; addresses = tt }

-- what was there, and what was new before m, is of what was there or new
shifted : (old old' : Var → Type 0) (n m : ℕ) (f : Formed) → n ≤ m → ((v : Var) → old' v → IsOldOrNew old n m v) → FormedFits old' m f → FormedFits old n f
shifted old old' n m f le inside fits = record {
  rises = let d = fits.rises in omega arith;
  pure = all_use_weaker (IsOldOrNew old' m f.next) (IsOldOrNew old n f.next) (λ v e. let d = fits.rises in elim e [
    | inl o ↦ elim (inside v o) [ inl k ↦ inl k | inr k ↦ let (low, high) = k in inr (low, omega arith) ]
    | inr k ↦ let (low, high) = k in inr (omega arith, high)
  ]) f.pure fits.pure;
  addresses = within_wider n m f.next f.next f.addresses le (omega arith) fits.addresses;
}

combined_fits : (old : Var → Type 0) (n : ℕ) (one more : Formed) → FormedFits old n one → FormedFits old one.next more → FormedFits old n (combined one more)
combined_fits old n one more f g =
    let later = shifted old old n one.next more f.rises (λ v o. inl o) g in
    record {
      rises = later.rises;
      pure = (
          all_use-append (IsOldOrNew old n more.next) one.pure more.pure
          (all_use_weaker (IsOldOrNew old n one.next) (IsOldOrNew old n more.next) (λ v e. let d = g.rises in elim e [ inl o ↦ inl o | inr k ↦ let (low, high) = k in inr (low, omega arith) ]) one.pure f.pure)
          later.pure
          );
      addresses = within_append n more.next one.addresses more.addresses (within_wider n n one.next more.next one.addresses (omega arith) g.rises f.addresses) later.addresses;
    }

-- what is of fewer
wider : (old old' : Var → Type 0) (n : ℕ) (f : Formed) → ((v : Var) → old' v → old v) → FormedFits old' n f → FormedFits old n f
wider old old' n f inside fits = shifted old old' n n f (omega arith) (λ v o. inl (inside v o)) fits

abbrev pub InAtom : Atom → Var → Type 0
InAtom a v = IsTrue (in_atom v a)

abbrev pub InArguments : Var → List Var → Var → Type 0
InArguments root args v = IsTrue (is_in v (root ∷ args))

abbrev pub InAtoms : List Atom → Var → Type 0
InAtoms atoms v = IsTrue (list_any (in_atom v) atoms)

abbrev pub InPures : List Pure → Var → Type 0
InPures ps v = IsTrue (list_any (occurs v) ps)

abbrev pub InCase : Disjunct → Var → Type 0
InCase d v = IsTrue (occurs_in_disjunct v d)

abbrev pub InCases : List Disjunct → Var → Type 0
InCases ds v = IsTrue (list_any (occurs_in_disjunct v) ds)

-- what is there has numbers below n
abbrev pub AreBelow : ℕ → (Var → Type 0) → Type 0
AreBelow n old = (v : Var) → old v → v.number < n

-- each fitting atom has its numbers
abbrev pub FormerFits : Defs → Former → Type 0
FormerFits defs former = (a : Atom) (n : ℕ) → AtomFits defs a → AreBelow n (InAtom a) → FormedFits (InAtom a) n (former a n)

own_uses : (ps : List Pure) → AllUse (InPures ps) ps
own_uses [] = tt
own_uses (p ∷ ps) = (
  λ v k. or_left (occurs v p) (list_any (occurs v) ps) k,
  all_use_weaker (InPures ps) (InPures (p ∷ ps)) (λ v k. or_right (occurs v p) (list_any (occurs v) ps) k) ps (own_uses ps),
)

pub below_later : (old : Var → Type 0) (n m : ℕ) → n ≤ m → AreBelow n old → AreBelow m old
below_later old n m le f v k = let d = f v k in omega arith

pub atoms_in_case : (d : Disjunct) (v : Var) → InAtoms d.atoms v → InCase d v
atoms_in_case d v k = or_right (is_in v d.bound) (list_any (in_atom v) d.atoms || list_any (occurs v) d.pure) (or_left (list_any (in_atom v) d.atoms) (list_any (occurs v) d.pure) k)

pub pures_in_case : (d : Disjunct) (v : Var) → InPures d.pure v → InCase d v
pures_in_case d v k = or_right (is_in v d.bound) (list_any (in_atom v) d.atoms || list_any (occurs v) d.pure) (or_right (list_any (in_atom v) d.atoms) (list_any (occurs v) d.pure) k)

module _ (defs : Defs) (former : Former) (fits : FormerFits defs former) where
  pub atoms_fit : (atoms : List Atom) (n : ℕ) → All (AtomFits defs) atoms → AreBelow n (InAtoms atoms) → FormedFits (InAtoms atoms) n (atoms_formed former atoms n)
  atoms_fit [] n f low = unformed_fits (InAtoms []) n
  atoms_fit (a ∷ rest) n f low =
      let here : (v : Var) → InAtom a v → InAtoms (a ∷ rest) v = λ v k. or_left (in_atom v a) (list_any (in_atom v) rest) k in
      let later : (v : Var) → InAtoms rest v → InAtoms (a ∷ rest) v = λ v k. or_right (in_atom v a) (list_any (in_atom v) rest) k in
      let one = fits a n (All-head (AtomFits defs) a rest f) (λ v k. low v (here v k)) in
      let more = atoms_fit rest (former a n).next (All-tail (AtomFits defs) a rest f) (below_later (InAtoms rest) n (former a n).next one.rises (λ v k. low v (later v k))) in
      combined_fits (InAtoms (a ∷ rest)) n (former a n) (atoms_formed former rest (former a n).next)
      (wider (InAtoms (a ∷ rest)) (InAtom a) n (former a n) here one)
      (wider (InAtoms (a ∷ rest)) (InAtoms rest) (former a n).next (atoms_formed former rest (former a n).next) later more)

  pub case_fits : (d : Disjunct) (n : ℕ) → All (AtomFits defs) d.atoms → AreBelow n (InCase d) → FormedFits (InCase d) n (case_formed former d n)
  case_fits d n f low =
      let atoms = atoms_formed former d.atoms n in
      let R = IsOldOrNew (InCase d) n atoms.next in
      let all = wider (InCase d) (InAtoms d.atoms) n atoms (atoms_in_case d) (atoms_fit d.atoms n f (λ v k. low v (atoms_in_case d v k))) in
      let own = all_use_weaker (InPures d.pure) R (λ v k. inl (pures_in_case d v k)) d.pure (own_uses d.pure) in
      record {
        rises = all.rises;
        pure = (
          uses_conjunction R (atoms.pure ++ d.pure ++ all_apart atoms.addresses)
              (all_use-append R (atoms.pure ++ d.pure) (all_apart atoms.addresses) (all_use-append R atoms.pure d.pure all.pure own)
              (uses_all_apart R atoms.addresses (addresses_in (InCase d) n atoms.next atoms.addresses all.addresses))),
          tt,
        );
        addresses = all.addresses;
      }

  pub cases_fit : (ds : List Disjunct) (n : ℕ) → CasesAtomsFit defs ds → AreBelow n (InCases ds) → FormedFits (InCases ds) n (cases_formed former ds n)
  cases_fit [] n f low = unformed_fits (InCases []) n
  cases_fit (d ∷ ds) n (f, fs) low =
      let one = case_formed former d n in
      let here : (v : Var) → InCase d v → InCases (d ∷ ds) v = λ v k. or_left (occurs_in_disjunct v d) (list_any (occurs_in_disjunct v) ds) k in
      let later : (v : Var) → InCases ds v → InCases (d ∷ ds) v = λ v k. or_right (occurs_in_disjunct v d) (list_any (occurs_in_disjunct v) ds) k in
      let first = case_fits d n f (λ v k. low v (here v k)) in
      combined_fits (InCases (d ∷ ds)) n one (cases_formed former ds one.next)
      (wider (InCases (d ∷ ds)) (InCase d) n one here first)
      (wider (InCases (d ∷ ds)) (InCases ds) one.next (cases_formed former ds one.next) later
      (cases_fit ds one.next fs (below_later (InCases ds) n one.next first.rises (λ v k. low v (later v k)))))

  module _ (b : Body) (body_fits : BodyFits defs b) (root : Var) (args : List Var) (n : ℕ) (at : ArgumentsFit b.params root args n) where
    pub body_below : AreBelow (next_after b n) (InCases (instantiated b root args n).cases)
    body_below v k = elim (body_uses defs b body_fits root args n at v k) [ inl i ↦ let d = at.below v i in omega arith | inr i ↦ i.1 ]

    pub body_cases_fit : FormedFits (InArguments root args) n (body_cases former b root args n)
    body_cases_fit =
        let m = next_after b n in
        shifted (InArguments root args) (InCases (instantiated b root args n).cases) n m (body_cases former b root args n) (omega arith)
        (body_uses defs b body_fits root args n at)
        (cases_fit (instantiated b root args n).cases m (body_atoms_fit defs b body_fits root args n at) body_below)

    pub body_formed_fits : FormedFits (InArguments root args) n (body_formed former b root args n)
    body_formed_fits =
        let cases = body_cases_fit in
        let formed = body_cases former b root args n in
        record {
          rises = cases.rises;
          pure = (uses_disjunction (IsOldOrNew (InArguments root args) n formed.next) formed.pure cases.pure, tt);
          addresses = cases.addresses;
        }

module _ (defs : Defs) (sound : IsSound defs) where
  node_fits : (root : Var) (args : List Var) (n : ℕ) → FormedFits (InArguments root args) n (node_formed root n)
  node_fits root args n =
      let R = IsOldOrNew (InArguments root args) n (suc n) in
      let r : R root = inl (or_left (same root root) (is_in root args) (same_itself root)) in
      let a : R (address n) = inr (omega arith, omega arith) in
      record { rises = omega arith; pure = (uses_equal R (address n) root a r, (uses_positive R root r, tt)); addresses = (omega arith, omega arith, tt) }

  module _ (pred : ℕ) (root : Var) (args : List Var) (n : ℕ) (fits : AtomFits defs (pred_atom pred root args)) (low : AreBelow n (InArguments root args)) where
    inv_formed_fits : (o : Option PredDef) → pred_at defs pred ≡ o → FormedFits (InArguments root args) n (inv_formed o root args n)
    inv_formed_fits None e = no_pred defs pred root args fits e
    inv_formed_fits (Some p) e = record {
      rises = omega arith;
      pure = (inv_uses defs p root args n (pred_inv_fits defs sound pred p e) (arguments_fit defs pred p root args n fits low e), tt);
      addresses = tt;
    }

    pub inv_fits : FormedFits (InArguments root args) n (inv_of defs pred root args n)
    inv_fits = inv_formed_fits (pred_at defs pred) refl

    pub some_body_fits : (former : Former) → FormerFits defs former → (o : Option PredDef) → pred_at defs pred ≡ o → FormedFits (InArguments root args) n (body_formed former (body_or_none body_of_pred o) root args n)
    some_body_fits former former_fits None e = no_pred defs pred root args fits e
    some_body_fits former former_fits (Some p) e =
        body_formed_fits defs former former_fits (body_of_pred p) (pred_body_fits defs sound pred p e) root args n (arguments_fit defs pred p root args n fits low e)

  by_body : (former : Former) → FormerFits defs former → (o : Of) (root : Var) (args : List Var) (n : ℕ) → AtomFits defs (record { root = root; of = o; args = args }) → AreBelow n (InArguments root args) →
      FormedFits (InArguments root args) n (of_formed (inv_and_body_of defs former) o root args n)
  by_body former former_fits (Node kind) root args n fits low = node_fits root args n
  by_body former former_fits (Pred pred) root args n fits low =
      let inv = inv_of defs pred root args n in
      let first = inv_fits pred root args n fits low in
      combined_fits (InArguments root args) n inv (body_formed former (body_of defs (Pred pred)) root args inv.next) first
      (some_body_fits pred root args inv.next fits (below_later (InArguments root args) n inv.next first.rises low) former former_fits (pred_at defs pred) refl)

  by_inv : (o : Of) (root : Var) (args : List Var) (n : ℕ) → AtomFits defs (record { root = root; of = o; args = args }) → AreBelow n (InArguments root args) →
      FormedFits (InArguments root args) n (of_formed (inv_of defs) o root args n)
  by_inv (Node kind) root args n fits low = node_fits root args n
  by_inv (Pred pred) root args n fits low = inv_fits pred root args n fits low

  pub form_fits : (level : ℕ) → FormerFits defs (form defs level)
  form_fits zero a n fits low = by_inv a.of a.root a.args n fits low
  form_fits (suc level) a n fits low = by_body (form defs level) (form_fits level) a.of a.root a.args n fits low
