-- Well-formed sides in parts: what is asked of each atom, each conjunct and each bound variable.
use Rattle.std.proofs.Common.{◌≡◌, ℕ, ◌-◌, ◌<◌, ◌≤◌, Bool, true, false, ◌||◌, inl, inr, List, [], ◌∷◌, ◌++◌, map, length, take, drop, get_or, filter, sym, ◌∙◌, subst, arith}
use Rattle.std.specs.List.{list_any, All}
use Rattle.std.proofs.lemmas.Bool.{or_cases, false_from_ne_true}
use Rattle.std.proofs.lemmas.List.Elements.{All-nil, All-cons, All-head, All-append, All-take, All-drop, All-get_or, All-weaker}
use Rattle.hs_pure.specs.declared.var.Var.{Var}
use Rattle.hs_pure.specs.declared.pure.Pure.{Pure}
use Rattle.hs_pure.specs.Stack.{same}
use Rattle.hs_pure.specs.Occurs.{occurs}
use Rattle.hs_pure.proofs.Vars.{or_left, or_right}
use Rattle.hs_heap.specs.declared.formula.Atom.{Atom}
use Rattle.hs_heap.specs.declared.formula.Disjunct.{Disjunct}
use Rattle.hs_heap.specs.declared.formula.Formula.{Formula}
use Rattle.hs_heap.specs.declared.definitions.Defs.{Defs}
use Rattle.hs_heap.specs.Meaning.{is_in}
use Rattle.hs_heap.specs.Variables.{in_atom}
use Rattle.hs_heap.specs.WellFormed.{is_and, IsProper}
use Rattle.hs_heap.specs.Sound.{AtomFits, AreDistinct}
use Rattle.hs_heap.proofs.Booleans.{bool_cases, clash}
use Rattle.hs_heap.proofs.Lists.{any_forth, any_back}
use Rattle.hs_goal.specs.Shape.{AreBelow, CaseFits, SideFits}
use Rattle.hs_goal.specs.Classes.{the_case}
use Rattle.hs_rules.specs.Parts.{IsPlace, only, plain, without, in_place}
use Rattle.hs_rules.proofs.Plain.{only_case}
use Rattle.hs_rules.proofs.Variables.{is_in-append}
use Rattle.hs_rules.proofs.Asked.{is_in-filter, filter-yes, filter-no}
use Rattle.hs_heap.proofs.Stacks.{same_itself}
use Rattle.hs_heap.proofs.Sources.{list_source}

module _ (defs : Defs) (next : ℕ) where
  pub record AtomIsGood (a : Atom) : Type 0 where
    pub fits : AtomFits defs a
    pub below : AreBelow next (λ v. in_atom v a)

  pub record ConjunctIsGood (p : Pure) : Type 0 where
    pub proper : IsProper p
    pub flat : is_and p ≡ false
    pub below : AreBelow next (λ v. occurs v p)

  pub record CaseIsGood (d : Disjunct) : Type 0 where
    pub distinct : AreDistinct d.bound
    pub bound : AreBelow next (λ v. is_in v d.bound)
    pub atoms : All AtomIsGood d.atoms
    pub pure : All ConjunctIsGood d.pure

  pub case_parts : (d : Disjunct) → CaseFits defs next d → CaseIsGood d
  case_parts d f =
      let atoms = any_back in_atom (λ (v : Var). v.number < next) d.atoms (λ v e. f.numbers v (or_right (is_in v d.bound) (list_any (in_atom v) d.atoms || list_any (occurs v) d.pure) (or_left (list_any (in_atom v) d.atoms) (list_any (occurs v) d.pure) e))) in
      let pure = any_back occurs (λ (v : Var). v.number < next) d.pure (λ v e. f.numbers v (or_right (is_in v d.bound) (list_any (in_atom v) d.atoms || list_any (occurs v) d.pure) (or_right (list_any (in_atom v) d.atoms) (list_any (occurs v) d.pure) e))) in
      record {
        distinct = f.distinct;
        bound = λ v e. f.numbers v (or_left (is_in v d.bound) (list_any (in_atom v) d.atoms || list_any (occurs v) d.pure) e);
        atoms = λ i a less. record { fits = f.atoms i a less; below = atoms i a less };
        pure = λ i p less. record { proper = f.pure i p less; flat = f.flat i p less; below = pure i p less };
      }

  pub case_whole : (d : Disjunct) → CaseIsGood d → CaseFits defs next d
  case_whole d f = record {
    numbers = λ v e. elim (or_cases (is_in v d.bound) (list_any (in_atom v) d.atoms || list_any (occurs v) d.pure) e) [
      | inl k ↦ f.bound v k
      | inr k ↦ elim (or_cases (list_any (in_atom v) d.atoms) (list_any (occurs v) d.pure) k) [
        | inl m ↦ any_forth in_atom (λ (v : Var). v.number < next) d.atoms (λ i a less. (f.atoms i a less).below) v m
        | inr m ↦ any_forth occurs (λ (v : Var). v.number < next) d.pure (λ i p less. (f.pure i p less).below) v m
      ]
    ];
    atoms = λ i a less. (f.atoms i a less).fits;
    distinct = f.distinct;
    flat = λ i p less. (f.pure i p less).flat;
    pure = λ i p less. (f.pure i p less).proper;
  }

  -- the parts of a simple side
  pub record SideIsGood (f : Formula) : Type 0 where
    pub atoms : All AtomIsGood (the_case f).atoms
    pub pure : All ConjunctIsGood (the_case f).pure

  pub side_parts : (f : Formula) → length f.cases ≡ 1 → SideFits defs next f → CaseIsGood (the_case f)
  side_parts f one fits = case_parts (the_case f) (All-head (CaseFits defs next) (the_case f) [] (subst (λ (k : Formula). SideFits defs next k) (only_case f one) fits))

  pub only_fits : (d : Disjunct) → CaseIsGood d → SideFits defs next (only d)
  only_fits d f = All-cons (CaseFits defs next) d [] (case_whole d f) (All-nil (CaseFits defs next))

  pub plain_fits : (atoms : List Atom) (ps : List Pure) → All AtomIsGood atoms → All ConjunctIsGood ps → SideFits defs next (plain atoms ps)
  plain_fits atoms ps f g = only_fits _ (record { distinct = tt; bound = λ v e. absurd cc; atoms = f; pure = g })

-- ---- with a greater next number

module _ (defs : Defs) (m n : ℕ) (le : m ≤ n) where
  pub atom_higher : (a : Atom) → AtomIsGood defs m a → AtomIsGood defs n a
  atom_higher a f = record { fits = f.fits; below = λ v e. let k = f.below v e in omega arith }

  pub conjunct_higher : (p : Pure) → ConjunctIsGood defs m p → ConjunctIsGood defs n p
  conjunct_higher p f = record { proper = f.proper; flat = f.flat; below = λ v e. let k = f.below v e in omega arith }

  pub atoms_higher : (atoms : List Atom) → All (AtomIsGood defs m) atoms → All (AtomIsGood defs n) atoms
  atoms_higher atoms = All-weaker (AtomIsGood defs m) (AtomIsGood defs n) atom_higher atoms

  pub pure_higher : (ps : List Pure) → All (ConjunctIsGood defs m) ps → All (ConjunctIsGood defs n) ps
  pure_higher ps = All-weaker (ConjunctIsGood defs m) (ConjunctIsGood defs n) conjunct_higher ps

  pub side_higher : (f : Formula) → SideFits defs m f → SideFits defs n f
  side_higher f = All-weaker (CaseFits defs m) (CaseFits defs n) (λ d h. record {
    numbers = λ v e. let k = h.numbers v e in omega arith;
    atoms = h.atoms;
    distinct = h.distinct;
    flat = h.flat;
    pure = h.pure;
  }) f.cases

-- ---- places

module _ {X : Type 0} (P : X → Type 0) where
  pub All-without : (n : ℕ) (xs : List X) → All P xs → All P (without n xs)
  All-without n xs f = All-append P (take (n - 1) xs) (drop n xs) (All-take P (n - 1) xs f) (All-drop P n xs f)

  pub All-in_place : (n : ℕ) (ys xs : List X) → All P ys → All P xs → All P (in_place n ys xs)
  All-in_place n ys xs g f = All-append P (take (n - 1) xs ++ ys) (drop n xs) (All-append P (take (n - 1) xs) ys (All-take P (n - 1) xs f) g) (All-drop P n xs f)

  pub All-place : (n : ℕ) (xs : List X) (d : X) → IsPlace n xs → All P xs → P (get_or xs (n - 1) d)
  All-place n xs d place f = let a = place.0 in let b = place.1 in All-get_or P xs (n - 1) d (omega arith) f

-- ---- distinct variables

pub distinct-append : (xs ys : List Var) → AreDistinct xs → AreDistinct ys → ((v : Var) → is_in v xs ≡ true → is_in v ys ≡ false) → AreDistinct (xs ++ ys)
distinct-append [] ys f g apart = g
distinct-append (x ∷ xs) ys (e, f) g apart = (
  false_from_ne_true (is_in x (xs ++ ys)) (λ k. elim (or_cases (is_in x xs) (is_in x ys) (sym (is_in-append x xs ys) ∙ k)) [
    | inl m ↦ clash m e
    | inr m ↦ clash m (apart x (or_left (same x x) (is_in x xs) (same_itself x)))
  ]),
  distinct-append xs ys f g (λ v k. apart v (or_right (same v x) (is_in v xs) k)),
)

pub is_in-kept : (p : Var → Bool) (vs : List Var) (v : Var) → is_in v (filter p vs) ≡ true → is_in v vs ≡ true
is_in-kept p vs v e = elim (bool_cases (is_in v vs)) [ inl is ↦ is | inr isnt ↦ clash e (is_in-filter p vs v isnt) ]

pub distinct-filter : (p : Var → Bool) (vs : List Var) → AreDistinct vs → AreDistinct (filter p vs)
distinct-filter p [] f = tt
distinct-filter p (w ∷ ws) (e, f) = elim (bool_cases (p w)) [
  | inl yes' ↦ subst AreDistinct (sym (filter-yes p w ws yes')) (is_in-filter p ws w e, distinct-filter p ws f)
  | inr no' ↦ subst AreDistinct (sym (filter-no p w ws no')) (distinct-filter p ws f)
]

-- a renaming that keeps them apart keeps them distinct
pub distinct-map : (ρ : Var → Var) (vs : List Var) → ((u v : Var) → is_in u vs ≡ true → is_in v vs ≡ true → ρ u ≡ ρ v → u ≡ v) → AreDistinct vs → AreDistinct (map ρ vs)
distinct-map ρ [] apart f = tt
distinct-map ρ (w ∷ ws) apart (e, f) = (
  false_from_ne_true (is_in (ρ w) (map ρ ws)) (λ k.
      let (u, i, is) = list_source ρ ws (ρ w) k in
      let again : w ≡ u = apart w u (or_left (same w w) (is_in w ws) (same_itself w)) (or_right (same u w) (is_in u ws) i) is in
      clash (subst (λ v. is_in v ws ≡ true) (sym again) i) e),
  distinct-map ρ ws (λ u v i j. apart u v (or_right (same u w) (is_in u ws) i) (or_right (same v w) (is_in v ws) j)) f,
)
