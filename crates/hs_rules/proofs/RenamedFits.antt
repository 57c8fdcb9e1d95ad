-- Renamed cases are well formed: those of an opened disjunct, and those of an instantiated body.
use Rattle.std.proofs.Common.{◌≡◌, ℕ, suc, ◌+◌, ◌<◌, Bool, true, false, not, ◌||◌, IsTrue, inl, inr, List, [], ◌∷◌, map, length, get_or, Some, refl, sym, ap, ◌∙◌, subst, if◌then◌else◌, arith}
use Rattle.std.specs.List.{list_any, All}
use Rattle.std.proofs.lemmas.Bool.{and_from, or_cases}
use Rattle.std.proofs.lemmas.List.Folds.{list_any_at}
use Rattle.std.proofs.lemmas.List.Elements.{All-nil, All-cons, All-head, All-tail, All-map, All-weaker}
use Rattle.hs_pure.specs.declared.var.Var.{Var}
use Rattle.hs_pure.specs.declared.pure.Pure.{Pure}
use Rattle.hs_pure.specs.Stack.{same}
use Rattle.hs_pure.specs.Occurs.{occurs}
use Rattle.hs_pure.specs.Rename.{renamed}
use Rattle.hs_pure.specs.Sums.{KeepsKinds}
use Rattle.hs_pure.proofs.Vars.{or_left, or_right, same-from}
use Rattle.hs_heap.specs.declared.formula.Atom.{Atom}
use Rattle.hs_heap.specs.declared.formula.Disjunct.{Disjunct}
use Rattle.hs_heap.specs.declared.definitions.Defs.{Defs}
use Rattle.hs_heap.specs.Meaning.{is_in, self_var}
use Rattle.hs_heap.specs.Variables.{in_atom, occurs_in_disjunct, occurs_in_formula}
use Rattle.hs_heap.specs.WellFormed.{is_and, IsProper}
use Rattle.hs_heap.specs.Sound.{AtomFits, AreDistinct, PureFits, FormulaFits, kinds}
use Rattle.hs_heap.specs.Renamed.{renamed_atom, renamed_disjunct}
use Rattle.hs_heap.specs.Instance.{Body, BodyFits, is_named, is_other_var, is_other, count_below, new_number, body_renaming, instantiated, next_after}
use Rattle.hs_heap.proofs.Booleans.{not_of_false}
use Rattle.hs_heap.proofs.Stacks.{same_true}
use Rattle.hs_heap.proofs.Lists.{any_back}
use Rattle.hs_heap.proofs.Counts.{count-tells}
use Rattle.hs_heap.proofs.Sources.{list_source, cases_occurs_source}
use Rattle.hs_heap.proofs.Bodies.{put-out, put-kind, instantiated_occurs}
use Rattle.hs_goal.specs.Shape.{CaseFits, SideFits}
use Rattle.hs_rules.specs.Parts.{to_fresh, fresh_variables, opened}
use Rattle.hs_rules.proofs.NewNumbers.{to_fresh-kind, to_fresh-injective}
use Rattle.hs_rules.proofs.Proper.{is_and-renamed, proper-renamed, well_formed_proper}
use Rattle.hs_rules.proofs.Fitting.{distinct-map}

module _ (defs : Defs) (ρ : Var → Var) (keeps : KeepsKinds ρ) where
  kinds-renamed : (vs : List Var) → kinds (map ρ vs) ≡ kinds vs
  kinds-renamed [] = refl
  kinds-renamed (v ∷ vs) = λ i. keeps v i ∷ kinds-renamed vs i

  atoms-renamed : (atoms : List Atom) → All (AtomFits defs) atoms → All (AtomFits defs) (map (renamed_atom ρ) atoms)
  atoms-renamed atoms f = All-map (AtomFits defs) (renamed_atom ρ) atoms
      (All-weaker (AtomFits defs) (λ a. AtomFits defs (renamed_atom ρ a)) (λ a h. (keeps a.root ∙ h.0, h.1 ∙ ap Some (sym (kinds-renamed a.args)))) atoms f)

  flat-renamed : (ps : List Pure) → All (λ p. is_and p ≡ false) ps → All (λ p. is_and p ≡ false) (map (renamed ρ) ps)
  flat-renamed ps f = All-map (λ p. is_and p ≡ false) (renamed ρ) ps
      (All-weaker (λ p. is_and p ≡ false) (λ p. is_and (renamed ρ p) ≡ false) (λ p e. is_and-renamed ρ p ∙ e) ps f)

  all_proper-renamed : (ps : List Pure) → All IsProper ps → All IsProper (map (renamed ρ) ps)
  all_proper-renamed ps f = All-map IsProper (renamed ρ) ps (All-weaker IsProper (λ p. IsProper (renamed ρ p)) (proper-renamed ρ keeps) ps f)

-- ---- opened disjuncts

pub to_fresh-below : (bs : List Var) (n : ℕ) (v : Var) → v.number < n → (to_fresh bs n v).number < n + length bs
to_fresh-below [] n v less = omega arith
to_fresh-below (b ∷ bs) n v less = by_test (same b v) (to_fresh-below bs (suc n) v (omega arith))
  where
    by_test : (t : Bool) → (to_fresh bs (suc n) v).number < suc n + length bs →
        (if t then record { number = n; bag = v.bag } else to_fresh bs (suc n) v).number < n + suc (length bs)
    by_test true h = omega arith
    by_test false h = omega arith

module _ (defs : Defs) (n : ℕ) (d : Disjunct) (fits : CaseFits defs n d) where
  -- what is bound is not bound any more
  opened_occurs : (v : Var) → IsTrue (occurs_in_disjunct v (opened d n)) → (w : Var) × IsTrue (occurs_in_disjunct w d) × (v ≡ to_fresh d.bound n w)
  opened_occurs v e =
      let renamed_one = renamed_disjunct (to_fresh d.bound n) d in
      let stands : IsTrue (occurs_in_disjunct v renamed_one) = or_right (is_in v renamed_one.bound) (list_any (in_atom v) renamed_one.atoms || list_any (occurs v) renamed_one.pure) e in
      let (w, k, is) = cases_occurs_source (to_fresh d.bound n) (d ∷ []) v (or_left (occurs_in_disjunct v renamed_one) false stands) in
      (w, elim (or_cases (occurs_in_disjunct w d) false k) [ inl m ↦ m | inr m ↦ absurd cc ], is)

  pub opened_fits : CaseFits defs (n + length d.bound) (opened d n)
  opened_fits = record {
    numbers = λ v e. let (w, k, is) = opened_occurs v e in subst (λ (u : Var). u.number < n + length d.bound) (sym is) (to_fresh-below d.bound n w (fits.numbers w k));
    atoms = atoms-renamed defs (to_fresh d.bound n) (to_fresh-kind d.bound n) d.atoms fits.atoms;
    distinct = tt;
    flat = flat-renamed defs (to_fresh d.bound n) (to_fresh-kind d.bound n) d.pure fits.flat;
    pure = all_proper-renamed defs (to_fresh d.bound n) (to_fresh-kind d.bound n) d.pure fits.pure;
  }

  pub fresh_distinct : AreDistinct (fresh_variables d n)
  fresh_distinct = distinct-map (to_fresh d.bound n) d.bound (to_fresh-injective d.bound n) fits.distinct

  pub fresh_below : (v : Var) → IsTrue (is_in v (fresh_variables d n)) → v.number < n + length d.bound
  fresh_below v e =
      let (w, i, is) = list_source (to_fresh d.bound n) d.bound v e in
      subst (λ (u : Var). u.number < n + length d.bound) (sym is)
      (to_fresh-below d.bound n w (fits.numbers w (or_left (is_in w d.bound) (list_any (in_atom w) d.atoms || list_any (occurs w) d.pure) i)))

-- ---- instantiated bodies

All-unmap : {X Y : Type 0} (P : Y → Type 0) (f : X → Y) (xs : List X) → All P (map f xs) → All (λ x. P (f x)) xs
All-unmap P f [] h = All-nil (λ x. P (f x))
All-unmap P f (x ∷ xs) h = All-cons (λ x. P (f x)) x xs (All-head P (f x) (map f xs) h) (All-unmap P f xs (All-tail P (f x) (map f xs) h))

module _ (defs : Defs) (b : Body) (fits : FormulaFits defs (self_var ∷ b.params) b.next b.formula) (root : Var) (args : List Var) (fresh : ℕ)
    (root_kind : root.bag ≡ false) (arity : kinds b.params ≡ kinds args) (below : (v : Var) → IsTrue (is_in v (root ∷ args)) → v.number < fresh) where
  abbrev ρ : Var → Var
  ρ = body_renaming b root args fresh

  body_fits : BodyFits defs b
  body_fits i d less = let f = fits i d less in record { apart = f.apart; among = f.among; numbers = f.numbers; atoms = f.atoms; pure = f.pure }

  keeps : KeepsKinds ρ
  keeps v = put-kind (self_var ∷ b.params) (root ∷ args) (new_number b fresh) v (λ i. sym root_kind i ∷ arity i) refl

  -- a variable that occurs and is not named has a number that is counted
  other_counts : (v : Var) → IsTrue (occurs_in_formula v b.formula) → is_named b v ≡ false → is_other b v.number ≡ true
  other_counts v o n = go v.number v.bag (and_from (occurs_in_formula v b.formula) (not (is_named b v)) o (not_of_false n))
    where
      go : (k : ℕ) (bag : Bool) → is_other_var b (record { number = k; bag = bag }) ≡ true → is_other b k ≡ true
      go k true e = or_right (is_other_var b (record { number = k; bag = false })) (is_other_var b (record { number = k; bag = true })) e
      go k false e = or_left (is_other_var b (record { number = k; bag = false })) (is_other_var b (record { number = k; bag = true })) e

  -- such variables stay apart
  others_apart : (u v : Var) → is_named b u ≡ false → is_named b v ≡ false → IsTrue (occurs_in_formula u b.formula) → IsTrue (occurs_in_formula v b.formula) → ρ u ≡ ρ v → u ≡ v
  others_apart u v m n o p e =
      let at_u : (ρ u).number ≡ fresh + count_below (is_other b) u.number = ap (λ (w : Var). w.number) (put-out (self_var ∷ b.params) (root ∷ args) (new_number b fresh) u m) in
      let at_v : (ρ v).number ≡ fresh + count_below (is_other b) v.number = ap (λ (w : Var). w.number) (put-out (self_var ∷ b.params) (root ∷ args) (new_number b fresh) v n) in
      let numbers : (ρ u).number ≡ (ρ v).number = ap (λ (w : Var). w.number) e in
      let counts : count_below (is_other b) u.number ≡ count_below (is_other b) v.number = omega arith in
      let bags : (ρ u).bag ≡ (ρ v).bag = ap (λ (w : Var). w.bag) e in
      same_true u v (same-from u v (count-tells (is_other b) u.number v.number (other_counts u o m) (other_counts v p n) counts) (sym (keeps u) ∙ bags ∙ keeps v))

  numbers_below : All (λ d. (v : Var) → IsTrue (occurs_in_disjunct v (renamed_disjunct ρ d)) → v.number < next_after b fresh) b.formula.cases
  numbers_below = All-unmap (λ d. (v : Var) → IsTrue (occurs_in_disjunct v d) → v.number < next_after b fresh) (renamed_disjunct ρ) b.formula.cases
      (any_back occurs_in_disjunct (λ (v : Var). v.number < next_after b fresh) (instantiated b root args fresh).cases
      (λ v e. elim (instantiated_occurs defs b root args fresh body_fits root_kind arity below v e) [
        | inl i ↦ let k = below v i in omega arith
        | inr new ↦ new.1
      ]))

  case_fits : (i : ℕ) (d : Disjunct) → i < length b.formula.cases → CaseFits defs (next_after b fresh) (renamed_disjunct ρ (get_or b.formula.cases i d))
  case_fits i z less =
      let d = get_or b.formula.cases i z in
      let f = fits i z less in
      let inside = λ (v : Var) (k : is_in v d.bound ≡ true). list_any_at (occurs_in_disjunct v) b.formula.cases i z less (or_left (is_in v d.bound) (list_any (in_atom v) d.atoms || list_any (occurs v) d.pure) k) in
      record {
        numbers = numbers_below i z less;
        atoms = atoms-renamed defs ρ keeps d.atoms f.atoms;
        distinct = distinct-map ρ d.bound (λ u v k l e. others_apart u v (f.apart u k) (f.apart v l) (inside u k) (inside v l) e) f.distinct;
        flat = flat-renamed defs ρ keeps d.pure f.flat;
        pure = all_proper-renamed defs ρ keeps d.pure
            (All-weaker (PureFits (self_var ∷ b.params) b.next) IsProper (λ p h. well_formed_proper p h.formed) d.pure f.pure);
      }

  pub instantiated_fits : SideFits defs (next_after b fresh) (instantiated b root args fresh)
  instantiated_fits = All-map (CaseFits defs (next_after b fresh)) (renamed_disjunct ρ) b.formula.cases case_fits
