-- A renamed formula holds at a stack where the formula holds at the stack before the renaming.
use Rattle.std.proofs.Common.{if◌then◌else◌, ◌≡◌, Bool, true, false, not, ◌||◌, IsTrue, inl, inr, List, [], ◌∷◌, map, refl, sym, ◌∙◌, ap, subst}
use Rattle.std.specs.List.{list_any, All}
use Rattle.std.proofs.lemmas.Bool.{or_cases, and_from}
use Rattle.std.proofs.lemmas.List.Elements.{All-head, All-tail}
use Rattle.hs_pure.specs.declared.var.Var.{Var}
use Rattle.hs_pure.specs.declared.pure.Pure.{Pure}
use Rattle.hs_pure.specs.Stack.{Stack, same, with_value}
use Rattle.hs_pure.specs.Occurs.{is_free, is_bound, occurs}
use Rattle.hs_pure.specs.Rename.{renamed, KeepsApart}
use Rattle.hs_pure.specs.Sums.{KeepsKinds}
use Rattle.hs_pure.proofs.Agree.{Agree}
use Rattle.hs_pure.proofs.Renamed.{truth-renamed}
use Rattle.hs_pure.proofs.Vars.{or_left, or_right}
use Rattle.hs_heap.specs.declared.formula.Atom.{Atom}
use Rattle.hs_heap.specs.declared.formula.Disjunct.{Disjunct}
use Rattle.hs_heap.specs.Heap.{Heap}
use Rattle.hs_heap.specs.Meaning.{Number, Elements, Meaning, argument_at, is_in, SameBut, AllTrueAt, AtomsHold, DisjunctHolds, SomeHolds}
use Rattle.hs_heap.specs.Variables.{in_atom, is_free_in_disjunct}
use Rattle.hs_heap.proofs.Stacks.{same_true, same_itself, same_turned, with_value-other, with_values, with_values-in, with_values-out, SameBut-with_values, same_is}
use Rattle.hs_heap.proofs.Agree.{OfHolds-same}
use Rattle.hs_heap.specs.Renamed.{renamed_atom, renamed_disjunct, DisjunctKeepsApart}
use Rattle.hs_heap.proofs.Occurring.{stands_occurs}
use Rattle.hs_heap.proofs.Booleans.{bool_cases, or_false_left, or_false_right, clash, not_of_false}
use Rattle.hs_heap.proofs.Free.{all_true_agrees, atoms_agree, stands}

-- the stack before a renaming
abbrev pub before : (Var → Var) → Stack → Stack
before ρ s v = s (ρ v)

-- where a renaming keeps each conjunct apart
abbrev EachApart : (Var → Var) → List Pure → Type 0
EachApart ρ ps = (u v : Var) → IsTrue (list_any (is_bound u) ps) → IsTrue (list_any (occurs v) ps) → ρ u ≡ ρ v → u ≡ v

module _ (ρ : Var → Var) where
  first_apart : (p : Pure) (ps : List Pure) → EachApart ρ (p ∷ ps) → KeepsApart ρ p
  first_apart p ps h u v b o = h u v (or_left (is_bound u p) (list_any (is_bound u) ps) b) (or_left (occurs v p) (list_any (occurs v) ps) o)

  later_apart : (p : Pure) (ps : List Pure) → EachApart ρ (p ∷ ps) → EachApart ρ ps
  later_apart p ps h u v b o = h u v (or_right (is_bound u p) (list_any (is_bound u) ps) b) (or_right (occurs v p) (list_any (occurs v) ps) o)

  all_true_renamed : (ps : List Pure) (s : Stack) → EachApart ρ ps → AllTrueAt s (map (renamed ρ) ps) → AllTrueAt (before ρ s) ps
  all_true_renamed [] s c e = tt
  all_true_renamed (p ∷ ps) s c (e, f) = ((truth-renamed ρ p s (first_apart p ps c)).0 e, all_true_renamed ps s (later_apart p ps c) f)

  renamed_all_true : (ps : List Pure) (s : Stack) → EachApart ρ ps → AllTrueAt (before ρ s) ps → AllTrueAt s (map (renamed ρ) ps)
  renamed_all_true [] s c e = tt
  renamed_all_true (p ∷ ps) s c (e, f) = ((truth-renamed ρ p s (first_apart p ps c)).1 e, renamed_all_true ps s (later_apart p ps c) f)

  -- each of vs renamed has the value that t gives it, and others that of s
  abbrev pulled : List Var → Stack → Stack → Stack
  pulled [] t s = s
  pulled (v ∷ vs) t s = with_value (ρ v) (t v) (pulled vs t s)

  pulled-out : (vs : List Var) (t s : Stack) (w : Var) → is_in w (map ρ vs) ≡ false → pulled vs t s w ≡ s w
  pulled-out [] t s w e = refl
  pulled-out (v ∷ vs) t s w e =
      with_value-other (ρ v) (t v) (pulled vs t s) w (same_turned (ρ v) w (or_false_left (same w (ρ v)) (is_in w (map ρ vs)) e))
      ∙ pulled-out vs t s w (or_false_right (same w (ρ v)) (is_in w (map ρ vs)) e)

  pulled-in : (vs : List Var) (t s : Stack) (w : Var) → ((b : Var) → is_in b vs ≡ true → ρ b ≡ ρ w → b ≡ w) → is_in w vs ≡ true → pulled vs t s (ρ w) ≡ t w
  pulled-in [] t s w apart e = absurd cc
  pulled-in (v ∷ vs) t s w apart e = elim (bool_cases (same (ρ v) (ρ w))) [
    | inl is ↦
        let f : v ≡ w = apart v (or_left (same v v) (is_in v vs) (same_itself v)) (same_true (ρ v) (ρ w) is) in
        let g : with_value (ρ v) (t v) (pulled vs t s) (ρ w) ≡ t v = rw is refl in
        g ∙ ap t f
    | inr isnt ↦
        let other : same w v ≡ true → ⊥ = λ k. clash (same_is (ρ v) (ρ w) (ap ρ (sym (same_true w v k)))) isnt in
        let later : is_in w vs ≡ true = elim (or_cases (same w v) (is_in w vs) e) [ inl k ↦ absurd (other k) | inr k ↦ k ] in
        with_value-other (ρ v) (t v) (pulled vs t s) (ρ w) isnt ∙ pulled-in vs t s w (λ b i. apart b (or_right (same b v) (is_in b vs) i)) later
  ]

  stays_out : (vs : List Var) (w : Var) → ((b : Var) → is_in b vs ≡ true → ρ b ≡ ρ w → b ≡ w) → is_in w vs ≡ false → is_in (ρ w) (map ρ vs) ≡ false
  stays_out [] w apart e = refl
  stays_out (v ∷ vs) w apart e = elim (bool_cases (same (ρ w) (ρ v))) [
    | inl is ↦
        let f : v ≡ w = apart v (or_left (same v v) (is_in v vs) (same_itself v)) (sym (same_true (ρ w) (ρ v) is)) in
        clash (same_is w v (sym f)) (or_false_left (same w v) (is_in w vs) e)
    | inr isnt ↦ rw isnt (stays_out vs w (λ b i. apart b (or_right (same b v) (is_in b vs) i)) (or_false_right (same w v) (is_in w vs) e))
  ]

  module _ (keeps : KeepsKinds ρ) where
    argument_before : (s : Stack) (v : Var) → argument_at s (ρ v) ≡ argument_at (before ρ s) v
    argument_before s v =
        let P : Bool → Type 0 = λ b. (if b then Elements (s (ρ v)).bag else Number (s (ρ v)).number) ≡ argument_at (before ρ s) v in
        subst P (sym (keeps v)) refl

    arguments_before : (s : Stack) (vs : List Var) → map (argument_at s) (map ρ vs) ≡ map (argument_at (before ρ s)) vs
    arguments_before s [] = refl
    arguments_before s (v ∷ vs) = let e = arguments_before s vs in let f = argument_before s v in cc

    module _ (x : Meaning) where
      atoms_renamed : (atoms : List Atom) (s : Stack) (h : Heap) → AtomsHold x s h (map (renamed_atom ρ) atoms) → AtomsHold x (before ρ s) h atoms
      atoms_renamed [] s h p = p
      atoms_renamed (a ∷ rest) s h (h1, h2, parts, one, more) =
          (h1, h2, parts, OfHolds-same x a.of h1 refl (arguments_before s a.args) one, atoms_renamed rest s h2 more)

      renamed_atoms : (atoms : List Atom) (s : Stack) (h : Heap) → AtomsHold x (before ρ s) h atoms → AtomsHold x s h (map (renamed_atom ρ) atoms)
      renamed_atoms [] s h p = p
      renamed_atoms (a ∷ rest) s h (h1, h2, parts, one, more) =
          (h1, h2, parts, OfHolds-same x a.of h1 refl (sym (arguments_before s a.args)) one, renamed_atoms rest s h2 more)

      module _ (d : Disjunct) (s t : Stack) (same_free : Agree (λ v. is_free_in_disjunct v d) (before ρ s) t) (c : DisjunctKeepsApart ρ d) where
        bound_apart : (v : Var) → IsTrue (stands x d v) → (b : Var) → is_in b d.bound ≡ true → ρ b ≡ ρ v → b ≡ v
        bound_apart v e b i = c b v (or_left (is_in b d.bound) (list_any (is_bound b) d.pure) i) (stands_occurs v d e)

        each_apart : EachApart ρ d.pure
        each_apart u v b o = c u v (or_right (is_in u d.bound) (list_any (is_bound u) d.pure) b)
            (or_right (is_in v d.bound) (list_any (in_atom v) d.atoms || list_any (occurs v) d.pure) (or_right (list_any (in_atom v) d.atoms) (list_any (occurs v) d.pure) o))

        free_same : (v : Var) → is_in v d.bound ≡ false → IsTrue (stands x d v) → s (ρ v) ≡ t v
        free_same v out e = same_free v (and_from (not (is_in v d.bound)) (stands x d v) (not_of_false out) e)

        -- the values of a renamed case, before the renaming
        undone_agrees : (at : Stack) → SameBut (map ρ d.bound) s at → Agree (stands x d) (before ρ at) (with_values d.bound (before ρ at) t)
        undone_agrees at but v e = elim (bool_cases (is_in v d.bound)) [
          | inl is ↦ sym (with_values-in d.bound (before ρ at) t v is)
          | inr isnt ↦ but.same (ρ v) (stays_out d.bound v (bound_apart v e) isnt) ∙ free_same v isnt e ∙ sym (with_values-out d.bound (before ρ at) t v isnt)
        ]

        done_agrees : (at : Stack) → SameBut d.bound t at → Agree (stands x d) at (before ρ (pulled d.bound at s))
        done_agrees at but v e = elim (bool_cases (is_in v d.bound)) [
          | inl is ↦ sym (pulled-in d.bound at s v (bound_apart v e) is)
          | inr isnt ↦ but.same v isnt ∙ sym (free_same v isnt e) ∙ sym (pulled-out d.bound at s (ρ v) (stays_out d.bound v (bound_apart v e) isnt))
        ]

        pub case_renamed : (h : Heap) → DisjunctHolds x s h (renamed_disjunct ρ d) → DisjunctHolds x t h d
        case_renamed h p =
            let new = with_values d.bound (before ρ p.at) t in
            let agree = undone_agrees p.at p.same in
            record {
              at = new;
              same = SameBut-with_values d.bound (before ρ p.at) t;
              pure = all_true_agrees d.pure (before ρ p.at) new (λ v e. agree v (or_right (list_any (in_atom v) d.atoms) (list_any (is_free v) d.pure) e)) (all_true_renamed d.pure p.at each_apart p.pure);
              atoms = atoms_agree x d.atoms (before ρ p.at) new h (λ v e. agree v (or_left (list_any (in_atom v) d.atoms) (list_any (is_free v) d.pure) e)) (atoms_renamed d.atoms p.at h p.atoms);
            }

        pub renamed_case_holds : (h : Heap) → DisjunctHolds x t h d → DisjunctHolds x s h (renamed_disjunct ρ d)
        renamed_case_holds h p =
            let new = pulled d.bound p.at s in
            let agree = done_agrees p.at p.same in
            record {
              at = new;
              same = record { same = λ v e. pulled-out d.bound p.at s v e };
              pure = renamed_all_true d.pure new each_apart (all_true_agrees d.pure p.at (before ρ new) (λ v e. agree v (or_right (list_any (in_atom v) d.atoms) (list_any (is_free v) d.pure) e)) p.pure);
              atoms = renamed_atoms d.atoms new h (atoms_agree x d.atoms p.at (before ρ new) h (λ v e. agree v (or_left (list_any (in_atom v) d.atoms) (list_any (is_free v) d.pure) e)) p.atoms);
            }

      -- a renamed formula holds at s exactly where the formula holds at a stack that agrees with s before the renaming
      module _ (s t : Stack) (h : Heap) where
        pub cases_renamed : (ds : List Disjunct) → Agree (λ v. list_any (is_free_in_disjunct v) ds) (before ρ s) t → All (DisjunctKeepsApart ρ) ds →
            SomeHolds x s h (map (renamed_disjunct ρ) ds) → SomeHolds x t h ds
        cases_renamed [] same_free c p = p
        cases_renamed (d ∷ ds) same_free c (inl p) = inl (case_renamed d s t (λ v f. same_free v (or_left (is_free_in_disjunct v d) (list_any (is_free_in_disjunct v) ds) f)) (All-head (DisjunctKeepsApart ρ) d ds c) h p)
        cases_renamed (d ∷ ds) same_free c (inr p) = inr (cases_renamed ds (λ v f. same_free v (or_right (is_free_in_disjunct v d) (list_any (is_free_in_disjunct v) ds) f)) (All-tail (DisjunctKeepsApart ρ) d ds c) p)

        pub renamed_cases : (ds : List Disjunct) → Agree (λ v. list_any (is_free_in_disjunct v) ds) (before ρ s) t → All (DisjunctKeepsApart ρ) ds →
            SomeHolds x t h ds → SomeHolds x s h (map (renamed_disjunct ρ) ds)
        renamed_cases [] same_free c p = p
        renamed_cases (d ∷ ds) same_free c (inl p) = inl (renamed_case_holds d s t (λ v f. same_free v (or_left (is_free_in_disjunct v d) (list_any (is_free_in_disjunct v) ds) f)) (All-head (DisjunctKeepsApart ρ) d ds c) h p)
        renamed_cases (d ∷ ds) same_free c (inr p) = inr (renamed_cases ds (λ v f. same_free v (or_right (is_free_in_disjunct v d) (list_any (is_free_in_disjunct v) ds) f)) (All-tail (DisjunctKeepsApart ρ) d ds c) p)
