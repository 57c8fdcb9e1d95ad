-- Cases of two formulas side by side.
use Rattle.std.proofs.Common.{ℕ, ◌≡◌, ◌<◌, ◌≤◌, inl, inr, true, false, not, ◌||◌, IsTrue, List, [], ◌∷◌, ◌++◌, map, sym, ◌∙◌, arith}
use Rattle.std.specs.List.{All, list_any, flat_map}
use Rattle.std.proofs.lemmas.Bool.{and_from}
use Rattle.std.proofs.lemmas.List.Elements.{All-head, All-tail}
use Rattle.hs_pure.specs.declared.var.Var.{Var}
use Rattle.hs_pure.specs.Stack.{Stack}
use Rattle.hs_pure.specs.Occurs.{is_free, is_bound}
use Rattle.hs_pure.proofs.Vars.{or_left, or_right}
use Rattle.hs_heap.specs.declared.formula.Disjunct.{Disjunct}
use Rattle.hs_heap.specs.Heap.{Heap, Parts}
use Rattle.hs_heap.specs.Meaning.{Meaning, is_in, DisjunctHolds, SomeHolds}
use Rattle.hs_heap.specs.Variables.{in_atom, is_free_in_disjunct, occurs_in_disjunct}
use Rattle.hs_heap.specs.Renamed.{is_bound_in_disjunct}
use Rattle.hs_heap.proofs.Booleans.{bool_cases, or_false_left, or_false_right, not_of_false}
use Rattle.hs_heap.proofs.Stacks.{with_values, with_values-in, with_values-out}
use Rattle.hs_heap.proofs.Free.{all_true_agrees, atoms_agree}
use Rattle.hs_heap.proofs.Atoms.{atoms_join}
use Rattle.hs_heap.proofs.Lists.{listed_forth}
use Rattle.hs_heap.proofs.Occurring.{stands_occurs}
use Rattle.hs_rules.proofs.Plain.{AllTrue-append}
use Rattle.hs_rules.proofs.Variables.{is_in-append}
use Rattle.hs_program_rules.specs.Parts.{joined_case}
use Rattle.hs_program_rules.proofs.Access.{BindsFrom}

module _ (x : Meaning) where
  first_cases : (s : Stack) (h : Heap) (ds es : List Disjunct) → SomeHolds x s h ds → SomeHolds x s h (ds ++ es)
  first_cases s h [] es p = absurd p
  first_cases s h (d ∷ ds) es (inl p) = inl p
  first_cases s h (d ∷ ds) es (inr p) = inr (first_cases s h ds es p)

  second_cases : (s : Stack) (h : Heap) (ds es : List Disjunct) → SomeHolds x s h es → SomeHolds x s h (ds ++ es)
  second_cases s h [] es p = p
  second_cases s h (d ∷ ds) es p = inr (second_cases s h ds es p)

-- the second formula lies below n and binds new variables; the first binds from n on and has none of the new ones free
module _ (x : Meaning) (n : ℕ) (new : Var → Type 0) (new_low : (v : Var) → new v → v.number < n) (w : Stack) where
  abbrev pub LiesBelow : Disjunct → Type 0
  LiesBelow e = (v : Var) → IsTrue (occurs_in_disjunct v e) → v.number < n

  abbrev pub BindsNew : Disjunct → Type 0
  BindsNew e = (v : Var) → IsTrue (is_bound_in_disjunct v e) → new v

  abbrev FreeOfNew : Disjunct → Type 0
  FreeOfNew d = (v : Var) → IsTrue (is_free_in_disjunct v d) → new v → ⊥

  module _ (d e : Disjunct) (high : BindsFrom n d) (apart : FreeOfNew d) (low : LiesBelow e) (news : BindsNew e) where
    bound_high : (v : Var) → is_in v d.bound ≡ true → n ≤ v.number
    bound_high = listed_forth (λ (v : Var). n ≤ v.number) d.bound high

    bound_new : (v : Var) → is_in v e.bound ≡ true → new v
    bound_new v is = news v (or_left (is_in v e.bound) (list_any (is_bound v) e.pure) is)

    module _ {h1 h2 : Heap} (p : DisjunctHolds x w h1 d) (q : DisjunctHolds x w h2 e) where
      abbrev at : Stack
      at = with_values e.bound q.at p.at

      first : (v : Var) → IsTrue (list_any (in_atom v) d.atoms || list_any (is_free v) d.pure) → p.at v ≡ at v
      first v i = elim (bool_cases (is_in v e.bound)) [
        | inl is ↦
            let fresh = bound_new v is in
            let under = new_low v fresh in
            elim (bool_cases (is_in v d.bound)) [
              | inl bound ↦ let over = bound_high v bound in absurd (omega arith)
              | inr free ↦ absurd (apart v (and_from (not (is_in v d.bound)) (list_any (in_atom v) d.atoms || list_any (is_free v) d.pure) (not_of_false free) i) fresh)
            ]
        | inr isnt ↦ sym (with_values-out e.bound q.at p.at v isnt)
      ]

      second : (v : Var) → IsTrue (list_any (in_atom v) e.atoms || list_any (is_free v) e.pure) → q.at v ≡ at v
      second v i = elim (bool_cases (is_in v e.bound)) [
        | inl is ↦ sym (with_values-in e.bound q.at p.at v is)
        | inr isnt ↦ elim (bool_cases (is_in v d.bound)) [
          | inl bound ↦ let over = bound_high v bound in let under = low v (stands_occurs v e i) in absurd (omega arith)
          | inr free ↦ q.same.same v isnt ∙ sym (p.same.same v free) ∙ sym (with_values-out e.bound q.at p.at v isnt)
        ]
      ]

      joined_holds : {h : Heap} → Parts h h1 h2 → DisjunctHolds x w h (joined_case d e)
      joined_holds parts = record {
        at = at;
        same = record {
          same = λ v out.
              let f : (is_in v d.bound || is_in v e.bound) ≡ false = sym (is_in-append v d.bound e.bound) ∙ out in
              with_values-out e.bound q.at p.at v (or_false_right (is_in v d.bound) (is_in v e.bound) f) ∙ p.same.same v (or_false_left (is_in v d.bound) (is_in v e.bound) f);
        };
        pure = AllTrue-append at d.pure e.pure
            (all_true_agrees d.pure p.at at (λ v i. first v (or_right (list_any (in_atom v) d.atoms) (list_any (is_free v) d.pure) i)) p.pure)
            (all_true_agrees e.pure q.at at (λ v i. second v (or_right (list_any (in_atom v) e.atoms) (list_any (is_free v) e.pure) i)) q.pure);
        atoms = atoms_join x at d.atoms e.atoms parts
            (atoms_agree x d.atoms p.at at h1 (λ v i. first v (or_left (list_any (in_atom v) d.atoms) (list_any (is_free v) d.pure) i)) p.atoms)
            (atoms_agree x e.atoms q.at at h2 (λ v i. second v (or_left (list_any (in_atom v) e.atoms) (list_any (is_free v) e.pure) i)) q.atoms);
      }

  joined_with_holds : (d : Disjunct) (es : List Disjunct) {h h1 h2 : Heap} → BindsFrom n d → FreeOfNew d → All LiesBelow es → All BindsNew es →
      Parts h h1 h2 → DisjunctHolds x w h1 d → SomeHolds x w h2 es → SomeHolds x w h (map (joined_case d) es)
  joined_with_holds d [] high apart lows news parts p q = absurd q
  joined_with_holds d (e ∷ es) high apart lows news parts p (inl q) = inl (joined_holds d e high apart (All-head LiesBelow e es lows) (All-head BindsNew e es news) p q parts)
  joined_with_holds d (e ∷ es) high apart lows news parts p (inr q) = inr (joined_with_holds d es high apart (All-tail LiesBelow e es lows) (All-tail BindsNew e es news) parts p q)

  pub all_joined_holds : (ds es : List Disjunct) {h h1 h2 : Heap} → All (BindsFrom n) ds → ((v : Var) → IsTrue (list_any (is_free_in_disjunct v) ds) → new v → ⊥) → All LiesBelow es → All BindsNew es →
      Parts h h1 h2 → SomeHolds x w h1 ds → SomeHolds x w h2 es → SomeHolds x w h (flat_map (λ d. map (joined_case d) es) ds)
  all_joined_holds [] es bounds apart lows news parts p q = absurd p
  all_joined_holds (d ∷ ds) es {h = h} bounds apart lows news parts (inl p) q =
      first_cases x w h (map (joined_case d) es) (flat_map (λ d. map (joined_case d) es) ds)
      (joined_with_holds d es (All-head (BindsFrom n) d ds bounds) (λ v i. apart v (or_left (is_free_in_disjunct v d) (list_any (is_free_in_disjunct v) ds) i)) lows news parts p q)
  all_joined_holds (d ∷ ds) es {h = h} bounds apart lows news parts (inr p) q =
      second_cases x w h (map (joined_case d) es) (flat_map (λ d. map (joined_case d) es) ds)
      (all_joined_holds ds es (All-tail (BindsFrom n) d ds bounds) (λ v i. apart v (or_right (is_free_in_disjunct v d) (list_any (is_free_in_disjunct v) ds) i)) lows news parts p q)
