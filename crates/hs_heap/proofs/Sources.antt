-- What is free in a renamed formula is what some free variable becomes, and so for what is bound and what occurs.
use Rattle.std.proofs.Common.{◌≡◌, ℤ, pos, ◌+ℤ◌, Bool, true, false, not, ◌&&◌, ◌||◌, nat_lt, IsTrue, ◌⊎◌, inl, inr, List, [], ◌∷◌, map, refl, sym, ap, ◌∙◌, subst}
use Rattle.std.specs.List.{list_any, fold}
use Rattle.std.specs.Ordering.{int_eq}
use Rattle.std.proofs.lemmas.Bool.{or_cases, and_parts, and_from}
use Rattle.hs_pure.specs.declared.var.Var.{Var}
use Rattle.hs_pure.specs.declared.lin.Lin.{Lin}
use Rattle.hs_pure.specs.declared.pure.Pure.{Pure}
use Rattle.hs_pure.specs.Stack.{same}
use Rattle.hs_pure.specs.Assertion.{BagTerm, empty, name, one, union, inter, diff, Assertion, truth, eq, lt, le, divides, bag_eq, subset, member, all_of, negation, both, either, exists, forall, assertion_of}
use Rattle.hs_pure.specs.Occurs.{in_lin, is_free, is_bound, occurs}
use Rattle.hs_pure.specs.Rename.{add_term, renamed_lin, renamed}
use Rattle.hs_pure.specs.Mirror.{in_bag_term, is_free_in, is_bound_in, renamed_term, renamed_assertion}
use Rattle.hs_pure.proofs.Mirrored.{is_free-is, is_bound-is}
use Rattle.hs_pure.proofs.Renamed.{assertion_of-renamed}
use Rattle.hs_pure.proofs.Vars.{or_left, or_right}
use Rattle.hs_heap.specs.declared.formula.Atom.{Atom}
use Rattle.hs_heap.specs.declared.formula.Disjunct.{Disjunct}
use Rattle.hs_heap.specs.Meaning.{is_in}
use Rattle.hs_heap.specs.Variables.{in_atom, is_free_in_disjunct, occurs_in_disjunct}
use Rattle.hs_heap.proofs.Stacks.{same_true, same_itself, same_is}
use Rattle.hs_heap.specs.Renamed.{renamed_atom, renamed_disjunct, is_bound_in_disjunct, IsImage}
use Rattle.hs_heap.proofs.Occurring.{occurs-splits}
use Rattle.hs_heap.proofs.Booleans.{bool_cases, clash, false_of_not, not_of_false}

abbrev listed : Var → List (Var × ℤ) → Bool
listed v ts = list_any (λ t. same t.0 v) ts

added : (u : Var) (c : ℤ) (ts : List (Var × ℤ)) (v : Var) → IsTrue (listed v (add_term u c ts)) → (same u v ≡ true) ⊎ IsTrue (listed v ts)
added u c [] v e = elim (or_cases (same u v) false e) [ inl k ↦ inl k | inr k ↦ absurd cc ]
added u c (t ∷ ts) v e = elim (bool_cases (nat_lt t.0.number u.number)) [
  | inl lower ↦
      let f : IsTrue (listed v (t ∷ add_term u c ts)) = subst (λ l. IsTrue (listed v l)) (at_lower lower) e in
      elim (or_cases (same t.0 v) (listed v (add_term u c ts)) f) [
        | inl k ↦ inr (or_left (same t.0 v) (listed v ts) k)
        | inr k ↦ elim (added u c ts v k) [ inl m ↦ inl m | inr m ↦ inr (or_right (same t.0 v) (listed v ts) m) ]
      ]
  | inr upper ↦ elim (bool_cases (same t.0 u)) [
    | inl there ↦ elim (bool_cases (int_eq (t.1 +ℤ c) (pos 0))) [
      | inl gone ↦ inr (or_right (same t.0 v) (listed v ts) (subst (λ l. IsTrue (listed v l)) (at_gone upper there gone) e))
      | inr left ↦ elim (or_cases (same u v) (listed v ts) (subst (λ l. IsTrue (listed v l)) (at_kept upper there left) e)) [
        | inl k ↦ inl k
        | inr k ↦ inr (or_right (same t.0 v) (listed v ts) k)
      ]
    ]
    | inr other ↦ elim (or_cases (same u v) (listed v (t ∷ ts)) (subst (λ l. IsTrue (listed v l)) (at_other upper other) e)) [ inl k ↦ inl k | inr k ↦ inr k ]
  ]
]
  where
    at_lower : nat_lt t.0.number u.number ≡ true → add_term u c (t ∷ ts) ≡ t ∷ add_term u c ts
    at_lower h = rw h refl

    at_gone : nat_lt t.0.number u.number ≡ false → same t.0 u ≡ true → int_eq (t.1 +ℤ c) (pos 0) ≡ true → add_term u c (t ∷ ts) ≡ ts
    at_gone h k l = rw (h, k, l) refl

    at_kept : nat_lt t.0.number u.number ≡ false → same t.0 u ≡ true → int_eq (t.1 +ℤ c) (pos 0) ≡ false → add_term u c (t ∷ ts) ≡ (u, t.1 +ℤ c) ∷ ts
    at_kept h k l = rw (h, k, l) refl

    at_other : nat_lt t.0.number u.number ≡ false → same t.0 u ≡ false → add_term u c (t ∷ ts) ≡ (u, c) ∷ t ∷ ts
    at_other h k = rw (h, k) refl

pub source_left : (ρ : Var → Var) (p q : Var → Bool) (v : Var) → IsImage ρ p v → IsImage ρ (λ w. p w || q w) v
source_left ρ p q v s = (s.0, or_left (p s.0) (q s.0) s.1, s.2)

pub source_right : (ρ : Var → Var) (p q : Var → Bool) (v : Var) → IsImage ρ q v → IsImage ρ (λ w. p w || q w) v
source_right ρ p q v s = (s.0, or_right (p s.0) (q s.0) s.1, s.2)

module _ (ρ : Var → Var) where
  terms_source : (ts sum : List (Var × ℤ)) (v : Var) → IsTrue (listed v (fold (λ sum t. add_term (ρ t.0) t.1 sum) sum ts)) → IsImage ρ (λ w. listed w ts) v ⊎ IsTrue (listed v sum)
  terms_source [] sum v e = inr e
  terms_source (t ∷ ts) sum v e = elim (terms_source ts (add_term (ρ t.0) t.1 sum) v e) [
    | inl s ↦ inl (source_right ρ (λ w. same t.0 w) (λ w. listed w ts) v s)
    | inr k ↦ elim (added (ρ t.0) t.1 sum v k) [
      | inl is ↦ inl (t.0, or_left (same t.0 t.0) (listed t.0 ts) (same_itself t.0), sym (same_true (ρ t.0) v is))
      | inr m ↦ inr m
    ]
  ]

  lin_source : (a : Lin) (v : Var) → IsTrue (in_lin v (renamed_lin ρ a)) → IsImage ρ (λ w. in_lin w a) v
  lin_source a v e = elim (terms_source a.terms [] v e) [ inl s ↦ s | inr k ↦ absurd cc ]

  either_source : (p q : Var → Bool) (v : Var) (b c : Bool) → (b ≡ true → IsImage ρ p v) → (c ≡ true → IsImage ρ q v) → IsTrue (b || c) → IsImage ρ (λ w. p w || q w) v
  either_source p q v b c f g e = elim (or_cases b c e) [ inl k ↦ source_left ρ p q v (f k) | inr k ↦ source_right ρ p q v (g k) ]

  term_source : (b : BagTerm) (v : Var) → IsTrue (in_bag_term v (renamed_term ρ b)) → IsImage ρ (λ w. in_bag_term w b) v
  term_source empty v e = absurd cc
  term_source (name u) v e = (u, same_itself u, sym (same_true (ρ u) v e))
  term_source (one a) v e = lin_source a v e
  term_source (union a b) v e = either_source (λ w. in_bag_term w a) (λ w. in_bag_term w b) v _ _ (term_source a v) (term_source b v) e
  term_source (inter a b) v e = either_source (λ w. in_bag_term w a) (λ w. in_bag_term w b) v _ _ (term_source a v) (term_source b v) e
  term_source (diff a b) v e = either_source (λ w. in_bag_term w a) (λ w. in_bag_term w b) v _ _ (term_source a v) (term_source b v) e

  -- below a quantifier
  under_source : (u : Var) (p : Assertion) (v : Var) → (IsTrue (is_free_in v (renamed_assertion ρ p)) → IsImage ρ (λ w. is_free_in w p) v) →
      IsTrue (not (same (ρ u) v) && is_free_in v (renamed_assertion ρ p)) → IsImage ρ (λ w. not (same u w) && is_free_in w p) v
  under_source u p v ih e =
      let parts = and_parts (not (same (ρ u) v)) (is_free_in v (renamed_assertion ρ p)) e in
      let s = ih parts.1 in
      let other : same u s.0 ≡ false = elim (bool_cases (same u s.0)) [
        | inl is ↦ clash (same_is (ρ u) v (ap ρ (same_true u s.0 is) ∙ sym s.2)) (false_of_not parts.0)
        | inr isnt ↦ isnt
      ] in
      (s.0, and_from (not (same u s.0)) (is_free_in s.0 p) (not_of_false other) s.1, s.2)

  assertion_source : (p : Assertion) (v : Var) → IsTrue (is_free_in v (renamed_assertion ρ p)) → IsImage ρ (λ w. is_free_in w p) v
  assertion_source truth v e = absurd cc
  assertion_source (eq a b) v e = either_source (λ w. in_lin w a) (λ w. in_lin w b) v _ _ (lin_source a v) (lin_source b v) e
  assertion_source (lt a b) v e = either_source (λ w. in_lin w a) (λ w. in_lin w b) v _ _ (lin_source a v) (lin_source b v) e
  assertion_source (le a b) v e = either_source (λ w. in_lin w a) (λ w. in_lin w b) v _ _ (lin_source a v) (lin_source b v) e
  assertion_source (divides d a) v e = lin_source a v e
  assertion_source (bag_eq a b) v e = either_source (λ w. in_bag_term w a) (λ w. in_bag_term w b) v _ _ (term_source a v) (term_source b v) e
  assertion_source (subset a b) v e = either_source (λ w. in_bag_term w a) (λ w. in_bag_term w b) v _ _ (term_source a v) (term_source b v) e
  assertion_source (member a b) v e = either_source (λ w. in_lin w a) (λ w. in_bag_term w b) v _ _ (lin_source a v) (term_source b v) e
  assertion_source (all_of u b p) v e = either_source (λ w. in_bag_term w b) (λ w. not (same u w) && is_free_in w p) v _ _ (term_source b v) (under_source u p v (assertion_source p v)) e
  assertion_source (negation p) v e = assertion_source p v e
  assertion_source (both p q) v e = either_source (λ w. is_free_in w p) (λ w. is_free_in w q) v _ _ (assertion_source p v) (assertion_source q v) e
  assertion_source (either p q) v e = either_source (λ w. is_free_in w p) (λ w. is_free_in w q) v _ _ (assertion_source p v) (assertion_source q v) e
  assertion_source (exists u p) v e = under_source u p v (assertion_source p v) e
  assertion_source (forall u p) v e = under_source u p v (assertion_source p v) e

  pure_source : (p : Pure) (v : Var) → IsTrue (is_free v (renamed ρ p)) → IsImage ρ (λ w. is_free w p) v
  pure_source p v e =
      let s = assertion_source (assertion_of p) v (subst (λ q. IsTrue (is_free_in v q)) (assertion_of-renamed ρ p) (subst IsTrue (is_free-is v (renamed ρ p)) e)) in
      (s.0, subst IsTrue (sym (is_free-is s.0 p)) s.1, s.2)

  -- what a quantifier or an AllOf binds
  binder_source : (u : Var) (p : Assertion) (v : Var) → (IsTrue (is_bound_in v (renamed_assertion ρ p)) → IsImage ρ (λ w. is_bound_in w p) v) →
      IsTrue (same (ρ u) v || is_bound_in v (renamed_assertion ρ p)) → IsImage ρ (λ w. same u w || is_bound_in w p) v
  binder_source u p v ih e = either_source (λ w. same u w) (λ w. is_bound_in w p) v _ _ (λ k. (u, same_itself u, sym (same_true (ρ u) v k))) ih e

  bound_source : (p : Assertion) (v : Var) → IsTrue (is_bound_in v (renamed_assertion ρ p)) → IsImage ρ (λ w. is_bound_in w p) v
  bound_source truth v e = absurd cc
  bound_source (eq a b) v e = absurd cc
  bound_source (lt a b) v e = absurd cc
  bound_source (le a b) v e = absurd cc
  bound_source (divides d a) v e = absurd cc
  bound_source (bag_eq a b) v e = absurd cc
  bound_source (subset a b) v e = absurd cc
  bound_source (member a b) v e = absurd cc
  bound_source (all_of u b p) v e = binder_source u p v (bound_source p v) e
  bound_source (negation p) v e = bound_source p v e
  bound_source (both p q) v e = either_source (λ w. is_bound_in w p) (λ w. is_bound_in w q) v _ _ (bound_source p v) (bound_source q v) e
  bound_source (either p q) v e = either_source (λ w. is_bound_in w p) (λ w. is_bound_in w q) v _ _ (bound_source p v) (bound_source q v) e
  bound_source (exists u p) v e = binder_source u p v (bound_source p v) e
  bound_source (forall u p) v e = binder_source u p v (bound_source p v) e

  pure_bound_source : (p : Pure) (v : Var) → IsTrue (is_bound v (renamed ρ p)) → IsImage ρ (λ w. is_bound w p) v
  pure_bound_source p v e =
      let s = bound_source (assertion_of p) v (subst (λ q. IsTrue (is_bound_in v q)) (assertion_of-renamed ρ p) (subst IsTrue (is_bound-is v (renamed ρ p)) e)) in
      (s.0, subst IsTrue (sym (is_bound-is s.0 p)) s.1, s.2)

  pure_occurs_source : (p : Pure) (v : Var) → IsTrue (occurs v (renamed ρ p)) → IsImage ρ (λ w. occurs w p) v
  pure_occurs_source p v e =
      let s = either_source (λ w. is_free w p) (λ w. is_bound w p) v _ _ (pure_source p v) (pure_bound_source p v) (subst IsTrue (occurs-splits v (renamed ρ p)) e) in
      (s.0, subst IsTrue (sym (occurs-splits s.0 p)) s.1, s.2)

  pub list_source : (vs : List Var) (v : Var) → is_in v (map ρ vs) ≡ true → IsImage ρ (λ w. is_in w vs) v
  list_source [] v e = absurd cc
  list_source (u ∷ us) v e = elim (or_cases (same v (ρ u)) (is_in v (map ρ us)) e) [
    | inl is ↦ (u, or_left (same u u) (is_in u us) (same_itself u), same_true v (ρ u) is)
    | inr is ↦ source_right ρ (λ w. same w u) (λ w. is_in w us) v (list_source us v is)
  ]

  pub list_image : (vs : List Var) (w : Var) → is_in w vs ≡ true → is_in (ρ w) (map ρ vs) ≡ true
  list_image [] w e = absurd cc
  list_image (u ∷ us) w e = elim (or_cases (same w u) (is_in w us) e) [
    | inl is ↦ or_left (same (ρ w) (ρ u)) (is_in (ρ w) (map ρ us)) (same_is (ρ w) (ρ u) (ap ρ (same_true w u is)))
    | inr is ↦ or_right (same (ρ w) (ρ u)) (is_in (ρ w) (map ρ us)) (list_image us w is)
  ]

  module _ {X : Type 0} (test : Var → X → Bool) (put : X → X) (source : (x : X) (v : Var) → IsTrue (test v (put x)) → IsImage ρ (λ w. test w x) v) where
    some_source : (xs : List X) (v : Var) → IsTrue (list_any (test v) (map put xs)) → IsImage ρ (λ w. list_any (test w) xs) v
    some_source [] v e = absurd cc
    some_source (x ∷ xs) v e = either_source (λ w. test w x) (λ w. list_any (test w) xs) v _ _ (source x v) (some_source xs v) e

  atom_source : (a : Atom) (v : Var) → IsTrue (in_atom v (renamed_atom ρ a)) → IsImage ρ (λ w. in_atom w a) v
  atom_source a v e = either_source (λ w. same w a.root) (λ w. is_in w a.args) v _ _ (λ k. (a.root, same_itself a.root, same_true v (ρ a.root) k)) (list_source a.args v) e

  atoms_source : (atoms : List Atom) (v : Var) → IsTrue (list_any (in_atom v) (map (renamed_atom ρ) atoms)) → IsImage ρ (λ w. list_any (in_atom w) atoms) v
  atoms_source = some_source in_atom (renamed_atom ρ) atom_source

  -- of what stands in a disjunct
  pub stands_source : (d : Disjunct) (v : Var) → IsTrue (list_any (in_atom v) (map (renamed_atom ρ) d.atoms) || list_any (is_free v) (map (renamed ρ) d.pure)) →
      IsImage ρ (λ w. list_any (in_atom w) d.atoms || list_any (is_free w) d.pure) v
  stands_source d v e = either_source (λ w. list_any (in_atom w) d.atoms) (λ w. list_any (is_free w) d.pure) v _ _ (atoms_source d.atoms v) (some_source is_free (renamed ρ) pure_source d.pure v) e

  pub disjunct_source : (d : Disjunct) (v : Var) → IsTrue (is_free_in_disjunct v (renamed_disjunct ρ d)) → IsImage ρ (λ w. is_free_in_disjunct w d) v
  disjunct_source d v e =
      let parts = and_parts (not (is_in v (map ρ d.bound))) (list_any (in_atom v) (map (renamed_atom ρ) d.atoms) || list_any (is_free v) (map (renamed ρ) d.pure)) e in
      let s = stands_source d v parts.1 in
      let out : is_in s.0 d.bound ≡ false = elim (bool_cases (is_in s.0 d.bound)) [
        | inl is ↦ clash (subst (λ u. is_in u (map ρ d.bound) ≡ true) (sym s.2) (list_image d.bound s.0 is)) (false_of_not parts.0)
        | inr isnt ↦ isnt
      ] in
      (s.0, and_from (not (is_in s.0 d.bound)) (list_any (in_atom s.0) d.atoms || list_any (is_free s.0) d.pure) (not_of_false out) s.1, s.2)

  disjunct_bound_source : (d : Disjunct) (v : Var) → IsTrue (is_bound_in_disjunct v (renamed_disjunct ρ d)) → IsImage ρ (λ w. is_bound_in_disjunct w d) v
  disjunct_bound_source d v e = either_source (λ w. is_in w d.bound) (λ w. list_any (is_bound w) d.pure) v _ _ (list_source d.bound v) (some_source is_bound (renamed ρ) pure_bound_source d.pure v) e

  disjunct_occurs_source : (d : Disjunct) (v : Var) → IsTrue (occurs_in_disjunct v (renamed_disjunct ρ d)) → IsImage ρ (λ w. occurs_in_disjunct w d) v
  disjunct_occurs_source d v e = either_source (λ w. is_in w d.bound) (λ w. list_any (in_atom w) d.atoms || list_any (occurs w) d.pure) v _ _ (list_source d.bound v)
      (λ k. either_source (λ w. list_any (in_atom w) d.atoms) (λ w. list_any (occurs w) d.pure) v _ _ (atoms_source d.atoms v) (some_source occurs (renamed ρ) pure_occurs_source d.pure v) k) e

  pub cases_source : (ds : List Disjunct) (v : Var) → IsTrue (list_any (is_free_in_disjunct v) (map (renamed_disjunct ρ) ds)) → IsImage ρ (λ w. list_any (is_free_in_disjunct w) ds) v
  cases_source = some_source is_free_in_disjunct (renamed_disjunct ρ) disjunct_source

  pub cases_bound_source : (ds : List Disjunct) (v : Var) → IsTrue (list_any (is_bound_in_disjunct v) (map (renamed_disjunct ρ) ds)) → IsImage ρ (λ w. list_any (is_bound_in_disjunct w) ds) v
  cases_bound_source = some_source is_bound_in_disjunct (renamed_disjunct ρ) disjunct_bound_source

  pub cases_occurs_source : (ds : List Disjunct) (v : Var) → IsTrue (list_any (occurs_in_disjunct v) (map (renamed_disjunct ρ) ds)) → IsImage ρ (λ w. list_any (occurs_in_disjunct w) ds) v
  cases_occurs_source = some_source occurs_in_disjunct (renamed_disjunct ρ) disjunct_occurs_source
