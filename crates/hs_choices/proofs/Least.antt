-- The open variable of the least number, one variable after another.
use Rattle.std.proofs.Common.{◌≡◌, ℕ, ◌+◌, ◌<◌, ◌≤◌, nat_le, Bool, true, false, ◌||◌, ◌⊎◌, inl, inr, IsTrue, List, [], ◌∷◌, ◌++◌, length, get_or, take, Option, Some, None, refl, sym, ◌∙◌, subst, arith}
use Rattle.std.proofs.lemmas.Bool.{or_cases}
use Rattle.std.proofs.lemmas.Bool.Decides.{nat_tests}
use Rattle.std.proofs.lemmas.List.{take_more}
use Rattle.std.proofs.lemmas.List.Folds.{list_any-append}
use Rattle.hs_pure.specs.declared.var.Var.{Var}
use Rattle.hs_pure.specs.declared.pure.Pure.{Pure}
use Rattle.hs_pure.specs.Stack.{same}
use Rattle.hs_pure.specs.Occurs.{is_free}
use Rattle.hs_pure.proofs.Vars.{or_left, or_right}
use Rattle.hs_heap.specs.Meaning.{is_in}
use Rattle.hs_heap.proofs.Booleans.{bool_cases, or_false_left, or_false_right, clash}
use Rattle.hs_heap.proofs.Stacks.{same_true, same_itself}
use Rattle.hs_rules.specs.Parts.{has_open}
use Rattle.hs_rules.proofs.Variables.{is_in-append, only_first}
use Rattle.hs_choices.specs.Stuck.{lesser, least_with, IsLeastOpen, IsLeastOf}

-- one of them is open
none_open : (p : Pure) (vs : List Var) (w : Var) → has_open vs p ≡ false → IsTrue (is_in w vs) → IsTrue (is_free w p) → ⊥
none_open p [] w e i f = absurd cc
none_open p (v ∷ vs) w e i f = elim (or_cases (same w v) (is_in w vs) i) [
  | inl here ↦ (let g : is_free v p ≡ true = subst (λ u. is_free u p ≡ true) (same_true w v here) f in clash g (or_false_left (is_free v p) (has_open vs p) e))
  | inr later ↦ none_open p vs w (or_false_right (is_free v p) (has_open vs p) e) later f
]

module _ (p : Pure) (vs : List Var) (v : Var) where
  abbrev More : List Var
  More = vs ++ v ∷ []

  before : (w : Var) → IsTrue (is_in w vs) → IsTrue (is_in w More)
  before w i = is_in-append w vs (v ∷ []) ∙ or_left (is_in w vs) (is_in w (v ∷ [])) i

  last : IsTrue (is_in v More)
  last = is_in-append v vs (v ∷ []) ∙ or_right (is_in v vs) (is_in v (v ∷ [])) (or_left (same v v) false (same_itself v))

  either : (w : Var) → IsTrue (is_in w More) → IsTrue (is_in w vs) ⊎ (w ≡ v)
  either w i = elim (or_cases (is_in w vs) (is_in w (v ∷ [])) (sym (is_in-append w vs (v ∷ [])) ∙ i)) [
    | inl there ↦ inl there
    | inr here ↦ inr (same_true w v (only_first (same w v) here))
  ]

  -- v has the least number
  v_least : is_free v p ≡ true → ((w : Var) → IsTrue (is_in w vs) → IsTrue (is_free w p) → v.number ≤ w.number) → IsLeastOpen More p v
  v_least free less = record {
    opened = last;
    free = free;
    least = λ w i f. elim (either w i) [ inl there ↦ less w there f | inr is ↦ subst (λ (u : Var). v.number ≤ u.number) (sym is) (let e : v.number ≤ v.number = omega arith in e) ];
  }

  free_more : (o : Option Var) → is_free v p ≡ true → IsLeastOf vs p o → IsLeastOpen More p (lesser o v)
  free_more None free h = v_least free (λ w i f. absurd (none_open p vs w h i f))
  free_more (Some u) free h = elim (bool_cases (nat_le u.number v.number)) [
    | inl is ↦
        let le : u.number ≤ v.number = grind (arith, nat_tests) in
        rw is (record {
          opened = before u h.opened;
          free = h.free;
          least = λ w i f. elim (either w i) [ inl there ↦ h.least w there f | inr here ↦ subst (λ (x : Var). u.number ≤ x.number) (sym here) le ];
        })
    | inr isnt ↦
        let le : v.number ≤ u.number = grind (arith, nat_tests) in
        rw isnt (v_least free (λ w i f. let more = h.least w i f in omega arith))
  ]

  other_more : (o : Option Var) → is_free v p ≡ false → IsLeastOf vs p o → IsLeastOf More p o
  other_more None bound h = list_any-append (λ u. is_free u p) vs (v ∷ []) ∙ none (has_open vs p) (is_free v p) h bound
    where
      none : (a b : Bool) → a ≡ false → b ≡ false → (a || (b || false)) ≡ false
      none true b e f = absurd cc
      none false true e f = absurd cc
      none false false e f = refl
  other_more (Some u) bound h = record {
    opened = before u h.opened;
    free = h.free;
    least = λ w i f. elim (either w i) [ inl there ↦ h.least w there f | inr here ↦ absurd (let g : is_free v p ≡ true = subst (λ x. is_free x p ≡ true) here f in clash g bound) ];
  }

  more : (o : Option Var) → IsLeastOf vs p o → IsLeastOf More p (least_with p o v)
  more o h = elim (bool_cases (is_free v p)) [
    | inl is ↦ rw is (free_more o is h)
    | inr isnt ↦ rw isnt (other_more o isnt h)
  ]

-- one more of the open variables
pub least_more : (opens : List Var) (p : Pure) (i : ℕ) (d : Var) (o : Option Var) → i < length opens → IsLeastOf (take i opens) p o → IsLeastOf (take (i + 1) opens) p (least_with p o (get_or opens i d))
least_more opens p i d o less h =
    subst (λ vs. IsLeastOf vs p (least_with p o (get_or opens i d))) (sym (take_more opens i d less)) (more p (take i opens) (get_or opens i d) o h)
