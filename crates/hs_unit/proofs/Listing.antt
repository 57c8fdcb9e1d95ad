-- The values of the pivots, one after another.
use Rattle.std.proofs.Common.{◌≡◌, ℕ, ◌+◌, ◌<◌, ◌≤◌, List, [], ◌∷◌, ◌++◌, length, get_or, drop, Option, refl, sym, ap, ◌∙◌, inl, inr, ◌⊎◌}
use Rattle.std.proofs.lemmas.List.{append_assoc, drop_more, drop_all}
use Rattle.hs_pure.specs.declared.lin.Lin.{Lin}
use Rattle.hs_unit.specs.Reduction.{Term}
use Rattle.hs_unit.specs.Settling.{pivot_value, pivot_values}

append-nil : (xs : List Term) → xs ++ [] ≡ xs
append-nil [] = refl
append-nil (x ∷ xs) = ap (λ (ys : List Term). x ∷ ys) (append-nil xs)

none-left : (e : Option Term) (ps : List (Option Term)) → pivot_values e ps [] ≡ []
none-left e [] = refl
none-left e (p ∷ ps) = refl

module _ (e : Option Term) (ps : List (Option Term)) (fs : List Lin) (done now all : List Term) (i : ℕ) (d : Option Term) (g f : Lin) where
  pub value-next : i < length ps → i < length fs → f ≡ get_or fs i g → now ≡ done ++ pivot_value e (get_or ps i d) f → done ++ pivot_values e (drop i ps) (drop i fs) ≡ all
      → now ++ pivot_values e (drop (i + 1) ps) (drop (i + 1) fs) ≡ all
  value-next p q at is same =
      let later = pivot_values e (drop (i + 1) ps) (drop (i + 1) fs) in
      let step : pivot_values e (drop i ps) (drop i fs) ≡ pivot_value e (get_or ps i d) (get_or fs i g) ++ later = λ j. pivot_values e (drop_more ps i d p j) (drop_more fs i g q j) in
      ap (λ (xs : List Term). xs ++ later) (is ∙ ap (λ (a : Lin). done ++ pivot_value e (get_or ps i d) a) at)
      ∙ append_assoc done (pivot_value e (get_or ps i d) (get_or fs i g)) later
      ∙ ap (λ (xs : List Term). done ++ xs) (sym step) ∙ same

pub values-end : (e : Option Term) (ps : List (Option Term)) (fs : List Lin) (done all : List Term) (i : ℕ) → (length ps ≤ i) ⊎ (length fs ≤ i) → done ++ pivot_values e (drop i ps) (drop i fs) ≡ all → done ≡ all
values-end e ps fs done all i (inl h) same = sym (append-nil done) ∙ ap (λ (qs : List (Option Term)). done ++ pivot_values e qs (drop i fs)) (sym (drop_all i ps h)) ∙ same
values-end e ps fs done all i (inr h) same = sym (append-nil done) ∙ ap (λ (xs : List Term). done ++ xs) (sym (none-left e (drop i ps)) ∙ ap (pivot_values e (drop i ps)) (sym (drop_all i fs h))) ∙ same
