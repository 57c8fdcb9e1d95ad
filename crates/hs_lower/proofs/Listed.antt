-- One more of a list.
use Rattle.std.proofs.Common.{◌≡◌, ℕ, ◌+◌, ◌<◌, List, [], ◌∷◌, ◌++◌, length, map, take, get_or, sym, ap, ◌∙◌}
use Rattle.std.specs.List.{fold}
use Rattle.std.proofs.lemmas.List.{map_more}
use Rattle.std.proofs.lemmas.List.Sums.{fold-append}

module _ {A B : Type 0} (f : A → B) (xs ys : List A) (i : ℕ) (x : A) (same : ys ≡ xs) (lt : i < length ys) (is : x ≡ get_or ys i x) where
  more : map f (take i xs) ++ f x ∷ [] ≡ map f (take (i + 1) xs)
  more = (λ j. map f (take i (sym same j)) ++ f (is j) ∷ []) ∙ sym (map_more f ys i x lt) ∙ (λ j. map f (take (i + 1) (same j)))

  pub mapped_more : (old new : List B) → old ≡ map f (take i xs) → new ≡ old ++ f x ∷ [] → new ≡ map f (take (i + 1) xs)
  mapped_more old new e h = h ∙ ap (λ bs. bs ++ f x ∷ []) e ∙ more

  pub folded_more : {C : Type 0} (g : C → B → C) (z old new : C) → old ≡ fold g z (map f (take i xs)) → new ≡ g old (f x) → new ≡ fold g z (map f (take (i + 1) xs))
  folded_more g z old new e h = h ∙ ap (λ c. g c (f x)) e ∙ sym (fold-append g z (map f (take i xs)) (f x ∷ [])) ∙ ap (fold g z) more
