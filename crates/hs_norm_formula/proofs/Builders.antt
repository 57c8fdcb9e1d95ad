-- Loops that build.
use Rattle.std.proofs.Common.{◌≡◌, ℕ, ◌+◌, ◌<◌, List, [], ◌∷◌, ◌++◌, length, map, take, get_or, sym, subst, ◌∙◌, arith, ap, min}
use Rattle.std.specs.List.{zip, flat_map}
use Rattle.std.proofs.lemmas.List.{flat_map_more}
use Rattle.hs_pure.proofs.Lists.{map-take_more}
use Rattle.std.proofs.lemmas.List.Sums.{fold_more, fold_push}
use Rattle.std.proofs.lemmas.Slice.Zip.{get_or-zip, length-zip}
use Rattle.hs_numbering.specs.declared.numbering.Numbering.{Numbering}
use Rattle.hs_numbering.specs.Numbering.{Builder, each}

module _ {A B : Type 0} (f : A → Builder B) where
  step : List B × Numbering → A → List B × Numbering
  step done x = (done.0 ++ (f x done.1).0 ∷ [], (f x done.1).1)

  -- one more is built and pushed
  pub pushed : (xs : List A) (i : ℕ) (d : A) (n0 n m : Numbering) (ys zs : List B) (y : B) → i < length xs →
      (ys, n) ≡ each f (take i xs) n0 → (y, m) ≡ f (get_or xs i d) n → zs ≡ ys ++ y ∷ [] → (zs, m) ≡ each f (take (i + 1) xs) n0
  unfolding step
  pushed xs i d n0 n m ys zs y lt e h p =
      (λ j. (p j, m)) ∙ (λ j. (ys ++ (h j).0 ∷ [], (h j).1)) ∙ (λ j. step (e j) (get_or xs i d)) ∙ sym (fold_more step ([], n0) xs i d lt)

module _ {A B C : Type 0} (f : A × B → Builder C) where
  pub pushed_zip : (xs : List A) (ys : List B) (i : ℕ) (a : A) (b : B) (n0 n m : Numbering) (cs ds : List C) (c : C) → i < length xs → i < length ys →
      (cs, n) ≡ each f (take i (zip xs ys)) n0 → (c, m) ≡ f (get_or xs i a, get_or ys i b) n → ds ≡ cs ++ c ∷ [] → (ds, m) ≡ each f (take (i + 1) (zip xs ys)) n0
  pushed_zip xs ys i a b n0 n m cs ds c lt lt2 e h p =
      pushed f (zip xs ys) i (a, b) n0 n m cs ds c (within (length (zip xs ys)) (length xs) (length ys) i (length-zip xs ys) lt lt2) e
      (subst (λ z. (c, m) ≡ f z n) (sym (get_or-zip xs ys i (a, b) lt lt2)) h) p
    where
      within : (k m n i : ℕ) → k ≡ min m n → i < m → i < n → i < k
      within k m n i e h g = omega arith

-- what parts give is spliced, one after another
module _ {X A B C : Type 0} (h : X → A) (f : A → Builder B) (g : B → List C) where
  abbrev pub spliced : List X → Numbering → List C × Numbering
  spliced xs n = (flat_map g (each f (map h xs) n).0, (each f (map h xs) n).1)

  each_more : (xs : List X) (i : ℕ) (d : X) (n0 : Numbering) → i < length xs →
      each f (map h (take (i + 1) xs)) n0 ≡ ((each f (map h (take i xs)) n0).0 ++ (f (h (get_or xs i d)) (each f (map h (take i xs)) n0).1).0 ∷ [], (f (h (get_or xs i d)) (each f (map h (take i xs)) n0).1).1)
  each_more xs i d n0 lt = ap (λ ys. each f ys n0) (map-take_more h xs i d lt) ∙ fold_push (λ (done : List B × Numbering) x. (done.0 ++ (f x done.1).0 ∷ [], (f x done.1).1)) ([], n0) (map h (take i xs)) (h (get_or xs i d))

  pub spliced_more : (xs : List X) (i : ℕ) (d : X) (n0 n m : Numbering) (zs ws : List C) (y : B) → i < length xs →
      (zs, n) ≡ spliced (take i xs) n0 → (y, m) ≡ f (h (get_or xs i d)) n → ws ≡ zs ++ g y → (ws, m) ≡ spliced (take (i + 1) xs) n0
  spliced_more xs i d n0 n m zs ws y lt e is p =
      let at : (y, m) ≡ f (h (get_or xs i d)) (each f (map h (take i xs)) n0).1 = is ∙ (λ j. f (h (get_or xs i d)) (e j).1) in
      let all : ws ≡ flat_map g ((each f (map h (take i xs)) n0).0 ++ (f (h (get_or xs i d)) (each f (map h (take i xs)) n0).1).0 ∷ [])
      = p ∙ (λ j. (e j).0 ++ g (at j).0) ∙ flat_map_more g [] (each f (map h (take i xs)) n0).0 (f (h (get_or xs i d)) (each f (map h (take i xs)) n0).1).0 in
      (λ j. (all j, (at j).1)) ∙ (λ j. (flat_map g (sym (each_more xs i d n0 lt) j).0, (sym (each_more xs i d n0 lt) j).1))
