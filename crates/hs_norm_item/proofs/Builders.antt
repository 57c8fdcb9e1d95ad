-- Loops that build.
use Rattle.std.proofs.Common.{◌≡◌, ℕ, ◌+◌, ◌<◌, List, [], ◌∷◌, ◌++◌, length, take, get_or, sym, ◌∙◌, min, arith}
use Rattle.std.specs.List.{zip}
use Rattle.std.proofs.lemmas.List.Sums.{fold_more}
use Rattle.std.proofs.lemmas.Slice.Zip.{get_or-zip, length-zip}
use Rattle.hs_numbering.specs.declared.numbering.Numbering.{Numbering}
use Rattle.hs_numbering.specs.Numbering.{Builder, each}

-- one more of two lists side by side, where what is built says nothing
module _ {A B C : Type 0} (f : A × B → Builder C) where
  abbrev push_both : List C × Numbering → A × B → List C × Numbering
  push_both done x = (done.0 ++ (f x done.1).0 ∷ [], (f x done.1).1)

  within : (k m n i : ℕ) → k ≡ min m n → i < m → i < n → i < k
  within k m n i e h g = omega arith

  pub stepped_zip : (xs : List A) (ys : List B) (i : ℕ) (a : A) (b : B) (n0 n m : Numbering) (c : C) → i < length xs → i < length ys →
      n ≡ (each f (take i (zip xs ys)) n0).1 → (c, m) ≡ f (get_or xs i a, get_or ys i b) n → m ≡ (each f (take (i + 1) (zip xs ys)) n0).1
  stepped_zip xs ys i a b n0 n m c lt lt2 e h =
      (λ j. (h j).1) ∙ (λ j. (f (sym (get_or-zip xs ys i (a, b) lt lt2) j) (e j)).1)
      ∙ sym (λ j. (fold_more push_both ([], n0) (zip xs ys) i (a, b) (within (length (zip xs ys)) (length xs) (length ys) i (length-zip xs ys) lt lt2) j).1)
