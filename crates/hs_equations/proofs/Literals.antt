-- Comparisons as rows, over the numbers that their sums are worth, and lists of claims.
use Rattle.std.proofs.Common.{◌≡◌, ℕ, ◌+◌, ◌<◌, ◌≤◌, true, false, List, [], ◌∷◌, ◌++◌, length, get_or, take, ◌⊎◌, inl, inr, ⊎_elim, sym, ap, ◌∙◌, subst, arith, ℤ, pos, negsuc, ◌+ℤ◌, ◌*ℤ◌, ◌≤ℤ◌, ◌<ℤ◌}
use Rattle.std.specs.Ordering.{int_eq}
use Rattle.std.specs.List.{All, Any}
use Rattle.std.proofs.lemmas.Int.{ints}
use Rattle.std.proofs.lemmas.Bool.Decides.{Decides-int_eq}
use Rattle.std.proofs.lemmas.Bool.{false≢true}
use Rattle.std.proofs.lemmas.List.{take_more, take_all}
use Rattle.hs_pure.proofs.Truths.{Any-first, Any-later, Any-cases, Any-nil}

difference_zero : (k b a r : ℤ) → k ≡ negsuc 0 → r ≡ k *ℤ b +ℤ a → a ≡ b → r ≡ pos 0
difference_zero k b a r k_is r_is e = r_is ∙ ap (λ z. z *ℤ b +ℤ a) k_is ∙ plain b a e
  where
    plain : (b a : ℤ) → a ≡ b → negsuc 0 *ℤ b +ℤ a ≡ pos 0
    plain b a e = omega (arith, ints)

difference_same : (k b a r : ℤ) → k ≡ negsuc 0 → r ≡ k *ℤ b +ℤ a → r ≡ pos 0 → a ≡ b
difference_same k b a r k_is r_is e = plain b a (ap (λ z. z *ℤ b +ℤ a) (sym k_is) ∙ sym r_is ∙ e)
  where
    plain : (b a : ℤ) → negsuc 0 *ℤ b +ℤ a ≡ pos 0 → a ≡ b
    plain b a e = omega (arith, ints)

pub equal-row : (k b a r : ℤ) → k ≡ negsuc 0 → r ≡ k *ℤ b +ℤ a → int_eq a b ≡ true → r ≡ pos 0
equal-row k b a r k_is r_is t = difference_zero k b a r k_is r_is ((Decides-int_eq a b).0 t)

pub apart-row : (k b a r : ℤ) → k ≡ negsuc 0 → r ≡ k *ℤ b +ℤ a → int_eq a b ≡ false → ¬ (r ≡ pos 0)
apart-row k b a r k_is r_is f e = false≢true (sym f ∙ (Decides-int_eq a b).1 (difference_same k b a r k_is r_is e))

pub at-most-row : (k a b r : ℤ) → k ≡ negsuc 0 → r ≡ k *ℤ a +ℤ b → a ≤ℤ b → pos 0 ≤ℤ r
at-most-row k a b r k_is r_is h = subst (λ z. pos 0 ≤ℤ z) (ap (λ z. z *ℤ a +ℤ b) (sym k_is) ∙ sym r_is) (plain a b h)
  where
    plain : (a b : ℤ) → a ≤ℤ b → pos 0 ≤ℤ (negsuc 0 *ℤ a +ℤ b)
    plain a b h = omega (arith, ints)

pub below-row : (k d a b q r : ℤ) → k ≡ negsuc 0 → d ≡ negsuc 0 → q ≡ k *ℤ a +ℤ b → r ≡ q +ℤ d → a <ℤ b → pos 0 ≤ℤ r
below-row k d a b q r k_is d_is q_is r_is h =
    subst (λ z. pos 0 ≤ℤ z) ((λ i. sym k_is i *ℤ a +ℤ b +ℤ sym d_is i) ∙ ap (λ z. z +ℤ d) (sym q_is) ∙ sym r_is) (plain a b h)
  where
    plain : (a b : ℤ) → a <ℤ b → pos 0 ≤ℤ (negsuc 0 *ℤ a +ℤ b +ℤ negsuc 0)
    plain a b h = omega (arith, ints)

module _ {X : Type 0} (P : X → Type 0) where
  pub Any-last : (xs : List X) (x : X) → Any P (xs ++ x ∷ []) → Any P xs ⊎ P x
  Any-last [] x h = ⊎_elim (λ p. inr p) (λ l. absurd (Any-nil P l)) (Any-cases P x [] h)
  Any-last (y ∷ xs) x h =
      ⊎_elim (λ p. inl (Any-first P y xs p)) (λ l. ⊎_elim (λ q. inl (Any-later P y xs q)) (λ q. inr q) (Any-last xs x l)) (Any-cases P y (xs ++ x ∷ []) h)

  pub Any-kept : (xs : List X) (x : X) → Any P xs → Any P (xs ++ x ∷ [])
  Any-kept [] x h = absurd (Any-nil P h)
  Any-kept (y ∷ xs) x h = ⊎_elim (Any-first P y (xs ++ x ∷ [])) (λ l. Any-later P y (xs ++ x ∷ []) (Any-kept xs x l)) (Any-cases P y xs h)

  pub Any-more : (xs : List X) (i : ℕ) (x : X) → i < length xs → x ≡ get_or xs i x → Any P (take (i + 1) xs) → Any P (take i xs) ⊎ P x
  Any-more xs i x h e any =
      ⊎_elim (λ l. inl l) (λ p. inr (subst P (sym e) p)) (Any-last (take i xs) (get_or xs i x) (subst (Any P) (take_more xs i x h) any))

  pub Any-whole : (xs : List X) (n : ℕ) → length xs ≤ n → Any P xs → Any P (take n xs)
  Any-whole xs n h any = subst (Any P) (sym (take_all n xs h)) any

  pub none-any : (xs : List X) → All (λ x. ¬ (P x)) xs → ¬ (Any P xs)
  none-any xs all any = all any.0 any.1 any.2 (subst P (sym any.3) any.4)
