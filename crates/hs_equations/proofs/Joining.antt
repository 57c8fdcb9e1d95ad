-- Sums that are at least 0, multiplied and added up.
use Rattle.std.proofs.Common.{◌≡◌, false, int_lt, rules, tests, ℕ, ◌*◌, sym, ap, ◌∙◌, subst, arith, ℤ, pos, negsuc, ◌+ℤ◌, ◌*ℤ◌, ◌≤ℤ◌}
use Rattle.std.proofs.lemmas.Int.{ints}
use Rattle.std.proofs.Math.IntN.{pos-*ℤ-pos}

natural : (n : ℕ) → pos 0 ≤ℤ pos n
natural n = omega (arith, ints)

negative : (n : ℕ) → pos 0 ≤ℤ negsuc n → ⊥
negative n h = omega (arith, ints)

product-least : (k v : ℤ) → pos 0 ≤ℤ k → pos 0 ≤ℤ v → pos 0 ≤ℤ (k *ℤ v)
product-least (pos m) (pos n) h l = subst (λ z. pos 0 ≤ℤ z) (sym (pos-*ℤ-pos m n)) (natural (m * n))
product-least (pos m) (negsuc n) h l = absurd (negative n l)
product-least (negsuc m) v h l = absurd (negative m h)

sum_least : (a b : ℤ) → pos 0 ≤ℤ a → pos 0 ≤ℤ b → pos 0 ≤ℤ (a +ℤ b)
sum_least a b h l = omega (arith, ints)

pub joined-least : (k l m n v w p q : ℤ) → l ≡ k → n ≡ m → pos 0 ≤ℤ k → pos 0 ≤ℤ m → pos 0 ≤ℤ v → pos 0 ≤ℤ w → p ≡ n *ℤ w → q ≡ l *ℤ v +ℤ p → pos 0 ≤ℤ q
joined-least k l m n v w p q l_is n_is k_least m_least v_least w_least p_is q_is =
    let whole : k *ℤ v +ℤ m *ℤ w ≡ q = (λ i. sym l_is i *ℤ v +ℤ sym n_is i *ℤ w) ∙ ap (λ z. l *ℤ v +ℤ z) (sym p_is) ∙ sym q_is in
    subst (λ z. pos 0 ≤ℤ z) whole (sum_least (k *ℤ v) (m *ℤ w) (product-least k v k_least v_least) (product-least m w m_least w_least))

pub value-scaled : (k l v z r : ℤ) → l ≡ k → z ≡ pos 0 → r ≡ l *ℤ v +ℤ z → r ≡ k *ℤ v
value-scaled k l v z r l_is z_is r_is = r_is ∙ (λ i. l_is i *ℤ v +ℤ z_is i) ∙ plain (k *ℤ v)
  where
    plain : (a : ℤ) → a +ℤ pos 0 ≡ a
    plain a = omega (arith, ints)

not_below : (l : ℤ) → int_lt l (pos 0) ≡ false → pos 0 ≤ℤ l
not_below l h = search (rules, tests)

pub at-least : (k l : ℤ) → l ≡ k → int_lt l (pos 0) ≡ false → pos 0 ≤ℤ k
at-least k l e h = subst (λ z. pos 0 ≤ℤ z) e (not_below l h)
