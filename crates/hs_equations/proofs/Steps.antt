-- Steps on rows, over the numbers that their sums are worth.
use Rattle.std.proofs.Common.{◌≡◌, Bool, true, false, not, ◌||◌, refl, sym, ap, ◌∙◌, subst, arith, ℤ, pos, negsuc, ◌+ℤ◌, ◌*ℤ◌, ◌≤ℤ◌, ◌<ℤ◌, IsTrue, ◌↔◌}
use Rattle.std.proofs.lemmas.Int.{ints}
use Rattle.std.proofs.lemmas.Bool.{false≢true}
use Rattle.hs_equations.specs.declared.row.Kind.{Kind}
use Rattle.hs_equations.specs.Rows.{Says}

-- a row with another name of its kind
pub says-of : (k l : Kind) (z : ℤ) → k ≡ l → Says k z → Says l z
says-of k l z e h = subst (λ m. Says m z) e h

pub says-as : (k l : Kind) (z : ℤ) → k ≡ l → Says l z → Says k z
says-as k l z e h = subst (λ m. Says m z) (sym e) h

nothing_of : (k v : ℤ) → k *ℤ pos 0 +ℤ v ≡ v
nothing_of k v = omega (arith, ints)

-- a sum that is z where another is 0
pub clash-by : (kind : Kind) (k zero v z y : ℤ) (b : Bool) → y ≡ z → k *ℤ zero +ℤ v ≡ z → (IsTrue b ↔ Says kind y) → not b ≡ true → zero ≡ pos 0 → ¬ (Says kind v)
clash-by kind k zero v z y true y_is total h n zero_is says = false≢true n
clash-by kind k zero v z y false y_is total h n zero_is says =
    let v_is : v ≡ y = sym (nothing_of k v) ∙ ap (λ w. k *ℤ w +ℤ v) (sym zero_is) ∙ total ∙ sym y_is in
    false≢true (h.1 (subst (Says kind) v_is says))

one_of : (k a b z : ℤ) → k ≡ pos 1 → k *ℤ a +ℤ b ≡ z → a +ℤ b ≡ z
one_of k a b z k_is e = plain a b ∙ ap (λ w. w *ℤ a +ℤ b) (sym k_is) ∙ e
  where
    plain : (a b : ℤ) → a +ℤ b ≡ pos 1 *ℤ a +ℤ b
    plain a b = omega (arith, ints)

pub below-zero : (k a b z : ℤ) → k ≡ pos 1 → k *ℤ a +ℤ b ≡ z → z <ℤ pos 0 → pos 0 ≤ℤ a → pos 0 ≤ℤ b → ⊥
below-zero k a b z k_is e n h l = absurd (plain a b z (one_of k a b z k_is e) n h l)
  where
    plain : (a b z : ℤ) → a +ℤ b ≡ z → z <ℤ pos 0 → pos 0 ≤ℤ a → pos 0 ≤ℤ b → ⊥
    plain a b z e n h l = omega (arith, ints)

pub opposite : (k a b z : ℤ) → k ≡ pos 1 → k *ℤ a +ℤ b ≡ z → z ≡ pos 0 → a +ℤ b ≡ pos 0
opposite k a b z k_is e z_is = one_of k a b z k_is e ∙ z_is

pub one-sum : (k a b z : ℤ) → k ≡ negsuc 0 → k *ℤ a +ℤ b ≡ z → z ≡ pos 0 → a ≡ b
one-sum k a b z k_is e z_is = plain a b (ap (λ w. w *ℤ a +ℤ b) (sym k_is) ∙ e ∙ z_is)
  where
    plain : (a b : ℤ) → negsuc 0 *ℤ a +ℤ b ≡ pos 0 → a ≡ b
    plain a b e = omega (arith, ints)

pub at-end : (a b : ℤ) → a +ℤ b ≡ pos 0 → pos 0 ≤ℤ a → pos 0 ≤ℤ b → b ≡ pos 0
at-end a b e h k = omega (arith, ints)

pub opposite-apart : (a b : ℤ) → a +ℤ b ≡ pos 0 → b ≡ pos 0 → a ≡ pos 0
opposite-apart a b e h = omega (arith, ints)

pub raise : (a d r : ℤ) → d ≡ negsuc 0 → r ≡ a +ℤ d → pos 0 ≤ℤ a → ¬ (a ≡ pos 0) → pos 0 ≤ℤ r
raise a d r d_is e h n = subst (λ z. pos 0 ≤ℤ z) (ap (λ z. a +ℤ z) (sym d_is) ∙ sym e) (plain a h n)
  where
    plain : (a : ℤ) → pos 0 ≤ℤ a → ¬ (a ≡ pos 0) → pos 0 ≤ℤ (a +ℤ negsuc 0)
    plain a h n = omega (arith, ints)

pub other-sign : (v r : ℤ) → r ≡ negsuc 0 *ℤ v → v ≡ pos 0 → r ≡ pos 0
other-sign v r e h = e ∙ ap (λ z. negsuc 0 *ℤ z) h

-- of a test that is one of two
pub either-of : {P : Type 0} (a b : Bool) → (a ≡ true → P) → (b ≡ true → P) → (a || b) ≡ true → P
either-of true b f g h = f refl
either-of false b f g h = g h
