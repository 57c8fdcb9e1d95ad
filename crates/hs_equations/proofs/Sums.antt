-- The values of sums that are put together of terms.
use Rattle.std.proofs.Common.{◌≡◌, ℕ, false, ◌+◌, ◌<◌, List, [], ◌∷◌, ◌++◌, length, get_or, take, sym, ap, ◌∙◌, arith, ℤ, pos, negsuc, ◌+ℤ◌, ◌*ℤ◌}
use Rattle.std.proofs.lemmas.Int.{ints}
use Rattle.std.proofs.lemmas.List.{take_more}
use Rattle.hs_elimination.proofs.Integers.{ring}
use Rattle.hs_pure.specs.declared.var.Var.{Var}
use Rattle.hs_pure.specs.declared.lin.Lin.{Lin}
use Rattle.hs_pure.specs.Stack.{Stack}
use Rattle.hs_pure.specs.Truth.{sum_at, value}
use Rattle.hs_elimination.specs.Linear.{plus, times}
use Rattle.hs_elimination.proofs.Stacks.{numbers, value-is}
use Rattle.hs_elimination.proofs.Values.{value-plus, value-times}

abbrev pub Entry : Type 0
Entry = Var × ℤ

-- what is read past the end of a list
abbrev pub no_entry : Entry
no_entry = (record { number = 0; bag = false }, pos 0)

zero_first : (a : ℤ) → a ≡ pos 0 +ℤ a
zero_first a = omega (arith, ints)

assoc : (a b c : ℤ) → a +ℤ (b +ℤ c) ≡ (a +ℤ b) +ℤ c
assoc a b c = omega (arith, ints)

last_term : (a b : ℤ) → a +ℤ (b +ℤ pos 0) ≡ a +ℤ b
last_term a b = omega (arith, ints)

pub sum-append : (s : Stack) (es fs : List Entry) → sum_at s (es ++ fs) ≡ sum_at s es +ℤ sum_at s fs
sum-append s [] fs = zero_first (sum_at s fs)
sum-append s (e ∷ es) fs = ap (λ z. e.1 *ℤ (s e.0).number +ℤ z) (sum-append s es fs) ∙ assoc (e.1 *ℤ (s e.0).number) (sum_at s es) (sum_at s fs)

-- one more term
pub sum-push : (s : Stack) (es now : List Entry) (v : Var) (c d : ℤ) → c ≡ d → now ≡ es ++ (v, c) ∷ [] → sum_at s now ≡ sum_at s es +ℤ d *ℤ (s v).number
sum-push s es now v c d e is =
    ap (sum_at s) is ∙ sum-append s es ((v, c) ∷ []) ∙ last_term (sum_at s es) (c *ℤ (s v).number) ∙ ap (λ z. sum_at s es +ℤ z *ℤ (s v).number) e

-- a sum made of others
pub value-times_plus : (s : Stack) (k l : ℤ) (a b r : Lin) → l ≡ k → r ≡ plus (times l a) b → value s r ≡ k *ℤ value s a +ℤ value s b
value-times_plus s k l a b r l_is r_is =
    ap (value s) r_is ∙ value-is s (plus (times l a) b) ∙ value-plus (numbers s) (times l a) b ∙ (λ i. value-times (numbers s) l a i +ℤ sym (value-is s b) i)
    ∙ ap (λ z. l *ℤ z +ℤ value s b) (sym (value-is s a)) ∙ ap (λ z. z *ℤ value s a +ℤ value s b) l_is

factor : (g q n old : ℤ) → g *ℤ old +ℤ (g *ℤ q) *ℤ n ≡ g *ℤ (old +ℤ q *ℤ n)
factor g q n old = simp ring (omega (arith, ints))

-- one more term that is divided
pub step-divided : (s : Stack) (g : ℤ) (a : List Entry) (i : ℕ) (q p x old now : ℤ) → i < length a → p ≡ q → x ≡ (get_or a i no_entry).1 → g *ℤ q ≡ x
    → now ≡ old +ℤ p *ℤ (s (get_or a i no_entry).0).number → sum_at s (take i a) ≡ g *ℤ old → sum_at s (take (i + 1) a) ≡ g *ℤ now
step-divided s g a i q p x old now h p_is x_is q_is now_is before =
    let e = get_or a i no_entry in
    let n = (s e.0).number in
    ap (sum_at s) (take_more a i no_entry h) ∙ sum-append s (take i a) (e ∷ []) ∙ last_term (sum_at s (take i a)) (e.1 *ℤ n)
    ∙ (λ j. before j +ℤ sym (q_is ∙ x_is) j *ℤ n) ∙ factor g q n old ∙ ap (λ z. g *ℤ (old +ℤ z *ℤ n)) (sym p_is) ∙ ap (λ z. g *ℤ z) (sym now_is)

pub value-shifted : (k v d c z r : ℤ) → k ≡ pos 1 → c ≡ d → z ≡ pos 0 +ℤ c → r ≡ k *ℤ v +ℤ z → r ≡ v +ℤ d
value-shifted k v d c z r k_is c_is z_is r_is = r_is ∙ (λ i. k_is i *ℤ v +ℤ z_is i) ∙ ap (λ w. pos 1 *ℤ v +ℤ (pos 0 +ℤ w)) c_is ∙ plain v d
  where
    plain : (v d : ℤ) → pos 1 *ℤ v +ℤ (pos 0 +ℤ d) ≡ v +ℤ d
    plain v d = omega (arith, ints)

pub value-negated : (k v z r : ℤ) → k ≡ negsuc 0 → z ≡ pos 0 → r ≡ k *ℤ v +ℤ z → r ≡ negsuc 0 *ℤ v
value-negated k v z r k_is z_is r_is = r_is ∙ (λ i. k_is i *ℤ v +ℤ z_is i) ∙ plain v
  where
    plain : (v : ℤ) → negsuc 0 *ℤ v +ℤ pos 0 ≡ negsuc 0 *ℤ v
    plain v = omega (arith, ints)
