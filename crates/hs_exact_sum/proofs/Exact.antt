-- Exact answers.
use Rattle.std.proofs.Common.{◌≡◌, ℤ, pos, ◌+ℤ◌, ◌*ℤ◌, Option, Some, None, IfSome, FitsSigned, ◌∙◌, subst, arith}
use mir.Syntax.{w128}
use Rattle.std.proofs.lemmas.Int.{ints}
use Rattle.hs_exact_sum.specs.Limbs.{IsExact}

pub exact_some : (r : Option ℤ) (n z : ℤ) → n ≡ z → IsExact r n → IfSome r (λ x. x ≡ z)
exact_some (Some x) n z e h = h ∙ e
exact_some None n z e h = tt

pub exact_none : (r : Option ℤ) (n z : ℤ) → n ≡ z → IsExact r n → r ≡ None → ¬ (FitsSigned w128 z)
exact_none (Some x) n z e h is = absurd cc
exact_none None n z e h is = subst (λ y. ¬ (FitsSigned w128 y)) e h

-- the sum of all terms, and the constant once
pub with_constant : (n before sum left k : ℤ) → n ≡ before +ℤ k *ℤ pos 1 → sum ≡ before +ℤ left → left ≡ pos 0 → n ≡ sum +ℤ k
with_constant n before sum left k e f g = omega (arith, ints, e, f, g)
