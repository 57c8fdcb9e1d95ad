-- A stop of an elimination, as a fact of its size or of its numbers.
use Rattle.std.proofs.Common.{ℕ, max, ◌<◌, inl, inr, arith, Result, Ok, Err, IfErr, ◌≡◌}
use Rattle.hs_pure.specs.declared.var.Var.{Var}
use Rattle.hs_pure.specs.Assertion.{Assertion}
use Rattle.hs_elimination.specs.Elimination.{PassesAtoms, PassesBits}
use Rattle.hs_cooper.specs.declared.stop.Stop.{Stop}
use Rattle.hs_cooper.specs.declared.stop.Stop.TheVariants.{Atoms, Wide, Memory}
use Rattle.hs_quantifiers.specs.Size.{stage_size}
use Rattle.hs_quantifiers.specs.Span.{HasWideStages}

most_first : (n a b c : ℕ) → n < a → n < max a (max b c)
most_first n a b c h = omega arith

most_second : (n a b c : ℕ) → n < b → n < max a (max b c)
most_second n a b c h = omega arith

most_third : (n a b c : ℕ) → n < c → n < max a (max b c)
most_third n a b c h = omega arith

pub size-passes : (n : ℕ) (x : Var) (p : Assertion) → PassesAtoms n x p → n < stage_size x p
size-passes n x p (inl h) = most_first n _ _ _ h
size-passes n x p (inr (inl h)) = most_second n _ _ _ h.1
size-passes n x p (inr (inr h)) = most_third n _ _ _ h.2

pub wide-passes : (n : ℕ) (x : Var) (p : Assertion) → PassesBits n x p → HasWideStages x p
wide-passes n x p (inl h) = inl h.1
wide-passes n x p (inr (inl h)) = inr (inl h.2)
wide-passes n x p (inr (inr h)) = inr (inr h.3)

pub max_left : (n a b : ℕ) → n < a → n < max a b
max_left n a b h = omega arith

pub max_right : (n a b : ℕ) → n < b → n < max a b
max_right n a b h = omega arith

-- ---- only memory is wanting

pub not_atoms : {T X : Type 0} (r : Result T Stop) → IfErr r (λ e. e ≡ Memory) → r ≡ Err Atoms → X
not_atoms (Ok x) h e = absurd cc
not_atoms (Err x) h e = absurd cc

pub not_wide : {T X : Type 0} (r : Result T Stop) → IfErr r (λ e. e ≡ Memory) → r ≡ Err Wide → X
not_wide (Ok x) h e = absurd cc
not_wide (Err x) h e = absurd cc
