-- A sum that is added up term by term.
use Rattle.std.proofs.Common.{◌≡◌, ℕ, suc, ◌+◌, ◌<◌, ℤ, pos, ◌+ℤ◌, ◌*ℤ◌, List, ◌∷◌, length, drop, get_or, ◌↔◌, sym, ap, ◌∙◌, subst, arith, FitsSigned, add-one}
use mir.Syntax.{w128}
use Rattle.std.proofs.lemmas.Int.{ints}
use Rattle.std.proofs.Math.Seq.{drop-cons}
use Rattle.hs_pure.specs.declared.var.Var.{Var}
use Rattle.hs_pure.specs.Stack.{Stack}
use Rattle.hs_pure.specs.Truth.{sum_at}
use Rattle.hs_pure.specs.Eval.{TermsFit}

shifted : (a b c : ℤ) → a +ℤ (b +ℤ c) ≡ (a +ℤ b) +ℤ c
shifted a b c = omega (arith, ints)

module _ (s : Stack) (ts : List (Var × ℤ)) (i : ℕ) (d : Var × ℤ) (n m p : ℤ) where
  -- one term more
  pub fits_step : i < length ts → p ≡ (get_or ts i d).1 *ℤ (s (get_or ts i d).0).number → m ≡ n +ℤ p → FitsSigned w128 p → FitsSigned w128 (n +ℤ p) →
      TermsFit s (pos 0) ts ↔ TermsFit s n (drop i ts) → TermsFit s (pos 0) ts ↔ TermsFit s m (drop (i + 1) ts)
  fits_step lt e f fp fs h =
      let cut : drop i ts ≡ get_or ts i d ∷ drop (suc i) ts = drop-cons ts i d lt in
      let there : TermsFit s (pos 0) ts ↔ TermsFit s n (get_or ts i d ∷ drop (suc i) ts) = subst (λ l. TermsFit s (pos 0) ts ↔ TermsFit s n l) cut h in
      subst (λ k. TermsFit s (pos 0) ts ↔ TermsFit s m (drop k ts)) (sym (add-one i))
      (subst (λ z. TermsFit s (pos 0) ts ↔ TermsFit s z (drop (suc i) ts)) (sym f)
      (subst (λ q. TermsFit s (pos 0) ts ↔ TermsFit s (n +ℤ q) (drop (suc i) ts)) (sym e)
      (λ g. (there.0 g).2, λ g. there.1 (subst (FitsSigned w128) e fp, subst (λ q. FitsSigned w128 (n +ℤ q)) e fs, g))))

  pub sum_step : i < length ts → p ≡ (get_or ts i d).1 *ℤ (s (get_or ts i d).0).number → m ≡ n +ℤ p →
      sum_at s ts ≡ n +ℤ sum_at s (drop i ts) → sum_at s ts ≡ m +ℤ sum_at s (drop (i + 1) ts)
  sum_step lt e f h =
      let cut : drop i ts ≡ get_or ts i d ∷ drop (suc i) ts = drop-cons ts i d lt in
      h ∙ ap (λ l. n +ℤ sum_at s l) cut ∙ shifted n ((get_or ts i d).1 *ℤ (s (get_or ts i d).0).number) (sum_at s (drop (suc i) ts))
      ∙ (λ j. (n +ℤ sym e j) +ℤ sum_at s (drop (suc i) ts)) ∙ (λ j. sym f j +ℤ sum_at s (drop (sym (add-one i) j) ts))
