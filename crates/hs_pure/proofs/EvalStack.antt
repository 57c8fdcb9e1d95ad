-- The stack of an evaluation, and what is told of a formula variant by variant.
use Rattle.std.proofs.Common.{◌≡◌, ℕ, zero, suc, ◌+◌, ◌<◌, ℤ, Bool, true, false, ◌||◌, IsTrue, IfOk, OnOk, OnErr, List, [], ◌∷◌, map, length, get_or, Bor, ◌↔◌, Result, Ok, Err, refl, sym, ap, ◌∙◌, subst, arith, if◌then◌else◌}
use Rattle.std.specs.List.{All, Any, list_any}
use Rattle.std.proofs.lemmas.List.Elements.{All-map}
use Rattle.hs_pure.specs.declared.var.Var.{Var}
use Rattle.hs_pure.specs.declared.pure.Pure.{Pure}
use Rattle.hs_pure.specs.declared.pure.Pure.TheVariants as pure_of
use Rattle.hs_pure.specs.declared.valuation.Valuation.{Valuation}
use Rattle.hs_pure.specs.declared.eval.Wide.{Wide}
use Rattle.hs_pure.specs.declared.eval.Values.{Values, fold-roll-Values}
use Rattle.hs_pure.specs.declared.eval.Values.TheOpen.{Values-F}
use Rattle.hs_pure.specs.declared.eval.Values.TheVariants as values_of
use Rattle.hs_pure.specs.Stack.{Stack, Value, same, with_value, number_value}
use Rattle.hs_pure.specs.Assertion.{Assertion, every, some, pure_level, assertion_of}
use Rattle.hs_pure.specs.Truth.{IsTrueAt, TrueAt}
use Rattle.hs_pure.specs.Eval.{stack_of, found, found_bag, multiset_of, NumbersFit}
use Rattle.hs_pure.specs.Values.{number_of, number_level, listed, listed_level, stack_at}
use Rattle.hs_pure.specs.Answer.{Tells}
use Rattle.hs_pure.proofs.Size.{total}
use Rattle.hs_pure.proofs.Views.{fold-And, fold-Or}
use Rattle.hs_pure.proofs.Truths.{every-all, some-all, true-every, true-some, All-map_back, Any-map}
use Rattle.hs_pure.proofs.EvalBags.{tells_iff}

number_of-Given : (v : Bor Valuation) (u : Var) → number_of (values_of.Given v) u ≡ found v.now.numbers u
number_of-Given v u = λ i. (ap number_of (sym (values_of.rolls-Given v)) ∙ fold-roll-Values (Var → ℤ) number_level (Values-F.Given v)) i u

listed-Given : (v : Bor Valuation) (u : Var) → listed (values_of.Given v) u ≡ found_bag v.now.bags u
listed-Given v u = λ i. (ap listed (sym (values_of.rolls-Given v)) ∙ fold-roll-Values (Var → List (ℤ × ℤ)) listed_level (Values-F.Given v)) i u

number_of-With : (w : Var) (x : ℤ) (outer : Bor Values) (u : Var) → number_of (values_of.With w x outer) u ≡ (if same w u then x else number_of outer.now u)
number_of-With w x outer u = λ i. (ap number_of (sym (values_of.rolls-With w x outer)) ∙ fold-roll-Values (Var → ℤ) number_level (Values-F.With w x outer)) i u

listed-With : (w : Var) (x : ℤ) (outer : Bor Values) (u : Var) → listed (values_of.With w x outer) u ≡ (if same w u then [] else listed outer.now u)
listed-With w x outer u = λ i. (ap listed (sym (values_of.rolls-With w x outer)) ∙ fold-roll-Values (Var → List (ℤ × ℤ)) listed_level (Values-F.With w x outer)) i u

-- a valuation alone
pub stack_at-Given : (v : Bor Valuation) → stack_at (values_of.Given v) ≡ stack_of v.now
stack_at-Given v = λ i u. record { number = number_of-Given v u i; bag = multiset_of (listed-Given v u i) }

made : ℤ → List (ℤ × ℤ) → Value
made n es = record { number = n; bag = multiset_of es }

by_test : (b : Bool) (x n : ℤ) (es : List (ℤ × ℤ)) → made (if b then x else n) (if b then [] else es) ≡ (if b then number_value x else made n es)
unfolding made
by_test true x n es = refl
by_test false x n es = refl

-- one value more
pub stack_at-With : (w : Var) (x : ℤ) (outer : Bor Values) → stack_at (values_of.With w x outer) ≡ with_value w (number_value x) (stack_at outer.now)
unfolding made
stack_at-With w x outer = (λ i u. made (number_of-With w x outer u i) (listed-With w x outer u i)) ∙ (λ i u. by_test (same w u) x (number_of outer.now u) (listed outer.now u) i)

-- what is told of an assertion is told of a formula that is read as it
pub told : (s : Stack) (p : Pure) (q : Assertion) (r : Result Bool Wide) → assertion_of p ≡ q → Tells r (NumbersFit s q) (IsTrueAt s q) →
    Tells r (NumbersFit s (assertion_of p)) (IsTrueAt s (assertion_of p))
told s p q r e h = subst (λ q. Tells r (NumbersFit s q) (IsTrueAt s q)) (sym e) h

module _ (s : Stack) (p : Pure) (ps qs : List Pure) (r : Result Bool Wide) where
  fits_every : NumbersFit s (every (map assertion_of ps)) ↔ All (λ p. NumbersFit s (assertion_of p)) ps
  fits_every = let all = every-all (NumbersFit s) tt (λ p q. (λ h. h, λ h. h)) (map assertion_of ps) in
      (λ h. All-map_back (NumbersFit s) assertion_of ps (all.0 h), λ h. all.1 (All-map (NumbersFit s) assertion_of ps h))

  fits_some : NumbersFit s (some (map assertion_of ps)) ↔ All (λ p. NumbersFit s (assertion_of p)) ps
  fits_some = let all = some-all (NumbersFit s) tt (λ p q. (λ h. h, λ h. h)) (map assertion_of ps) in
      (λ h. All-map_back (NumbersFit s) assertion_of ps (all.0 h), λ h. all.1 (All-map (NumbersFit s) assertion_of ps h))

  true_every : IsTrueAt s (every (map assertion_of ps)) ↔ All (TrueAt s) ps
  true_every = let all = true-every s (map assertion_of ps) in
      (λ h. All-map_back (IsTrueAt s) assertion_of ps (all.0 h), λ h. all.1 (All-map (IsTrueAt s) assertion_of ps h))

  true_some : IsTrueAt s (some (map assertion_of ps)) ↔ Any (TrueAt s) ps
  true_some = let any = true-some s (map assertion_of ps) in let apart = Any-map (IsTrueAt s) assertion_of ps in
      (λ h. apart.0 (any.0 h), λ h. any.1 (apart.1 h))

  swap : {A B : Type 0} → A ↔ B → B ↔ A
  swap h = (h.1, h.0)

  pub and_told : p ≡ pure_of.And ps → qs ≡ ps → Tells r (All (λ p. NumbersFit s (assertion_of p)) qs) (All (TrueAt s) qs) →
      Tells r (NumbersFit s (assertion_of p)) (IsTrueAt s (assertion_of p))
  and_told is e h = told s p (every (map assertion_of ps)) r (ap assertion_of is ∙ fold-And pure_level ps)
      (tells_iff _ _ _ _ r (swap fits_every) (swap true_every) (subst (λ l. Tells r (All (λ p. NumbersFit s (assertion_of p)) l) (All (TrueAt s) l)) e h))

  pub or_told : p ≡ pure_of.Or ps → qs ≡ ps → Tells r (All (λ p. NumbersFit s (assertion_of p)) qs) (Any (TrueAt s) qs) →
      Tells r (NumbersFit s (assertion_of p)) (IsTrueAt s (assertion_of p))
  or_told is e h = told s p (some (map assertion_of ps)) r (ap assertion_of is ∙ fold-Or pure_level ps)
      (tells_iff _ _ _ _ r (swap fits_some) (swap true_some) (subst (λ l. Tells r (All (λ p. NumbersFit s (assertion_of p)) l) (Any (TrueAt s) l)) e h))

-- an element of a list

pub total_above : {X : Type 0} (f : X → ℕ) (xs : List X) (i : ℕ) (d : X) → i < length xs → f (get_or xs i d) < total (map f xs) + 1
total_above f [] i d h = absurd (omega arith)
total_above f (x ∷ xs) zero d h = omega arith
total_above f (x ∷ xs) (suc i) d h = let ih = total_above f xs i d (omega arith) in omega arith

pub none_at : {X : Type 0} (f : X → Bool) (xs : List X) (i : ℕ) (d : X) → i < length xs → list_any (λ b. b) (map f xs) ≡ false → f (get_or xs i d) ≡ false
none_at f [] i d h e = absurd (omega arith)
none_at f (x ∷ xs) zero d h e = first (f x) (list_any (λ b. b) (map f xs)) e
  where
    first : (a b : Bool) → (a || b) ≡ false → a ≡ false
    first true b e = e
    first false b e = refl
none_at f (x ∷ xs) (suc i) d h e = none_at f xs i d (omega arith) (second (f x) (list_any (λ b. b) (map f xs)) e)
  where
    second : (a b : Bool) → (a || b) ≡ false → b ≡ false
    second true b e = absurd cc
    second false b e = e

pub told_ok : (r : Result Bool Wide) (F A : Type 0) → Tells r F A → IfOk r (λ b. IsTrue b ↔ A)
told_ok (Ok b) F A h = h.1
told_ok (Err e) F A h = tt

pub told_fits : (r : Result Bool Wide) (F A : Type 0) → Tells r F A → OnOk r F
told_fits (Ok b) F A h = h.0
told_fits (Err e) F A h = tt

pub told_wide : (r : Result Bool Wide) (F A : Type 0) → Tells r F A → OnErr r (¬ F)
told_wide (Ok b) F A h = tt
told_wide (Err e) F A h = h
