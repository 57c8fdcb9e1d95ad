-- The truth of the program's equations, and of formulas that join several.
use Rattle.std.proofs.Common.{◌≡◌, List, [], ◌∷◌, sym, subst}
use Rattle.std.specs.List.{fold, AllByRecursion}
use denote.Hole.Carrier.{out}
use Rattle.hs_pure.specs.Stack.{Stack}
use Rattle.hs_pure.specs.Assertion.{Assertion, eq, both, every, pure_level, assertion_of}
use Rattle.hs_pure.specs.Truth.{value, IsTrueAt, TrueAt}
use Rattle.hs_pure.specs.declared.lin.Lin.{Lin}
use Rattle.hs_pure.specs.declared.pure.Pure.{Eq, out-Pure}
use Rattle.hs_pure.specs.declared.pure.Pure.TheFolds.{fold_out-Pure}

pub assertion_of-Eq : (a b : Lin) → assertion_of (Eq a b) ≡ eq a b
unfolding out-Pure out
assertion_of-Eq a b = fold_out-Pure Assertion pure_level (Eq a b)

pub equal_from_true : (s : Stack) (a b : Lin) → TrueAt s (Eq a b) → value s a ≡ value s b
equal_from_true s a b e = let P : Assertion → Type 0 = λ p. IsTrueAt s p in subst P (assertion_of-Eq a b) e

pub true_from_equal : (s : Stack) (a b : Lin) → value s a ≡ value s b → TrueAt s (Eq a b)
true_from_equal s a b e = let P : Assertion → Type 0 = λ p. IsTrueAt s p in subst P (sym (assertion_of-Eq a b)) e

-- each of these is true
abbrev pub EachTrueAt : Stack → List Assertion → Type 0
EachTrueAt s ps = AllByRecursion (λ p. IsTrueAt s p) ps

joined_true : (s : Stack) (p : Assertion) (ps : List Assertion) → IsTrueAt s p → EachTrueAt s ps → IsTrueAt s (fold both p ps)
joined_true s p [] e f = e
joined_true s p (q ∷ qs) e (d, f) = joined_true s (both p q) qs (e, d) f

pub every_true : (s : Stack) (ps : List Assertion) → EachTrueAt s ps → IsTrueAt s (every ps)
every_true s [] e = tt
every_true s (p ∷ ps) (d, e) = joined_true s p ps d e

true_joined : (s : Stack) (p : Assertion) (ps : List Assertion) → IsTrueAt s (fold both p ps) → IsTrueAt s p × EachTrueAt s ps
true_joined s p [] e = (e, tt)
true_joined s p (q ∷ qs) e = let r = true_joined s (both p q) qs e in (r.0.0, (r.0.1, r.1))

pub true_every : (s : Stack) (ps : List Assertion) → IsTrueAt s (every ps) → EachTrueAt s ps
true_every s [] e = tt
true_every s (p ∷ ps) e = true_joined s p ps e
