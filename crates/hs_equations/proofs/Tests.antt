-- The test of truth of a formula, by its parts.
use Rattle.std.proofs.Common.{◌≡◌, Bool, true, false, not, ◌&&◌, ◌||◌, List, [], ◌∷◌, map, ℤ, int_lt, ◌⊎◌, inl, inr, ⊎_elim, ◌↔◌, refl, sym, ap, ◌∙◌, subst}
use Rattle.std.specs.Ordering.{int_eq}
use Rattle.std.specs.List.{All, Any, fold}
use Rattle.std.proofs.lemmas.Bool.{false≢true}
use Rattle.hs_pure.specs.declared.lin.Lin.{Lin}
use Rattle.hs_pure.specs.declared.pure.Pure.{Pure}
use Rattle.hs_pure.specs.declared.pure.Pure.TheVariants as pure_of
use Rattle.hs_pure.specs.Stack.{Stack}
use Rattle.hs_pure.specs.Assertion.{Assertion, truth, negation, both, either, every, some, pure_level, assertion_of}
use Rattle.hs_pure.specs.Truth.{value}
use Rattle.hs_pure.proofs.Views.{fold-Eq, fold-Lt, fold-Le, fold-Divides, fold-Not, fold-And, fold-Or}
use Rattle.hs_pure.proofs.Truths.{All-map_back, Any-map, Any-first, Any-later, every-all, some-all}
use Rattle.hs_elimination.specs.Decided.{is_divisor, is_true_at}
use Rattle.hs_equations.specs.Claims.{truth_at, IsAnd, IsOr}

module _ (P : Assertion → Type 0) where
  fold-any : (op : Assertion → Assertion → Assertion) → ((p q : Assertion) → P (op p q) → P p ⊎ P q) → (p : Assertion) (qs : List Assertion) → P (fold op p qs) → P p ⊎ Any P qs
  fold-any op split p [] h = inl h
  fold-any op split p (q ∷ qs) h =
      ⊎_elim (λ x. ⊎_elim (λ y. inl y) (λ y. inr (Any-first P q qs y)) (split p q x)) (λ l. inr (Any-later P q qs l)) (fold-any op split (op p q) qs h)

  every-any : ¬ (P truth) → ((p q : Assertion) → P (both p q) → P p ⊎ P q) → (qs : List Assertion) → P (every qs) → Any P qs
  every-any none split [] h = absurd (none h)
  every-any none split (q ∷ qs) h = ⊎_elim (Any-first P q qs) (Any-later P q qs) (fold-any both split q qs h)

  some-any : ¬ (P (negation truth)) → ((p q : Assertion) → P (either p q) → P p ⊎ P q) → (qs : List Assertion) → P (some qs) → Any P qs
  some-any none split [] h = absurd (none h)
  some-any none split (q ∷ qs) h = ⊎_elim (Any-first P q qs) (Any-later P q qs) (fold-any either split q qs h)

and-true : (a b : Bool) → (a && b ≡ true) ↔ ((a ≡ true) × (b ≡ true))
and-true true b = (λ h. (refl, h), λ h. h.1)
and-true false b = (λ h. absurd (false≢true h), λ h. h.0)

and-false : (a b : Bool) → a && b ≡ false → (a ≡ false) ⊎ (b ≡ false)
and-false true b h = inr h
and-false false b h = inl refl

or-false : (a b : Bool) → (a || b ≡ false) ↔ ((a ≡ false) × (b ≡ false))
or-false true b = (λ h. absurd (false≢true (sym h)), λ h. h.0)
or-false false b = (λ h. (refl, h), λ h. h.1)

or-true : (a b : Bool) → a || b ≡ true → (a ≡ true) ⊎ (b ≡ true)
or-true true b h = inl refl
or-true false b h = inr h

not-move : (a b : Bool) → not a ≡ b → a ≡ not b
not-move true b h = ap not h
not-move false b h = ap not h

module _ (s : Stack) (p : Pure) where
  read : (q : Assertion) (b : Bool) → assertion_of p ≡ q → truth_at s p ≡ b → is_true_at s q ≡ b
  read q b e h = subst (λ r. is_true_at s r ≡ b) e h

  pub test-Not : (q : Pure) (b : Bool) → p ≡ pure_of.Not q → truth_at s p ≡ b → truth_at s q ≡ not b
  test-Not q b is h = not-move (truth_at s q) b (read (negation (assertion_of q)) b (ap assertion_of is ∙ fold-Not pure_level q) h)

  pub test-Eq : (a c : Lin) (b : Bool) → p ≡ pure_of.Eq a c → truth_at s p ≡ b → int_eq (value s a) (value s c) ≡ b
  test-Eq a c b is h = read _ b (ap assertion_of is ∙ fold-Eq pure_level a c) h

  pub test-Lt : (a c : Lin) (b : Bool) → p ≡ pure_of.Lt a c → truth_at s p ≡ b → int_lt (value s a) (value s c) ≡ b
  test-Lt a c b is h = read _ b (ap assertion_of is ∙ fold-Lt pure_level a c) h

  pub test-Le : (a c : Lin) (b : Bool) → p ≡ pure_of.Le a c → truth_at s p ≡ b → int_lt (value s c) (value s a) ≡ not b
  test-Le a c b is h = not-move (int_lt (value s c) (value s a)) b (read _ b (ap assertion_of is ∙ fold-Le pure_level a c) h)

  pub test-Divides : (d : ℤ) (a : Lin) (b : Bool) → p ≡ pure_of.Divides d a → truth_at s p ≡ b → is_divisor d (value s a) ≡ b
  test-Divides d a b is h = read _ b (ap assertion_of is ∙ fold-Divides pure_level d a) h

  module _ (ps : List Pure) where
    and-read : (b : Bool) → p ≡ pure_of.And ps → truth_at s p ≡ b → is_true_at s (every (map assertion_of ps)) ≡ b
    and-read b is h = read _ b (ap assertion_of is ∙ fold-And pure_level ps) h

    or-read : (b : Bool) → p ≡ pure_of.Or ps → truth_at s p ≡ b → is_true_at s (some (map assertion_of ps)) ≡ b
    or-read b is h = read _ b (ap assertion_of is ∙ fold-Or pure_level ps) h

    and-all : p ≡ pure_of.And ps → truth_at s p ≡ true → All (λ q. truth_at s q ≡ true) ps
    and-all is h =
        All-map_back (λ q. is_true_at s q ≡ true) assertion_of ps ((every-all (λ q. is_true_at s q ≡ true) refl (λ q r. and-true (is_true_at s q) (is_true_at s r)) (map assertion_of ps)).0 (and-read true is h))

    and-any : p ≡ pure_of.And ps → truth_at s p ≡ false → Any (λ q. truth_at s q ≡ false) ps
    and-any is h =
        (Any-map (λ q. is_true_at s q ≡ false) assertion_of ps).0 (every-any (λ q. is_true_at s q ≡ false) (λ e. false≢true (sym e)) (λ q r. and-false (is_true_at s q) (is_true_at s r)) (map assertion_of ps) (and-read false is h))

    or-all : p ≡ pure_of.Or ps → truth_at s p ≡ false → All (λ q. truth_at s q ≡ false) ps
    or-all is h =
        All-map_back (λ q. is_true_at s q ≡ false) assertion_of ps ((some-all (λ q. is_true_at s q ≡ false) refl (λ q r. or-false (is_true_at s q) (is_true_at s r)) (map assertion_of ps)).0 (or-read false is h))

    or-any : p ≡ pure_of.Or ps → truth_at s p ≡ true → Any (λ q. truth_at s q ≡ true) ps
    or-any is h =
        (Any-map (λ q. is_true_at s q ≡ true) assertion_of ps).0 (some-any (λ q. is_true_at s q ≡ true) (λ e. false≢true e) (λ q r. or-true (is_true_at s q) (is_true_at s r)) (map assertion_of ps) (or-read true is h))

    pub test-And : (b : Bool) → p ≡ pure_of.And ps → truth_at s p ≡ b → IsAnd s b ps
    test-And true is h = and-all is h
    test-And false is h = and-any is h

    pub test-Or : (b : Bool) → p ≡ pure_of.Or ps → truth_at s p ≡ b → IsOr s b ps
    test-Or true is h = or-any is h
    test-Or false is h = or-all is h
