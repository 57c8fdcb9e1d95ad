-- Tests that tell facts.
use Rattle.std.proofs.Common.{◌≡◌, ℕ, ◌<◌, ◌≤◌, Bool, true, false, not, ◌&&◌, ◌||◌, ◌==◌, nat_le, nat_lt, IsTrue, ◌⊎◌, inl, inr, List, [], ◌∷◌, length, get_or, map, refl, sym, ◌∙◌, arith}
use Rattle.std.proofs.lemmas.Bool.{or_cases, and_parts, and_from}
use Rattle.std.proofs.lemmas.Bool.Decides.{nat_tests}
use Rattle.std.specs.List.{All, list_all}
use Rattle.std.proofs.lemmas.List.Elements.{All-nil, All-cons, All-head, All-tail}
use Rattle.std.proofs.lemmas.List.Folds.{list_all-map, list_all_at}

-- one element settles the answer
pub list_all-map_at : {X Y : Type 0} (p : Y → Bool) (f : X → Y) (xs : List X) (i : ℕ) (d : X) → i < length xs → p (f (get_or xs i d)) ≡ false →
    list_all p (map f xs) ≡ false
list_all-map_at p f xs i d h e = list_all-map p f xs ∙ list_all_at (λ x. p (f x)) xs i d h e

-- the test is true exactly where the fact holds
abbrev pub Tells : Bool → Type 0 → Type 0
Tells b A = (IsTrue b → A) × (A → IsTrue b)

pub tells : (b : Bool) (A B : Type 0) → Tells b A → (A → B) → (B → A) → Tells b B
tells b A B t f g = (λ h. f (t.0 h), λ h. t.1 (g h))

pub tells_both : (a b : Bool) (A B : Type 0) → Tells a A → Tells b B → Tells (a && b) (A × B)
tells_both a b A B s t = (λ h. let parts = and_parts a b h in (s.0 parts.0, t.0 parts.1), λ h. and_from a b (s.1 h.0) (t.1 h.1))

pub tells_all : {X : Type 0} (p : X → Bool) (P : X → Type 0) → ((x : X) → Tells (p x) (P x)) → (xs : List X) → Tells (list_all p xs) (All P xs)
tells_all p P t [] = (λ h. All-nil P, λ h. refl)
tells_all p P t (x ∷ xs) = tells (p x && list_all p xs) (P x × All P xs) (All P (x ∷ xs)) (tells_both (p x) (list_all p xs) (P x) (All P xs) (t x) (tells_all p P t xs))
    (λ h. All-cons P x xs h.0 h.1) (λ h. (All-head P x xs h, All-tail P x xs h))

pub tells_not : (b : Bool) → Tells (not b) (b ≡ false)
tells_not true = (λ h. sym h, λ h. sym h)
tells_not false = (λ h. refl, λ h. refl)

pub tells_le : (m n : ℕ) → Tells (nat_le m n) (m ≤ n)
tells_le m n = (λ h. grind (arith, nat_tests), λ h. grind (arith, nat_tests))

pub tells_lt : (m n : ℕ) → Tells (nat_lt m n) (m < n)
tells_lt m n = (λ h. grind (arith, nat_tests), λ h. grind (arith, nat_tests))

pub tells_eq : (m n : ℕ) → Tells (m == n) (m ≡ n)
tells_eq m n = (λ h. grind (arith, nat_tests), λ h. grind (arith, nat_tests))

pub not_true : (b : Bool) (A : Type 0) → Tells b A → Tells (not b) (¬ A)
not_true true A t = (λ h. absurd cc, λ n. absurd (n (t.0 refl)))
not_true false A t = (λ h a. let e : IsTrue false = t.1 a in absurd cc, λ n. refl)

pub tells_different : (m n : ℕ) → Tells (not (m == n)) (¬ (m ≡ n))
tells_different m n = not_true (m == n) (m ≡ n) (tells_eq m n)

-- what holds of all that pass one of two tests
pub either_all : {X : Type 0} (p q : X → Bool) (P : X → Type 0) → ((x : X) → IsTrue (p x) → P x) → ((x : X) → IsTrue (q x) → P x) → (x : X) → IsTrue (p x || q x) → P x
either_all p q P f g x h = go (or_cases (p x) (q x) h)
  where
    go : (p x ≡ true) ⊎ (q x ≡ true) → P x
    go (inl e) = f x e
    go (inr e) = g x e
