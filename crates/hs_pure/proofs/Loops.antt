-- Loops over a list that tell whether a fact holds of all or of some.
use Rattle.std.proofs.Common.{ℕ, ◌+◌, ◌<◌, ◌≤◌, Bool, true, false, ◌&&◌, ◌||◌, IsTrue, List, [], ◌∷◌, ◌++◌, length, take, get_or, ◌↔◌, ◌⊎◌, inl, inr, ⊎_elim, refl, sym, subst}
use Rattle.std.specs.List.{All, Any}
use Rattle.std.proofs.lemmas.List.{take_more, take_all}
use Rattle.std.proofs.lemmas.List.Elements.{All-append, All-head, All-nil, All-cons}
use Rattle.hs_pure.proofs.Lists.{All-left, All-right}
use Rattle.hs_pure.proofs.Truths.{Any-first, Any-later, Any-cases, Any-nil}

pub and_is : (a b : Bool) {A B : Type 0} → IsTrue a ↔ A → IsTrue b ↔ B → IsTrue (a && b) ↔ A × B
and_is true b f g = (λ h. (f.0 refl, g.0 h), λ h. g.1 h.1)
and_is false b f g = (λ h. absurd cc, λ h. f.1 h.0)

pub or_is : (a b : Bool) {A B : Type 0} → IsTrue a ↔ A → IsTrue b ↔ B → IsTrue (a || b) ↔ A ⊎ B
or_is true b f g = (λ h. inl (f.0 refl), λ h. refl)
or_is false b f g = (λ h. inr (g.0 h), λ h. ⊎_elim (λ x. absurd (let e : IsTrue false = f.1 x in cc)) (λ y. g.1 y) h)

module _ {X : Type 0} (P : X → Type 0) where
  Any-append : (xs ys : List X) → Any P (xs ++ ys) ↔ Any P xs ⊎ Any P ys
  Any-append [] ys = (λ h. inr h, λ h. ⊎_elim (λ x. absurd (Any-nil P x)) (λ y. y) h)
  Any-append (x ∷ xs) ys = let rest = Any-append xs ys in (
    λ h. ⊎_elim (λ a. inl (Any-first P x xs a)) (λ l. ⊎_elim (λ b. inl (Any-later P x xs b)) (λ b. inr b) (rest.0 l)) (Any-cases P x (xs ++ ys) h),
    λ h. ⊎_elim (λ l. ⊎_elim (Any-first P x (xs ++ ys)) (λ b. Any-later P x (xs ++ ys) (rest.1 (inl b))) (Any-cases P x xs l)) (λ b. Any-later P x (xs ++ ys) (rest.1 (inr b))) h,
  )

  one_all : (x : X) → P x ↔ All P (x ∷ [])
  one_all x = (λ h. All-cons P x [] h (All-nil P), λ h. All-head P x [] h)

  one_any : (x : X) → P x ↔ Any P (x ∷ [])
  one_any x = (Any-first P x [], λ h. ⊎_elim (λ a. a) (λ l. absurd (Any-nil P l)) (Any-cases P x [] h))

  -- one element more
  pub all_more : (xs : List X) (i : ℕ) (d : X) → i < length xs → All P (take i xs) → P (get_or xs i d) → All P (take (i + 1) xs)
  all_more xs i d lt all this = subst (All P) (sym (take_more xs i d lt)) (All-append P (take i xs) (get_or xs i d ∷ []) all ((one_all (get_or xs i d)).0 this))

  pub tells_all_more : (xs : List X) (i : ℕ) (d : X) (a b : Bool) → i < length xs → IsTrue a ↔ All P (take i xs) → IsTrue b ↔ P (get_or xs i d) → IsTrue (a && b) ↔ All P (take (i + 1) xs)
  tells_all_more xs i d a b lt f g =
      let both = and_is a b f g in
      let x = get_or xs i d in
      subst (λ ys. IsTrue (a && b) ↔ All P ys) (sym (take_more xs i d lt)) (
        λ h. All-append P (take i xs) (get_or xs i d ∷ []) (both.0 h).0 ((one_all x).0 (both.0 h).1),
        λ h. both.1 (All-left P (take i xs) (get_or xs i d ∷ []) h, (one_all x).1 (All-right P (take i xs) (get_or xs i d ∷ []) h)),
      )

  pub tells_any_more : (xs : List X) (i : ℕ) (d : X) (a b : Bool) → i < length xs → IsTrue a ↔ Any P (take i xs) → IsTrue b ↔ P (get_or xs i d) → IsTrue (a || b) ↔ Any P (take (i + 1) xs)
  tells_any_more xs i d a b lt f g =
      let either = or_is a b f g in
      let parts = Any-append (take i xs) (get_or xs i d ∷ []) in
      let x = get_or xs i d in
      subst (λ ys. IsTrue (a || b) ↔ Any P ys) (sym (take_more xs i d lt)) (
        λ h. parts.1 (⊎_elim (λ l. inl l) (λ r. inr ((one_any x).0 r)) (either.0 h)),
        λ h. either.1 (⊎_elim (λ l. inl l) (λ r. inr ((one_any x).1 r)) (parts.0 h)),
      )

  pub whole : (Q : List X → Type 0) (xs : List X) (i : ℕ) → length xs ≤ i → Q (take i xs) → Q xs
  whole Q xs i le h = subst Q (take_all i xs le) h
