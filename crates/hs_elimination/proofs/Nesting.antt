-- A disjunction nested to the left and one nested to the right say the same.
use Rattle.std.proofs.Common.{◌≡◌, ◌+◌, ◌⊎◌, inl, inr, ◌↔◌, IsTrue, false, List, [], ◌∷◌, refl, arith}
use Rattle.std.specs.List.{fold}
use Rattle.hs_elimination.specs.Form.{Form, const, disjunction, some_of, atoms}
use Rattle.hs_elimination.proofs.Meaning.{Assignment, Holds, any_of}

nothing_true : {X : Type 0} → IsTrue false → X
nothing_true h = absurd cc

holds-fold : (s : Assignment) (f : Form) (fs : List Form) → Holds s (fold disjunction f fs) ↔ (Holds s f ⊎ Holds s (any_of fs))
holds-fold s f [] = (λ p. inl p, λ p. elim p [ inl a ↦ a | inr b ↦ nothing_true b ])
holds-fold s f (g ∷ fs) = step (holds-fold s (disjunction f g) fs)
  where
    step : Holds s (fold disjunction (disjunction f g) fs) ↔ (Holds s (disjunction f g) ⊎ Holds s (any_of fs)) → Holds s (fold disjunction f (g ∷ fs)) ↔ (Holds s f ⊎ Holds s (any_of (g ∷ fs)))
    step ih = (
      λ p. elim (ih.0 p) [ inl a ↦ elim a [ inl b ↦ inl b | inr b ↦ inr (inl b) ] | inr b ↦ inr (inr b) ],
      λ p. ih.1 (elim p [ inl a ↦ inl (inl a) | inr b ↦ elim b [ inl c ↦ inl (inr c) | inr c ↦ inr c ] ]),
    )

pub holds-some_of : (s : Assignment) (fs : List Form) → Holds s (some_of fs) ↔ Holds s (any_of fs)
holds-some_of s [] = (λ p. p, λ p. p)
holds-some_of s (f ∷ fs) = holds-fold s f fs

-- what holds of both members of a disjunction exactly where it holds of the whole
module _ (Q : Form → Type 0) (join : (f g : Form) → Q f → Q g → Q (disjunction f g)) (parts : (f g : Form) → Q (disjunction f g) → Q f × Q g) where
  each-fold : (f : Form) (fs : List Form) → Q f → Q (any_of fs) → Q (fold disjunction f fs)
  each-fold f [] p q = p
  each-fold f (g ∷ fs) p q = let r = parts g (any_of fs) q in each-fold (disjunction f g) fs (join f g p r.0) r.1

  pub each-some_of : (fs : List Form) → Q (any_of fs) → Q (some_of fs)
  each-some_of [] q = q
  each-some_of (f ∷ fs) q = let r = parts f (any_of fs) q in each-fold f fs r.0 r.1

-- what holds of a disjunction where it holds of a member
module _ (Q : Form → Type 0) (left : (f g : Form) → Q f → Q (disjunction f g)) (right : (f g : Form) → Q g → Q (disjunction f g)) (parts : (f g : Form) → Q (disjunction f g) → Q f ⊎ Q g) where
  first-fold : (f : Form) (fs : List Form) → Q f → Q (fold disjunction f fs)
  first-fold f [] p = p
  first-fold f (g ∷ fs) p = first-fold (disjunction f g) fs (left f g p)

  one-fold : (f : Form) (fs : List Form) → Q (any_of fs) → (Q (const false) → Q (fold disjunction f [])) → Q (fold disjunction f fs)
  one-fold f [] q none = none q
  one-fold f (g ∷ fs) q none = elim (parts g (any_of fs) q) [
    | inl a ↦ first-fold (disjunction f g) fs (right f g a)
    | inr b ↦ one-fold (disjunction f g) fs b (λ c. left f g (none c))
  ]

  pub one-some_of : (Q (const false) → ⊥) → (fs : List Form) → Q (any_of fs) → Q (some_of fs)
  one-some_of none [] q = q
  one-some_of none (f ∷ fs) q = elim (parts f (any_of fs) q) [ inl a ↦ first-fold f fs a | inr b ↦ one-fold f fs b (λ c. absurd (none c)) ]

atoms-fold : (f : Form) (fs : List Form) → atoms (fold disjunction f fs) ≡ atoms f + atoms (any_of fs)
atoms-fold f [] = omega arith
atoms-fold f (g ∷ fs) = omega (arith, atoms-fold (disjunction f g) fs)

pub atoms-some_of : (fs : List Form) → atoms (some_of fs) ≡ atoms (any_of fs)
atoms-some_of [] = refl
atoms-some_of (f ∷ fs) = atoms-fold f fs
