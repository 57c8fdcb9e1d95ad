use Rattle.std.proofs.Common.{ℕ, ◌+◌, ◌≡◌, inl, inr, true, List, [], ◌∷◌, ◌++◌, length, refl, sym, ◌∙◌, arith}
use Rattle.std.proofs.lemmas.List.{length-append}
use Rattle.std.specs.List.{Contains}
use Rattle.hs_calculus.specs.Calculus.{Calculus}
use Rattle.hs_calculus.specs.declared.place.Place.{Place}
use Rattle.hs_calculus.specs.Progress.{AnyOf, IsCut, Progress, Stops, Halts, uncounted}
use Rattle.hs_calculus.specs.declared.budget.Budget.{Budget}
use Rattle.hs_calculus.specs.declared.calculus.Stop.{Stop}
use Rattle.hs_calculus.specs.declared.calculus.Stop.TheVariants.{Goals, Spent, Memory}

pub AnyOf-left : {X : Type 0} (P : X → Type 0) (xs ys : List X) → AnyOf P xs → AnyOf P (xs ++ ys)
AnyOf-left P [] ys h = absurd h
AnyOf-left P (x ∷ xs) ys (inl h) = inl h
AnyOf-left P (x ∷ xs) ys (inr h) = inr (AnyOf-left P xs ys h)

pub AnyOf-right : {X : Type 0} (P : X → Type 0) (xs ys : List X) → AnyOf P ys → AnyOf P (xs ++ ys)
AnyOf-right P [] ys h = h
AnyOf-right P (x ∷ xs) ys h = inr (AnyOf-right P xs ys h)

-- of the same root
AnyOf-under : {X : Type 0} (P : X → Type 0) (x : X) (xs ys : List X) → AnyOf P (x ∷ ys) → AnyOf P (x ∷ (xs ++ ys))
AnyOf-under P x xs ys (inl h) = inl h
AnyOf-under P x xs ys (inr h) = inr (AnyOf-right P xs ys h)

module _ {G R P : Type 0} (c : Calculus G R P) where
  pub Progress-none : (xs : List (Place G)) (a : Budget) → Progress c xs a a
  Progress-none xs a = record { counted = omega arith; kept = λ h. h; cut = λ h. inl h }

  -- a goal is counted
  pub Progress-root : (p : Place G) (a : Budget) (left : ℕ) → a.left ≡ left + 1 → Progress c (p ∷ []) a (record { left = left; is_cut = a.is_cut })
  Progress-root p a left e = record { counted = omega arith; kept = λ h. h; cut = λ h. inl h }

  pub Progress-more : (xs ys : List (Place G)) (a b : Budget) → Progress c xs a b → Progress c (xs ++ ys) a b
  Progress-more xs ys a b h =
      record {
        counted = omega (arith, length-append xs ys, h.counted);
        kept = h.kept;
        cut = λ e. elim (h.cut e) [ inl i ↦ inl i | inr i ↦ inr (AnyOf-left (IsCut c) xs ys i) ];
      }

  pub Progress-append : (xs ys : List (Place G)) (a b d : Budget) → Progress c xs a b → Progress c ys b d → Progress c (xs ++ ys) a d
  Progress-append xs ys a b d h k =
      record {
        counted = omega (arith, length-append xs ys, h.counted, k.counted);
        kept = λ e. k.kept (h.kept e);
        cut = λ e. elim (k.cut e) [
          | inl i ↦ elim (h.cut i) [ inl j ↦ inl j | inr j ↦ inr (AnyOf-left (IsCut c) xs ys j) ]
          | inr i ↦ inr (AnyOf-right (IsCut c) xs ys i)
        ];
      }

  -- below one root
  pub Progress-under : (p : Place G) (xs ys : List (Place G)) (a b d : Budget)
      → Progress c (p ∷ xs) a b → Progress c (p ∷ ys) (uncounted b) d → Progress c (p ∷ (xs ++ ys)) a d
  Progress-under p xs ys a b d h k =
      record {
        counted = omega (arith, length-append xs ys, h.counted, k.counted);
        kept = λ e. k.kept (h.kept e);
        cut = λ e. elim (k.cut e) [
          | inl i ↦ elim (h.cut i) [ inl j ↦ inl j | inr j ↦ inr (AnyOf-left (IsCut c) (p ∷ xs) ys j) ]
          | inr i ↦ inr (AnyOf-under (IsCut c) p xs ys i)
        ];
      }

  -- from what is below a root
  pub Progress-below : (p : Place G) (xs : List (Place G)) (a b : Budget) → Progress c xs a b → Progress c (p ∷ xs) (uncounted a) b
  Progress-below p xs a b h =
      record {
        counted = omega (arith, h.counted);
        kept = h.kept;
        cut = λ e. elim (h.cut e) [ inl i ↦ inl i | inr i ↦ inr (inr i) ];
      }

  -- at a choice that cannot be paid
  pub Progress-cut : (p : Place G) (xs : List (Place G)) (rule : R) (a : Budget)
      → p.rank ≡ 0 → Contains (c.choices p.goal) rule → c.is_paid rule ≡ true → Progress c (p ∷ xs) (uncounted a) (record { left = a.left; is_cut = true })
  Progress-cut p xs rule a none choice paid =
      record {
        counted = omega arith;
        kept = λ e. refl;
        cut = λ e. inr (inl (none, (choice.0, rule, choice.1, choice.2, paid)));
      }

module _ {G Q : Type 0} (is_spent : G → Q → Type 0) where
  pub Stops-more : (xs ys : List (Place G)) (left : ℕ) (stop : Stop Q) → Stops is_spent xs left stop → Stops is_spent (xs ++ ys) left stop
  Stops-more xs ys left Goals h = omega (arith, length-append xs ys, h)
  Stops-more xs ys left (Spent q) h = AnyOf-left _ xs ys h
  Stops-more xs ys left Memory h = h

  pub Stops-halt : (p : Place G) (xs : List (Place G)) (left : ℕ) (stop : Stop Q) → Halts is_spent p.goal stop → Stops is_spent (p ∷ xs) left stop
  Stops-halt p xs left Goals h = absurd h
  Stops-halt p xs left (Spent q) h = inl h
  Stops-halt p xs left Memory h = h

  pub Stops-below : (p : Place G) (xs : List (Place G)) (left : ℕ) (stop : Stop Q) → Stops is_spent xs left stop → Stops is_spent (p ∷ xs) (left + 1) stop
  Stops-below p xs left Goals h = omega (arith, h)
  Stops-below p xs left (Spent q) h = inr h
  Stops-below p xs left Memory h = h

  pub Stops-append : {R P : Type 0} (c : Calculus G R P) (xs ys : List (Place G)) (a b : Budget) (stop : Stop Q)
      → Progress c xs a b → Stops is_spent ys b.left stop → Stops is_spent (xs ++ ys) a.left stop
  Stops-append c xs ys a b Goals k h = omega (arith, length-append xs ys, k.counted, h)
  Stops-append c xs ys a b (Spent q) k h = AnyOf-right _ xs ys h
  Stops-append c xs ys a b Memory k h = h

  pub Stops-under : {R P : Type 0} (c : Calculus G R P) (p : Place G) (xs ys : List (Place G)) (a b : Budget) (stop : Stop Q)
      → Progress c (p ∷ xs) a b → Stops is_spent (p ∷ ys) (b.left + 1) stop → Stops is_spent (p ∷ (xs ++ ys)) a.left stop
  Stops-under c p xs ys a b Goals k h = omega (arith, length-append xs ys, k.counted, h)
  Stops-under c p xs ys a b (Spent q) k h = AnyOf-under _ p xs ys h
  Stops-under c p xs ys a b Memory k h = h

module _ {G R P : Type 0} (c : Calculus G R P) where
  -- behind places that were counted
  pub Progress-some : (xs ys : List (Place G)) (a b d : Budget) → a.left ≡ b.left + length xs → b.is_cut ≡ a.is_cut → Progress c ys b d → Progress c (xs ++ ys) a d
  Progress-some xs ys a b d counted same k =
      record {
        counted = omega (arith, length-append xs ys, k.counted);
        kept = λ e. k.kept (same ∙ e);
        cut = λ e. elim (k.cut e) [
          | inl i ↦ inl (sym same ∙ i)
          | inr i ↦ inr (AnyOf-right (IsCut c) xs ys i)
        ];
      }

pub Stops-front : {G Q : Type 0} (is_spent : G → Q → Type 0) (xs ys : List (Place G)) (left mid : ℕ) (stop : Stop Q)
    → left ≡ mid + length xs → Stops is_spent ys mid stop → Stops is_spent (xs ++ ys) left stop
Stops-front is_spent xs ys left mid Goals counted h = omega (arith, length-append xs ys, h)
Stops-front is_spent xs ys left mid (Spent q) counted h = AnyOf-right _ xs ys h
Stops-front is_spent xs ys left mid Memory counted h = h
