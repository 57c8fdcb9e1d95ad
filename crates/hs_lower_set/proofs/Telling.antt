-- What holds where a check notes no fault.
use Rattle.std.proofs.Common.{◌≡◌, ℕ, Bool, true, false, List, [], ◌∷◌, Option, Some, None, if◌then◌else◌, refl}
use Rattle.std.specs.List.{AllByRecursion, AllZip}
use Rattle.hs_lower_faults.specs.declared.error.LowerError.{LowerError}
use Rattle.hs_lower_faults.specs.declared.error.LowerError.TheVariants.{BadType, Unset}
use Rattle.hs_lower_faults.specs.First.{is_before, earlier, Check, pass, both, all, optional, fits, is_set}
use Rattle.hs_lower_set.proofs.Terms.{Holds}

-- where the check leaves no fault, there was none before, and A holds
abbrev pub Tells : Check → Type 0 → Type 0
Tells c A = (found : Option LowerError) → c found ≡ None → (found ≡ None) × A

-- where it leaves no fault, there was none before
abbrev pub Clears : Check → Type 0
Clears c = Tells c (Unit {0})

pub fault_stays : (found : Option LowerError) (f : LowerError) → earlier found f ≡ None → ⊥
fault_stays None f e = cc
fault_stays (Some g) f e = of (is_before f g) e
  where
    of : (b : Bool) → (if b then Some f else Some g) ≡ None → ⊥
    of true h = cc
    of false h = cc

pub weaker : (c : Check) (A B : Type 0) → (A → B) → Tells c A → Tells c B
weaker c A B f h = λ found e. let t = h found e in (t.0, f t.1)

clears : (c : Check) (A : Type 0) → Tells c A → Clears c
clears c A h = weaker c A (Unit {0}) (λ a. tt) h

pub pass_tells : Clears pass
pass_tells = λ found e. (e, tt)

pub both_tell : (c d : Check) (A B : Type 0) → Tells c A → Tells d B → Tells (both c d) (A × B)
both_tell c d A B h g = λ found e. let later = g (c found) e in let sooner = h found later.0 in (sooner.0, (sooner.1, later.1))

pub both_clear : (c d : Check) → Clears c → Clears d → Clears (both c d)
both_clear c d h g = λ found e. let later = g (c found) e in h found later.0

pub fits_tells : (b : Bool) (at : ℕ) → Tells (fits b at) (b ≡ true)
fits_tells true at = λ found e. (e, refl)
fits_tells false at = λ found e. absurd (fault_stays found (BadType at) e)

pub fits_clears : (b : Bool) (at : ℕ) → Clears (fits b at)
fits_clears b at = clears (fits b at) (b ≡ true) (fits_tells b at)

pub set_tells : (b : Bool) (at : ℕ) → Tells (is_set b at) (b ≡ true)
set_tells true at = λ found e. (e, refl)
set_tells false at = λ found e. absurd (fault_stays found (Unset at) e)

module _ {A : Type 0} (f : A → Check) (F : A → Type 0) where
  pub optional_tells : ((a : A) → Tells (f a) (F a)) → (o : Option A) → Tells (optional f o) (Holds F o)
  optional_tells h None = pass_tells
  optional_tells h (Some a) = h a

  pub each_tells : ((a : A) → Tells (f a) (F a)) → (xs : List A) → Tells (all f xs) (AllByRecursion F xs)
  each_tells h [] = pass_tells
  each_tells h (x ∷ xs) = λ found e. let later = each_tells h xs (f x found) e in let sooner = h x found later.0 in (sooner.0, (sooner.1, later.1))

module _ {A : Type 0} (f : A → Check) (h : (a : A) → Clears (f a)) where
  pub optional_clears : (o : Option A) → Clears (optional f o)
  optional_clears None = pass_tells
  optional_clears (Some a) = h a

  pub each_clears : (xs : List A) → Clears (all f xs)
  each_clears xs = clears (all f xs) (AllByRecursion (λ a. Unit {0}) xs) (each_tells f (λ a. Unit {0}) h xs)

-- each check of a list tells of the element beside it
pub zip_tells : {A B : Type 0} (f : A → Check) (G : B → Type 0) (us : List A) (vs : List B) → AllZip (λ a b. Tells (f a) (G b)) us vs → Tells (all f us) (AllByRecursion G vs)
zip_tells f G [] [] h = pass_tells
zip_tells f G [] (b ∷ vs) h = absurd h
zip_tells f G (a ∷ us) [] h = absurd h
zip_tells f G (a ∷ us) (b ∷ vs) h = λ found e. let later = zip_tells f G us vs h.1 (f a found) e in let sooner = h.0 found later.0 in (sooner.0, (sooner.1, later.1))
