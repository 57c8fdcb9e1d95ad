-- A fault once noted stays: where none is left, each check passed.
use Rattle.std.proofs.Common.{◌≡◌, ℕ, Bool, true, false, List, [], ◌∷◌, ◌++◌, Option, Some, None, if◌then◌else◌, refl}
use Rattle.std.specs.List.{fold, AllByRecursion}
use Rattle.hs_lower_faults.specs.declared.error.LowerError.{LowerError}
use Rattle.hs_lower_faults.specs.declared.error.LowerError.TheVariants.{BadType, Unset}
use Rattle.hs_lower_faults.specs.First.{Check, is_before, earlier, or_earlier, pass, both, all, optional, fits, is_set}

-- ---- lists

pub split_all : {X : Type 0} (F : X → Type 0) (xs ys : List X) → AllByRecursion F (xs ++ ys) → AllByRecursion F xs × AllByRecursion F ys
split_all F [] ys h = (tt, h)
split_all F (x ∷ xs) ys h = let rest = split_all F xs ys h.1 in ((h.0, rest.0), rest.1)

-- ---- the first fault

pub fault_stays : (found : Option LowerError) (f : LowerError) → earlier found f ≡ None → ⊥
fault_stays None f e = cc
fault_stays (Some g) f e = of (is_before f g) e
  where
    of : (b : Bool) → (if b then Some f else Some g) ≡ None → ⊥
    of true k = cc
    of false k = cc

none_of_both : (found f : Option LowerError) → or_earlier found f ≡ None → (found ≡ None) × (f ≡ None)
none_of_both found None e = (e, refl)
none_of_both found (Some f) e = absurd (fault_stays found f e)

-- none is first only where there is none
pub none_first : (found : Option LowerError) (fs : List (Option LowerError)) → fold or_earlier found fs ≡ None → (found ≡ None) × AllByRecursion (λ f. f ≡ None) fs
none_first found [] e = (e, tt)
none_first found (f ∷ fs) e =
    let later = none_first (or_earlier found f) fs e in
    let here = none_of_both found f later.0 in
    (here.0, (here.1, later.1))

-- ---- checks

-- where the check leaves no fault, none was found before, and A holds
abbrev pub Passes : Check → Type 0 → Type 0
Passes c A = (found : Option LowerError) → c found ≡ None → (found ≡ None) × A

abbrev pub Stays : Check → Type 0
Stays c = Passes c (Unit {0})

pub pass_passes : Stays pass
pass_passes found e = (e, tt)

pub passes_more : (c : Check) (A B : Type 0) → (A → B) → Passes c A → Passes c B
passes_more c A B f h found e = let was = h found e in (was.0, f was.1)

pub stays : (c : Check) (A : Type 0) → Passes c A → Stays c
stays c A h found e = ((h found e).0, tt)

pub fits_passes : (b : Bool) (at : ℕ) → Passes (fits b at) (b ≡ true)
fits_passes true at found e = (e, refl)
fits_passes false at found e = absurd (fault_stays found (BadType at) e)

pub set_passes : (b : Bool) (at : ℕ) → Stays (is_set b at)
set_passes true at found e = (e, tt)
set_passes false at found e = absurd (fault_stays found (Unset at) e)

pub both_pass : (a b : Check) (A B : Type 0) → Passes a A → Passes b B → Passes (both a b) (A × B)
both_pass a b A B h k found e =
    let after = k (a found) e in
    let before = h found after.0 in
    (before.0, (before.1, after.1))

pub both_stay : (a b : Check) → Stays a → Stays b → Stays (both a b)
both_stay a b h k found e = ((h found (k (a found) e).0).0, tt)

pub all_stay : {X : Type 0} (f : X → Check) → ((x : X) → Stays (f x)) → (xs : List X) → Stays (all f xs)
all_stay f h [] found e = (e, tt)
all_stay f h (x ∷ xs) found e = ((h x found (all_stay f h xs (f x found) e).0).0, tt)

pub optional_stays : {X : Type 0} (f : X → Check) → ((x : X) → Stays (f x)) → (o : Option X) → Stays (optional f o)
optional_stays f h None = pass_passes
optional_stays f h (Some x) = h x
