-- Why the search for a value may be refused, and limits of lists of formulas.
use Rattle.std.specs.Prelude.{◌≡◌, ℕ, ◌≤◌, ◌⊎◌, List, [], ◌∷◌, Option, None, ℤ, pos}
use Rattle.std.specs.List.{Contains}
use Rattle.hs_pure.specs.declared.var.Var.{Var}
use Rattle.hs_pure.specs.declared.lin.Lin.{Lin}
use Rattle.hs_pure.specs.Stack.{Stack}
use Rattle.hs_pure.specs.Eval.{NumbersFit}
use Rattle.hs_elimination.specs.Linear.{place, plus, number, IsWideLin}
use Rattle.hs_elimination.specs.Form.{Form, assertion}
use Rattle.hs_elimination.specs.Witness.{low_case, first_near, first_low, least_limit, HasWideNear, IsWideLow}
use Rattle.hs_cooper_forms.specs.declared.change.Change.TheVariants.{Substitute, Low}
use Rattle.hs_cooper_forms.specs.declared.nnf.Nnf.{Nnf}
use Rattle.hs_cooper_forms.specs.Reading.{form_of}
use Rattle.hs_cooper_forms.specs.Changing.{IsRefused}

-- ---- refusals

-- the sum b + j or the formula there is not built, or a number of its evaluation passes 128 bits
abbrev pub IsRefusedNearAt : Stack → Var → Form → Lin → ℕ → Type 0
IsRefusedNearAt s x f b j =
    (IsWideLin (plus b (number (pos j))) ⊎ IsRefused (Substitute x (plus b (number (pos j)))) f) ⊎ HasWideNear s (place x) f b j

abbrev pub IsRefusedNearBound : Stack → Var → Form → ℕ → Lin → Type 0
IsRefusedNearBound s x f m b = (j : ℕ) × ((1 ≤ j) × (j ≤ m) × IsRefusedNearAt s x f b j)

abbrev pub IsRefusedNear : Stack → Var → Form → ℕ → List Lin → Type 0
IsRefusedNear s x f m bs = (b : Lin) × (Contains bs b × IsRefusedNearBound s x f m b)

-- the minus-infinity form at j is not built, or a number of its evaluation passes 128 bits
abbrev pub IsRefusedLowAt : Stack → Var → Form → ℕ → Type 0
IsRefusedLowAt s x f j = IsRefused (Low x j) f ⊎ (¬ (NumbersFit s (assertion (low_case (place x) f j))))

-- the same for some j from 1 to m, or the first low number passes 128 bits
abbrev pub IsRefusedLow : Stack → Var → Form → ℕ → Type 0
IsRefusedLow s x f m = ((j : ℕ) × ((1 ≤ j) × (j ≤ m) × IsRefusedLowAt s x f j)) ⊎ IsWideLow s (place x) f (first_low s (place x) f m)

-- a sum is refused, or none works and a low number is refused
abbrev pub IsRefusedSearch : Stack → Var → Form → ℕ → List Lin → Type 0
IsRefusedSearch s x f m bs = IsRefusedNear s x f m bs ⊎ ((first_near s (place x) f m bs ≡ None) × IsRefusedLow s x f m)

-- ---- lists

-- the least limit of one formula after another
abbrev pub limit_of_all : Stack → ℕ → List Nnf → Option ℤ → Option ℤ
limit_of_all s x [] a = a
limit_of_all s x (f ∷ fs) a = limit_of_all s x fs (least_limit s x (form_of f) a)
