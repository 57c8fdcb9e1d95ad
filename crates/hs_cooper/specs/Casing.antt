-- The cases of the third stage: why one of them may be refused, and what passes 128 bits.
use Rattle.std.specs.Prelude.{ℕ, ◌≤◌, ◌⊎◌, List, pos}
use Rattle.std.specs.List.{Contains}
use Rattle.hs_pure.specs.declared.var.Var.{Var}
use Rattle.hs_pure.specs.declared.lin.Lin.{Lin}
use Rattle.hs_elimination.specs.Linear.{plus, number, IsWideLin}
use Rattle.hs_elimination.specs.Form.{Form, IsWide}
use Rattle.hs_cooper_forms.specs.declared.change.Change.TheVariants.{Substitute, Low}
use Rattle.hs_cooper_forms.specs.Changing.{changed, IsRefused}

-- the minus-infinity form is refused at j, or the formula is at b + j for some b, or b + j is
abbrev pub IsRefusedAt : Var → Form → List Lin → ℕ → Type 0
IsRefusedAt x f bs j =
    IsRefused (Low x j) f
    ⊎ ((b : Lin) × (Contains bs b × (IsWideLin (plus b (number (pos j))) ⊎ IsRefused (Substitute x (plus b (number (pos j)))) f)))

-- a number of the cases at j passes 128 bits
abbrev pub HasWideAt : Var → Form → List Lin → ℕ → Type 0
HasWideAt x f bs j =
    IsWide (changed (Low x j) f)
    ⊎ ((b : Lin) × (Contains bs b × (IsWideLin (plus b (number (pos j))) ⊎ IsWide (changed (Substitute x (plus b (number (pos j)))) f))))

-- a number of the formula or of a bound passes 128 bits
abbrev pub HasWideGiven : Form → List Lin → Type 0
HasWideGiven f bs = IsWide f ⊎ ((b : Lin) × (Contains bs b × IsWideLin b))

-- some j from 1 to m is refused
abbrev pub IsRefusedTo : Var → Form → List Lin → ℕ → Type 0
IsRefusedTo x f bs m = (j : ℕ) × ((1 ≤ j) × (j ≤ m) × IsRefusedAt x f bs j)
