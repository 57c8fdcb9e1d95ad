-- Formulas in negation normal form over unbounded integers.
use Rattle.std.specs.Prelude.{ℕ, ◌+◌, ◌⊎◌, Bool, true, false, List, [], ◌∷◌, pos, FitsSigned}
use Rattle.std.specs.List.{fold}
use mir.Syntax.{w128}
use Rattle.hs_pure.specs.declared.lin.Lin.{Lin}
use Rattle.hs_pure.specs.Assertion.{Assertion, truth, lt, divides, negation, both, either}
use Rattle.hs_elimination.specs.Linear.{number, IsWideLin}

pub data Form : Type 0 where
  const : (b : Bool) → Form
  positive : (t : Lin) → Form  -- 0 < t
  multiple : (d : ℕ) (t : Lin) → Form  -- d divides t
  no_multiple : (d : ℕ) (t : Lin) → Form
  conjunction : (f g : Form) → Form
  disjunction : (f g : Form) → Form

-- all of a list; without any it is true
abbrev pub all_of : List Form → Form
all_of [] = const true
all_of (f ∷ fs) = fold conjunction f fs

-- one of a list; without any it is false
abbrev pub some_of : List Form → Form
some_of [] = const false
some_of (f ∷ fs) = fold disjunction f fs

-- the formula as an assertion
abbrev pub assertion : Form → Assertion
assertion (const true) = truth
assertion (const false) = negation truth
assertion (positive t) = lt (number (pos 0)) t
assertion (multiple d t) = divides (pos d) t
assertion (no_multiple d t) = negation (divides (pos d) t)
assertion (conjunction f g) = both (assertion f) (assertion g)
assertion (disjunction f g) = either (assertion f) (assertion g)

-- how many atoms it has; `true` and `false` are none
abbrev pub atoms : Form → ℕ
atoms (const b) = 0
atoms (positive t) = 1
atoms (multiple d t) = 1
atoms (no_multiple d t) = 1
atoms (conjunction f g) = atoms f + atoms g
atoms (disjunction f g) = atoms f + atoms g

-- some number of it passes 128 bits
abbrev pub IsWide : Form → Type 0
IsWide (const b) = ⊥
IsWide (positive t) = IsWideLin t
IsWide (multiple d t) = (¬ (FitsSigned w128 (pos d))) ⊎ IsWideLin t
IsWide (no_multiple d t) = (¬ (FitsSigned w128 (pos d))) ⊎ IsWideLin t
IsWide (conjunction f g) = IsWide f ⊎ IsWide g
IsWide (disjunction f g) = IsWide f ⊎ IsWide g
