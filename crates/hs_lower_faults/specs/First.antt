-- The first of several faults, and what notes faults.
use Rattle.std.specs.Prelude.{ℕ, nat_lt, nat_eq, Bool, true, false, ◌&&◌, ◌||◌, if◌then◌else◌, List, Option, Some, None}
use Rattle.std.specs.List.{fold}
use Rattle.hs_lower_faults.specs.declared.error.LowerError.{LowerError}
use Rattle.hs_lower_faults.specs.declared.error.LowerError.TheVariants.{BadType, Unset, NoReturn, TooLong, RefTwice, ReturnInLoop, Memory}

-- ---- order

abbrev pub place_of : LowerError → ℕ
place_of (BadType at) = at
place_of (Unset at) = at
place_of (NoReturn at) = at
place_of (TooLong at) = at
place_of (RefTwice at) = at
place_of (ReturnInLoop at) = at
place_of Memory = 0

-- at one place the least is answered
abbrev pub rank : LowerError → ℕ
rank (BadType at) = 0
rank (Unset at) = 1
rank (NoReturn at) = 2
rank (TooLong at) = 3
rank (RefTwice at) = 4
rank (ReturnInLoop at) = 5
rank Memory = 6

abbrev pub is_before : LowerError → LowerError → Bool
is_before f g = nat_lt (place_of f) (place_of g) || (nat_eq (place_of f) (place_of g) && nat_lt (rank f) (rank g))

-- the first so far, and one more
abbrev pub earlier : Option LowerError → LowerError → Option LowerError
earlier None f = Some f
earlier (Some g) f = if is_before f g then Some f else Some g

-- the first so far, and the first of others
abbrev pub or_earlier : Option LowerError → Option LowerError → Option LowerError
or_earlier found None = found
or_earlier found (Some f) = earlier found f

-- ---- what notes faults

-- from the first fault so far to the first after what is looked at
abbrev pub Check : Type 0
Check = Option LowerError → Option LowerError

abbrev pub pass : Check
pass found = found

abbrev pub both : Check → Check → Check
both a b found = b (a found)

-- each of a list
abbrev pub all : {A : Type 0} → (A → Check) → List A → Check
all f xs found = fold (λ found x. f x found) found xs

abbrev pub optional : {A : Type 0} → (A → Check) → Option A → Check
optional f None = pass
optional f (Some a) = f a

-- types that do not fit at a place, unless they do
abbrev pub fits : Bool → ℕ → Check
fits true at found = found
fits false at found = earlier found (BadType at)

-- a read at a place of what is not set, unless it is
abbrev pub is_set : Bool → ℕ → Check
is_set true at found = found
is_set false at found = earlier found (Unset at)
