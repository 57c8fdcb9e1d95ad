-- What the bytes of a name tell.
use Rattle.std.specs.Prelude.{ℕ, ◌+◌, ◌-◌, ◌*◌, ◌^◌, Bool, true, false, ◌&&◌, nat_le, nat_lt, nat_eq, if◌then◌else◌, List, [], ◌∷◌, Option, Some, None}
use Rattle.std.specs.List.{fold}
use Rattle.hs_pure.specs.declared.var.Var.{Var}

-- it begins with an upper-case letter, so that it is a bag where it names a variable
abbrev pub is_upper : List ℕ → Bool
is_upper [] = false
is_upper (b ∷ bs) = nat_le 65 b && nat_le b 90

-- a number below 2^32 with one more decimal digit
abbrev pub add_digit : Option ℕ → ℕ → Option ℕ
add_digit None b = None
add_digit (Some k) b = if (nat_le 48 b && nat_le b 57) && nat_lt (k * 10 + (b - 48)) (2 ^ 32) then Some (k * 10 + (b - 48)) else None

abbrev pub decimal : List ℕ → Option ℕ
decimal = fold add_digit (Some 0)

-- decimal digits that do not begin with 0
abbrev pub number_of : List ℕ → Option ℕ
number_of [] = None
number_of (b ∷ bs) = if nat_eq b 48 then None else decimal (b ∷ bs)

abbrev pub var_of : Bool → Option ℕ → Option Var
var_of bag None = None
var_of bag (Some k) = Some (record { number = k; bag = bag })

-- `vK` is the number K, `VK` the bag K
abbrev pub numbered_var : List ℕ → Option Var
numbered_var [] = None
numbered_var (b ∷ bs) = if nat_eq b 118 then var_of false (number_of bs) else (if nat_eq b 86 then var_of true (number_of bs) else None)
