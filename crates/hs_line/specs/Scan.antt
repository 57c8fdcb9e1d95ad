-- Words, numbers and variables in a part of a line. Blanks may stand before each of them and at the end.
use Rattle.std.specs.Prelude.{ℕ, zero, suc, Bool, true, false, if◌then◌else◌, nat_eq, List, [], ◌∷◌, ◌++◌, length, drop, take_while, Option, Some, None, Ok, Err}
use Rattle.std.specs.Str.{bytes_eq}
use Rattle.hs_lex.specs.Tokens.{is_blank, is_digit, is_letter, is_in_name}
use Rattle.hs_pure.specs.declared.var.Var.{Var}
use Rattle.hs_numbering.specs.Names.{decimal, numbered_var}
use Rattle.hs_line.specs.declared.fault.Fault.{Fault}
use Rattle.hs_line.specs.declared.fault.Fault.TheVariants.{Word, Number, Name}
use Rattle.hs_line.specs.Pieces.{cut_at}
use Rattle.hs_line.specs.Steps.{Outcome, Steps, and_then, ◌>>=◌, pure, on_ok, mapped, each, finish}

-- reading bytes from the left
abbrev pub Scan : Type 0 → Type 0
Scan A = Steps (List ℕ) A

-- ---- blanks and runs

-- the text behind the blanks at its front
abbrev pub past_blanks : List ℕ → List ℕ
past_blanks [] = []
past_blanks (b ∷ text) = if is_blank b then past_blanks text else b ∷ text

-- the bytes of a kind that come next, behind blanks
abbrev pub run : (ℕ → Bool) → List ℕ → List ℕ
run is_in text = take_while is_in (past_blanks text)

-- what is behind them
abbrev pub behind : (ℕ → Bool) → List ℕ → List ℕ
behind is_in text = drop (length (take_while is_in (past_blanks text))) (past_blanks text)

abbrev pub is_nothing : List ℕ → Bool
is_nothing [] = true
is_nothing (b ∷ text) = false

-- only blanks are left
abbrev pub is_over : List ℕ → Bool
is_over text = is_nothing (past_blanks text)

-- nothing but blanks
abbrev pub over : List ℕ → Outcome (Unit {0})
over text = if is_over text then Ok tt else Err Word

-- something, and then only blanks
abbrev pub alone : {A : Type 0} → Scan A → List ℕ → Outcome A
alone s text = finish s (λ a rest. mapped (λ _. a) (over rest)) text

-- ---- words

-- this word
abbrev pub word : List ℕ → Scan (Unit {0})
word w text = if bytes_eq (run is_in_name text) w then Ok (tt, behind is_in_name text) else Err Word

-- the first byte is this
abbrev pub begins_by : ℕ → List ℕ → Bool
begins_by b [] = false
begins_by b (c ∷ text) = nat_eq c b

-- this byte comes next
abbrev pub begins : ℕ → List ℕ → Bool
begins b text = begins_by b (past_blanks text)

-- ---- numbers

-- a zero, with no digit behind it
abbrev pub zero_alone : List ℕ → Option ℕ
zero_alone [] = Some 0
zero_alone (b ∷ bs) = None

-- a number below 2^32 in decimal digits without leading zeros
abbrev pub plain_number : List ℕ → Option ℕ
plain_number [] = None
plain_number (b ∷ bs) = if nat_eq b 48 then zero_alone bs else decimal (b ∷ bs)

-- what was found, or the fault
abbrev pub taken : {A : Type 0} → Option A → Fault → List ℕ → Outcome (A × List ℕ)
taken (Some a) e rest = Ok (a, rest)
taken None e rest = Err e

-- a plain number
abbrev pub number : Scan ℕ
number text = taken (plain_number (run is_digit text)) Number (behind is_digit text)

-- this number
abbrev pub exactly : ℕ → Scan (Unit {0})
exactly n = number >>= (λ k. λ rest. if nat_eq k n then Ok (tt, rest) else Err Number)

-- ---- variables

-- what is wrong where a variable is wanted
abbrev pub no_variable : List ℕ → Fault
no_variable [] = Word
no_variable (b ∷ name) = if is_letter b then Name else Word

-- a variable in numbered form
abbrev pub variable : Scan Var
variable text = taken (numbered_var (run is_in_name text)) (no_variable (run is_in_name text)) (behind is_in_name text)

-- ---- lists

-- with commas between, or none
abbrev pub listed : {A : Type 0} → Scan A → List ℕ → Outcome (List A)
listed s text = if is_over text then Ok [] else each (alone s) (cut_at 44 text)

-- a slot holds a variable, or nothing where `-` stands
abbrev pub slot : Scan (Option Var)
slot text = if begins 45 text then Ok (None, drop 1 (past_blanks text)) else and_then (variable text) (λ v. pure (Some v))

-- one behind the other, at most so many
abbrev pub slots_up_to : ℕ → List (Option Var) → List ℕ → Outcome (List (Option Var))
slots_up_to zero found text = Ok found
slots_up_to (suc n) found text = if is_over text then Ok found else on_ok (slot text) (λ r. slots_up_to n (found ++ r.0 ∷ []) r.1)

-- each takes a byte at least
abbrev pub slots : List ℕ → Outcome (List (Option Var))
slots text = slots_up_to (length text) [] text
