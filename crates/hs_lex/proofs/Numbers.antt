-- Digits read one after another.
use Rattle.std.proofs.Common.{◌≡◌, ℕ, zero, suc, ◌+◌, ◌-◌, ◌*◌, ◌<◌, ◌≤◌, Bool, true, List, [], ◌∷◌, length, get_or, take, ap, arith}
use Rattle.std.specs.Prelude.{take_while}
use Rattle.std.specs.Char.{digit_value}
use Rattle.std.specs.Str.Parse.{AllDigits, digits_value}
use Rattle.std.proofs.lemmas.List.Sums.{take_while-cons}
use Rattle.std.proofs.lemmas.Int.Digits.{digits_value_more}
use Rattle.std.proofs.lemmas.Str.{digit_value_digit}
use Rattle.std.proofs.lemmas.Str.Parse.{digit_from_value, digits_value-take-le}
use Rattle.hs_lex.specs.Scan.{front_len}
use Rattle.hs_lex.specs.Tokens.{is_digit}
use Rattle.std.specs.List.{prefix_len}
use Rattle.std.proofs.lemmas.List.Sums.{prefix_len-le-length}
use Rattle.std.proofs.Common.{length-take-le, inl, inr}
use Rattle.std.proofs.lemmas.Bool.{cases_Bool}
use Rattle.std.proofs.lemmas.Bool.Decides.{nat_tests}

pub digit_at : (ds : List ℕ) (i : ℕ) → AllDigits 10 ds → i < length ds → digit_value (get_or ds i 0) < 10
digit_at [] i all lt = absurd (omega arith)
digit_at (d ∷ ds) zero all lt = all.0
digit_at (d ∷ ds) (suc i) all lt = digit_at ds i all.1 (omega arith)

pub digit_above : (ds : List ℕ) (i : ℕ) → AllDigits 10 ds → i < length ds → 48 ≤ get_or ds i 0
digit_above ds i all lt = omega (arith, digit_value_digit (get_or ds i 0) (digit_from_value (get_or ds i 0) (digit_at ds i all lt)))

-- the value with one digit more
pub next_value : (ds : List ℕ) (i : ℕ) → AllDigits 10 ds → i < length ds → digits_value 10 (take (i + 1) ds) ≡ digits_value 10 (take i ds) * 10 + (get_or ds i 0 - 48)
next_value ds i all lt =
    omega (arith, digits_value_more 10 ds i lt, digit_value_digit (get_or ds i 0) (digit_from_value (get_or ds i 0) (digit_at ds i all lt)))

pub front_value : (ds : List ℕ) (i : ℕ) → digits_value 10 (take i ds) ≤ digits_value 10 ds
front_value ds i = digits_value-take-le 10 ds i (omega arith)

-- a byte that is a digit has a digit's value
digit_is : (c : ℕ) → is_digit c ≡ true → digit_value c < 10
digit_is c e = grind (arith, nat_tests)

pub AllDigits-take_while : (text : List ℕ) → AllDigits 10 (take_while is_digit text)
AllDigits-take_while [] = tt
AllDigits-take_while (c ∷ text) =
    rw take_while-cons
    (elim (cases_Bool (is_digit c)) [
      | inl is ↦ rw is (digit_is c is, AllDigits-take_while text)
      | inr other ↦ rw other tt
    ])

pub take-front_len : (is_in : ℕ → Bool) (text : List ℕ) → take (front_len is_in text) text ≡ take_while is_in text
take-front_len is_in text = ap (λ n. take n text) (length-take-le (prefix_len is_in text) text (prefix_len-le-length is_in text))
