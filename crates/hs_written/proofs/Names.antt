-- The name of a variable by its number is read as that variable.
use Rattle.std.proofs.Common.{◌≡◌, ℕ, ◌+◌, ◌-◌, ◌*◌, ◌/◌, ◌%◌, ◌^◌, ◌≤◌, ◌<◌, Bool, true, false, not, ◌&&◌, nat_le, nat_lt, nat_eq, if◌then◌else◌, List, [], ◌∷◌, ◌++◌, Some, None, get_or, refl, ap, ◌∙◌, arith}
use Rattle.std.specs.Bool.{IsTrue}
use Rattle.std.specs.Fmt.{decimal}
use Rattle.std.proofs.lemmas.Bool.Decides.{nat_tests}
use Rattle.std.proofs.lemmas.Fmt.{decimal_by_steps, first_decimal}
use Rattle.std.proofs.lemmas.List.Sums.{fold-append}
use Rattle.hs_pure.specs.declared.var.Var.{Var}
use Rattle.hs_numbering.specs.Names.{add_digit, number_of, var_of, numbered_var}
use Rattle.hs_numbering.specs.Names as names
use Rattle.hs_print.specs.Variable.{letter, numbered_text}
use Rattle.hs_written.specs.Writable.{has_number}

-- ---- tests

pub both_true : (a b : Bool) → IsTrue (a && b) → IsTrue a × IsTrue b
both_true true b h = (refl, h)
both_true false b h = absurd cc

pub not_true : (b : Bool) → not b ≡ true → b ≡ false
not_true true h = absurd cc
not_true false h = refl

pub tested_le : (m n : ℕ) → nat_le m n ≡ true → m ≤ n
tested_le m n h = grind (arith, nat_tests)

tested_lt : (m n : ℕ) → nat_lt m n ≡ true → m < n
tested_lt m n h = grind (arith, nat_tests)

is_le : (m n : ℕ) → m ≤ n → nat_le m n ≡ true
is_le m n h = grind (arith, nat_tests)

pub is_lt : (m n : ℕ) → m < n → nat_lt m n ≡ true
is_lt m n h = grind (arith, nat_tests)

is_not_eq : (m n : ℕ) → n < m → nat_eq m n ≡ false
is_not_eq m n h = grind (arith, nat_tests)

number_range : (v : Var) → IsTrue (has_number v) → (0 < v.number) × (v.number < 2 ^ 32)
number_range v h = let k = both_true (nat_le 1 v.number) (nat_lt v.number (2 ^ 32)) h in (tested_le 1 v.number k.0, tested_lt v.number (2 ^ 32) k.1)

-- ---- decimals

-- one more digit of a number that has 32 bits
add_digit-next : (k b m : ℕ) → 48 ≤ b → b ≤ 57 → k * 10 + (b - 48) ≡ m → m < 2 ^ 32 → add_digit (Some k) b ≡ Some m
add_digit-next k b m le ge is small =
    let low = is_le 48 b le in
    let high = is_le b 57 ge in
    let fits = is_lt m (2 ^ 32) small in
    (λ j. if (low j && high j) && nat_lt (is j) (2 ^ 32) then Some (is j) else None) ∙ (λ j. if fits j then Some m else None)

Read : ℕ → List ℕ → Type 0
Read m ds = m < 2 ^ 32 → names.decimal ds ≡ Some m

one_digit : (m : ℕ) → m < 10 → Read m ((48 + m) ∷ [])
unfolding Read
one_digit m h small = add_digit-next 0 (48 + m) m (omega arith) (omega arith) (omega arith) small

next_digit : (m : ℕ) (ds : List ℕ) → 10 ≤ m → Read (m / 10) ds → Read m (ds ++ (48 + m % 10) ∷ [])
unfolding Read
next_digit m ds h ih small =
    let front : m / 10 < 2 ^ 32 = below m small in
    fold-append add_digit (Some 0) ds ((48 + m % 10) ∷ []) ∙ ap (λ o. add_digit o (48 + m % 10)) (ih front)
    ∙ add_digit-next (m / 10) (48 + m % 10) m (omega arith) (last m) (whole m) small
  where
    below : (m : ℕ) → m < 2 ^ 32 → m / 10 < 2 ^ 32
    below m h = omega arith

    last : (m : ℕ) → 48 + m % 10 ≤ 57
    last m = omega arith

    whole : (m : ℕ) → m / 10 * 10 + (48 + m % 10 - 48) ≡ m
    whole m = omega arith

below_wide : (n : ℕ) → n < 2 ^ 32 → n < 2 ^ 64
below_wide n h = omega arith

decimal-decimal : (n : ℕ) → n < 2 ^ 32 → names.decimal (decimal n) ≡ Some n
unfolding Read
decimal-decimal n small = decimal_by_steps Read one_digit next_digit n (below_wide n small) small

-- what does not begin with 0
number_of-first : (ds : List ℕ) → 48 < get_or ds 0 0 → number_of ds ≡ names.decimal ds
number_of-first [] h = absurd (omega arith)
number_of-first (b ∷ bs) h = let e = is_not_eq b 48 h in λ j. if e j then None else names.decimal (b ∷ bs)

number_of-decimal : (n : ℕ) → 0 < n → n < 2 ^ 32 → number_of (decimal n) ≡ Some n
number_of-decimal n some small = number_of-first (decimal n) (first_decimal n some (below_wide n small)) ∙ decimal-decimal n small

pub numbered_var-text : (v : Var) → IsTrue (has_number v) → numbered_var (numbered_text v) ≡ Some v
numbered_var-text v h = let r = number_range v h in of v.bag v.number (number_of-decimal v.number r.0 r.1)
  where
    of : (b : Bool) (n : ℕ) → number_of (decimal n) ≡ Some n → numbered_var (letter b ++ decimal n) ≡ Some (record { number = n; bag = b })
    of true n e = ap (var_of true) e
    of false n e = ap (var_of false) e
