-- Signs, numbers and names of variables as tokens.
use Rattle.std.proofs.Common.{◌≡◌, ℕ, ◌<◌, ◌≤◌, ◌^◌, lit<, Bool, true, false, not, nat_eq, List, [], ◌∷◌, ◌++◌, length, Option, Some, refl, sym, subst, arith}
use Rattle.std.specs.Prelude.{IsTrue, IfSome, ◌==◌}
use Rattle.std.specs.List.{AllByRecursion}
use Rattle.std.specs.Fmt.{decimal}
use Rattle.std.specs.Char.{digit_value}
use Rattle.std.specs.Str.Parse.{AllDigits, IsNumeral}
use Rattle.std.proofs.lemmas.Bool.{and_parts}
use Rattle.std.proofs.lemmas.Bool.Decides.{nat_tests}
use Rattle.std.proofs.lemmas.Fmt.{decimal_is_IsNumeral_wide, length-decimal-le_wide}
use Rattle.std.proofs.lemmas.Str.Parse.{digit_from_value}
use Rattle.hs_lex.specs.declared.token.Sign.{Sign}
use Rattle.hs_lex.specs.declared.token.Sign.TheVariants as sign
use Rattle.hs_lex.specs.declared.token.TokenKind.TheVariants as kinds
use Rattle.hs_lex.specs.Scan.{signs, sign_among, sign_at}
use Rattle.hs_lex.specs.Tokens.{is_letter, is_digit, is_in_name, BeginsWith, HasPrefix, Spells, spelling}
use Rattle.hs_lex.proofs.Signs.{sign_at-longest}
use Rattle.hs_words.specs.declared.word.Word.TheVariants as word_kind
use Rattle.hs_words.specs.Word.{name_word}
use Rattle.hs_pure.specs.declared.var.Var.{Var}
use Rattle.hs_print.specs.Variable.{letter, numbered_text}
use Rattle.hs_written.specs.Writable.{has_number}
use Rattle.hs_round_trip.proofs.Segments.{is_end, is_start}

-- ---- signs

-- the sign at the front of a text, by computing
abbrev pub found : List ℕ → Option (Sign × ℕ)
found = sign_among signs

pub sign_spells : (top : ℕ) (s : Sign) (rest : List ℕ) → found (spelling s ++ rest) ≡ Some (s, length (spelling s)) → Spells top (kinds.Sign s) (spelling s) rest
unfolding sign_at
sign_spells top s rest e = record { spelt = refl; longest = longest }
  where
    longest : (t : Sign) → HasPrefix (spelling s ++ rest) (spelling t) → length (spelling t) ≤ length (spelling s)
    longest t begins =
        let long = subst (λ (l : List ℕ). IfSome (sign_at l) (λ r. length (spelling t) ≤ r.1)) (sym begins.1) (sign_at-longest t begins.0) in
        let given = subst (λ (o : Option (Sign × ℕ)). IfSome o (λ r. length (spelling t) ≤ r.1)) e long in
        given

not_both : (b : Bool) → IsTrue (not b) → IsTrue b → ⊥
not_both true h g = absurd cc
not_both false h g = absurd cc

pub less_at : (rest : List ℕ) → IsTrue (is_start rest) → found (60 ∷ rest) ≡ Some (sign.Less, 1)
less_at [] h = absurd cc
less_at (b ∷ rest) h = let e : nat_eq 61 b ≡ false = grind (arith, nat_tests) in rw e refl

pub bang_at : (rest : List ℕ) → IsTrue (is_start rest) → found (33 ∷ rest) ≡ Some (sign.Bang, 1)
bang_at [] h = absurd cc
bang_at (b ∷ rest) h = let e : nat_eq 61 b ≡ false = grind (arith, nat_tests) in rw e refl

pub minus_at : (rest : List ℕ) → IsTrue (is_start rest) → found (45 ∷ rest) ≡ Some (sign.Minus, 1)
minus_at [] h = absurd cc
minus_at (b ∷ rest) h = let e : nat_eq 62 b ≡ false = grind (arith, nat_tests) in rw e refl

pub greater_at : (rest : List ℕ) → IsTrue (is_end rest) → found (62 ∷ rest) ≡ Some (sign.Greater, 1)
greater_at [] h = refl
greater_at (b ∷ rest) h = let e : nat_eq 61 b ≡ false = grind (arith, nat_tests) in rw e refl

-- ---- runs

pub name_ends : (rest : List ℕ) → IsTrue (is_end rest) → ¬ (BeginsWith is_in_name rest)
name_ends [] h b = b
name_ends (c ∷ rest) h b = not_both (is_in_name c) (and_parts (not (is_in_name c)) (not (c == 61)) h).0 b

digit_in_name : (c : ℕ) → is_digit c ≡ true → is_in_name c ≡ true
digit_in_name c e = grind (arith, nat_tests)

number_ends : (rest : List ℕ) → IsTrue (is_end rest) → ¬ (BeginsWith is_digit rest)
number_ends [] h b = b
number_ends (c ∷ rest) h b = name_ends (c ∷ rest) h (digit_in_name c b)

pub name_spells : (top : ℕ) (t rest : List ℕ) → BeginsWith is_letter t → AllByRecursion (λ b. IsTrue (is_in_name b)) t → length t ≤ 64 → IsTrue (is_end rest) → Spells top kinds.Name t rest
name_spells top t rest first all short h = (record { first = first; run = record { all = all; ends = name_ends rest h } }, short)

digit_is : (c : ℕ) → digit_value c < 10 → is_digit c ≡ true
digit_is c small = let range = digit_from_value c small in grind (arith, nat_tests)

digits_all : (ds : List ℕ) → AllDigits 10 ds → AllByRecursion (λ b. IsTrue (is_digit b)) ds
digits_all [] all = tt
digits_all (d ∷ ds) all = (digit_is d all.0, digits_all ds all.1)

digits_first : (ds : List ℕ) → 0 < length ds → AllDigits 10 ds → BeginsWith is_digit ds
digits_first [] some all = absurd (omega arith)
digits_first (d ∷ ds) some all = digit_is d all.0

pub fits_wide : (n : ℕ) → n ≤ 2 ^ 126 → n < 10 ^ 64
fits_wide n h = omega (arith, small)
  where
    small : 2 ^ 126 < 10 ^ 64
    small = lit< tt

pub number_spells : (top n : ℕ) (rest : List ℕ) → n ≤ 2 ^ 126 → n ≤ top → IsTrue (is_end rest) → Spells top (kinds.Number n) (decimal n) rest
number_spells top n rest small fits h =
    let is = decimal_is_IsNumeral_wide n (fits_wide n small) in
    (record { first = digits_first (decimal n) is.0.0 is.0.1; run = record { all = digits_all (decimal n) is.0.1; ends = number_ends rest h } }, is.1, fits)

digits_start : (ds rest : List ℕ) → BeginsWith is_digit ds → IsTrue (is_start (ds ++ rest))
digits_start [] rest b = absurd b
digits_start (d ∷ ds) rest b = grind (arith, nat_tests)

pub number_start : (n : ℕ) (rest : List ℕ) → n ≤ 2 ^ 126 → IsTrue (is_start (decimal n ++ rest))
number_start n rest small =
    let is = decimal_is_IsNumeral_wide n (fits_wide n small) in
    digits_start (decimal n) rest (digits_first (decimal n) is.0.0 is.0.1)

-- ---- names of variables

digits_in_name : (ds : List ℕ) → AllByRecursion (λ b. IsTrue (is_digit b)) ds → AllByRecursion (λ b. IsTrue (is_in_name b)) ds
digits_in_name [] all = tt
digits_in_name (d ∷ ds) all = (digit_in_name d all.0, digits_in_name ds all.1)

letter_in_name : (bag : Bool) (ds : List ℕ) → AllByRecursion (λ b. IsTrue (is_in_name b)) ds → AllByRecursion (λ b. IsTrue (is_in_name b)) (letter bag ++ ds)
letter_in_name true ds all = (refl, all)
letter_in_name false ds all = (refl, all)

letter_first : (bag : Bool) (ds : List ℕ) → BeginsWith is_letter (letter bag ++ ds)
letter_first true ds = refl
letter_first false ds = refl

letter_length : (bag : Bool) (ds : List ℕ) → length ds ≤ 10 → length (letter bag ++ ds) ≤ 64
letter_length true ds h = omega arith
letter_length false ds h = omega arith

pub number_small : (v : Var) → IsTrue (has_number v) → v.number < 2 ^ 32
number_small v h = grind (arith, nat_tests)

var_digits : (v : Var) → IsTrue (has_number v) → IsNumeral 10 (decimal v.number)
var_digits v h = (decimal_is_IsNumeral_wide v.number (wider v.number (number_small v h))).0
  where
    tall : 2 ^ 32 < 10 ^ 64
    tall = lit< tt

    wider : (n : ℕ) → n < 2 ^ 32 → n < 10 ^ 64
    wider n h = omega (arith, tall)

ten_digits : (n : ℕ) → n < 2 ^ 32 → length (decimal n) ≤ 10
ten_digits n h = length-decimal-le_wide 10 n (lit< tt) (omega (arith, tens)) (omega (arith, tall))
  where
    tens : 2 ^ 32 < 10 ^ 10
    tens = lit< tt

    tall : 2 ^ 32 < 10 ^ 64
    tall = lit< tt

pub variable_spells : (top : ℕ) (v : Var) (rest : List ℕ) → IsTrue (has_number v) → IsTrue (is_end rest) → Spells top kinds.Name (numbered_text v) rest
variable_spells top v rest h ends =
    let all = digits_in_name (decimal v.number) (digits_all (decimal v.number) (var_digits v h).1) in
    name_spells top (numbered_text v) rest (letter_first v.bag (decimal v.number)) (letter_in_name v.bag (decimal v.number) all)
    (letter_length v.bag (decimal v.number) (ten_digits v.number (number_small v h))) ends

no_keyword : (bag : Bool) (ds : List ℕ) → BeginsWith is_digit ds → name_word (letter bag ++ ds) ≡ word_kind.Name
unfolding name_word
no_keyword true ds first = refl
no_keyword false [] first = absurd first
no_keyword false (d ∷ ds) first = let e : nat_eq d 97 ≡ false = grind (arith, nat_tests) in rw e refl

pub variable_word : (v : Var) → IsTrue (has_number v) → name_word (numbered_text v) ≡ word_kind.Name
variable_word v h = let is = var_digits v h in no_keyword v.bag (decimal v.number) (digits_first (decimal v.number) is.0 is.1)

pub variable_start : (v : Var) (rest : List ℕ) → IsTrue (is_start (numbered_text v ++ rest))
variable_start v rest = of v.bag
  where
    of : (bag : Bool) → IsTrue (is_start ((letter bag ++ decimal v.number) ++ rest))
    of true = refl
    of false = refl
