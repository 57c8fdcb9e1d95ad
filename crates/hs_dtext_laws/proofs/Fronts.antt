-- Numbers, words and variables at the front of a text are read.
use Rattle.std.proofs.Common.{◌≡◌, ℕ, ◌<◌, ◌≤◌, ◌^◌, lit<, Bool, true, false, nat_eq, if◌then◌else◌, List, [], ◌∷◌, ◌++◌, length, drop, Option, Some, None, Ok, Err, refl, sym, ap, ◌∙◌, subst, inl, inr, arith}
use Rattle.std.specs.Prelude.{IsTrue, take_while}
use Rattle.std.specs.Str.{bytes_eq}
use Rattle.std.specs.Fmt.{decimal}
use Rattle.std.proofs.lemmas.Bool.{cases_Bool}
use Rattle.std.proofs.lemmas.Bool.Decides.{nat_tests}
use Rattle.std.proofs.lemmas.Fmt.{decimal_digit}
use Rattle.std.proofs.lemmas.Slice.Eq.{bytes_eq-Decides}
use Rattle.std.proofs.Math.Seq.{drop-append_seam}
use Rattle.hs_lex.specs.Tokens.{is_blank, is_digit, is_letter, is_in_name, BeginsWith, IsRun}
use Rattle.hs_lex.proofs.Runs.{take_while-run}
use Rattle.hs_pure.specs.declared.var.Var.{Var}
use Rattle.hs_numbering.specs.Names.{number_of, var_of, numbered_var}
use Rattle.hs_numbering.specs.Names as names
use Rattle.hs_print.specs.Variable.{numbered_text}
use Rattle.hs_written.specs.Writable.{has_number}
use Rattle.hs_written.proofs.Names.{numbered_var-text}
use Rattle.hs_round_trip.proofs.Segments.{is_end}
use Rattle.hs_round_trip.proofs.Tokens.{number_spells, variable_spells}
use Rattle.hs_round_trip.proofs.Words.{is_word, word_spells}
use Rattle.hs_line.specs.declared.fault.Fault.TheVariants.{Word, Number}
use Rattle.hs_line.specs.Scan.{past_blanks, run, behind, is_over, word, zero_alone, plain_number, taken, number, no_variable, variable}

-- ---- what ends a text

-- a blank or nothing
abbrev pub tail : Bool → List ℕ
tail true = 32 ∷ []
tail false = []

pub tail_ends : (b : Bool) → IsTrue (is_end (tail b))
tail_ends true = refl
tail_ends false = refl

pub tail_over : (b : Bool) → is_over (tail b) ≡ true
tail_over true = refl
tail_over false = refl

-- ---- blanks

abbrev Begins : (ℕ → Bool) → List ℕ → Type 0
Begins is_in w = BeginsWith is_in w

letter_plain : (b : ℕ) → is_letter b ≡ true → is_blank b ≡ false
letter_plain b e = grind (arith, nat_tests)

digit_plain : (b : ℕ) → is_digit b ≡ true → is_blank b ≡ false
digit_plain b e = grind (arith, nat_tests)

past_plain : (b : ℕ) (text : List ℕ) → is_blank b ≡ false → past_blanks (b ∷ text) ≡ b ∷ text
past_plain b text e = λ i. if e i then past_blanks text else b ∷ text

pub past_letter : (w rest : List ℕ) → BeginsWith is_letter w → past_blanks (w ++ rest) ≡ w ++ rest
past_letter [] rest h = absurd h
past_letter (b ∷ w) rest h = past_plain b (w ++ rest) (letter_plain b h)

pub past_digit : (w rest : List ℕ) → BeginsWith is_digit w → past_blanks (w ++ rest) ≡ w ++ rest
past_digit [] rest h = absurd h
past_digit (b ∷ w) rest h = past_plain b (w ++ rest) (digit_plain b h)

-- ---- runs

pub run_back : (is_in : ℕ → Bool) (w rest : List ℕ) → past_blanks (w ++ rest) ≡ w ++ rest → IsRun is_in w rest → run is_in (w ++ rest) ≡ w
run_back is_in w rest p is = ap (take_while is_in) p ∙ take_while-run is_in w rest is

pub behind_back : (is_in : ℕ → Bool) (w rest : List ℕ) → past_blanks (w ++ rest) ≡ w ++ rest → IsRun is_in w rest → behind is_in (w ++ rest) ≡ rest
behind_back is_in w rest p is =
    ap (λ t. drop (length (take_while is_in t)) t) p
    ∙ (ap (λ t. drop (length t) (w ++ rest)) (take_while-run is_in w rest is) ∙ drop-append_seam w rest)

-- ---- words

same_bytes : (w : List ℕ) → bytes_eq w w ≡ true
same_bytes w = (bytes_eq-Decides w w).1 refl

pub word_back : (w rest : List ℕ) → IsTrue (is_word w) → IsTrue (is_end rest) → word w (w ++ rest) ≡ Ok (tt, rest)
word_back w rest is ends =
    let spells = word_spells (2 ^ 126) w rest is ends in
    let p = past_letter w rest spells.0.first in
    let r = run_back is_in_name w rest p spells.0.run in
    let t = behind_back is_in_name w rest p spells.0.run in
    (λ i. if bytes_eq (r i) w then Ok (tt, t i) else Err Word) ∙ (λ i. if same_bytes w i then Ok (tt, rest) else Err Word)

-- ---- numbers

wide : (n : ℕ) → n < 2 ^ 32 → n ≤ 2 ^ 126
wide n h = omega (arith, small)
  where
    small : 2 ^ 32 < 2 ^ 126
    small = lit< tt

abbrev number_or : Option Var → ℕ
number_or None = 0
number_or (Some v) = v.number

number_from : (o : Option ℕ) (n : ℕ) → var_of false o ≡ Some (record { number = n; bag = false }) → o ≡ Some n
number_from None n e = absurd cc
number_from (Some k) n e = ap Some (ap number_or e)

plain_from : (ds : List ℕ) (n : ℕ) → number_of ds ≡ Some n → plain_number ds ≡ Some n
plain_from [] n e = absurd cc
plain_from (b ∷ bs) n e =
    elim (cases_Bool (nat_eq b 48)) [
      | inl is ↦ let none : number_of (b ∷ bs) ≡ None = λ i. if is i then None else names.decimal (b ∷ bs) in absurd cc
      | inr other ↦ (λ i. if other i then zero_alone bs else names.decimal (b ∷ bs)) ∙ ((λ i. if sym other i then None else names.decimal (b ∷ bs)) ∙ e)
    ]

var_short : (n : ℕ) → 0 < n → n < 2 ^ 32 → IsTrue (has_number (record { number = n; bag = false }))
var_short n some small = grind (arith, nat_tests)

zero_back : (n : ℕ) → n ≡ 0 → plain_number (decimal n) ≡ Some n
zero_back n e = subst (λ k. plain_number (decimal k) ≡ Some k) (sym e) (ap plain_number (decimal_digit 0 (lit< tt)))

pub plain_back : (n : ℕ) → n < 2 ^ 32 → plain_number (decimal n) ≡ Some n
plain_back n small =
    elim (cases_Bool (nat_eq n 0)) [
      | inl is ↦ let e : n ≡ 0 = grind (arith, nat_tests) in zero_back n e
      | inr other ↦
          let some : 0 < n = grind (arith, nat_tests) in
          plain_from (decimal n) n (number_from (number_of (decimal n)) n (numbered_var-text (record { number = n; bag = false }) (var_short n some small)))
    ]

pub number_back : (n : ℕ) (rest : List ℕ) → n < 2 ^ 32 → IsTrue (is_end rest) → number (decimal n ++ rest) ≡ Ok (n, rest)
number_back n rest small ends =
    let spells = number_spells (2 ^ 126) n rest (wide n small) (wide n small) ends in
    let p = past_digit (decimal n) rest spells.0.first in
    let r = run_back is_digit (decimal n) rest p spells.0.run in
    let t = behind_back is_digit (decimal n) rest p spells.0.run in
    (λ i. taken (plain_number (r i)) Number (t i)) ∙ ap (λ o. taken o Number rest) (plain_back n small)

-- ---- variables

pub variable_back : (v : Var) (rest : List ℕ) → IsTrue (has_number v) → IsTrue (is_end rest) → variable (numbered_text v ++ rest) ≡ Ok (v, rest)
variable_back v rest h ends =
    let spells = variable_spells (2 ^ 126) v rest h ends in
    let p = past_letter (numbered_text v) rest spells.0.first in
    let r = run_back is_in_name (numbered_text v) rest p spells.0.run in
    let t = behind_back is_in_name (numbered_text v) rest p spells.0.run in
    (λ i. taken (numbered_var (r i)) (no_variable (r i)) (t i)) ∙ ap (λ o. taken o (no_variable (numbered_text v)) rest) (numbered_var-text v h)
