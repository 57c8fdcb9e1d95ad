-- What the getters of the options read.
use Rattle.std.proofs.Common.{◌≡◌, ◌∙◌, ◌<◌, ◌≤◌, ◌==◌, ◌^◌, ℕ, Bool, cond, true, false, refl, sym, ap, subst, arith, List, [], ◌∷◌, drop, Option, Some, None, Result, Ok, Err, pos}
use Rattle.std.specs.Prelude.{unwrap_or}
use Rattle.std.specs.Str.Parse.{IsNumeral, ParsesUnsigned, digits_value, starts_with_minus, without_leading_plus}
use Rattle.std.proofs.lemmas.Bool.{ne_eqb}
use Rattle.std.proofs.lemmas.Int.{ints}
use Rattle.std.proofs.lemmas.Str.Parse.{digit_from_value}
use Rattle.clap.specs.Lexer.{without_minus}
use Rattle.clap.specs.Matches.{ReadsOne, found_of, one_text}
use Rattle.clap.specs.Values.{IsSignedIn}
use Rattle.clap.specs.ValueTests.{is_signed_in, is_unsigned_in}
use Rattle.clap.specs.Walk.{Row, Text, one_of, rows_of}
use Rattle.clap.specs.declared.parser.matches.ArgMatches.{ArgMatches}
use Rattle.clap.specs.declared.builder.ValueParser.TheVariants.{Signed, Unsigned}
use Rattle.clap.proofs.ValueTestLemmas.{accepts-Accepts}
use Rattle.clap.proofs.WalkLemmas.{one_text-rows}
use Rattle.hs_cli.specs.Job.{HasNumber, IsWithin, number_in, number_or}

-- `get_one` reads the number that the digits of a text write
reads_number : {E : Type 0} (G : Text → Result ℕ E → Type 0) (bits : ℕ) (text : Text) (r : Option ℕ) → ReadsOne G text r
    → ((u : Text) (x : Result ℕ E) → G u x → ParsesUnsigned bits 10 u x)
    → IsNumeral 10 (without_leading_plus text) → number_in text < 2 ^ bits → r ≡ Some (number_in text)
reads_number G bits text (Some v) read parses numeral fits = ap Some (parses text (Ok v) read).1
reads_number G bits text None read parses numeral fits = absurd (parses text (Err read.0) read.1 (numeral, fits))

-- and an option gives its number or the default
pub reads_option : {E : Type 0} (G : Text → Result ℕ E → Type 0) (bits default : ℕ) (m : ArgMatches) (id : Text) (r : Option ℕ)
    → (one_text (found_of m) id ≡ None → r ≡ None) → ((t : Text) → one_text (found_of m) id ≡ Some t → ReadsOne G t r)
    → ((u : Text) (x : Result ℕ E) → G u x → ParsesUnsigned bits 10 u x) → HasNumber bits id (rows_of (found_of m))
    → unwrap_or r default ≡ number_or default (one_of id (rows_of (found_of m)))
reads_option G bits default m id r none some parses has = go (one_text (found_of m) id) refl
  where
    go : (o : Option Text) → one_text (found_of m) id ≡ o → unwrap_or r default ≡ number_or default (one_of id (rows_of (found_of m)))
    go None e = ap (λ x. unwrap_or x default) (none e) ∙ ap (number_or default) (sym e ∙ one_text-rows (found_of m) id)
    go (Some t) e =
        let row = sym (one_text-rows (found_of m) id) ∙ e in
        let number = has t row in
        ap (λ x. unwrap_or x default) (reads_number G bits t r (some t e) parses number.0 number.1) ∙ ap (number_or default) (sym row)

without_minus-cond : (t : Text) → without_minus t ≡ cond (starts_with_minus t) (drop 1 t) t
without_minus-cond [] = refl
without_minus-cond (x ∷ xs) = go (x == 45)
  where
    go : (b : Bool) → unwrap_or (cond b (Some xs) None) (x ∷ xs) ≡ cond b xs (x ∷ xs)
    go true = refl
    go false = refl

no_plus : (ds : Text) → IsNumeral 10 ds → without_leading_plus ds ≡ ds
no_plus [] h = refl
no_plus (d ∷ ds) h =
    let plus : (d == 43) ≡ false = ne_eqb _ _ (λ e. omega (arith, digit_from_value d h.1.0)) in
    ap (λ (b : Bool). drop (cond b 1 0) (d ∷ ds)) plus

-- the text is a number from low to high
abbrev pub IsBetween : ℕ → ℕ → Text → Type 0
IsBetween low high text = IsNumeral 10 (without_leading_plus text) × (low ≤ number_in text) × (number_in text ≤ high)

-- a value that passed a signed range is read as a number in it
pub signed_between_is : (low high : ℕ) (v text : Text) → text ≡ without_minus v → is_signed_in (pos low) (pos high) v ≡ true → IsBetween low high text
signed_between_is low high v text read e =
    let passed = accepts-Accepts false (Signed (pos low) (pos high)) v e in
    subst (IsBetween low high) (sym (read ∙ without_minus-cond v)) (go passed (starts_with_minus v) refl)
  where
    go : IsSignedIn (pos low) (pos high) v → (b : Bool) → starts_with_minus v ≡ b → IsBetween low high (cond (starts_with_minus v) (drop 1 v) v)
    go passed true minus =
        let low_ok = rw minus at passed.2 in
        let numeral : IsNumeral 10 (drop 1 v) = rw minus at passed.0 in
        let same = no_plus (drop 1 v) numeral in
        let low_is : low ≤ digits_value 10 (drop 1 v) = omega (arith, ints) in
        let high_is : digits_value 10 (drop 1 v) ≤ high = omega (arith, ints) in
        rw minus (rw same numeral, rw same low_is, rw same high_is)
    go passed false minus =
        let low_ok = rw minus at passed.2 in
        let high_ok = rw minus at passed.3 in
        let numeral : IsNumeral 10 (without_leading_plus v) = rw minus at passed.0 in
        let low_is : low ≤ number_in v = omega (arith, ints) in
        let high_is : number_in v ≤ high = omega (arith, ints) in
        rw minus (numeral, low_is, high_is)

-- and so is one that passed an unsigned range
pub unsigned_between_is : (low high : ℕ) (v text : Text) → text ≡ v → is_unsigned_in low high v ≡ true → IsBetween low high text
unsigned_between_is low high v text read e =
    let passed = accepts-Accepts false (Unsigned low high) v e in
    subst (IsBetween low high) (sym read) (passed.0, passed.2, passed.3)

-- the option, where it is used, has a number from low to high
abbrev pub IsOptionBetween : ℕ → ℕ → Text → List Row → Type 0
IsOptionBetween low high id rows = (text : Text) → one_of id rows ≡ Some text → IsBetween low high text

-- then its value is one of its type
pub option_fits : (bits low high : ℕ) (id : Text) (rows : List Row) → high < 2 ^ bits → IsOptionBetween low high id rows → HasNumber bits id rows
option_fits bits low high id rows small between text e =
    let h = between text e in
    (h.0, omega (arith, h.2))

-- and lies in the range, as the default does
pub option_within : (low high default : ℕ) (id : Text) (rows : List Row) → low ≤ default → default ≤ high → IsOptionBetween low high id rows
    → IsWithin low high (number_or default (one_of id rows))
option_within low high default id rows above below between = go (one_of id rows) between
  where
    go : (o : Option Text) → ((text : Text) → o ≡ Some text → IsBetween low high text) → IsWithin low high (number_or default o)
    go None between = (above, below)
    go (Some text) between = let h = between text refl in (h.1, h.2)
