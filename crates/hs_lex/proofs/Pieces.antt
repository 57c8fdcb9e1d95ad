-- The piece that the scanner takes is a gap, a token or a fault of the text, and the other way round.
use Rattle.std.proofs.Common.{◌≡◌, ℕ, ◌<◌, ◌≤◌, Bool, true, false, ltb, nat_eq, List, [], ◌∷◌, ◌++◌, length, get_or, Option, Some, None, Result, Ok, Err, refl, sym, ap, subst, ◌∙◌, inl, inr, arith}
use Rattle.std.specs.Prelude.{codes, is_some, take_while, IfSome, MatchOption, MatchResult}
use Rattle.std.specs.List.{starts_with}
use Rattle.std.specs.Str.Parse.{digits_value}
use Rattle.std.proofs.lemmas.Bool.{cond_both, cond-true, cond-false, eqb-true, eq-eqb, ltb-true, ltb-false, lt-ltb, le-ltb, both_ways, false_from_ne_true}
use Rattle.std.proofs.lemmas.Bool.Decides.{nat_tests}
use Rattle.hs_lex.specs.declared.error.LexError.{LexError}
use Rattle.hs_lex.specs.declared.error.LexError.TheVariants.{BadByte, LiteralWide, NameLong}
use Rattle.hs_lex.specs.declared.piece.Piece.{Piece}
use Rattle.hs_lex.specs.declared.token.Sign.{Sign}
use Rattle.hs_lex.specs.declared.token.Sign.TheVariants.{ColonColon}
use Rattle.hs_lex.specs.declared.token.TokenKind.{TokenKind}
use Rattle.hs_lex.specs.declared.token.TokenKind.TheVariants as kinds
use Rattle.hs_lex.specs.Scan.{front_len, gap_piece, token_piece, name_at, number_at, sign_or_fault, sign_at, piece_at}
use Rattle.hs_lex.specs.Tokens.{is_blank, is_in_line, is_letter, is_digit, is_in_name, BeginsWith, HasPrefix, IsRun, IsGap, IsName, IsNumber, IsSign, Spells, BeginsNothing, Stops, bad, wide, long, spelling}
use Rattle.hs_lex.proofs.Runs.{split_at_run, take_while-run, front_len-run}
use Rattle.hs_lex.proofs.Signs.{HasPrefix-from_starts_with, IsRead, spelling_some, sign_at-read, sign_at-longest, sign_at-some, sign_at-is}

-- ---- what the scanner takes is what stands there

pub record Cut (top : ℕ) (text : List ℕ) (p : Piece) : Type 0 where
  pub piece : List ℕ
  pub rest : List ℕ
  pub whole : text ≡ piece ++ rest
  pub len : p.len ≡ length piece
  pub right : MatchOption p.kind (IsGap piece rest) (λ kind. Spells top kind piece rest)

abbrev pub IsAnswer : ℕ → ℕ → List ℕ → Result Piece LexError → Type 0
IsAnswer top at text answer = MatchResult answer (Cut top text) (Stops top at text)

letter_in_name : (b : ℕ) → is_letter b ≡ true → is_in_name b ≡ true
letter_in_name b e = grind (arith, nat_tests)

comment_cut : (top : ℕ) (text : List ℕ) → HasPrefix text (codes "//") → Cut top text (gap_piece (front_len is_in_line text))
comment_cut top text begins =
    let more = split_at_run is_in_line begins.0 in
    let whole : text ≡ (codes "//" ++ more.piece) ++ more.rest = begins.1 ∙ ap (λ l. codes "//" ++ l) more.whole in
    let run : IsRun is_in_line (codes "//" ++ more.piece) more.rest = record { all = (refl, (refl, more.run.all)); ends = more.run.ends } in
    record {
      piece = codes "//" ++ more.piece;
      rest = more.rest;
      whole = whole;
      len = ap (front_len is_in_line) whole ∙ front_len-run is_in_line (codes "//" ++ more.piece) more.rest run;
      right = inr (record { slashes = (more.piece, refl); line = run });
    }

name_answer : (top at b : ℕ) (text : List ℕ) → is_letter b ≡ true → IsAnswer top at (b ∷ text) (name_at at (b ∷ text))
name_answer top at b text letter =
    let more = split_at_run is_in_name text in
    let whole : b ∷ text ≡ (b ∷ more.piece) ++ more.rest = ap (λ l. b ∷ l) more.whole in
    let name : IsName (b ∷ more.piece) more.rest = record { first = letter; run = record { all = (letter_in_name b letter, more.run.all); ends = more.run.ends } } in
    let len : front_len is_in_name (b ∷ text) ≡ length (b ∷ more.piece) = ap (front_len is_in_name) whole ∙ front_len-run is_in_name (b ∷ more.piece) more.rest name.run in
    cond_both (ltb 64 (front_len is_in_name (b ∷ text))) _ _ (IsAnswer top at (b ∷ text))
    (λ over. subst (λ (t : List ℕ). Stops top at t (NameLong at)) (sym whole) (long at (b ∷ more.piece) more.rest name (omega (arith, ltb-true _ _ over, len))))
    (λ fits. record { piece = b ∷ more.piece; rest = more.rest; whole = whole; len = len; right = (name, omega (arith, ltb-false _ _ fits, len)) })

number_answer : (top at b : ℕ) (text : List ℕ) → is_digit b ≡ true → IsAnswer top at (b ∷ text) (number_at top at (b ∷ text))
number_answer top at b text digit =
    let more = split_at_run is_digit text in
    let whole : b ∷ text ≡ (b ∷ more.piece) ++ more.rest = ap (λ l. b ∷ l) more.whole in
    let number : IsNumber (b ∷ more.piece) more.rest = record { first = digit; run = record { all = (digit, more.run.all); ends = more.run.ends } } in
    let digits : take_while is_digit (b ∷ text) ≡ b ∷ more.piece = ap (take_while is_digit) whole ∙ take_while-run is_digit (b ∷ more.piece) more.rest number.run in
    cond_both (ltb top (digits_value 10 (take_while is_digit (b ∷ text)))) _ _ (IsAnswer top at (b ∷ text))
    (λ over. subst (λ (t : List ℕ). Stops top at t (LiteralWide at)) (sym whole) (wide at (b ∷ more.piece) more.rest number (omega (arith, ltb-true _ _ over, ap (digits_value 10) digits))))
    (λ fits. record { piece = b ∷ more.piece; rest = more.rest; whole = whole; len = ap length digits; right = (number, ap (digits_value 10) (sym digits), omega (arith, ltb-false _ _ fits)) })

read_longest : (text : List ℕ) (s : Sign × ℕ) → sign_at text ≡ Some s → (t : Sign) → HasPrefix text (spelling t) → length (spelling t) ≤ s.1
read_longest text s e t begins =
    let long = subst (λ (l : List ℕ). IfSome (sign_at l) (λ r. length (spelling t) ≤ r.1)) (sym begins.1) (sign_at-longest t begins.0) in
    let given = subst (λ (o : Option (Sign × ℕ)). IfSome o (λ r. length (spelling t) ≤ r.1)) e long in
    given

sign_answer : (top at : ℕ) (text : List ℕ) (o : Option (Sign × ℕ)) → sign_at text ≡ o → (((s : Sign) → ¬ (HasPrefix text (spelling s))) → BeginsNothing text)
    → IsAnswer top at text (sign_or_fault at o)
sign_answer top at text None e nothing =
    bad at text (nothing (λ s begins.
    let some = subst (λ (l : List ℕ). is_some (sign_at l) ≡ true) (sym begins.1) (sign_at-some s begins.0) in
    both_ways (is_some (sign_at text)) (ap is_some e) some))
sign_answer top at text (Some s) e nothing =
    let was = subst (λ (o : Option (Sign × ℕ)). IfSome o (IsRead text)) e (sign_at-read text) in
    record {
      piece = spelling s.0;
      rest = was.begins.0;
      whole = was.begins.1;
      len = was.len;
      right = record {
        spelt = refl;
        longest = λ t begins. omega (arith, was.len, read_longest text s e t (subst (λ (l : List ℕ). HasPrefix l (spelling t)) (sym was.begins.1) begins));
      };
    }

pub piece_at-answer : (top at : ℕ) (text : List ℕ) → 0 < length text → IsAnswer top at text (piece_at top at text)
unfolding piece_at
piece_at-answer top at [] some = absurd (omega arith)
piece_at-answer top at (b ∷ text) some =
    cond_both (is_blank b) _ _ (IsAnswer top at (b ∷ text))
    (λ blank. record { piece = b ∷ []; rest = text; whole = refl; len = refl; right = inl (b, blank, refl) })
    (λ no_blank. cond_both (starts_with nat_eq (b ∷ text) (codes "//")) _ _ (IsAnswer top at (b ∷ text))
    (λ slashes. comment_cut top (b ∷ text) (HasPrefix-from_starts_with (b ∷ text) (codes "//") slashes))
    (λ no_slashes. cond_both (nat_eq b 95) _ _ (IsAnswer top at (b ∷ text))
    (λ hole. record { piece = b ∷ []; rest = text; whole = refl; len = refl; right = ap (λ c. c ∷ []) (eqb-true b 95 hole) })
    (λ no_hole. cond_both (is_letter b) _ _ (IsAnswer top at (b ∷ text))
    (λ letter. name_answer top at b text letter)
    (λ no_letter. cond_both (is_digit b) _ _ (IsAnswer top at (b ∷ text))
    (λ digit. number_answer top at b text digit)
    (λ no_digit. sign_answer top at (b ∷ text) (sign_at (b ∷ text)) refl (λ no_sign. record {
      some = some;
      blank = both_ways _ no_blank;
      comment = λ begins. both_ways _ no_slashes (subst (λ (l : List ℕ). starts_with nat_eq l (codes "//") ≡ true) (sym begins.1) refl);
      name = both_ways _ no_letter;
      hole = λ begins. both_ways _ no_hole (eq-eqb b 95 (ap (λ (l : List ℕ). get_or l 0 0) begins.1));
      number = both_ways _ no_digit;
      sign = no_sign;
    }))))))

-- ---- what stands there is what the scanner takes

begins_some : (is_in : ℕ → Bool) (text : List ℕ) → BeginsWith is_in text → 0 < length text
begins_some is_in [] begins = absurd begins
begins_some is_in (b ∷ text) begins = omega arith

pub gap_some : (piece rest : List ℕ) → IsGap piece rest → 0 < length piece
gap_some piece rest (inl blank) = omega (arith, ap length blank.2)
gap_some piece rest (inr comment) = omega (arith, ap length comment.slashes.1)

pub token_some : (top : ℕ) (kind : TokenKind) (piece rest : List ℕ) → Spells top kind piece rest → 0 < length piece
token_some top kinds.Name piece rest is = begins_some is_letter piece is.0.first
token_some top kinds.Hole piece rest is = omega (arith, ap length is)
token_some top (kinds.Number n) piece rest is = begins_some is_digit piece is.0.first
token_some top (kinds.Sign s) piece rest is = omega (arith, ap length is.spelt, spelling_some s)

pub number_some : (piece rest : List ℕ) → IsNumber piece rest → 0 < length piece
number_some piece rest is = begins_some is_digit piece is.first

letter_tests : (b : ℕ) → is_letter b ≡ true → (is_blank b ≡ false) × (nat_eq 47 b ≡ false) × (nat_eq b 95 ≡ false)
letter_tests b e = (grind (arith, nat_tests), grind (arith, nat_tests), grind (arith, nat_tests))

digit_tests : (b : ℕ) → is_digit b ≡ true → (is_blank b ≡ false) × (nat_eq 47 b ≡ false) × (nat_eq b 95 ≡ false) × (is_letter b ≡ false)
digit_tests b e = (grind (arith, nat_tests), grind (arith, nat_tests), grind (arith, nat_tests), grind (arith, nat_tests))

no_slashes : (b : ℕ) (text : List ℕ) → nat_eq 47 b ≡ false → starts_with nat_eq (b ∷ text) (codes "//") ≡ false
no_slashes b text e = rw e refl

at_letter : (top at b : ℕ) (text : List ℕ) → is_letter b ≡ true → piece_at top at (b ∷ text) ≡ name_at at (b ∷ text)
unfolding piece_at
at_letter top at b text letter =
    let tests = letter_tests b letter in
    cond-false _ _ _ tests.0 ∙ (cond-false _ _ _ (no_slashes b text tests.1) ∙ (cond-false _ _ _ tests.2 ∙ cond-true _ _ _ letter))

at_digit : (top at b : ℕ) (text : List ℕ) → is_digit b ≡ true → piece_at top at (b ∷ text) ≡ number_at top at (b ∷ text)
unfolding piece_at
at_digit top at b text digit =
    let tests = digit_tests b digit in
    cond-false _ _ _ tests.0 ∙ (cond-false _ _ _ (no_slashes b text tests.1) ∙ (cond-false _ _ _ tests.2 ∙ (cond-false _ _ _ tests.3 ∙ cond-true _ _ _ digit)))

at_sign : (top at : ℕ) (s : Sign) (rest : List ℕ) → piece_at top at (spelling s ++ rest) ≡ sign_or_fault at (sign_at (spelling s ++ rest))
unfolding piece_at
at_sign top at ColonColon rest = refl
at_sign top at s rest = refl

pub gap-taken : (top at : ℕ) (piece rest : List ℕ) → IsGap piece rest → piece_at top at (piece ++ rest) ≡ Ok (gap_piece (length piece))
unfolding piece_at
gap-taken top at piece rest (inl blank) =
    subst (λ (l : List ℕ). piece_at top at (l ++ rest) ≡ Ok (gap_piece (length l))) (sym blank.2) (cond-true (is_blank blank.0) _ _ blank.1)
gap-taken top at piece rest (inr comment) =
    subst (λ (l : List ℕ). IsRun is_in_line l rest → piece_at top at (l ++ rest) ≡ Ok (gap_piece (length l))) (sym comment.slashes.1)
    (λ run. ap (λ n. Ok (gap_piece n)) (front_len-run is_in_line (codes "//" ++ comment.slashes.0) rest run)) comment.line

name-taken : (top at : ℕ) (piece rest : List ℕ) → IsName piece rest → length piece ≤ 64 → piece_at top at (piece ++ rest) ≡ Ok (token_piece kinds.Name (length piece))
name-taken top at [] rest name fits = absurd name.first
name-taken top at (b ∷ piece) rest name fits =
    let len = front_len-run is_in_name (b ∷ piece) rest name.run in
    at_letter top at b (piece ++ rest) name.first ∙ (cond-false _ _ _ (le-ltb 64 (front_len is_in_name (b ∷ piece ++ rest)) (omega (arith, len, fits))) ∙ ap (λ n. Ok (token_piece kinds.Name n)) len)

pub long-taken : (top at : ℕ) (piece rest : List ℕ) → IsName piece rest → 64 < length piece → piece_at top at (piece ++ rest) ≡ Err (NameLong at)
long-taken top at [] rest name over = absurd name.first
long-taken top at (b ∷ piece) rest name over =
    let len = front_len-run is_in_name (b ∷ piece) rest name.run in
    at_letter top at b (piece ++ rest) name.first ∙ cond-true _ _ _ (lt-ltb 64 (front_len is_in_name (b ∷ piece ++ rest)) (omega (arith, len, over)))

number-taken : (top at n : ℕ) (piece rest : List ℕ) → IsNumber piece rest → digits_value 10 piece ≡ n → n ≤ top
    → piece_at top at (piece ++ rest) ≡ Ok (token_piece (kinds.Number n) (length piece))
number-taken top at n [] rest number value fits = absurd number.first
number-taken top at n (b ∷ piece) rest number value fits =
    let digits = take_while-run is_digit (b ∷ piece) rest number.run in
    let read = ap (digits_value 10) digits ∙ value in
    at_digit top at b (piece ++ rest) number.first
    ∙ (cond-false _ _ _ (le-ltb top _ (omega (arith, read, fits))) ∙ λ i. Ok (token_piece (kinds.Number (read i)) (length (digits i))))

pub wide-taken : (top at : ℕ) (piece rest : List ℕ) → IsNumber piece rest → top < digits_value 10 piece → piece_at top at (piece ++ rest) ≡ Err (LiteralWide at)
wide-taken top at [] rest number over = absurd number.first
wide-taken top at (b ∷ piece) rest number over =
    let digits = take_while-run is_digit (b ∷ piece) rest number.run in
    at_digit top at b (piece ++ rest) number.first ∙ cond-true _ _ _ (lt-ltb top _ (omega (arith, ap (digits_value 10) digits, over)))

sign-taken : (top at : ℕ) (s : Sign) (piece rest : List ℕ) → IsSign s piece rest → piece_at top at (piece ++ rest) ≡ Ok (token_piece (kinds.Sign s) (length piece))
sign-taken top at s piece rest is =
    subst (λ (l : List ℕ). piece_at top at (l ++ rest) ≡ sign_or_fault at (sign_at (l ++ rest))) (sym is.spelt) (at_sign top at s rest) ∙ ap (sign_or_fault at) (sign_at-is s piece rest is)

pub token-taken : (top at : ℕ) (kind : TokenKind) (piece rest : List ℕ) → Spells top kind piece rest → piece_at top at (piece ++ rest) ≡ Ok (token_piece kind (length piece))
unfolding piece_at
token-taken top at kinds.Name piece rest is = name-taken top at piece rest is.0 is.1
token-taken top at kinds.Hole piece rest is = subst (λ (l : List ℕ). piece_at top at (l ++ rest) ≡ Ok (token_piece kinds.Hole (length l))) (sym is) refl
token-taken top at (kinds.Number n) piece rest is = number-taken top at n piece rest is.0 is.1 is.2
token-taken top at (kinds.Sign s) piece rest is = sign-taken top at s piece rest is

no_sign : (text : List ℕ) (o : Option (Sign × ℕ)) → IfSome o (IsRead text) → ((s : Sign) → ¬ (HasPrefix text (spelling s))) → o ≡ None
no_sign text None was none = refl
no_sign text (Some s) was none = absurd (none s.0 was.begins)

pub bad-taken : (top at : ℕ) (text : List ℕ) → BeginsNothing text → piece_at top at text ≡ Err (BadByte at)
unfolding piece_at
bad-taken top at [] nothing = absurd (omega (arith, nothing.some))
bad-taken top at (b ∷ text) nothing =
    let blank = false_from_ne_true (is_blank b) nothing.blank in
    let slashes = false_from_ne_true (starts_with nat_eq (b ∷ text) (codes "//")) (λ e. nothing.comment (HasPrefix-from_starts_with (b ∷ text) (codes "//") e)) in
    let hole = false_from_ne_true (nat_eq b 95) (λ e. nothing.hole (text, ap (λ c. c ∷ text) (eqb-true b 95 e))) in
    let letter = false_from_ne_true (is_letter b) nothing.name in
    let digit = false_from_ne_true (is_digit b) nothing.number in
    cond-false _ _ _ blank ∙ (cond-false _ _ _ slashes ∙ (cond-false _ _ _ hole ∙ (cond-false _ _ _ letter ∙ (cond-false _ _ _ digit
    ∙ ap (sign_or_fault at) (no_sign (b ∷ text) (sign_at (b ∷ text)) (sign_at-read (b ∷ text)) nothing.sign)))))
