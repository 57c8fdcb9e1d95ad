-- The tokens of a text as a function: what the scanner computes, piece by piece.
use Rattle.std.specs.Prelude.{◌≡◌, ℕ, zero, suc, ◌+◌, ◌-◌, Bool, if◌then◌else◌, ◌==◌, nat_lt, nat_eq, List, [], ◌∷◌, ◌++◌, length, take_while, slice_index, Option, Some, None, Result, Ok, Err, codes}
use Rattle.std.specs.List.{starts_with}
use Rattle.std.specs.Option.{option_map, option_to_list}
use Rattle.std.specs.Str.Parse.{digits_value}
use Rattle.hs_lex.specs.declared.error.LexError.{LexError}
use Rattle.hs_lex.specs.declared.error.LexError.TheVariants.{BadByte, LiteralWide, NameLong, Memory}
use Rattle.hs_lex.specs.declared.piece.Piece.{Piece}
use Rattle.hs_lex.specs.declared.token.Token.{Token}
use Rattle.hs_lex.specs.declared.token.TokenKind.{TokenKind}
use Rattle.hs_lex.specs.declared.token.TokenKind.TheVariants.{Name, Hole, Number}
use Rattle.hs_lex.specs.declared.token.TokenKind.TheVariants as kinds
use Rattle.hs_lex.specs.declared.token.Sign.{Sign}
use Rattle.hs_lex.specs.declared.token.Sign.TheVariants.{ColonColon, Turnstile, EqEq, NotEq, LessEq, GreaterEq, AndAnd, OrOr, Arrow, OpenBrace, CloseBrace, OpenParen, CloseParen, Less, Greater, Comma, Semicolon, Dot, Colon, Equals, Plus, Minus, Star, Amp, Bar, Bang}
use Rattle.hs_lex.specs.Tokens.{is_blank, is_in_line, is_letter, is_digit, is_in_name}

-- how many bytes at the front are of one kind
abbrev pub front_len : (ℕ → Bool) → List ℕ → ℕ
front_len is_in text = length (take_while is_in text)

-- the signs, those of two bytes first, so that the first that fits is the longest
abbrev pub signs : List (List ℕ × Sign)
signs =
    (codes "::", ColonColon) ∷ (codes "|-", Turnstile) ∷ (codes "==", EqEq) ∷ (codes "!=", NotEq) ∷ (codes "<=", LessEq) ∷ (codes ">=", GreaterEq)
    ∷ (codes "&&", AndAnd) ∷ (codes "||", OrOr) ∷ (codes "->", Arrow)
    ∷ (codes "{", OpenBrace) ∷ (codes "}", CloseBrace) ∷ (codes "(", OpenParen) ∷ (codes ")", CloseParen) ∷ (codes "<", Less) ∷ (codes ">", Greater)
    ∷ (codes ",", Comma) ∷ (codes ";", Semicolon) ∷ (codes ".", Dot) ∷ (codes ":", Colon) ∷ (codes "=", Equals) ∷ (codes "+", Plus)
    ∷ (codes "-", Minus) ∷ (codes "*", Star) ∷ (codes "&", Amp) ∷ (codes "|", Bar) ∷ (codes "!", Bang) ∷ []

-- the first of them that the text begins with, and its length
abbrev pub sign_among : List (List ℕ × Sign) → List ℕ → Option (Sign × ℕ)
sign_among [] text = None
sign_among (s ∷ ss) text = if starts_with nat_eq text s.0 then Some (s.1, length s.0) else sign_among ss text

unfoldable pub sign_at : List ℕ → Option (Sign × ℕ)
sign_at text = sign_among signs text

-- ---- the piece at the front of a text

abbrev pub gap_piece : ℕ → Piece
gap_piece len = record { kind = None; len = len }

abbrev pub token_piece : TokenKind → ℕ → Piece
token_piece kind len = record { kind = Some kind; len = len }

abbrev pub name_at : ℕ → List ℕ → Result Piece LexError
name_at at text = let len = front_len is_in_name text in if nat_lt 64 len then Err (NameLong at) else Ok (token_piece Name len)

abbrev pub number_at : ℕ → ℕ → List ℕ → Result Piece LexError
number_at top at text =
    let digits = take_while is_digit text in
    if nat_lt top (digits_value 10 digits) then Err (LiteralWide at) else Ok (token_piece (Number (digits_value 10 digits)) (length digits))

abbrev pub sign_or_fault : ℕ → Option (Sign × ℕ) → Result Piece LexError
sign_or_fault at None = Err (BadByte at)
sign_or_fault at (Some s) = Ok (token_piece (kinds.Sign s.0) s.1)

-- a text that is not empty, from the offset `at` on
unfoldable pub piece_at : ℕ → ℕ → List ℕ → Result Piece LexError
piece_at top at text =
    let first = slice_index text 0 in
    if is_blank first then Ok (gap_piece 1)
    else (if starts_with nat_eq text (codes "//") then Ok (gap_piece (front_len is_in_line text))
    else (if first == 95 then Ok (token_piece Hole 1)
    else (if is_letter first then name_at at text
    else (if is_digit first then number_at top at text
    else sign_or_fault at (sign_at text)))))

-- ---- all pieces, up to the first fault

infixl 10 ◌>>=◌
abbrev pub ◌>>=◌ : {A B : Type 0} → Result A LexError → (A → Result B LexError) → Result B LexError
(Ok x) >>= f = f x
(Err e) >>= f = Err e

abbrev pub token_of : ℕ → Piece → List Token
token_of at piece = option_to_list (option_map (λ kind. record { kind = kind; at = at; end = at + piece.len }) piece.kind)

-- `skip` counts the bytes that are left of a piece
abbrev pub tokens_from : ℕ → ℕ → ℕ → List ℕ → Result (List Token) LexError
tokens_from top skip at [] = Ok []
tokens_from top (suc skip) at (b ∷ text) = tokens_from top skip (at + 1) text
tokens_from top zero at (b ∷ text) = do
  piece ← piece_at top at (b ∷ text)
  others ← tokens_from top (piece.len - 1) (at + 1) text
  Ok (token_of at piece ++ others)

-- what is read after these tokens, with them in front
abbrev pub after : List Token → Result (List Token) LexError → Result (List Token) LexError
after front read = read >>= λ others. Ok (front ++ others)

-- what a function returned, seen by a view, is what reading gives, unless memory ran out
abbrev pub Fails : {Y : Type 0} → LexError → Result Y LexError → Type 0
Fails Memory read = Unit {0}
Fails e read = read ≡ Err e

abbrev pub Gives : {X Y : Type 0} → (X → Y) → Result X LexError → Result Y LexError → Type 0
Gives view (Ok x) read = read ≡ Ok (view x)
Gives view (Err e) read = Fails e read
