-- What the tokens of a text are, and what its first fault is.
use Rattle.std.specs.Prelude.{◌≡◌, ◌<◌, ◌≤◌, ℕ, ◌+◌, ◌-◌, Bool, IsTrue, not, ◌||◌, ◌==◌, ◌⊎◌, List, [], ◌∷◌, ◌++◌, length, slice_index, codes}
use Rattle.std.specs.Char.{is_ascii_digit, is_ascii_alphabetic, is_ascii_alphanumeric}
use Rattle.std.specs.List.{AllByRecursion}
use Rattle.std.specs.Str.{IsUtf8}
use Rattle.std.specs.Str.Lossy.{utf8_valid_len}
use Rattle.std.specs.Str.Parse.{digits_value}
use Rattle.hs_lex.specs.declared.error.LexError.{LexError}
use Rattle.hs_lex.specs.declared.error.LexError.TheVariants.{NotUtf8, BadByte, LiteralWide, NameLong, Memory}
use Rattle.hs_lex.specs.declared.token.Token.{Token}
use Rattle.hs_lex.specs.declared.token.TokenKind.{TokenKind}
use Rattle.hs_lex.specs.declared.token.TokenKind.TheVariants as kinds
use Rattle.hs_lex.specs.declared.token.Sign.{Sign}
use Rattle.hs_lex.specs.declared.token.Sign.TheVariants.{ColonColon, Turnstile, EqEq, NotEq, LessEq, GreaterEq, AndAnd, OrOr, Arrow, OpenBrace, CloseBrace, OpenParen, CloseParen, Less, Greater, Comma, Semicolon, Dot, Colon, Equals, Plus, Minus, Star, Amp, Bar, Bang}

-- ---- bytes

-- a space, a tab, a carriage return or a line feed
abbrev pub is_blank : ℕ → Bool
is_blank b = b == 32 || b == 9 || b == 13 || b == 10

-- any byte but a line feed
abbrev pub is_in_line : ℕ → Bool
is_in_line b = not (b == 10)

abbrev pub is_letter : ℕ → Bool
is_letter b = is_ascii_alphabetic b

abbrev pub is_digit : ℕ → Bool
is_digit b = is_ascii_digit b

-- a letter, a digit or `_`
abbrev pub is_in_name : ℕ → Bool
is_in_name b = is_ascii_alphanumeric b || b == 95

-- the first byte of the text is such a one
abbrev pub BeginsWith : (ℕ → Bool) → List ℕ → Type 0
BeginsWith is_in [] = ⊥
BeginsWith is_in (b ∷ text) = IsTrue (is_in b)

-- these bytes stand at the front of the text
abbrev pub HasPrefix : List ℕ → List ℕ → Type 0
HasPrefix text front = (rest : List ℕ) × (text ≡ front ++ rest)

-- the piece has such bytes alone, and what follows it begins with another
pub record IsRun (is_in : ℕ → Bool) (piece rest : List ℕ) : Type 0 where
  pub all : AllByRecursion (λ b. IsTrue (is_in b)) piece
  pub ends : ¬ (BeginsWith is_in rest)

-- ---- what stands between tokens

abbrev pub IsBlank : List ℕ → Type 0
IsBlank piece = (b : ℕ) × IsTrue (is_blank b) × (piece ≡ b ∷ [])

-- from two slashes to the end of the line
pub record IsComment (piece rest : List ℕ) : Type 0 where
  pub slashes : HasPrefix piece (codes "//")
  pub line : IsRun is_in_line piece rest

abbrev pub IsGap : List ℕ → List ℕ → Type 0
IsGap piece rest = IsBlank piece ⊎ IsComment piece rest

-- ---- tokens

-- a name of any length
pub record IsName (piece rest : List ℕ) : Type 0 where
  pub first : BeginsWith is_letter piece
  pub run : IsRun is_in_name piece rest

-- a number of any value
pub record IsNumber (piece rest : List ℕ) : Type 0 where
  pub first : BeginsWith is_digit piece
  pub run : IsRun is_digit piece rest

abbrev pub spelling : Sign → List ℕ
spelling ColonColon = codes "::"
spelling Turnstile = codes "|-"
spelling EqEq = codes "=="
spelling NotEq = codes "!="
spelling LessEq = codes "<="
spelling GreaterEq = codes ">="
spelling AndAnd = codes "&&"
spelling OrOr = codes "||"
spelling Arrow = codes "->"
spelling OpenBrace = codes "{"
spelling CloseBrace = codes "}"
spelling OpenParen = codes "("
spelling CloseParen = codes ")"
spelling Less = codes "<"
spelling Greater = codes ">"
spelling Comma = codes ","
spelling Semicolon = codes ";"
spelling Dot = codes "."
spelling Colon = codes ":"
spelling Equals = codes "="
spelling Plus = codes "+"
spelling Minus = codes "-"
spelling Star = codes "*"
spelling Amp = codes "&"
spelling Bar = codes "|"
spelling Bang = codes "!"

-- the piece is that sign, and no longer sign begins there
pub record IsSign (sign : Sign) (piece rest : List ℕ) : Type 0 where
  pub spelt : piece ≡ spelling sign
  pub longest : (other : Sign) → HasPrefix (piece ++ rest) (spelling other) → length (spelling other) ≤ length (spelling sign)

-- the piece spells a token of that kind, where `rest` follows it
abbrev pub Spells : ℕ → TokenKind → List ℕ → List ℕ → Type 0
Spells top kinds.Name piece rest = IsName piece rest × (length piece ≤ 64)
Spells top kinds.Hole piece rest = piece ≡ codes "_"
Spells top (kinds.Number n) piece rest = IsNumber piece rest × (digits_value 10 piece ≡ n) × (n ≤ top)
Spells top (kinds.Sign sign) piece rest = IsSign sign piece rest

-- the text that stands at an offset is made of gaps and these tokens
pub data Lexes (top : ℕ) : ℕ → List ℕ → List Token → Type 0 where
  ended : (at : ℕ) → Lexes top at [] []
  gap : (at : ℕ) (piece rest : List ℕ) (tokens : List Token) → IsGap piece rest
      → Lexes top (at + length piece) rest tokens → Lexes top at (piece ++ rest) tokens
  token : (at : ℕ) (kind : TokenKind) (piece rest : List ℕ) (tokens : List Token) → Spells top kind piece rest
      → Lexes top (at + length piece) rest tokens → Lexes top at (piece ++ rest) (record { kind = kind; at = at; end = at + length piece } ∷ tokens)

-- ---- faults

-- neither a gap nor a token begins the text
pub record BeginsNothing (text : List ℕ) : Type 0 where
  pub some : 0 < length text
  pub blank : ¬ (BeginsWith is_blank text)
  pub comment : ¬ (HasPrefix text (codes "//"))
  pub name : ¬ (BeginsWith is_letter text)
  pub hole : ¬ (HasPrefix text (codes "_"))
  pub number : ¬ (BeginsWith is_digit text)
  pub sign : (sign : Sign) → ¬ (HasPrefix text (spelling sign))

-- the text that stands at an offset is made of gaps and tokens up to its first fault
pub data Stops (top : ℕ) : ℕ → List ℕ → LexError → Type 0 where
  bad : (at : ℕ) (text : List ℕ) → BeginsNothing text → Stops top at text (BadByte at)
  wide : (at : ℕ) (piece rest : List ℕ) → IsNumber piece rest → top < digits_value 10 piece → Stops top at (piece ++ rest) (LiteralWide at)
  long : (at : ℕ) (piece rest : List ℕ) → IsName piece rest → 64 < length piece → Stops top at (piece ++ rest) (NameLong at)
  past_gap : (at : ℕ) (piece rest : List ℕ) (fault : LexError) → IsGap piece rest
      → Stops top (at + length piece) rest fault → Stops top at (piece ++ rest) fault
  past_token : (at : ℕ) (kind : TokenKind) (piece rest : List ℕ) (fault : LexError) → Spells top kind piece rest
      → Stops top (at + length piece) rest fault → Stops top at (piece ++ rest) fault

-- ---- a whole text

-- the tokens of a text, of which a number is at most `top`
pub record HasTokens (top : ℕ) (text : List ℕ) (tokens : List Token) : Type 0 where
  pub utf8 : IsUtf8 text
  pub lexes : Lexes top 0 text tokens

-- a text of characters has its first fault there
pub record HasFault (top : ℕ) (text : List ℕ) (fault : LexError) : Type 0 where
  pub utf8 : IsUtf8 text
  pub stops : Stops top 0 text fault

-- why a text has no tokens
abbrev pub HasLexCause : ℕ → List ℕ → LexError → Type 0
HasLexCause top text (NotUtf8 at) = ¬ (IsUtf8 text) × (at ≡ utf8_valid_len text)
HasLexCause top text (BadByte at) = HasFault top text (BadByte at)
HasLexCause top text (LiteralWide at) = HasFault top text (LiteralWide at)
HasLexCause top text (NameLong at) = HasFault top text (NameLong at)
HasLexCause top text Memory = Unit {0}

-- a token lies in the text, and begins and ends with an ASCII byte
pub record IsSpan (text : List ℕ) (t : Token) : Type 0 where
  pub some : t.at < t.end
  pub within : t.end ≤ length text
  pub first : slice_index text t.at < 128
  pub last : slice_index text (t.end - 1) < 128
