-- A token begins and ends with an ASCII byte, so it is cut from the text between characters.
use Rattle.std.proofs.Common.{◌≡◌, ℕ, zero, suc, ◌+◌, ◌-◌, ◌<◌, Bool, true, List, [], ◌∷◌, ◌++◌, length, get_or, refl, sym, subst, append_assoc, arith, length-append}
use Rattle.std.specs.Prelude.{IsTrue}
use Rattle.std.specs.List.{AllByRecursion}
use Rattle.std.specs.Str.{IsUtf8, IsCharBoundary}
use Rattle.std.proofs.lemmas.Bool.Decides.{nat_tests}
use Rattle.std.proofs.lemmas.List.{get_or_append_left, get_or-append-add}
use Rattle.std.proofs.lemmas.Str.{IsCharBoundary-before_ascii, IsCharBoundary-after_ascii}
use Rattle.hs_lex.specs.declared.token.Token.{Token}
use Rattle.hs_lex.specs.declared.token.TokenKind.{TokenKind}
use Rattle.hs_lex.specs.declared.token.TokenKind.TheVariants as kinds
use Rattle.hs_lex.specs.Tokens.{is_digit, is_in_name, Spells, Lexes, ended, gap, token, IsSpan}
use Rattle.hs_lex.proofs.Pieces.{token_some}
use Rattle.hs_lex.proofs.Signs.{spelling_ascii}

abbrev IsAscii : List ℕ → Type 0
IsAscii piece = AllByRecursion (λ b. b < 128) piece

run_ascii : (is_in : ℕ → Bool) → ((b : ℕ) → is_in b ≡ true → b < 128) → (piece : List ℕ) → AllByRecursion (λ b. IsTrue (is_in b)) piece → IsAscii piece
run_ascii is_in ascii [] all = tt
run_ascii is_in ascii (b ∷ piece) all = (ascii b all.0, run_ascii is_in ascii piece all.1)

in_name_ascii : (b : ℕ) → is_in_name b ≡ true → b < 128
in_name_ascii b e = grind (arith, nat_tests)

digit_ascii : (b : ℕ) → is_digit b ≡ true → b < 128
digit_ascii b e = grind (arith, nat_tests)

token_ascii : (top : ℕ) (kind : TokenKind) (piece rest : List ℕ) → Spells top kind piece rest → IsAscii piece
token_ascii top kinds.Name piece rest is = run_ascii is_in_name in_name_ascii piece is.0.run.all
token_ascii top kinds.Hole piece rest is = subst IsAscii (sym is) (search arith)
token_ascii top (kinds.Number n) piece rest is = run_ascii is_digit digit_ascii piece is.0.run.all
token_ascii top (kinds.Sign s) piece rest is = subst IsAscii (sym is.spelt) (spelling_ascii s)

ascii_at : (piece : List ℕ) (i : ℕ) → IsAscii piece → i < length piece → get_or piece i 0 < 128
ascii_at [] i all lt = absurd (omega arith)
ascii_at (b ∷ piece) zero all lt = all.0
ascii_at (b ∷ piece) (suc i) all lt = ascii_at piece i all.1 (omega arith)

-- a byte of a piece that stands at an offset of the text
byte_at : (front piece rest : List ℕ) (at i : ℕ) → length front ≡ at → IsAscii piece → i < length piece → get_or (front ++ (piece ++ rest)) (at + i) 0 < 128
byte_at front piece rest at i before all lt =
    let place : at + i ≡ length front + i = omega arith in
    rw (place, get_or-append-add front (piece ++ rest) i 0, get_or_append_left piece rest 0 i lt) (ascii_at piece i all lt)

piece_span : (front piece rest : List ℕ) (at : ℕ) (kind : TokenKind) → length front ≡ at → 0 < length piece → IsAscii piece
    → IsSpan (front ++ (piece ++ rest)) (record { kind = kind; at = at; end = at + length piece })
piece_span front piece rest at kind before some all =
    let start : at + 0 ≡ at = omega arith in
    let stop : at + (length piece - 1) ≡ at + length piece - 1 = omega (arith, some) in
    let lt : length piece - 1 < length piece = omega (arith, some) in
    record {
      some = omega (arith, some);
      within = omega (arith, length-append front (piece ++ rest), length-append piece rest, before);
      first = subst (λ i. get_or (front ++ (piece ++ rest)) i 0 < 128) start (byte_at front piece rest at 0 before all some);
      last = subst (λ i. get_or (front ++ (piece ++ rest)) i 0 < 128) stop (byte_at front piece rest at (length piece - 1) before all lt);
    }

longer : (front piece : List ℕ) (at : ℕ) → length front ≡ at → length (front ++ piece) ≡ at + length piece
longer front piece at before = omega (arith, length-append front piece, before)

spans_after : (top at : ℕ) (text : List ℕ) (ts : List Token) → Lexes top at text ts → (front : List ℕ) → length front ≡ at → AllByRecursion (IsSpan (front ++ text)) ts
spans_after top place text ts (ended at) front before = tt
spans_after top place text ts (gap at piece rest tokens is more) front before =
    subst (λ (l : List ℕ). AllByRecursion (IsSpan l) tokens) (append_assoc front piece rest)
    (spans_after top (at + length piece) rest tokens more (front ++ piece) (longer front piece at before))
spans_after top place text ts (token at kind piece rest tokens is more) front before = (
  piece_span front piece rest at kind before (token_some top kind piece rest is) (token_ascii top kind piece rest is),
  subst (λ (l : List ℕ). AllByRecursion (IsSpan l) tokens) (append_assoc front piece rest)
      (spans_after top (at + length piece) rest tokens more (front ++ piece) (longer front piece at before)),
)

pub Lexes-spans : (top : ℕ) (text : List ℕ) (ts : List Token) → Lexes top 0 text ts → AllByRecursion (IsSpan text) ts
Lexes-spans top text ts lexes = spans_after top 0 text ts lexes [] refl

-- such a token is cut between characters
pub span_boundaries : (text : List ℕ) (t : Token) → IsUtf8 text → IsSpan text t → IsCharBoundary text t.at × IsCharBoundary text t.end
span_boundaries text t utf8 span =
    let last : t.end - 1 + 1 ≡ t.end = omega (arith, span.some) in (
      IsCharBoundary-before_ascii text t.at (omega (arith, span.some, span.within)) span.first,
      subst (IsCharBoundary text) last (IsCharBoundary-after_ascii text (t.end - 1) utf8 (omega (arith, span.some, span.within)) span.last),
    )
