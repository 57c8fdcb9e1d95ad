-- What one turn of the lexer's loop keeps.
use Rattle.std.proofs.Common.{◌≡◌, ℕ, zero, suc, ◌+◌, ◌-◌, ◌<◌, ◌≤◌, List, [], ◌∷◌, ◌++◌, length, drop, length-drop, Result, Ok, Err, sym, ap, ◌∙◌, refl, arith, append_assoc}
use Rattle.std.proofs.lemmas.List.{append-nil}
use Rattle.hs_lex.specs.declared.error.LexError.{LexError}
use Rattle.hs_lex.specs.declared.error.LexError.TheVariants.{NotUtf8, BadByte, LiteralWide, NameLong, Memory}
use Rattle.hs_lex.specs.declared.piece.Piece.{Piece}
use Rattle.hs_lex.specs.declared.token.Token.{Token}
use Rattle.hs_lex.specs.Scan.{piece_at, token_of, tokens_from, after, Fails}

tokens_from-drop : (top skip at : ℕ) (text : List ℕ) → tokens_from top skip at text ≡ tokens_from top 0 (at + skip) (drop skip text)
tokens_from-drop top zero at text = ap (λ n. tokens_from top 0 n text) (omega arith)
tokens_from-drop top (suc skip) at [] = refl
tokens_from-drop top (suc skip) at (b ∷ text) =
    tokens_from-drop top skip (at + 1) text ∙ ap (λ n. tokens_from top 0 n (drop skip text)) (omega arith)

after-after : (front next : List Token) (read : Result (List Token) LexError) → after front (after next read) ≡ after (front ++ next) read
after-after front next (Ok others) = ap Ok (sym (append_assoc front next others))
after-after front next (Err e) = refl

drop-rest : (n b : ℕ) (text : List ℕ) → 0 < n → drop (n - 1) text ≡ drop n (b ∷ text)
drop-rest zero b text some = absurd (omega arith)
drop-rest (suc n) b text some = ap (λ k. drop k text) (omega arith)

pub one_piece : (top at : ℕ) (text : List ℕ) (piece : Piece) → 0 < length text → 0 < piece.len → piece_at top at text ≡ Ok piece
    → tokens_from top 0 at text ≡ after (token_of at piece) (tokens_from top 0 (at + piece.len) (drop piece.len text))
one_piece top at [] piece some moves e = absurd (omega arith)
one_piece top at (b ∷ text) piece some moves e =
    let place : at + 1 + (piece.len - 1) ≡ at + piece.len = omega arith in
    rw (e, tokens_from-drop top (piece.len - 1) (at + 1) text, place, drop-rest piece.len b text moves) refl

pub goes_on : (top at : ℕ) (text : List ℕ) (piece : Piece) (front : List Token) → 0 < length text → 0 < piece.len → piece_at top at text ≡ Ok piece
    → after front (tokens_from top 0 at text) ≡ after (front ++ token_of at piece) (tokens_from top 0 (at + piece.len) (drop piece.len text))
goes_on top at text piece front some moves e =
    ap (after front) (one_piece top at text piece some moves e) ∙ after-after front (token_of at piece) _

pub ends : (top at : ℕ) (text : List ℕ) (fault : LexError) (front : List Token) → 0 < length text → piece_at top at text ≡ Err fault → after front (tokens_from top 0 at text) ≡ Err fault
ends top at [] fault front some e = absurd (omega arith)
ends top at (b ∷ text) fault front some e = rw e refl

pub fails_from : (e : LexError) (read : Result (List Token) LexError) → read ≡ Err e → Fails e read
fails_from (NotUtf8 at) read h = h
fails_from (BadByte at) read h = h
fails_from (LiteralWide at) read h = h
fails_from (NameLong at) read h = h
fails_from Memory read h = tt

-- a front of the text read, and nothing after it
pub is_done : (top at : ℕ) (text : List ℕ) (front : List Token) → length text ≡ 0 → after front (tokens_from top 0 at text) ≡ Ok front
is_done top at [] front none = ap Ok (append-nil front)
is_done top at (b ∷ text) front none = absurd (omega arith)

pub turn : (top : ℕ) (text rest rest' : List ℕ) (piece : Piece) (front front' : List Token) (total : Result (List Token) LexError)
    → length rest ≤ length text → 0 < length rest → 0 < piece.len → piece.len ≤ length rest → Ok piece ≡ piece_at top (length text - length rest) rest
    → front' ≡ front ++ token_of (length text - length rest) piece → rest' ≡ drop piece.len rest
    → after front (tokens_from top 0 (length text - length rest) rest) ≡ total → after front' (tokens_from top 0 (length text - length rest') rest') ≡ total
turn top text rest rest' piece front front' total within some moves fits e more left so_far =
    let place : length text - length (drop piece.len rest) ≡ length text - length rest + piece.len = omega (arith, length-drop piece.len rest) in
    rw (more, left, place) (sym (goes_on top (length text - length rest) rest piece front some moves (sym e)) ∙ so_far)
