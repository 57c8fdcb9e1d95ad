-- The scanner's answer is the tokens or the first fault, and the other way round.
use Rattle.std.proofs.Common.{◌≡◌, ℕ, zero, suc, ◌+◌, ◌<◌, ◌≤◌, List, [], ◌∷◌, ◌++◌, length, drop, Option, Some, None, Result, Ok, Err, refl, sym, ap, subst, ◌∙◌, arith, length-append}
use Rattle.std.proofs.Math.Seq.{drop-append_seam}
use Rattle.std.specs.Prelude.{MatchOption, MatchResult}
use Rattle.hs_lex.specs.declared.error.LexError.{LexError}
use Rattle.hs_lex.specs.declared.error.LexError.TheVariants.{NotUtf8, BadByte, LiteralWide, NameLong, Memory}
use Rattle.hs_lex.specs.declared.piece.Piece.{Piece}
use Rattle.hs_lex.specs.declared.token.Token.{Token}
use Rattle.hs_lex.specs.declared.token.TokenKind.{TokenKind}
use Rattle.hs_lex.specs.Scan.{gap_piece, token_piece, piece_at, token_of, tokens_from, after}
use Rattle.hs_lex.specs.Tokens.{IsGap, Spells, Lexes, ended, gap, token, Stops, bad, wide, long, past_gap, past_token}
use Rattle.hs_lex.proofs.Loop.{one_piece}
use Rattle.hs_lex.proofs.Pieces.{IsAnswer, piece_at-answer, gap_some, token_some, number_some, gap-taken, token-taken, bad-taken, wide-taken, long-taken}

one_step : (top at : ℕ) (piece rest : List ℕ) (p : Piece) → 0 < length piece → p.len ≡ length piece → piece_at top at (piece ++ rest) ≡ Ok p
    → tokens_from top 0 at (piece ++ rest) ≡ after (token_of at p) (tokens_from top 0 (at + length piece) rest)
one_step top at piece rest p some len e =
    let whole : 0 < length (piece ++ rest) = omega (arith, length-append piece rest, some) in
    let moves : 0 < p.len = omega (arith, some, len) in
    one_piece top at (piece ++ rest) p whole moves e
    ∙ ap (after (token_of at p))
    (ap (λ n. tokens_from top 0 (at + n) (drop n (piece ++ rest))) len ∙ ap (tokens_from top 0 (at + length piece)) (drop-append_seam piece rest))

fault_step : (top at : ℕ) (text : List ℕ) (fault : LexError) → 0 < length text → piece_at top at text ≡ Err fault → tokens_from top 0 at text ≡ Err fault
fault_step top at [] fault some e = absurd (omega arith)
fault_step top at (b ∷ text) fault some e = rw e refl

-- ---- from the function to the relations

abbrev pub IsOutcome : ℕ → ℕ → List ℕ → Result (List Token) LexError → Type 0
IsOutcome top at text outcome = MatchResult outcome (Lexes top at text) (Stops top at text)

joined : (top at : ℕ) (piece rest : List ℕ) (kind : Option TokenKind) (len : ℕ) (outcome : Result (List Token) LexError) → len ≡ length piece
    → MatchOption kind (IsGap piece rest) (λ k. Spells top k piece rest) → IsOutcome top (at + length piece) rest outcome
    → IsOutcome top at (piece ++ rest) (after (token_of at (record { kind = kind; len = len })) outcome)
joined top at piece rest None len (Ok ts) e is more = gap at piece rest ts is more
joined top at piece rest None len (Err fault) e is more = past_gap at piece rest fault is more
joined top at piece rest (Some k) len (Ok ts) e is more =
    subst (λ n. Lexes top at (piece ++ rest) (record { kind = k; at = at; end = at + n } ∷ ts)) (sym e) (token at k piece rest ts is more)
joined top at piece rest (Some k) len (Err fault) e is more = past_token at k piece rest fault is more

right_some : (top : ℕ) (kind : Option TokenKind) (piece rest : List ℕ) → MatchOption kind (IsGap piece rest) (λ k. Spells top k piece rest) → 0 < length piece
right_some top None piece rest is = gap_some piece rest is
right_some top (Some k) piece rest is = token_some top k piece rest is

from_answer : (top at : ℕ) (text : List ℕ) (answer : Result Piece LexError) → 0 < length text → piece_at top at text ≡ answer → IsAnswer top at text answer
    → ((next : ℕ) (rest : List ℕ) → length rest < length text → IsOutcome top next rest (tokens_from top 0 next rest)) → IsOutcome top at text (tokens_from top 0 at text)
from_answer top at text (Err fault) some e stops more = subst (IsOutcome top at text) (sym (fault_step top at text fault some e)) stops
from_answer top at text (Ok p) some e cut more =
    let taken = right_some top p.kind cut.piece cut.rest cut.right in
    let shorter : length cut.rest < length text = omega (arith, ap length cut.whole, length-append cut.piece cut.rest, taken) in
    let at_piece = subst (λ (l : List ℕ). piece_at top at l ≡ Ok p) cut.whole e in
    let outcome = joined top at cut.piece cut.rest p.kind p.len _ cut.len cut.right (more (at + length cut.piece) cut.rest shorter) in
    subst (λ (l : List ℕ). IsOutcome top at l (tokens_from top 0 at l)) (sym cut.whole)
    (subst (IsOutcome top at (cut.piece ++ cut.rest)) (sym (one_step top at cut.piece cut.rest p taken cut.len at_piece)) outcome)

outcome_within : (top n at : ℕ) (text : List ℕ) → length text ≤ n → IsOutcome top at text (tokens_from top 0 at text)
outcome_within top n at [] fits = ended at
outcome_within top zero at (b ∷ text) fits = absurd (omega arith)
outcome_within top (suc n) at (b ∷ text) fits =
    let some : 0 < length (b ∷ text) = omega arith in
    from_answer top at (b ∷ text) (piece_at top at (b ∷ text)) some refl (piece_at-answer top at (b ∷ text) some)
    (λ next rest shorter. outcome_within top n next rest (omega (arith, shorter, fits)))

pub tokens_from-outcome : (top at : ℕ) (text : List ℕ) → IsOutcome top at text (tokens_from top 0 at text)
tokens_from-outcome top at text = outcome_within top (length text) at text (omega arith)

pub Lexes-from : (top at : ℕ) (text : List ℕ) (ts : List Token) → tokens_from top 0 at text ≡ Ok ts → Lexes top at text ts
Lexes-from top at text ts e = subst (IsOutcome top at text) e (tokens_from-outcome top at text)

pub Stops-from : (top at : ℕ) (text : List ℕ) (fault : LexError) → tokens_from top 0 at text ≡ Err fault → Stops top at text fault
Stops-from top at text fault e = subst (IsOutcome top at text) e (tokens_from-outcome top at text)

-- ---- from the relations to the function

pub Lexes-scanned : (top at : ℕ) (text : List ℕ) (ts : List Token) → Lexes top at text ts → tokens_from top 0 at text ≡ Ok ts
Lexes-scanned top place text ts (ended at) = refl
Lexes-scanned top place text ts (gap at piece rest tokens is more) =
    one_step top at piece rest (gap_piece (length piece)) (gap_some piece rest is) refl (gap-taken top at piece rest is)
    ∙ ap (after []) (Lexes-scanned top (at + length piece) rest tokens more)
Lexes-scanned top place text ts (token at kind piece rest tokens is more) =
    one_step top at piece rest (token_piece kind (length piece)) (token_some top kind piece rest is) refl (token-taken top at kind piece rest is)
    ∙ ap (after (record { kind = kind; at = at; end = at + length piece } ∷ [])) (Lexes-scanned top (at + length piece) rest tokens more)

begins_long : (piece rest : List ℕ) → 0 < length piece → 0 < length (piece ++ rest)
begins_long piece rest some = omega (arith, length-append piece rest, some)

pub Stops-scanned : (top at : ℕ) (text : List ℕ) (fault : LexError) → Stops top at text fault → tokens_from top 0 at text ≡ Err fault
Stops-scanned top place text fault (bad at whole is) = fault_step top at whole (BadByte at) is.some (bad-taken top at whole is)
Stops-scanned top place text fault (wide at piece rest is over) =
    fault_step top at (piece ++ rest) (LiteralWide at) (begins_long piece rest (number_some piece rest is)) (wide-taken top at piece rest is over)
Stops-scanned top place text fault (long at piece rest is over) =
    fault_step top at (piece ++ rest) (NameLong at) (begins_long piece rest (omega (arith, over))) (long-taken top at piece rest is over)
Stops-scanned top place text fault (past_gap at piece rest why is more) =
    one_step top at piece rest (gap_piece (length piece)) (gap_some piece rest is) refl (gap-taken top at piece rest is)
    ∙ ap (after []) (Stops-scanned top (at + length piece) rest why more)
Stops-scanned top place text fault (past_token at kind piece rest why is more) =
    one_step top at piece rest (token_piece kind (length piece)) (token_some top kind piece rest is) refl (token-taken top at kind piece rest is)
    ∙ ap (after (record { kind = kind; at = at; end = at + length piece } ∷ [])) (Stops-scanned top (at + length piece) rest why more)

-- ---- what kind of fault it is

-- neither bytes that are not UTF-8 nor want of memory
abbrev pub IsPlace : LexError → Type 0
IsPlace (NotUtf8 at) = ⊥
IsPlace (BadByte at) = Unit {0}
IsPlace (LiteralWide at) = Unit {0}
IsPlace (NameLong at) = Unit {0}
IsPlace Memory = ⊥

pub Stops-place : (top at : ℕ) (text : List ℕ) (fault : LexError) → Stops top at text fault → IsPlace fault
Stops-place top place text fault (bad at whole is) = tt
Stops-place top place text fault (wide at piece rest is over) = tt
Stops-place top place text fault (long at piece rest is over) = tt
Stops-place top place text fault (past_gap at piece rest why is more) = Stops-place top (at + length piece) rest why more
Stops-place top place text fault (past_token at kind piece rest why is more) = Stops-place top (at + length piece) rest why more
