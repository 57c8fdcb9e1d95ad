-- What the scanner returned is the tokens of the text, or its fault.
use Rattle.std.proofs.Common.{◌≡◌, ℕ, List, Result, Ok, Err}
use Rattle.std.specs.Global.{Vec}
use Rattle.std.specs.List.{AllByRecursion}
use Rattle.std.specs.Prelude.{IfErr, IfOk}
use Rattle.std.specs.Str.{IsUtf8}
use Rattle.hs_lex.specs.declared.error.LexError.{LexError}
use Rattle.hs_lex.specs.declared.error.LexError.TheVariants.{NotUtf8, BadByte, LiteralWide, NameLong, Memory}
use Rattle.hs_lex.specs.declared.token.Token.{Token}
use Rattle.hs_lex.specs.Scan.{Gives, tokens_from}
use Rattle.hs_lex.specs.Tokens.{HasTokens, HasLexCause, IsSpan}
use Rattle.hs_lex.proofs.Relation.{Lexes-from, Stops-from, Stops-place}
use Rattle.hs_lex.proofs.Spans.{Lexes-spans}

pub scan_found : (top : ℕ) (text : List ℕ) (r : Result (Vec Token) LexError) → IsUtf8 text → Gives (λ v. v.items) r (tokens_from top 0 0 text) → IfOk r (λ v. HasTokens top text v.items)
scan_found top text (Ok v) utf8 given = record { utf8 = utf8; lexes = Lexes-from top 0 text v.items given }
scan_found top text (Err e) utf8 given = tt

pub scan_spans : (top : ℕ) (text : List ℕ) (r : Result (Vec Token) LexError) → Gives (λ v. v.items) r (tokens_from top 0 0 text) → IfOk r (λ v. AllByRecursion (IsSpan text) v.items)
scan_spans top text (Ok v) given = Lexes-spans top text v.items (Lexes-from top 0 text v.items given)
scan_spans top text (Err e) given = tt

fault_from : (top : ℕ) (text : List ℕ) (e : LexError) → IsUtf8 text → tokens_from top 0 0 text ≡ Err e → HasLexCause top text e
fault_from top text (NotUtf8 at) utf8 given = absurd (Stops-place top 0 text (NotUtf8 at) (Stops-from top 0 text (NotUtf8 at) given))
fault_from top text (BadByte at) utf8 given = record { utf8 = utf8; stops = Stops-from top 0 text (BadByte at) given }
fault_from top text (LiteralWide at) utf8 given = record { utf8 = utf8; stops = Stops-from top 0 text (LiteralWide at) given }
fault_from top text (NameLong at) utf8 given = record { utf8 = utf8; stops = Stops-from top 0 text (NameLong at) given }
fault_from top text Memory utf8 given = tt

pub scan_cause : (top : ℕ) (text : List ℕ) (r : Result (Vec Token) LexError) → IsUtf8 text → Gives (λ v. v.items) r (tokens_from top 0 0 text) → IfErr r (HasLexCause top text)
scan_cause top text (Ok v) utf8 given = tt
scan_cause top text (Err (NotUtf8 at)) utf8 given = fault_from top text (NotUtf8 at) utf8 given
scan_cause top text (Err (BadByte at)) utf8 given = fault_from top text (BadByte at) utf8 given
scan_cause top text (Err (LiteralWide at)) utf8 given = fault_from top text (LiteralWide at) utf8 given
scan_cause top text (Err (NameLong at)) utf8 given = fault_from top text (NameLong at) utf8 given
scan_cause top text (Err Memory) utf8 given = tt
