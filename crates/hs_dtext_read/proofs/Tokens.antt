-- What the lexer answers is what the definition says.
use Rattle.std.proofs.Common.{◌≡◌, ◌≢◌, ℕ, true, false, if◌then◌else◌, List, Err, refl, ap, ◌∙◌}
use Rattle.std.specs.Str.{is_utf8, IsUtf8}
use Rattle.std.proofs.lemmas.Bool.{false_from_ne_true}
use Rattle.std.proofs.lemmas.Str.{IsUtf8-from_is_utf8, is_utf8-from_IsUtf8}
use Rattle.hs_lex.specs.declared.error.LexError.{LexError}
use Rattle.hs_lex.specs.declared.error.LexError.TheVariants.{NotUtf8, BadByte, LiteralWide, NameLong, Memory}
use Rattle.hs_lex.specs.declared.token.Token.{Token}
use Rattle.hs_lex.specs.Scan.{tokens_from}
use Rattle.hs_lex.specs.Tokens.{HasTokens, HasFault, HasLexCause}
use Rattle.hs_lex.proofs.Relation.{Lexes-scanned, Stops-scanned}
use Rattle.hs_dtext.specs.Formulas.{greatest, lex_fault, tokens_by, without_comment, tokens}

pub lexed_found : (text : List ℕ) (ts : List Token) → HasTokens greatest text ts → tokens text ≡ without_comment text ts
unfolding tokens
lexed_found text ts h =
    ap (tokens_by text) ((λ i. if is_utf8-from_IsUtf8 text h.utf8 i then tokens_from greatest 0 0 text else Err (NotUtf8 0)) ∙ Lexes-scanned greatest 0 text ts h.lexes)

stopped : (text : List ℕ) (e : LexError) → HasFault greatest text e → tokens text ≡ Err (lex_fault e)
unfolding tokens
stopped text e h =
    ap (tokens_by text) ((λ i. if is_utf8-from_IsUtf8 text h.utf8 i then tokens_from greatest 0 0 text else Err (NotUtf8 0)) ∙ Stops-scanned greatest 0 text e h.stops)

no_utf8 : (text : List ℕ) (at : ℕ) → is_utf8 text ≡ false → tokens text ≡ Err (lex_fault (NotUtf8 at))
unfolding tokens
no_utf8 text at other = ap (tokens_by text) (λ i. if other i then tokens_from greatest 0 0 text else Err (NotUtf8 0))

pub lexed_cause : (text : List ℕ) (e : LexError) → e ≢ Memory → HasLexCause greatest text e → tokens text ≡ Err (lex_fault e)
lexed_cause text (NotUtf8 at) other cause = no_utf8 text at (false_from_ne_true (is_utf8 text) (λ is. cause.0 (IsUtf8-from_is_utf8 text is)))
lexed_cause text (BadByte at) other cause = stopped text (BadByte at) cause
lexed_cause text (LiteralWide at) other cause = stopped text (LiteralWide at) cause
lexed_cause text (NameLong at) other cause = stopped text (NameLong at) cause
lexed_cause text Memory other cause = absurd (other refl)

pub text_is : (text : List ℕ) → IsUtf8 text → is_utf8 text ≡ true
text_is text h = is_utf8-from_IsUtf8 text h

pub no_text_is : (text : List ℕ) → ¬ (IsUtf8 text) → is_utf8 text ≡ false
no_text_is text h = false_from_ne_true (is_utf8 text) (λ is. h (IsUtf8-from_is_utf8 text is))
