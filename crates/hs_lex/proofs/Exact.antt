-- The laws of texts, by the scanner's function.
use Rattle.std.proofs.Common.{◌≡◌, ◌≢◌, ◌⊎◌, ℕ, List, Result, Ok, Err, refl, sym, ap, ◌∙◌, inl, inr}
use Rattle.std.specs.Str.{IsUtf8, is_utf8}
use Rattle.std.specs.Str.Lossy.{utf8_valid_len}
use Rattle.std.proofs.lemmas.Bool.{cases_Bool, both_ways}
use Rattle.std.proofs.lemmas.Str.{IsUtf8-from_is_utf8, is_utf8-from_IsUtf8}
use Rattle.hs_lex.specs.declared.error.LexError.{LexError}
use Rattle.hs_lex.specs.declared.error.LexError.TheVariants.{NotUtf8, BadByte, LiteralWide, NameLong, Memory}
use Rattle.hs_lex.specs.declared.token.Token.{Token}
use Rattle.hs_lex.specs.Laws.{TokensAreUnique, TokensExcludeFaults, FaultsAreUnique, TextsHaveAnswers}
use Rattle.hs_lex.specs.Scan.{tokens_from}
use Rattle.hs_lex.specs.Tokens.{HasTokens, HasFault, HasLexCause}
use Rattle.hs_lex.proofs.Relation.{Lexes-from, Stops-from, Lexes-scanned, Stops-scanned, Stops-place}

abbrev Outcome : Type 0
Outcome = Result (List Token) LexError

abbrev tokens_or : List Token → Outcome → List Token
tokens_or ts (Ok us) = us
tokens_or ts (Err e) = ts

abbrev fault_or : LexError → Outcome → LexError
fault_or e (Ok ts) = e
fault_or e (Err d) = d

both : (outcome : Outcome) (ts : List Token) (e : LexError) → outcome ≡ Ok ts → outcome ≡ Err e → ⊥
both outcome ts e a b = cc

-- a text with a fault is no UTF-8 up to it, or the scanner stops there
abbrev IsFaultOf : ℕ → List ℕ → LexError → Type 0
IsFaultOf top text e = (¬ (IsUtf8 text) × (e ≡ NotUtf8 (utf8_valid_len text))) ⊎ (IsUtf8 text × (tokens_from top 0 0 text ≡ Err e))

scanned : (top : ℕ) (text : List ℕ) (e : LexError) → HasFault top text e → IsFaultOf top text e
scanned top text e fault = inr (fault.utf8, Stops-scanned top 0 text e fault.stops)

fault_of : (top : ℕ) (text : List ℕ) (e : LexError) → e ≢ Memory → HasLexCause top text e → IsFaultOf top text e
fault_of top text (NotUtf8 at) other cause = inl (cause.0, ap NotUtf8 cause.1)
fault_of top text (BadByte at) other cause = scanned top text (BadByte at) cause
fault_of top text (LiteralWide at) other cause = scanned top text (LiteralWide at) cause
fault_of top text (NameLong at) other cause = scanned top text (NameLong at) cause
fault_of top text Memory other cause = absurd (other refl)

pub unique : TokensAreUnique
unique top text ts us h k = ap (tokens_or ts) (sym (Lexes-scanned top 0 text ts h.lexes) ∙ Lexes-scanned top 0 text us k.lexes)

pub exclusive : TokensExcludeFaults
exclusive top text ts e other h cause =
    elim (fault_of top text e other cause) [
      | inl bytes ↦ bytes.0 h.utf8
      | inr stops ↦ both (tokens_from top 0 0 text) ts e (Lexes-scanned top 0 text ts h.lexes) stops.1
    ]

same_fault : (top : ℕ) (text : List ℕ) (d e : LexError) → IsFaultOf top text d → IsFaultOf top text e → d ≡ e
same_fault top text d e (inl a) (inl b) = a.1 ∙ sym b.1
same_fault top text d e (inl a) (inr b) = absurd (a.0 b.0)
same_fault top text d e (inr a) (inl b) = absurd (b.0 a.0)
same_fault top text d e (inr a) (inr b) = ap (fault_or d) (sym a.1 ∙ b.1)

pub first : FaultsAreUnique
first top text d e known told h k = same_fault top text d e (fault_of top text d known h) (fault_of top text e told k)

fault_answers : (top : ℕ) (text : List ℕ) (e : LexError) → IsUtf8 text → tokens_from top 0 0 text ≡ Err e → (e ≢ Memory) × HasLexCause top text e
fault_answers top text (NotUtf8 at) utf8 stops = absurd (Stops-place top 0 text (NotUtf8 at) (Stops-from top 0 text (NotUtf8 at) stops))
fault_answers top text (BadByte at) utf8 stops = (λ e. cc, record { utf8 = utf8; stops = Stops-from top 0 text (BadByte at) stops })
fault_answers top text (LiteralWide at) utf8 stops = (λ e. cc, record { utf8 = utf8; stops = Stops-from top 0 text (LiteralWide at) stops })
fault_answers top text (NameLong at) utf8 stops = (λ e. cc, record { utf8 = utf8; stops = Stops-from top 0 text (NameLong at) stops })
fault_answers top text Memory utf8 stops = absurd (Stops-place top 0 text Memory (Stops-from top 0 text Memory stops))

abbrev HasAnswer : ℕ → List ℕ → Type 0
HasAnswer top text = ((ts : List Token) × HasTokens top text ts) ⊎ ((e : LexError) × (e ≢ Memory) × HasLexCause top text e)

answer_from : (top : ℕ) (text : List ℕ) (outcome : Outcome) → IsUtf8 text → tokens_from top 0 0 text ≡ outcome → HasAnswer top text
answer_from top text (Ok ts) utf8 e = inl (ts, record { utf8 = utf8; lexes = Lexes-from top 0 text ts e })
answer_from top text (Err d) utf8 e = let told = fault_answers top text d utf8 e in inr (d, told.0, told.1)

pub answered : TextsHaveAnswers
answered top text =
    elim (cases_Bool (is_utf8 text)) [
      | inl is ↦ answer_from top text (tokens_from top 0 0 text) (IsUtf8-from_is_utf8 text is) refl
      | inr other ↦ inr (NotUtf8 (utf8_valid_len text), (λ e. cc), ((λ utf8. both_ways (is_utf8 text) other (is_utf8-from_IsUtf8 text utf8)), refl))
    ]
