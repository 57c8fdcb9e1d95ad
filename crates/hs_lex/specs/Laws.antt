-- The tokens of a text, or else its fault, are told by the text alone.
use Rattle.std.specs.Prelude.{◌≡◌, ◌≢◌, ◌⊎◌, ℕ, List}
use Rattle.hs_lex.specs.declared.error.LexError.{LexError}
use Rattle.hs_lex.specs.declared.error.LexError.TheVariants.{Memory}
use Rattle.hs_lex.specs.declared.token.Token.{Token}
use Rattle.hs_lex.specs.Tokens.{HasTokens, HasLexCause}

-- a text has at most one list of tokens
abbrev pub TokensAreUnique : Type 0
TokensAreUnique = (top : ℕ) (text : List ℕ) (ts us : List Token) → HasTokens top text ts → HasTokens top text us → ts ≡ us

-- a text that has tokens has no fault
abbrev pub TokensExcludeFaults : Type 0
TokensExcludeFaults = (top : ℕ) (text : List ℕ) (ts : List Token) (e : LexError) → e ≢ Memory → HasTokens top text ts → HasLexCause top text e → ⊥

-- a text has at most one first fault
abbrev pub FaultsAreUnique : Type 0
FaultsAreUnique = (top : ℕ) (text : List ℕ) (d e : LexError) → d ≢ Memory → e ≢ Memory → HasLexCause top text d → HasLexCause top text e → d ≡ e

-- each text has tokens or a fault
abbrev pub TextsHaveAnswers : Type 0
TextsHaveAnswers = (top : ℕ) (text : List ℕ) → ((ts : List Token) × HasTokens top text ts) ⊎ ((e : LexError) × (e ≢ Memory) × HasLexCause top text e)
