-- What the source of a text is, and why a text has none.
use Rattle.std.specs.Prelude.{◌≡◌, ℕ, ◌-◌, ◌^◌, List, Ok, Err}
use Rattle.hs_lex.specs.Tokens.{HasTokens, HasLexCause}
use Rattle.hs_lex.specs.declared.error.LexError.{LexError}
use Rattle.hs_lex.specs.declared.token.Token.{Token}
use Rattle.hs_words.specs.declared.error.ReadError.{ReadError}
use Rattle.hs_words.specs.Input.{whole}
use Rattle.hs_words.specs.Grammar.{Spells}
use Rattle.hs_tree.specs.declared.source.Source.{Source}
use Rattle.hs_read.specs.Declare.{source}
use Rattle.hs_read.specs.Grammar.{IsSource}
use Rattle.hs_norm_formula.specs.declared.by_number.NormError.{NormError}
use Rattle.hs_norm.specs.declared.resolved.Resolved.{Resolved}
use Rattle.hs_norm.specs.Normal.{normal_of}
use Rattle.hs_print.specs.declared.refusal.Refusal.{Refusal}
use Rattle.hs_source.specs.declared.error.SourceError.{SourceError}
use Rattle.hs_source.specs.declared.error.SourceError.TheVariants.{Refused, Memory}
use Rattle.hs_source.specs.Refusals.{of_lexer, of_reader, of_normal_form}

-- the greatest number that a source may write
abbrev pub literal_limit : ℕ
literal_limit = 2 ^ 63 - 1

-- the tokens of the text spell a tree, and its normal form is this
pub record IsResolved (text : List ℕ) (tree : Source) (resolved : Resolved) : Type 0 where
  pub tokens : List Token
  pub lexed : HasTokens literal_limit text tokens
  pub spelled : Spells (IsSource 64) text tokens tree
  pub normal : normal_of tree ≡ Ok resolved

-- the text has no tokens, or they spell no tree, or the tree has no normal form, for this reason
pub data IsRefused (text : List ℕ) : Refusal → Type 0 where
  no_tokens : {r : Refusal} (e : LexError) → HasLexCause literal_limit text e → of_lexer e ≡ Refused r → IsRefused text r
  no_tree : {r : Refusal} (tokens : List Token) (e : ReadError) → HasTokens literal_limit text tokens
      → whole (source 64) text tokens ≡ Err e → of_reader e ≡ Refused r → IsRefused text r
  no_normal_form : {r : Refusal} (tokens : List Token) (tree : Source) (e : NormError) → HasTokens literal_limit text tokens
      → Spells (IsSource 64) text tokens tree → normal_of tree ≡ Err e → of_normal_form e ≡ Refused r → IsRefused text r

-- an error has its cause; want of memory needs none
abbrev pub HasCause : List ℕ → SourceError → Type 0
HasCause text (Refused r) = IsRefused text r
HasCause text Memory = Unit {0}

-- the tree has no normal form
abbrev pub HasTreeCause : Source → SourceError → Type 0
HasTreeCause tree (Refused r) = (e : NormError) × (normal_of tree ≡ Err e) × (of_normal_form e ≡ Refused r)
HasTreeCause tree Memory = Unit {0}

-- a text has one answer
pub record TextsHaveOneAnswer : Type 0 where
  pub trees : (text : List ℕ) (t u : Source) (a b : Resolved) → IsResolved text t a → IsResolved text u b → t ≡ u
  pub normal_forms : (text : List ℕ) (t u : Source) (a b : Resolved) → IsResolved text t a → IsResolved text u b → a ≡ b
  pub refusals : (text : List ℕ) (r s : Refusal) → IsRefused text r → IsRefused text s → r ≡ s
  pub apart : (text : List ℕ) (t : Source) (a : Resolved) (r : Refusal) → IsResolved text t a → IsRefused text r → ⊥
