-- A text has one answer.
use Rattle.std.proofs.Common.{◌≡◌, ◌≢◌, ℕ, List, Result, Ok, Err, sym, ap, subst, ◌∙◌}
use Rattle.hs_lex.specs.declared.error.LexError.{LexError}
use Rattle.hs_lex.specs.declared.error.LexError.TheVariants as lexer
use Rattle.hs_lex.specs.declared.token.Token.{Token}
use Rattle.hs_lex.specs.Tokens.{HasTokens, HasLexCause}
use Rattle.hs_lex.specs.Laws.{TokensAreUnique, TokensExcludeFaults, FaultsAreUnique}
use Rattle.hs_words.specs.declared.error.ReadError.{ReadError}
use Rattle.hs_words.specs.Grammar.{Spells}
use Rattle.hs_words.specs.Input.{whole}
use Rattle.hs_tree.specs.declared.source.Source.{Source}
use Rattle.hs_read.specs.Declare.{source}
use Rattle.hs_read.specs.Grammar.{IsSource}
use Rattle.hs_read.specs.Laws.{SourcesAreRead, SourcesAreUnique}
use Rattle.hs_norm.specs.declared.resolved.Resolved.{Resolved}
use Rattle.hs_norm.specs.Normal.{normal_of}
use Rattle.hs_print.specs.declared.refusal.Refusal.{Refusal}
use Rattle.hs_source.specs.declared.error.SourceError.{SourceError}
use Rattle.hs_source.specs.declared.error.SourceError.TheVariants.{Refused, Memory}
use Rattle.hs_source.specs.Refusals.{of_lexer, of_reader, of_normal_form}
use Rattle.hs_source.specs.Resolved.{literal_limit, IsResolved, IsRefused, no_tokens, no_tree, no_normal_form, TextsHaveOneAnswer}

abbrev refusal_of : Refusal → SourceError → Refusal
refusal_of d (Refused r) = r
refusal_of d Memory = d

same_refusal : (r s : Refusal) (x y : SourceError) → x ≡ y → x ≡ Refused r → y ≡ Refused s → r ≡ s
same_refusal r s x y e a b = ap (refusal_of r) (sym a ∙ e ∙ b)

named : (r : Refusal) (e : LexError) → of_lexer e ≡ Refused r → e ≢ lexer.Memory
named r (lexer.NotUtf8 at) is = λ e. cc
named r (lexer.BadByte at) is = λ e. cc
named r (lexer.LiteralWide at) is = λ e. cc
named r (lexer.NameLong at) is = λ e. cc
named r lexer.Memory is = absurd cc

abbrev ok_value : {A E : Type 0} → A → Result A E → A
ok_value d (Ok a) = a
ok_value d (Err e) = d

abbrev err_value : {A E : Type 0} → E → Result A E → E
err_value d (Ok a) = d
err_value d (Err e) = e

abbrev is_ok : {A E : Type 0} → Result A E → Type 0
is_ok (Ok a) = Unit {0}
is_ok (Err e) = ⊥

ok_is : {A E : Type 0} (a b : A) (x : Result A E) → x ≡ Ok a → x ≡ Ok b → a ≡ b
ok_is a b x h k = ap (ok_value a) (sym h ∙ k)

err_is : {A E : Type 0} (d e : E) (x : Result A E) → x ≡ Err d → x ≡ Err e → d ≡ e
err_is d e x h k = ap (err_value d) (sym h ∙ k)

not_both : {A E : Type 0} (a : A) (e : E) (x : Result A E) → x ≡ Ok a → x ≡ Err e → ⊥
not_both a e x h k = subst is_ok (sym h ∙ k) tt

module _ (unique : TokensAreUnique) (exclude : TokensExcludeFaults) (faults : FaultsAreUnique) (are_read : SourcesAreRead) (spell_one : SourcesAreUnique) where
  same_tokens : (text : List ℕ) (ts us : List Token) → HasTokens literal_limit text ts → HasTokens literal_limit text us → ts ≡ us
  same_tokens text ts us h k = unique literal_limit text ts us h k

  moved : (text : List ℕ) (ts us : List Token) (u : Source) → HasTokens literal_limit text ts → HasTokens literal_limit text us
      → Spells (IsSource 64) text us u → Spells (IsSource 64) text ts u
  moved text ts us u h k r = subst (λ (vs : List Token). Spells (IsSource 64) text vs u) (sym (same_tokens text ts us h k)) r

  same_trees : (text : List ℕ) (ts us : List Token) (t u : Source) → HasTokens literal_limit text ts → HasTokens literal_limit text us
      → Spells (IsSource 64) text ts t → Spells (IsSource 64) text us u → t ≡ u
  same_trees text ts us t u h k s r = spell_one 64 text ts t u s (moved text ts us u h k r)

  trees : (text : List ℕ) (t u : Source) (a b : Resolved) → IsResolved text t a → IsResolved text u b → t ≡ u
  trees text t u a b h k = same_trees text h.tokens k.tokens t u h.lexed k.lexed h.spelled k.spelled

  normal_forms : (text : List ℕ) (t u : Source) (a b : Resolved) → IsResolved text t a → IsResolved text u b → a ≡ b
  normal_forms text t u a b h k = ok_is a b (normal_of t) h.normal (ap normal_of (trees text t u a b h k) ∙ k.normal)

  -- a fault of the lexer stands beside no tokens
  lexer_apart : (text : List ℕ) (ts : List Token) (e : LexError) (r : Refusal) → HasTokens literal_limit text ts
      → HasLexCause literal_limit text e → of_lexer e ≡ Refused r → ⊥
  lexer_apart text ts e r h cause is = exclude literal_limit text ts e (named r e is) h cause

  -- tokens that spell a tree are read
  reader_apart : (text : List ℕ) (ts us : List Token) (t : Source) (e : ReadError) → HasTokens literal_limit text ts → HasTokens literal_limit text us
      → whole (source 64) text ts ≡ Err e → Spells (IsSource 64) text us t → ⊥
  reader_apart text ts us t e h k is s = not_both t e (whole (source 64) text ts) (are_read 64 text ts t (moved text ts us t h k s)) is

  apart : (text : List ℕ) (t : Source) (a : Resolved) (r : Refusal) → IsResolved text t a → IsRefused text r → ⊥
  apart text t a r h (no_tokens e cause is) = lexer_apart text h.tokens e r h.lexed cause is
  apart text t a r h (no_tree ts e lexed read is) = reader_apart text ts h.tokens t e lexed h.lexed read h.spelled
  apart text t a r h (no_normal_form ts u e lexed spelled none is) =
      not_both a e (normal_of t) h.normal (ap normal_of (same_trees text h.tokens ts t u h.lexed lexed h.spelled spelled) ∙ none)

  refusals : (text : List ℕ) (r s : Refusal) → IsRefused text r → IsRefused text s → r ≡ s
  refusals text r s (no_tokens e cause is) (no_tokens d reason are) =
      same_refusal r s (of_lexer e) (of_lexer d) (ap of_lexer (faults literal_limit text e d (named r e is) (named s d are) cause reason)) is are
  refusals text r s (no_tokens e cause is) (no_tree ts d lexed read are) = absurd (lexer_apart text ts e r lexed cause is)
  refusals text r s (no_tokens e cause is) (no_normal_form ts u d lexed spelled none are) = absurd (lexer_apart text ts e r lexed cause is)
  refusals text r s (no_tree ts d lexed read are) (no_tokens e cause is) = absurd (lexer_apart text ts e s lexed cause is)
  refusals text r s (no_tree ts d lexed read are) (no_tree us e lexes reads is) =
      same_refusal r s (of_reader d) (of_reader e)
      (ap of_reader (err_is d e (whole (source 64) text ts) read (ap (whole (source 64) text) (same_tokens text ts us lexed lexes) ∙ reads))) are is
  refusals text r s (no_tree ts d lexed read are) (no_normal_form us u e lexes spelled none is) = absurd (reader_apart text ts us u d lexed lexes read spelled)
  refusals text r s (no_normal_form ts u d lexed spelled none are) (no_tokens e cause is) = absurd (lexer_apart text ts e s lexed cause is)
  refusals text r s (no_normal_form ts u d lexed spelled none are) (no_tree us e lexes reads is) = absurd (reader_apart text us ts u e lexes lexed reads spelled)
  refusals text r s (no_normal_form ts t d lexed spelled none are) (no_normal_form us u e lexes spells nothing is) =
      same_refusal r s (of_normal_form d) (of_normal_form e)
      (ap of_normal_form (err_is d e (normal_of t) none (ap normal_of (same_trees text ts us t u lexed lexes spelled spells) ∙ nothing))) are is

  pub texts_have_one_answer : TextsHaveOneAnswer
  texts_have_one_answer = record { trees = trees; normal_forms = normal_forms; refusals = refusals; apart = apart }
