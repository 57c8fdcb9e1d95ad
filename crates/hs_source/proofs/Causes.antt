-- The causes of errors.
use Rattle.std.proofs.Common.{◌≡◌, ℕ, List, Result, Ok, Err, inl, inr, refl, sym, ap, subst}
use Rattle.std.specs.Str.{IsUtf8}
use Rattle.std.specs.Str.Lossy.{utf8_valid_len}
use Rattle.hs_lex.specs.declared.error.LexError.{LexError}
use Rattle.hs_lex.specs.declared.error.LexError.TheVariants as lexer
use Rattle.hs_lex.specs.declared.token.Token.{Token}
use Rattle.hs_lex.specs.Tokens.{HasTokens, HasLexCause}
use Rattle.hs_words.specs.declared.error.ReadError.{ReadError}
use Rattle.hs_words.specs.declared.error.ReadError.TheVariants as reader
use Rattle.hs_words.specs.declared.error.What.TheVariants as what
use Rattle.hs_words.specs.Grammar.{Spells}
use Rattle.hs_words.specs.Input.{whole, FailsBy}
use Rattle.hs_tree.specs.declared.source.Source.{Source}
use Rattle.hs_read.specs.Declare.{source}
use Rattle.hs_read.specs.Grammar.{IsSource}
use Rattle.hs_norm_formula.specs.declared.by_number.NormError.{NormError}
use Rattle.hs_norm_formula.specs.declared.by_number.NormError.TheVariants as normal
use Rattle.hs_norm_formula.specs.Numbered.{Gives}
use Rattle.hs_norm.specs.declared.resolved.Resolved.{Resolved}
use Rattle.hs_norm.specs.Normal.{normal_of}
use Rattle.hs_source.specs.declared.error.SourceError.{SourceError}
use Rattle.hs_source.specs.declared.error.SourceError.TheVariants.{Refused, Memory}
use Rattle.hs_source.specs.Refusals.{of_lexer, of_reader, of_normal_form}
use Rattle.hs_source.specs.Resolved.{literal_limit, no_tokens, no_tree, no_normal_form, HasCause, HasTreeCause}

lexer_cause_of : (text : List ℕ) (e : LexError) → HasLexCause literal_limit text e → HasCause text (of_lexer e)
lexer_cause_of text (lexer.NotUtf8 at) cause = no_tokens (lexer.NotUtf8 at) cause refl
lexer_cause_of text (lexer.BadByte at) cause = no_tokens (lexer.BadByte at) cause refl
lexer_cause_of text (lexer.LiteralWide at) cause = no_tokens (lexer.LiteralWide at) cause refl
lexer_cause_of text (lexer.NameLong at) cause = no_tokens (lexer.NameLong at) cause refl
lexer_cause_of text lexer.Memory cause = tt

pub lexer_cause : (text : List ℕ) (e : LexError) (s : SourceError) → HasLexCause literal_limit text e → s ≡ of_lexer e → HasCause text s
lexer_cause text e s cause is = subst (HasCause text) (sym is) (lexer_cause_of text e cause)

reader_cause_of : (text : List ℕ) (tokens : List Token) (e : ReadError) → HasTokens literal_limit text tokens → FailsBy (whole (source 64) text tokens) e → HasCause text (of_reader e)
reader_cause_of text tokens (reader.Expected at what.Token) has is = no_tree tokens (reader.Expected at what.Token) has is refl
reader_cause_of text tokens (reader.Expected at what.End) has is = no_tree tokens (reader.Expected at what.End) has is refl
reader_cause_of text tokens (reader.TooDeep at) has is = no_tree tokens (reader.TooDeep at) has is refl
reader_cause_of text tokens reader.Memory has is = tt

pub reader_cause : (text : List ℕ) (tokens : List Token) (e : ReadError) (s : SourceError) → HasTokens literal_limit text tokens
    → FailsBy (whole (source 64) text tokens) e → s ≡ of_reader e → HasCause text s
reader_cause text tokens e s has fails is = subst (HasCause text) (sym is) (reader_cause_of text tokens e has fails)

normal_cause_of : (tree : Source) (e : NormError) → Err e ≡ normal_of tree → HasTreeCause tree (of_normal_form e)
normal_cause_of tree (normal.Unknown x) is = (normal.Unknown x, sym is, refl)
normal_cause_of tree (normal.Twice x) is = (normal.Twice x, sym is, refl)
normal_cause_of tree (normal.Kind at) is = (normal.Kind at, sym is, refl)
normal_cause_of tree (normal.Arity at) is = (normal.Arity at, sym is, refl)
normal_cause_of tree (normal.TooMany at l) is = (normal.TooMany at l, sym is, refl)
normal_cause_of tree (normal.Shape at) is = (normal.Shape at, sym is, refl)
normal_cause_of tree normal.Memory is = tt

abbrev err_of : Result Resolved NormError → NormError
err_of (Ok r) = normal.Memory
err_of (Err d) = d

abbrev failed : NormError → Result Resolved NormError
failed e = Err e

no_memory_cause : (tree : Source) (e : NormError) → failed e ≡ failed normal.Memory → HasTreeCause tree (of_normal_form e)
no_memory_cause tree e is = subst (λ (d : NormError). HasTreeCause tree (of_normal_form d)) (sym (ap err_of is)) tt

normal_cause_by : (tree : Source) (e : NormError) → Gives (normal_of tree) (Err e) → HasTreeCause tree (of_normal_form e)
normal_cause_by tree e (inl same) = normal_cause_of tree e same
normal_cause_by tree e (inr memory) = no_memory_cause tree e memory

pub normal_cause : (tree : Source) (e : NormError) (s : SourceError) → Gives (normal_of tree) (Err e) → s ≡ of_normal_form e → HasTreeCause tree s
normal_cause tree e s gives is = subst (HasTreeCause tree) (sym is) (normal_cause_by tree e gives)

-- a text whose tree has no normal form is refused
pub tree_cause : (text : List ℕ) (tokens : List Token) (tree : Source) (s : SourceError) → HasTokens literal_limit text tokens
    → Spells (IsSource 64) text tokens tree → HasTreeCause tree s → HasCause text s
tree_cause text tokens tree (Refused r) has spelled cause = no_normal_form tokens tree cause.0 has spelled cause.1 cause.2
tree_cause text tokens tree Memory has spelled cause = tt

-- bytes that are no text are refused where they stop being one
pub utf8_cause : (text : List ℕ) (at : ℕ) (s : SourceError) → ¬ (IsUtf8 text) → at ≡ utf8_valid_len text → s ≡ of_lexer (lexer.NotUtf8 at) → HasCause text s
utf8_cause text at s none place is = lexer_cause text (lexer.NotUtf8 at) s (none, place) is
