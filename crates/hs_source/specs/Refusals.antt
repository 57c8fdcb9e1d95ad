-- The errors of the stages as refusals.
use Rattle.hs_lex.specs.declared.error.LexError.{LexError}
use Rattle.hs_lex.specs.declared.error.LexError.TheVariants as lexer
use Rattle.hs_words.specs.declared.error.ReadError.{ReadError}
use Rattle.hs_words.specs.declared.error.ReadError.TheVariants as reader
use Rattle.hs_words.specs.declared.error.What.TheVariants as what
use Rattle.hs_norm_formula.specs.declared.by_number.NormError.{NormError}
use Rattle.hs_norm_formula.specs.declared.by_number.NormError.TheVariants as normal
use Rattle.hs_print.specs.declared.refusal.Refusal.TheVariants as refusal
use Rattle.hs_source.specs.declared.error.SourceError.{SourceError}
use Rattle.hs_source.specs.declared.error.SourceError.TheVariants.{Refused, Memory}

abbrev pub of_lexer : LexError → SourceError
of_lexer (lexer.NotUtf8 at) = Refused (refusal.NotUtf8 at)
of_lexer (lexer.BadByte at) = Refused (refusal.BadByte at)
of_lexer (lexer.LiteralWide at) = Refused (refusal.LiteralWide at)
of_lexer (lexer.NameLong at) = Refused (refusal.NameLong at)
of_lexer lexer.Memory = Memory

abbrev pub of_reader : ReadError → SourceError
of_reader (reader.Expected at what.Token) = Refused (refusal.Unexpected at)
of_reader (reader.Expected at what.End) = Refused (refusal.UnexpectedEnd at)
of_reader (reader.TooDeep at) = Refused (refusal.TooDeep at)
of_reader reader.Memory = Memory

abbrev pub of_normal_form : NormError → SourceError
of_normal_form (normal.Unknown name) = Refused (refusal.Unknown name)
of_normal_form (normal.Twice name) = Refused (refusal.Twice name)
of_normal_form (normal.Kind at) = Refused (refusal.Kind at)
of_normal_form (normal.Arity at) = Refused (refusal.Arity at)
of_normal_form (normal.TooMany at limit) = Refused (refusal.TooMany at)
of_normal_form (normal.Shape at) = Refused (refusal.Shape at)
of_normal_form normal.Memory = Memory
