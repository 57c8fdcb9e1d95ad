-- What is read is spelled by all the tokens.
use Rattle.std.proofs.Common.{ℕ, List, Result}
use Rattle.std.specs.Prelude.{IfOk}
use Rattle.hs_lex.specs.declared.token.Token.{Token}
use Rattle.hs_tree.specs.declared.source.Source.{Source}
use Rattle.hs_words.specs.declared.error.ReadError.{ReadError}
use Rattle.hs_words.specs.Input.{Gives, whole}
use Rattle.hs_words.specs.Grammar.{Spells}
use Rattle.hs_words.proofs.Whole.{given_spells}
use Rattle.hs_read.specs.Declare.{source}
use Rattle.hs_read.specs.Grammar.{IsSource}
use Rattle.hs_read.proofs.DeclareSound.{source_accepts}

pub source_found : (text : List ℕ) (tokens : List Token) (r : Result Source ReadError) → Gives (λ tree. tree) r (whole (source 64) text tokens)
    → IfOk r (λ tree. Spells (IsSource 64) text tokens tree)
source_found text tokens r given = given_spells (source 64) (IsSource 64) (source_accepts 64) text tokens r given
