-- What is read is spelled by all the tokens.
use Rattle.std.proofs.Common.{ℕ, List, Result}
use Rattle.std.specs.Prelude.{IfOk}
use Rattle.hs_lex.specs.declared.token.Token.{Token}
use Rattle.hs_tree.specs.declared.item.PureTree.{PureTree}
use Rattle.hs_tree.specs.declared.formula.FormulaTree.{FormulaTree}
use Rattle.hs_words.specs.declared.error.ReadError.{ReadError}
use Rattle.hs_words.specs.Input.{Gives, whole}
use Rattle.hs_words.specs.Grammar.{Spells}
use Rattle.hs_words.proofs.Whole.{given_spells}
use Rattle.hs_read_pure.specs.Formula.{formula, pure_formula}
use Rattle.hs_read_pure.specs.Grammar.{IsPure, IsFormula}
use Rattle.hs_read_pure.proofs.ItemSound.{pure_accepts}
use Rattle.hs_read_pure.proofs.FormulaSound.{formula_accepts}

pub pure_found : (text : List ℕ) (tokens : List Token) (r : Result PureTree ReadError) → Gives (λ tree. tree) r (whole (pure_formula 256) text tokens)
    → IfOk r (λ tree. Spells (IsPure 256) text tokens tree)
pure_found text tokens r given = given_spells (pure_formula 256) (IsPure 256) (pure_accepts 256) text tokens r given

pub formula_found : (text : List ℕ) (tokens : List Token) (r : Result FormulaTree ReadError) → Gives (λ tree. tree) r (whole (formula 256) text tokens)
    → IfOk r (λ tree. Spells (IsFormula 256) text tokens tree)
formula_found text tokens r given = given_spells (formula 256) (IsFormula 256) (formula_accepts 256) text tokens r given
