-- The grammar and the parsers of formulas say the same.
use Rattle.std.specs.Prelude.{◌≡◌, ℕ, List, Ok}
use Rattle.hs_lex.specs.declared.token.Token.{Token}
use Rattle.hs_tree.specs.declared.item.PureTree.{PureTree}
use Rattle.hs_tree.specs.declared.formula.FormulaTree.{FormulaTree}
use Rattle.hs_words.specs.Grammar.{Spells}
use Rattle.hs_words.specs.Input.{whole}
use Rattle.hs_read_pure.specs.Formula.{formula, pure_formula}
use Rattle.hs_read_pure.specs.Grammar.{IsPure, IsFormula}

-- a pure formula that the grammar has within the nesting is read
abbrev pub PureFormulasAreRead : Type 0
PureFormulasAreRead = (n : ℕ) (text : List ℕ) (tokens : List Token) (tree : PureTree) → Spells (IsPure n) text tokens tree → whole (pure_formula n) text tokens ≡ Ok tree

-- a formula that the grammar has within the nesting is read
abbrev pub FormulasAreRead : Type 0
FormulasAreRead = (n : ℕ) (text : List ℕ) (tokens : List Token) (tree : FormulaTree) → Spells (IsFormula n) text tokens tree → whole (formula n) text tokens ≡ Ok tree

-- tokens spell at most one pure formula
abbrev pub PureFormulasAreUnique : Type 0
PureFormulasAreUnique = (n : ℕ) (text : List ℕ) (tokens : List Token) (p q : PureTree) → Spells (IsPure n) text tokens p → Spells (IsPure n) text tokens q → p ≡ q

-- tokens spell at most one formula
abbrev pub FormulasAreUnique : Type 0
FormulasAreUnique = (n : ℕ) (text : List ℕ) (tokens : List Token) (f g : FormulaTree) → Spells (IsFormula n) text tokens f → Spells (IsFormula n) text tokens g → f ≡ g
