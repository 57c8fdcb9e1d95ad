-- What the grammar has within the nesting is read, and nothing else is spelled by the same tokens.
use Rattle.std.proofs.Common.{◌≡◌, Ok, sym, ap, ◌∙◌}
use Rattle.hs_words.proofs.Full.{fine, fine_same, whole_full}
use Rattle.hs_read_pure.specs.Formula.{formula, pure_formula}
use Rattle.hs_read_pure.specs.Grammar.{IsPure, IsFormula}
use Rattle.hs_read_pure.specs.Laws.{PureFormulasAreRead, FormulasAreRead, PureFormulasAreUnique, FormulasAreUnique}
use Rattle.hs_read_pure.proofs.Ends.{ends_pure, ends_formula}
use Rattle.hs_read_pure.proofs.ItemFull.{pure_full}
use Rattle.hs_read_pure.proofs.FormulaFull.{formula_full}

pub pure_read : PureFormulasAreRead
pure_read n text tokens tree s = whole_full (pure_formula n) (IsPure n) (λ p i j h end. pure_full n p i j h (ap ends_pure end)) text tokens tree s

pub formulas_read : FormulasAreRead
formulas_read n text tokens tree s = whole_full (formula n) (IsFormula n) (λ f i j h end. formula_full n f i j h (ap ends_formula end)) text tokens tree s

pub pure_unique : PureFormulasAreUnique
pure_unique n text tokens p q s t = fine_same p q (sym (pure_read n text tokens p s) ∙ pure_read n text tokens q t)

pub formulas_unique : FormulasAreUnique
formulas_unique n text tokens f g s t = fine_same f g (sym (formulas_read n text tokens f s) ∙ formulas_read n text tokens g t)
