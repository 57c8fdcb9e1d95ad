-- A printed formula is read back.
use Rattle.std.specs.Prelude.{◌≡◌, ℕ, ◌<◌, ◌≤◌, ◌^◌, false, List, [], length, None, Ok}
use Rattle.hs_lex.specs.declared.token.Token.{Token}
use Rattle.hs_lex.specs.Tokens.{HasTokens}
use Rattle.hs_tree.specs.declared.item.PureTree.{PureTree}
use Rattle.hs_tree.specs.declared.formula.FormulaTree.{FormulaTree}
use Rattle.hs_words.specs.Input.{whole}
use Rattle.hs_read_pure.specs.Formula.{formula, pure_formula}
use Rattle.hs_pure.specs.declared.pure.Pure.{Pure}
use Rattle.hs_heap.specs.declared.formula.Formula.{Formula}
use Rattle.hs_heap.specs.declared.definitions.Defs.{Defs}
use Rattle.hs_numbering.specs.declared.numbering.Reading.TheVariants.{Numbered}
use Rattle.hs_numbering.specs.Numbering.{start}
use Rattle.hs_norm_formula.specs.Item.{disjunction}
use Rattle.hs_norm_formula.specs.Numbered.{answer, numbered}
use Rattle.hs_print.specs.Pure.{pure_text}
use Rattle.hs_print.specs.Formula.{formula_text}
use Rattle.hs_written.specs.Writable.{IsWritable, IsWritablePure}
use Rattle.hs_written.specs.Written.{IsPure, Writes}

-- the text of a writable formula has tokens, and the reader takes them for a tree that writes the formula
abbrev pub FormulasAreWritten : Type 0
FormulasAreWritten = (top : ℕ) (defs : Defs) (f : Formula) → 2 ^ 126 ≤ top → IsWritable defs f → 0 < length f.cases
    → (tokens : List Token) × (HasTokens top (formula_text defs None f) tokens × ((tree : FormulaTree) × ((whole (formula 256) (formula_text defs None f) tokens ≡ Ok tree) × Writes defs f tree)))

-- the same of a pure formula by itself
abbrev pub PureFormulasAreWritten : Type 0
PureFormulasAreWritten = (top : ℕ) (p : Pure) → 2 ^ 126 ≤ top → IsWritablePure p
    → (tokens : List Token) × (HasTokens top (pure_text None p) tokens × ((tree : PureTree) × ((whole (pure_formula 256) (pure_text None p) tokens ≡ Ok tree) × IsPure p tree)))

-- the text of a writable formula has tokens, the reader takes them for a tree, and the numbers of the tree give the formula
abbrev pub FormulasComeBack : Type 0
FormulasComeBack = (top : ℕ) (defs : Defs) (f : Formula) → 2 ^ 126 ≤ top → IsWritable defs f → 0 < length f.cases
    → (tokens : List Token) × (HasTokens top (formula_text defs None f) tokens × ((tree : FormulaTree) × ((whole (formula 256) (formula_text defs None f) tokens ≡ Ok tree) × (numbered defs tree ≡ Ok f))))

-- The same of a pure formula by itself. No call reads its numbers, so the last part speaks of the normal form.
abbrev pub PureFormulasComeBack : Type 0
PureFormulasComeBack = (top : ℕ) (p : Pure) → 2 ^ 126 ≤ top → IsWritablePure p
    → (tokens : List Token) × (HasTokens top (pure_text None p) tokens × ((tree : PureTree) × ((whole (pure_formula 256) (pure_text None p) tokens ≡ Ok tree) × (answer (disjunction tree false (start Numbered [])) ≡ Ok p))))
