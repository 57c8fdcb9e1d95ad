-- What stops the reading of a tree.
use Rattle.std.proofs.Common.{◌≡◌, ℕ, List, Result, Ok, Err, ap, ◌∙◌}
use Rattle.hs_lex.specs.declared.token.Token.{Token}
use Rattle.hs_tree.specs.declared.item.PureTree.{PureTree}
use Rattle.hs_tree.specs.declared.formula.FormulaTree.{FormulaTree}
use Rattle.hs_words.specs.declared.error.ReadError.{ReadError}
use Rattle.hs_words.specs.declared.error.ReadError.TheVariants.{Expected, TooDeep, Memory}
use Rattle.hs_words.specs.Input.{FailsBy, whole}
use Rattle.hs_read_pure.specs.Formula.{formula as formula_tree, pure_formula as pure_tree}
use Rattle.hs_line.specs.Steps.{Outcome, on_ok, Gives}
use Rattle.hs_dtext.specs.Formulas.{tokens, grammatical, read_stop, tree_of, pure_tree_of}

abbrev by_tokens : {A : Type 0} → (List Token → Result A ReadError) → List ℕ → Outcome A
by_tokens read text = on_ok (tokens text) (λ ts. grammatical (read ts))

found : {A : Type 0} (read : List Token → Result A ReadError) (text : List ℕ) (ts : List Token) (a : A) → tokens text ≡ Ok ts → read ts ≡ Ok a → by_tokens read text ≡ Ok a
found read text ts a e h = ap (λ o. on_ok o (λ us. grammatical (read us))) e ∙ ap grammatical h

stopped : {A : Type 0} (read : List Token → Result A ReadError) (text : List ℕ) (ts : List Token) (e : ReadError) → tokens text ≡ Ok ts → FailsBy (read ts) e
    → Gives (by_tokens read text) (Err (read_stop e))
stopped read text ts (Expected at what) e h = ap (λ o. on_ok o (λ us. grammatical (read us))) e ∙ ap grammatical h
stopped read text ts (TooDeep at) e h = ap (λ o. on_ok o (λ us. grammatical (read us))) e ∙ ap grammatical h
stopped read text ts Memory e h = tt

pub tree_found : (text : List ℕ) (ts : List Token) (t : FormulaTree) → tokens text ≡ Ok ts → whole (formula_tree 256) text ts ≡ Ok t → tree_of text ≡ Ok t
tree_found text ts t e h = found (whole (formula_tree 256) text) text ts t e h

pub tree_stopped : (text : List ℕ) (ts : List Token) (e : ReadError) → tokens text ≡ Ok ts → FailsBy (whole (formula_tree 256) text ts) e → Gives (tree_of text) (Err (read_stop e))
tree_stopped text ts e is h = stopped (whole (formula_tree 256) text) text ts e is h

pub pure_found : (text : List ℕ) (ts : List Token) (t : PureTree) → tokens text ≡ Ok ts → whole (pure_tree 256) text ts ≡ Ok t → pure_tree_of text ≡ Ok t
pure_found text ts t e h = found (whole (pure_tree 256) text) text ts t e h

pub pure_stopped : (text : List ℕ) (ts : List Token) (e : ReadError) → tokens text ≡ Ok ts → FailsBy (whole (pure_tree 256) text ts) e → Gives (pure_tree_of text) (Err (read_stop e))
pure_stopped text ts e is h = stopped (whole (pure_tree 256) text) text ts e is h
