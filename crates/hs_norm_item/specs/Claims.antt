-- Entailments, and the pairs of a method.
use Rattle.std.specs.Prelude.{ℕ, Bool, not, ◌&&◌, List, Option, Some, None, filter}
use Rattle.hs_tree.specs.declared.expr.ExprTree.{ExprTree}
use Rattle.hs_tree.specs.declared.method.ParamTree.{ParamTree}
use Rattle.hs_tree.specs.declared.method.PairSource.{PairSource}
use Rattle.hs_tree.specs.declared.source.EntailTree.{EntailTree}
use Rattle.hs_pure.specs.declared.var.Var.{Var}
use Rattle.hs_pure.specs.declared.lin.Lin.{Lin}
use Rattle.hs_heap.specs.declared.formula.Formula.{Formula}
use Rattle.hs_heap.specs.Variables.{is_free_in_formula}
use Rattle.hs_numbering.specs.declared.fault.Limit.TheVariants.{Entailments, Pairs}
use Rattle.hs_numbering.specs.declared.numbering.Reading.TheVariants.{Open, Closed}
use Rattle.hs_numbering.specs.Numbering.{Builder, ◌>>=◌, ◌>>◌, ◌<$>◌, pure, each, read_as, fix}
use Rattle.hs_norm_formula.specs.declared.table.Entry.{Entry}
use Rattle.hs_norm_formula.specs.Expr.{number}
use Rattle.hs_norm_formula.specs.Formula.{limit, formula}
use Rattle.hs_norm_item.specs.Claim.{begin, reserve, learn_res, known_vars, next_number, take_names}
use Rattle.hs_norm_item.specs.declared.forms.Entailment.{Entailment}
use Rattle.hs_norm_item.specs.declared.forms.PairTree.{PairTree}

-- ---- entailments

abbrev pub is_open : Formula → Formula → Var → Bool
is_open left right v = is_free_in_formula v right && not (is_free_in_formula v left)

-- those that are free on the right and not on the left
abbrev pub opens_among : List Var → Formula → Formula → List Var
opens_among vars left right = filter (is_open left right) vars

abbrev pub entailment : List Entry → ℕ → EntailTree → Builder Entailment
entailment entries count e = do
  begin Open
  limit 1024 Entailments e.at count
  left ← formula entries e.left
  right ← formula entries e.right
  vars ← known_vars
  next ← next_number
  names ← take_names
  pure (record { left = left; right = right; opens = opens_among vars left right; next = next; names = record { list = names } })

-- ---- pairs

abbrev pub variant : Option ExprTree → Builder (Option Lin)
variant None = pure None
variant (Some e) = Some <$> number e

-- the parameters and then `res`, which only a postcondition of a method with a result may name; what else
-- is free in the precondition is logic, and later names are among all these
abbrev pub pair : List Entry → List ParamTree → Bool → ℕ → PairSource → Builder PairTree
pair entries params has_result count p = do
  begin Open
  limit 16 Pairs p.at count
  each (λ q. fix q.name) params
  res ← reserve p.at
  pre ← formula entries p.pre
  vars ← known_vars
  read_as Closed
  value ← variant p.variant
  learn_res has_result p.at res
  post ← formula entries p.post
  next ← next_number
  names ← take_names
  pure (record {
    pair_pre = pre;
    pair_post = post;
    logic = vars;
    next = next;
    names = record { list = names };
    variant = value;
  })
