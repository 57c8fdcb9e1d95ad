-- The words at which what was read ends, and those with which it begins.
use Rattle.std.proofs.Common.{◌≡◌, Bool, true, false, Option, Some, refl, ap, ◌∙◌}
use Rattle.hs_lex.specs.declared.token.Sign.TheVariants as sign
use Rattle.hs_tree.specs.declared.item.RelTree.{RelTree}
use Rattle.hs_words.specs.declared.word.Keyword.TheVariants as key
use Rattle.hs_words.specs.declared.word.Word.{Word}
use Rattle.hs_words.specs.declared.word.Word.TheVariants as word
use Rattle.hs_read_pure.specs.Expr.{begins_var, is_signed}
use Rattle.hs_read_pure.specs.Item.{relation}

-- ---- ends

abbrev pub ends_part : Word → Bool
ends_part (word.Sign sign.Star) = false
ends_part _ = true

abbrev pub ends_expr : Word → Bool
ends_expr (word.Sign sign.Plus) = false
ends_expr (word.Sign sign.Minus) = false
ends_expr (word.Sign sign.Star) = false
ends_expr _ = true

abbrev pub ends_conj : Word → Bool
ends_conj (word.Sign sign.Plus) = false
ends_conj (word.Sign sign.Minus) = false
ends_conj (word.Sign sign.Star) = false
ends_conj (word.Sign sign.Amp) = false
ends_conj _ = true

abbrev pub ends_pure : Word → Bool
ends_pure (word.Sign sign.Plus) = false
ends_pure (word.Sign sign.Minus) = false
ends_pure (word.Sign sign.Star) = false
ends_pure (word.Sign sign.Amp) = false
ends_pure (word.Sign sign.Bar) = false
ends_pure _ = true

abbrev pub ends_formula : Word → Bool
ends_formula (word.Sign sign.Plus) = false
ends_formula (word.Sign sign.Minus) = false
ends_formula (word.Sign sign.Star) = false
ends_formula (word.Sign sign.Amp) = false
ends_formula (word.Key key.Or) = false
ends_formula _ = true

pub expr_ends_part : (w : Word) → ends_expr w ≡ true → ends_part w ≡ true
expr_ends_part (word.Sign sign.Star) e = absurd cc
expr_ends_part w e = refl

pub expr_unsigned : (w : Word) → ends_expr w ≡ true → is_signed w ≡ false
expr_unsigned (word.Sign sign.Plus) e = absurd cc
expr_unsigned (word.Sign sign.Minus) e = absurd cc
expr_unsigned w e = refl

pub signed_ends_part : (w : Word) → is_signed w ≡ true → ends_part w ≡ true
signed_ends_part (word.Sign sign.Star) e = absurd cc
signed_ends_part w e = refl

pub conj_ends_expr : (w : Word) → ends_conj w ≡ true → ends_expr w ≡ true
conj_ends_expr (word.Sign sign.Plus) e = absurd cc
conj_ends_expr (word.Sign sign.Minus) e = absurd cc
conj_ends_expr (word.Sign sign.Star) e = absurd cc
conj_ends_expr w e = refl

pub pure_ends_conj : (w : Word) → ends_pure w ≡ true → ends_conj w ≡ true
pure_ends_conj (word.Sign sign.Plus) e = absurd cc
pure_ends_conj (word.Sign sign.Minus) e = absurd cc
pure_ends_conj (word.Sign sign.Star) e = absurd cc
pure_ends_conj (word.Sign sign.Amp) e = absurd cc
pure_ends_conj w e = refl

pub formula_ends_conj : (w : Word) → ends_formula w ≡ true → ends_conj w ≡ true
formula_ends_conj (word.Sign sign.Plus) e = absurd cc
formula_ends_conj (word.Sign sign.Minus) e = absurd cc
formula_ends_conj (word.Sign sign.Star) e = absurd cc
formula_ends_conj (word.Sign sign.Amp) e = absurd cc
formula_ends_conj w e = refl

pub relation_ends_expr : (w : Word) (r : RelTree) → relation w ≡ Some r → ends_expr w ≡ true
relation_ends_expr (word.Sign sign.Plus) r e = absurd cc
relation_ends_expr (word.Sign sign.Minus) r e = absurd cc
relation_ends_expr (word.Sign sign.Star) r e = absurd cc
relation_ends_expr w r e = refl

-- ---- begins

abbrev pub begins_part : Word → Bool
begins_part (word.Number n) = true
begins_part (word.Key key.Null) = true
begins_part (word.Key key.SelfWord) = true
begins_part (word.Key key.Res) = true
begins_part word.Name = true
begins_part _ = false

abbrev pub begins_sum : Word → Bool
begins_sum (word.Sign sign.Minus) = true
begins_sum (word.Number n) = true
begins_sum (word.Key key.Null) = true
begins_sum (word.Key key.SelfWord) = true
begins_sum (word.Key key.Res) = true
begins_sum word.Name = true
begins_sum _ = false

abbrev pub begins_expr : Word → Bool
begins_expr (word.Sign sign.Minus) = true
begins_expr (word.Sign sign.OpenBrace) = true
begins_expr (word.Number n) = true
begins_expr (word.Key key.Null) = true
begins_expr (word.Key key.SelfWord) = true
begins_expr (word.Key key.Res) = true
begins_expr (word.Key key.Union) = true
begins_expr (word.Key key.Inter) = true
begins_expr (word.Key key.Diff) = true
begins_expr word.Name = true
begins_expr _ = false

-- neither a bound name nor a heap
abbrev pub begins_item : Word → Bool
begins_item (word.Key key.Exists) = false
begins_item (word.Key key.Forall) = false
begins_item (word.Key key.Emp) = false
begins_item _ = true

pub var_begins_part : (w : Word) → begins_var w ≡ true → begins_part w ≡ true
var_begins_part word.Name e = refl
var_begins_part (word.Key key.SelfWord) e = refl
var_begins_part (word.Key key.Res) e = refl
var_begins_part w e = absurd cc

pub part_begins_sum : (w : Word) → begins_part w ≡ true → begins_sum w ≡ true
part_begins_sum (word.Number n) e = refl
part_begins_sum word.Name e = refl
part_begins_sum (word.Key key.Null) e = refl
part_begins_sum (word.Key key.SelfWord) e = refl
part_begins_sum (word.Key key.Res) e = refl
part_begins_sum w e = absurd cc

pub sum_begins_expr : (w : Word) → begins_sum w ≡ true → begins_expr w ≡ true
sum_begins_expr (word.Sign sign.Minus) e = refl
sum_begins_expr (word.Number n) e = refl
sum_begins_expr word.Name e = refl
sum_begins_expr (word.Key key.Null) e = refl
sum_begins_expr (word.Key key.SelfWord) e = refl
sum_begins_expr (word.Key key.Res) e = refl
sum_begins_expr w e = absurd cc

pub expr_begins_item : (w : Word) → begins_expr w ≡ true → begins_item w ≡ true
expr_begins_item (word.Key key.Exists) e = absurd cc
expr_begins_item (word.Key key.Forall) e = absurd cc
expr_begins_item (word.Key key.Emp) e = absurd cc
expr_begins_item w e = refl
