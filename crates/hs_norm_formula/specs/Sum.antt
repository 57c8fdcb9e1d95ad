-- Sums of numbers and variables.
use Rattle.std.specs.Prelude.{ℕ, suc, ◌^◌, nat_le, nat_lt, ℤ, pos, neg_ℤ, ◌+ℤ◌, unsigned_abs, Bool, true, false, ◌||◌, if◌then◌else◌, List, [], ◌∷◌, slice_get, slice_set, Option, Some, None}
use Rattle.std.specs.List.{fold, sum_by, insert, remove}
use Rattle.std.specs.Option.{option_map}
use Rattle.std.specs.Ordering.{int_eq}
use Rattle.hs_tree.specs.declared.ident.Ident.{Ident}
use Rattle.hs_tree.specs.declared.expr.PartTree.{PartTree}
use Rattle.hs_tree.specs.declared.expr.PartTree.TheVariants as part
use Rattle.hs_pure.specs.declared.var.Var.{Var}
use Rattle.hs_pure.specs.declared.lin.Lin.{Lin}
use Rattle.hs_pure.specs.Stack.{same}
use Rattle.hs_numbering.specs.declared.fault.Problem.TheVariants.{Kind, Shape}
use Rattle.hs_numbering.specs.Numbering.{Builder, ◌>>=◌, ◌>>◌, ◌<$>◌, pure, each, blame, resolve, is_numbered}
use Rattle.hs_norm_formula.specs.declared.sum.Term.{Term}

-- ---- coefficients

-- how many terms of a sum in order stand before v
abbrev pub place : Var → List (Var × ℤ) → ℕ
place v [] = 0
place v (t ∷ ts) = if nat_lt t.0.number v.number then suc (place v ts) else 0

abbrev pub is_of : Var → Option (Var × ℤ) → Bool
is_of v None = false
is_of v (Some t) = same t.0 v

abbrev pub coefficient_in : Var → Option (Var × ℤ) → ℤ
coefficient_in v None = pos 0
coefficient_in v (Some t) = if same t.0 v then t.1 else pos 0

abbrev pub coefficient : Var → List (Var × ℤ) → ℤ
coefficient v ts = coefficient_in v (slice_get ts (place v ts))

-- at place i: whether v stands there, and whether its new coefficient is 0
abbrev pub changed : Bool → Bool → ℕ → Var × ℤ → List (Var × ℤ) → List (Var × ℤ)
changed true true i t ts = remove ts i
changed true false i t ts = slice_set ts i t
changed false true i t ts = ts
changed false false i t ts = insert ts i t

-- the sum in order in which v has the coefficient c, without a coefficient 0
abbrev pub put : Var → ℤ → List (Var × ℤ) → List (Var × ℤ)
put v c ts = changed (is_of v (slice_get ts (place v ts))) (int_eq c (pos 0)) (place v ts) (v, c) ts

-- ---- parts

abbrev pub blame_kind : ℕ → Bool → Builder (Unit {0})
blame_kind at true = blame at Kind
blame_kind at false = pure tt

-- the variable of a name that stands where a number belongs
unfoldable pub number_var : Ident → Builder Var
number_var x = do
  v ← resolve x
  blame_kind x.at v.bag
  pure v

-- the variable of a part, and how often it counts
abbrev pub part_term : PartTree → Builder (Option Var × ℕ)
part_term (part.Number m) = pure (None, m)
part_term (part.Times m x) = (λ v. (Some v, m)) <$> number_var x
part_term (part.Name x) = (λ v. (Some v, 1)) <$> number_var x
part_term part.Null = pure (None, 0)

abbrev pub term : Bool × PartTree → Builder Term
term p = (λ t. record { minus = p.0; var = t.0; size = t.1 }) <$> part_term p.1

-- ---- adding up

abbrev pub zero_sum : Lin
zero_sum = record { terms = []; constant = pos 0 }

-- the sum of these terms and this constant
abbrev pub sum_of : List (Var × ℤ) → ℤ → Lin
sum_of ts c = record { terms = ts; constant = c }

abbrev pub amount : Term → ℤ
amount t = if t.minus then neg_ℤ (pos t.size) else pos t.size

-- what is added up so far for the variable, or without one
abbrev pub so_far : Lin → Option Var → ℤ
so_far a None = a.constant
so_far a (Some v) = coefficient v a.terms

abbrev pub with_number : Lin → Option Var → ℤ → Lin
with_number a None c = record a { constant = c }
with_number a (Some v) c = record a { terms = put v c a.terms }

-- it lies from -2^126 to 2^126
abbrev pub small : ℤ → Option ℤ
small x = if nat_le (unsigned_abs x) (2 ^ 126) then Some x else None

-- one more term, where the number that it changes stays small
abbrev pub add : Option Lin → Term → Option Lin
add None t = None
add (Some a) t = option_map (with_number a t.var) (small (so_far a t.var +ℤ amount t))

-- the terms added up from the left, where all numbers on the way are small
abbrev pub added : List Term → Option Lin
added = fold add (Some zero_sum)

-- the numbers, with 1 for each variable without a number, together
abbrev pub weight : List Term → ℕ
weight = sum_by (λ t. t.size)

-- in a source a sum is light, so that no number of it can be large; the numbered form asks the latter alone
abbrev pub allowed : Bool → List Term → Option Lin
allowed numbered ts = if numbered || nat_le (weight ts) (2 ^ 126) then added ts else None

abbrev pub or_shape : ℕ → Option Lin → Builder Lin
or_shape at (Some a) = pure a
or_shape at None = blame at Shape >> pure zero_sum

-- names first, then the numbers
unfoldable pub sum : List (Bool × PartTree) → ℕ → Builder Lin
sum parts at = each term parts >>= λ terms n. or_shape at (allowed (is_numbered n.reading) terms) n
