-- No part of a source gives more than 1000 numbers.
use Rattle.std.proofs.Common.{◌≡◌, ℕ, ◌+◌, ◌<◌, Bool, true, false, nat_le, List, [], ◌∷◌, ◌++◌, length, map, Option, Some, None, arith, length-append, subst, sym, refl, if◌then◌else◌}
use Rattle.std.specs.List.{fold, AllByRecursion}
use Rattle.std.proofs.lemmas.Bool.Decides.{nat_tests}
use Rattle.hs_tree.specs.declared.ident.Ident.{Ident}
use Rattle.hs_tree.specs.declared.expr.PartTree.{PartTree}
use Rattle.hs_tree.specs.declared.expr.PartTree.TheVariants as part
use Rattle.hs_tree.specs.declared.expr.ExprTree.{ExprTree, ExprTree-F, map-ExprTree, roll-ExprTree, ind-ExprTree, fold-roll-ExprTree}
use Rattle.hs_tree.specs.declared.expr.ExprKind.{ExprKind, roll-ExprKind, map-ExprKind, fold-ExprKind, fold-roll-ExprKind}
use Rattle.hs_tree.specs.declared.expr.ExprKind.TheOpen.{ExprKind-F}
use Rattle.hs_pure.specs.declared.var.Var.{Var}
use Rattle.hs_pure.specs.declared.lin.Lin.{Lin}
use Rattle.hs_pure.specs.declared.bag.Bag.{Bag}
use Rattle.hs_pure.specs.declared.bag.Bag.TheVariants as set
use Rattle.hs_numbering.specs.declared.fault.Problem.{Problem}
use Rattle.hs_numbering.specs.declared.fault.Problem.TheVariants.{Kind, Shape, Twice, TooMany}
use Rattle.hs_numbering.specs.declared.fault.Limit.TheVariants.{Vars}
use Rattle.hs_numbering.specs.declared.numbering.Numbering.{Numbering}
use Rattle.hs_numbering.specs.Names.{is_upper, numbered_var}
use Rattle.hs_numbering.specs.Numbering.{Builder, ◌>>=◌, ◌>>◌, ◌<$>◌, pure, each, each_counted, blame, blame_unknown, blame_twice, no_var, is_numbered, give, give_named, learn, takes_new, resolve, resolve_free, resolve_name, resolve_numbered, or_else, last_named, bind, bind_name, bind_numbered, bind_read, is_taken, has_number, enter, leave}
use Rattle.hs_norm_formula.specs.Sum.{blame_kind, number_var, part_term, term, sum, or_shape, allowed}
use Rattle.hs_norm_formula.specs.Expr.{Readings, bare_name, no_bag, sum_bag, both, kind_level, readings, number, bag}
use Rattle.hs_norm_formula.specs.Laws.{AreFew, KeepsFew}

pub then_keeps : {A B : Type 0} (p : Builder A) (f : A → Builder B) → KeepsFew p → ((a : A) → KeepsFew (f a)) → KeepsFew (p >>= f)
then_keeps p f h g = λ n few. g (p n).0 (p n).1 (h n few)

pub pure_keeps : {A : Type 0} (a : A) → KeepsFew (pure a)
pure_keeps a = λ n few. few

pub map_keeps : {A B : Type 0} (f : A → B) (p : Builder A) → KeepsFew p → KeepsFew (f <$> p)
map_keeps f p h = λ n few. h n few

pub blame_keeps : (at : ℕ) (p : Problem) → KeepsFew (blame at p)
blame_keeps at p = λ n few. few

pub if_keeps : {A : Type 0} (b : Bool) (p q : Builder A) → KeepsFew p → KeepsFew q → KeepsFew (if b then p else q)
if_keeps true p q h g = h
if_keeps false p q h g = g

or_keeps : (o : Option Var) (q : Builder Var) → KeepsFew q → KeepsFew (or_else o q)
or_keeps (Some v) q h = pure_keeps v
or_keeps None q h = h

above : (n : ℕ) → nat_le 1000 n ≡ false → n < 1000
above n h = grind (arith, nat_tests)

pub give_keeps : (name : Option (List ℕ)) (at : ℕ) (bag : Bool) → KeepsFew (give name at bag)
give_keeps name at bag = λ n few. of n few (is_numbered n.reading) (nat_le 1000 (length n.names)) refl
  where
    given : Numbering → Bool → Bool → Var × Numbering
    given n s b = if s then (blame at Shape >> pure (no_var bag)) n
        else (if b then (blame at (TooMany Vars) >> pure (no_var bag)) n else (record { number = length n.names + 1; bag = bag }, record n { names = n.names ++ name ∷ [] }))

    of : (n : Numbering) → AreFew n → (s b : Bool) → nat_le 1000 (length n.names) ≡ b → AreFew (given n s b).1
    of n few true b e = few
    of n few false true e = few
    of n few false false e = let less = above (length n.names) e in omega (arith, length-append n.names (name ∷ []))

pub enter_keeps : (x : Ident) (v : Var) → KeepsFew (enter x v)
enter_keeps x v = λ n few. few

learn_keeps : (x : Ident) (v : Var) → KeepsFew (learn x v)
learn_keeps x v = λ n few. few

pub leave_keeps : KeepsFew leave
unfolding leave
leave_keeps = λ n few. few

twice_keeps : (x : Ident) (b : Bool) → KeepsFew (blame_twice x b)
twice_keeps x true = blame_keeps x.at (Twice x.text)
twice_keeps x false = pure_keeps (tt {0})

unknown_keeps : (x : Ident) → KeepsFew (blame_unknown x)
unknown_keeps x = λ n few. few

-- ---- names

free_keeps : (x : Ident) → KeepsFew (resolve_free x)
free_keeps x = λ n few. if_keeps (takes_new n.reading x.text) (give_named x >>= λ v. learn x v >> pure v) (blame_unknown x)
    (then_keeps (give_named x) (λ v. learn x v >> pure v) (give_keeps (Some x.text) x.at (is_upper x.text)) (λ v. then_keeps (learn x v) (λ _. pure v) (learn_keeps x v) (λ _. pure_keeps v)))
    (unknown_keeps x) n few

name_keeps : (x : Ident) → KeepsFew (resolve_name x)
name_keeps x = λ n few. or_keeps (last_named x.text n.around) (or_else (last_named x.text n.known) (or_else (last_named x.text n.fixed) (resolve_free x)))
    (or_keeps (last_named x.text n.known) (or_else (last_named x.text n.fixed) (resolve_free x)) (or_keeps (last_named x.text n.fixed) (resolve_free x) (free_keeps x))) n few

pub resolve_keeps : (x : Ident) → KeepsFew (resolve x)
unfolding resolve
resolve_keeps x = λ n few. if_keeps (is_numbered n.reading) (resolve_numbered x) (resolve_name x) (or_keeps (numbered_var x.text) (blame_unknown x) (unknown_keeps x)) (name_keeps x) n few

entered_keeps : (x : Ident) (v : Var) → KeepsFew (enter x v >> pure v)
entered_keeps x v = then_keeps (enter x v) (λ _. pure v) (enter_keeps x v) (λ _. pure_keeps v)

bind_name_keeps : (x : Ident) → KeepsFew (bind_name x)
bind_name_keeps x = λ n few. then_keeps (blame_twice x (is_taken x.text n)) (λ _. give_named x >>= λ v. enter x v >> pure v) (twice_keeps x (is_taken x.text n))
    (λ _. then_keeps (give_named x) (λ v. enter x v >> pure v) (give_keeps (Some x.text) x.at (is_upper x.text)) (entered_keeps x)) n few

bind_read_keeps : (x : Ident) (o : Option Var) → KeepsFew (bind_read x o)
bind_read_keeps x None = then_keeps (blame_unknown x) (λ v. enter x v >> pure v) (unknown_keeps x) (entered_keeps x)
bind_read_keeps x (Some v) = λ n few. then_keeps (blame_twice x (has_number v.number n.around)) (λ _. enter x v >> pure v) (twice_keeps x (has_number v.number n.around)) (λ _. entered_keeps x v) n few

pub bind_keeps : (x : Ident) → KeepsFew (bind x)
unfolding bind
bind_keeps x = λ n few. if_keeps (is_numbered n.reading) (bind_numbered x) (bind_name x) (bind_read_keeps x (numbered_var x.text)) (bind_name_keeps x) n few

pub kind_keeps : (at : ℕ) (b : Bool) → KeepsFew (blame_kind at b)
kind_keeps at true = blame_keeps at Kind
kind_keeps at false = pure_keeps (tt {0})

pub number_var_keeps : (x : Ident) → KeepsFew (number_var x)
unfolding number_var
number_var_keeps x = then_keeps (resolve x) (λ v. blame_kind x.at v.bag >> pure v) (resolve_keeps x)
    (λ v. then_keeps (blame_kind x.at v.bag) (λ _. pure v) (kind_keeps x.at v.bag) (λ _. pure_keeps v))

-- ---- lists

module _ {A B : Type 0} (f : A → Builder B) where
  from_keeps : (xs : List A) (ys : List B) (n : Numbering) → AllByRecursion (λ x. KeepsFew (f x)) xs → AreFew n → AreFew (fold (λ (done : List B × Numbering) x. (done.0 ++ (f x done.1).0 ∷ [], (f x done.1).1)) (ys, n) xs).1
  from_keeps [] ys n h few = few
  from_keeps (x ∷ xs) ys n h few = from_keeps xs (ys ++ (f x n).0 ∷ []) (f x n).1 h.1 (h.0 n few)

  pub each_keeps : (xs : List A) → AllByRecursion (λ x. KeepsFew (f x)) xs → KeepsFew (each f xs)
  each_keeps xs h = λ n few. from_keeps xs [] n h few

  pub all_by : (xs : List A) → ((x : A) → KeepsFew (f x)) → AllByRecursion (λ x. KeepsFew (f x)) xs
  all_by [] h = tt
  all_by (x ∷ xs) h = (h x, all_by xs h)

module _ {A B : Type 0} (f : ℕ → A → Builder B) (h : (k : ℕ) (x : A) → KeepsFew (f k x)) where
  counted_from : (xs : List A) (ys : List B) (n : Numbering) → AreFew n → AreFew (fold (λ (done : List B × Numbering) x. (done.0 ++ (f (length done.0) x done.1).0 ∷ [], (f (length done.0) x done.1).1)) (ys, n) xs).1
  counted_from [] ys n few = few
  counted_from (x ∷ xs) ys n few = counted_from xs (ys ++ (f (length ys) x n).0 ∷ []) (f (length ys) x n).1 (h (length ys) x n few)

  pub counted_keeps : (xs : List A) → KeepsFew (each_counted f xs)
  counted_keeps xs = λ n few. counted_from xs [] n few

-- ---- expressions

part_keeps : (p : PartTree) → KeepsFew (part_term p)
part_keeps (part.Number m) = λ n few. few
part_keeps (part.Times m x) = λ n few. number_var_keeps x n few
part_keeps (part.Name x) = λ n few. number_var_keeps x n few
part_keeps part.Null = λ n few. few

term_keeps : (p : Bool × PartTree) → KeepsFew (term p)
term_keeps p = λ n few. part_keeps p.1 n few

shape_keeps : (at : ℕ) (o : Option Lin) → KeepsFew (or_shape at o)
shape_keeps at (Some a) = pure_keeps a
shape_keeps at None = λ n few. few

sum_keeps : (parts : List (Bool × PartTree)) (at : ℕ) → KeepsFew (sum parts at)
unfolding sum
sum_keeps parts at = then_keeps (each term parts) (λ terms n. or_shape at (allowed (is_numbered n.reading) terms) n) (each_keeps term parts (all_by term parts term_keeps))
    (λ terms n few. shape_keeps at (allowed (is_numbered n.reading) terms) n few)

no_bag_keeps : (parts : List (Bool × PartTree)) (at : ℕ) → KeepsFew (no_bag parts at)
no_bag_keeps parts at = λ n few. sum_keeps parts at (blame at Kind n).1 few

sum_bag_keeps : (parts : List (Bool × PartTree)) (at : ℕ) (o : Option Ident) → KeepsFew (sum_bag parts at o)
sum_bag_keeps parts at None = no_bag_keeps parts at
sum_bag_keeps parts at (Some x) = if_keeps (is_upper x.text) (set.Name <$> resolve x) (no_bag parts at) (λ n few. resolve_keeps x n few) (no_bag_keeps parts at)

both_keeps : (operation : Bag → Bag → Bag) (p q : Builder Bag) → KeepsFew p → KeepsFew q → KeepsFew (both operation p q)
both_keeps operation p q h g = λ n few. g (p n).1 (h n few)

abbrev kind_of : ExprKind → ℕ → Readings
kind_of = fold-ExprKind (ℕ → Readings) Readings kind_level (λ e. e.kind e.at)

abbrev Both : Readings → Type 0
Both r = KeepsFew r.number × KeepsFew r.bag

abbrev PK : ExprKind → Type 0
PK k = (at : ℕ) → Both (kind_of k at)

abbrev PE : ExprTree → Type 0
PE e = Both (readings e)

abbrev K : Type 0
K = (k : ExprKind) × PK k

abbrev E : Type 0
E = (e : ExprTree) × PE e

elements_keep : (es : List E) → AllByRecursion (λ (p : Builder Lin). KeepsFew p) (map (λ e. e.number) (map readings (map (λ e. e.0) es)))
elements_keep [] = tt
elements_keep (e ∷ es) = (e.1.0, elements_keep es)

kind : (k : ExprKind-F K E) (at : ℕ) → Both (kind_level (map-ExprKind ExprKind ExprTree (ℕ → Readings) Readings kind_of readings (map-ExprKind K E ExprKind ExprTree (λ e. e.0) (λ e. e.0) k)) at)
kind (ExprKind-F.Sum parts) at = (sum_keeps parts at, sum_bag_keeps parts at (bare_name parts))
kind (ExprKind-F.Braces es) at = (λ n few. few, λ n few. each_keeps (λ e. e) (map (λ e. e.number) (map readings (map (λ e. e.0) es))) (elements_keep es) n few)
kind (ExprKind-F.Union a b) at = (λ n few. few, both_keeps set.Union (readings a.0).bag (readings b.0).bag a.1.1 b.1.1)
kind (ExprKind-F.Inter a b) at = (λ n few. few, both_keeps set.Inter (readings a.0).bag (readings b.0).bag a.1.1 b.1.1)
kind (ExprKind-F.Diff a b) at = (λ n few. few, both_keeps set.Diff (readings a.0).bag (readings b.0).bag a.1.1 b.1.1)

all_kinds : (x : ExprKind-F ExprKind ExprTree) (y : ExprKind-F K E) → map-ExprKind K E ExprKind ExprTree (λ e. e.0) (λ e. e.0) y ≡ x → PK (roll-ExprKind x)
all_kinds x y is = λ at. subst (λ b. Both (b at)) (sym (fold-roll-ExprKind (ℕ → Readings) Readings kind_level (λ e. e.kind e.at) x))
    (subst (λ z. Both (kind_level (map-ExprKind ExprKind ExprTree (ℕ → Readings) Readings kind_of readings z) at)) is (kind y at))

all_trees : (x : ExprTree-F ExprKind ExprTree) (y : ExprTree-F K E) → map-ExprTree K E ExprKind ExprTree (λ e. e.0) (λ e. e.0) y ≡ x → PE (roll-ExprTree x)
all_trees x y is = subst Both (sym (fold-roll-ExprTree (ℕ → Readings) Readings kind_level (λ e. e.kind e.at) x))
    (subst (λ z. Both (tree_of (map-ExprTree ExprKind ExprTree (ℕ → Readings) Readings kind_of readings z))) is (y.kind.1 y.at))
  where
    tree_of : ExprTree-F (ℕ → Readings) Readings → Readings
    tree_of e = e.kind e.at

expr_keeps : (e : ExprTree) → PE e
expr_keeps = ind-ExprTree PK PE all_kinds all_trees

pub number_keeps : (e : ExprTree) → KeepsFew (number e)
unfolding number
number_keeps e = (expr_keeps e).0

pub bag_keeps : (e : ExprTree) → KeepsFew (bag e)
unfolding bag
bag_keeps e = (expr_keeps e).1
