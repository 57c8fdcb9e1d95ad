-- No formula gives more than 1000 numbers.
use Rattle.std.proofs.Common.{◌≡◌, ℕ, ◌^◌, Bool, true, false, nat_le, nat_eq, not, ◌&&◌, List, [], ◌∷◌, length, map, Option, Some, None, sym, subst, if◌then◌else◌}
use Rattle.std.specs.List.{AllByRecursion, zip}
use mathlib.Core.Bool.{beq}
use Rattle.hs_tree.specs.declared.ident.Ident.{Ident}
use Rattle.hs_tree.specs.declared.expr.ExprTree.{ExprTree}
use Rattle.hs_tree.specs.declared.item.RelTree.{RelTree}
use Rattle.hs_tree.specs.declared.item.RelTree.TheVariants as rel
use Rattle.hs_tree.specs.declared.item.ItemTree.{ItemTree, ItemTree-F, map-ItemTree, roll-ItemTree, ind-ItemTree, fold-roll-ItemTree}
use Rattle.hs_tree.specs.declared.item.PureTree.{PureTree, PureTree-F, map-PureTree, roll-PureTree, fold-roll-PureTree}
use Rattle.hs_tree.specs.declared.item.ItemKind.{ItemKind, roll-ItemKind, map-ItemKind, fold-ItemKind, fold-roll-ItemKind}
use Rattle.hs_tree.specs.declared.item.ItemKind.TheOpen.{ItemKind-F}
use Rattle.hs_tree.specs.declared.formula.ArgTree.{ArgTree}
use Rattle.hs_tree.specs.declared.formula.ArgTree.TheVariants as arg
use Rattle.hs_tree.specs.declared.formula.AtomTree.{AtomTree}
use Rattle.hs_tree.specs.declared.formula.DisjunctTree.{DisjunctTree}
use Rattle.hs_tree.specs.declared.formula.FormulaTree.{FormulaTree}
use Rattle.hs_pure.specs.declared.var.Var.{Var}
use Rattle.hs_pure.specs.declared.pure.Pure.{Pure}
use Rattle.hs_pure.specs.declared.pure.Pure.TheVariants as pure_of
use Rattle.hs_pure.specs.declared.bag.Bag.TheVariants as set
use Rattle.hs_numbering.specs.declared.fault.Limit.{Limit}
use Rattle.hs_numbering.specs.declared.fault.Limit.TheVariants.{Atoms, Cases}
use Rattle.hs_numbering.specs.declared.fault.Problem.TheVariants.{Shape, Arity, TooMany}
use Rattle.hs_numbering.specs.declared.numbering.Numbering.{Numbering}
use Rattle.hs_numbering.specs.Numbering.{Builder, ◌>>=◌, ◌>>◌, ◌<$>◌, pure, each, each_counted, blame, bind, enter, leave, leave_all, give_bound, resolve, is_numbered}
use Rattle.hs_norm_formula.specs.declared.table.Entry.{Entry}
use Rattle.hs_norm_formula.specs.Sum.{blame_kind, number_var}
use Rattle.hs_norm_formula.specs.Expr.{number, bag, is_bag, bare}
use Rattle.hs_norm_formula.specs.Table.{entry}
use Rattle.hs_norm_formula.specs.Item.{item, disjunction, Inner, kind_level, tree_level, pure_level, bind_number, blame_shape, divisor_of, divides, is_of_bags, of_bags, of_numbers, relation, all_of_bag, quantified, all_of, conj}
use Rattle.hs_norm_formula.specs.Formula.{single, equation, value, argument, blame_arity, atom_of, atom_by, atom, limit, counted_atom, disjunct, counted_case, formula}
use Rattle.hs_norm_formula.specs.Laws.{AreFew, KeepsFew, NamesStayFew}
use Rattle.hs_norm_formula.proofs.Few.{then_keeps, pure_keeps, blame_keeps, if_keeps, leave_keeps, enter_keeps, give_keeps, resolve_keeps, bind_keeps, kind_keeps, number_var_keeps, each_keeps, all_by, counted_keeps, number_keeps, bag_keeps}

shape_keeps : (at : ℕ) (b : Bool) → KeepsFew (blame_shape at b)
shape_keeps at true = blame_keeps at Shape
shape_keeps at false = pure_keeps (tt {0})

bind_number_keeps : (x : Ident) → KeepsFew (bind_number x)
unfolding bind_number
bind_number_keeps x = then_keeps (bind x) (λ v. blame_kind x.at v.bag >> pure v) (bind_keeps x)
    (λ v. then_keeps (blame_kind x.at v.bag) (λ _. pure v) (kind_keeps x.at v.bag) (λ _. pure_keeps v))

quantified_keeps : (q : Var → Pure → Pure) (x : Ident) (p : Builder Pure) → KeepsFew p → KeepsFew (quantified q x p)
quantified_keeps q x p h = then_keeps (bind_number x) (λ v. p >>= λ p. leave >> pure (q v p)) (bind_number_keeps x)
    (λ v. then_keeps p (λ p. leave >> pure (q v p)) h (λ p. then_keeps leave (λ _. pure (q v p)) leave_keeps (λ _. pure_keeps (q v p))))

all_keeps : (x : Ident) (b : ExprTree) (p : Builder Pure) → KeepsFew p → KeepsFew (all_of_bag x b p)
all_keeps x b p h = then_keeps (bind_number x) (λ v. leave >> (bag b >>= λ e. enter x v >> (p >>= λ q. leave >> pure (pure_of.AllOf v e q)))) (bind_number_keeps x)
    (λ v. then_keeps leave (λ _. bag b >>= λ e. enter x v >> (p >>= λ q. leave >> pure (pure_of.AllOf v e q))) leave_keeps
    (λ _. then_keeps (bag b) (λ e. enter x v >> (p >>= λ q. leave >> pure (pure_of.AllOf v e q))) (bag_keeps b)
    (λ e. then_keeps (enter x v) (λ _. p >>= λ q. leave >> pure (pure_of.AllOf v e q)) (enter_keeps x v)
    (λ _. then_keeps p (λ q. leave >> pure (pure_of.AllOf v e q)) h
    (λ q. then_keeps leave (λ _. pure (pure_of.AllOf v e q)) leave_keeps (λ _. pure_keeps (pure_of.AllOf v e q)))))))

divisor_keeps : (d at : ℕ) (b : Bool) → KeepsFew (divisor_of d at b)
divisor_keeps d at true = λ n few. few
divisor_keeps d at false = λ n few. few

divides_keeps : (d : ℕ) (t : ExprTree) (at : ℕ) → KeepsFew (divides d t at)
unfolding divides
divides_keeps d t at = then_keeps (divisor_of d at (nat_le 1 d && nat_le d (2 ^ 126))) (λ divisor. number t >>= λ a. pure (pure_of.Divides divisor a)) (divisor_keeps d at (nat_le 1 d && nat_le d (2 ^ 126)))
    (λ divisor n few. number_keeps t n few)

of_bags_keeps : (s : RelTree) (l r : ExprTree) → KeepsFew (of_bags s l r)
unfolding of_bags
of_bags_keeps rel.Within l r = λ n few. bag_keeps r (number l n).1 (number_keeps l n few)
of_bags_keeps rel.Eq l r = λ n few. bag_keeps r (bag l n).1 (bag_keeps l n few)
of_bags_keeps rel.Ne l r = λ n few. bag_keeps r (bag l n).1 (bag_keeps l n few)
of_bags_keeps rel.Lt l r = λ n few. bag_keeps r (bag l n).1 (bag_keeps l n few)
of_bags_keeps rel.Le l r = λ n few. bag_keeps r (bag l n).1 (bag_keeps l n few)
of_bags_keeps rel.Gt l r = λ n few. bag_keeps r (bag l n).1 (bag_keeps l n few)
of_bags_keeps rel.Ge l r = λ n few. bag_keeps r (bag l n).1 (bag_keeps l n few)
of_bags_keeps rel.Subset l r = λ n few. bag_keeps r (bag l n).1 (bag_keeps l n few)

relation_keeps : (s : RelTree) (l r : ExprTree) (inside : Bool) (at : ℕ) → KeepsFew (relation s l r inside at)
unfolding relation
relation_keeps s l r inside at = if_keeps (is_of_bags s l) (blame_shape at inside >> of_bags s l r) (of_numbers s l r)
    (then_keeps (blame_shape at inside) (λ _. of_bags s l r) (shape_keeps at inside) (λ _. of_bags_keeps s l r))
    (λ n few. number_keeps r (number l n).1 (number_keeps l n few))

-- ---- items

abbrev kind_of : ItemKind → ℕ → Inner
kind_of = fold-ItemKind (ℕ → Inner) Inner Inner kind_level tree_level pure_level

abbrev PK : ItemKind → Type 0
PK k = (at : ℕ) (inside : Bool) → KeepsFew (kind_of k at inside)

abbrev PI : ItemTree → Type 0
PI i = (inside : Bool) → KeepsFew (item i inside)

abbrev PP : PureTree → Type 0
PP p = (inside : Bool) → KeepsFew (disjunction p inside)

abbrev K : Type 0
K = (k : ItemKind) × PK k

abbrev I : Type 0
I = (i : ItemTree) × PI i

abbrev P : Type 0
P = (p : PureTree) × PP p

kind : (k : ItemKind-F K I P) (at : ℕ) (inside : Bool) → KeepsFew (kind_level (map-ItemKind ItemKind ItemTree PureTree (ℕ → Inner) Inner Inner kind_of item disjunction (map-ItemKind K I P ItemKind ItemTree PureTree (λ e. e.0) (λ e. e.0) (λ e. e.0) k)) at inside)
kind ItemKind-F.True at inside = λ n few. few
kind ItemKind-F.False at inside = λ n few. few
kind (ItemKind-F.Not i) at inside = λ n few. i.1 inside n few
kind (ItemKind-F.Group p) at inside = p.1 inside
kind (ItemKind-F.Exists x p) at inside = quantified_keeps pure_of.Exists x (disjunction p.0 true) (p.1 true)
kind (ItemKind-F.Forall x p) at inside = quantified_keeps pure_of.Forall x (disjunction p.0 true) (p.1 true)
kind (ItemKind-F.All x b p) at inside = then_keeps (blame_shape at inside) (λ _. all_of_bag x b (disjunction p.0 true)) (shape_keeps at inside) (λ _. all_keeps x b (disjunction p.0 true) (p.1 true))
kind (ItemKind-F.Divides d t) at inside = divides_keeps d t at
kind (ItemKind-F.Rel s l r) at inside = relation_keeps s l r inside at

items_keep : (inside : Bool) (is : List I) → AllByRecursion (λ i. KeepsFew (i inside)) (map item (map (λ e. e.0) is))
items_keep inside [] = tt
items_keep inside (i ∷ is) = (i.1 inside, items_keep inside is)

cases_keep : (inside : Bool) (cs : List (List I)) → AllByRecursion (λ case. KeepsFew (conj <$> all_of inside case)) (map (map item) (map (map (λ e. e.0)) cs))
cases_keep inside [] = tt
cases_keep inside (c ∷ cs) = (λ n few. each_keeps (λ i. i inside) (map item (map (λ e. e.0) c)) (items_keep inside c) n few, cases_keep inside cs)

tree : (i : ItemTree-F K I P) (inside : Bool) → KeepsFew (tree_level (map-ItemTree ItemKind ItemTree PureTree (ℕ → Inner) Inner Inner kind_of item disjunction (map-ItemTree K I P ItemKind ItemTree PureTree (λ e. e.0) (λ e. e.0) (λ e. e.0) i)) inside)
tree i inside = i.kind.1 i.at inside

joined : (p : PureTree-F K I P) (inside : Bool) → KeepsFew (pure_level (map-PureTree ItemKind ItemTree PureTree (ℕ → Inner) Inner Inner kind_of item disjunction (map-PureTree K I P ItemKind ItemTree PureTree (λ e. e.0) (λ e. e.0) (λ e. e.0) p)) inside)
joined p inside = λ n few. each_keeps (λ case. conj <$> all_of inside case) (map (map item) (map (map (λ e. e.0)) p.cases)) (cases_keep inside p.cases) n few

all_kinds : (x : ItemKind-F ItemKind ItemTree PureTree) (y : ItemKind-F K I P) → map-ItemKind K I P ItemKind ItemTree PureTree (λ e. e.0) (λ e. e.0) (λ e. e.0) y ≡ x → PK (roll-ItemKind x)
all_kinds x y is = λ at inside. subst (λ b. KeepsFew (b at inside)) (sym (fold-roll-ItemKind (ℕ → Inner) Inner Inner kind_level tree_level pure_level x))
    (subst (λ z. KeepsFew (kind_level (map-ItemKind ItemKind ItemTree PureTree (ℕ → Inner) Inner Inner kind_of item disjunction z) at inside)) is (kind y at inside))

all_trees : (x : ItemTree-F ItemKind ItemTree PureTree) (y : ItemTree-F K I P) → map-ItemTree K I P ItemKind ItemTree PureTree (λ e. e.0) (λ e. e.0) (λ e. e.0) y ≡ x → PI (roll-ItemTree x)
all_trees x y is = λ inside. subst (λ b. KeepsFew (b inside)) (sym (fold-roll-ItemTree (ℕ → Inner) Inner Inner kind_level tree_level pure_level x))
    (subst (λ z. KeepsFew (tree_level (map-ItemTree ItemKind ItemTree PureTree (ℕ → Inner) Inner Inner kind_of item disjunction z) inside)) is (tree y inside))

all_pure : (x : PureTree-F ItemKind ItemTree PureTree) (y : PureTree-F K I P) → map-PureTree K I P ItemKind ItemTree PureTree (λ e. e.0) (λ e. e.0) (λ e. e.0) y ≡ x → PP (roll-PureTree x)
all_pure x y is = λ inside. subst (λ b. KeepsFew (b inside)) (sym (fold-roll-PureTree (ℕ → Inner) Inner Inner kind_level tree_level pure_level x))
    (subst (λ z. KeepsFew (pure_level (map-PureTree ItemKind ItemTree PureTree (ℕ → Inner) Inner Inner kind_of item disjunction z) inside)) is (joined y inside))

item_keeps : (i : ItemTree) (inside : Bool) → KeepsFew (item i inside)
item_keeps = ind-ItemTree PK PI PP all_kinds all_trees all_pure

every_item : (is : List ItemTree) → AllByRecursion (λ i. KeepsFew (i false)) (map item is)
every_item [] = tt
every_item (i ∷ is) = (item_keeps i false, every_item is)

all_of_keeps : (is : List ItemTree) → KeepsFew (all_of false (map item is))
all_of_keeps is = each_keeps (λ i. i false) (map item is) (every_item is)

-- ---- atoms

bound_keeps : (at : ℕ) (is_bag : Bool) → KeepsFew (give_bound at is_bag)
bound_keeps at is_bag = λ n few. give_keeps None at is_bag n few

equation_keeps : (v : Var) (e : ExprTree) → KeepsFew (equation v e)
unfolding equation
equation_keeps v e = if_keeps v.bag (pure_of.BagEq (set.Name v) <$> bag e) (pure_of.Eq (single v) <$> number e) (λ n few. bag_keeps e n few) (λ n few. number_keeps e n few)

value_keeps : (is_bag : Bool) (e : ExprTree) (o : Option Ident) → KeepsFew (value is_bag e o)
value_keeps is_bag e (Some x) = then_keeps (resolve x) (λ v. blame_kind x.at (not (beq v.bag is_bag)) >> pure v) (resolve_keeps x)
    (λ v. then_keeps (blame_kind x.at (not (beq v.bag is_bag))) (λ _. pure v) (kind_keeps x.at (not (beq v.bag is_bag))) (λ _. pure_keeps v))
value_keeps is_bag e None = λ n few. equation_keeps (give_bound e.at is_bag n).0 e (give_bound e.at is_bag n).1 (bound_keeps e.at is_bag n few)

argument_keeps : (is_bag : Bool) (a : ArgTree) → KeepsFew (argument is_bag a)
unfolding argument
argument_keeps is_bag (arg.Hole at) = bound_keeps at is_bag
argument_keeps is_bag (arg.Value e) = value_keeps is_bag e (bare e)

arity_keeps : (at : ℕ) (b : Bool) → KeepsFew (blame_arity at b)
arity_keeps at true = pure_keeps (tt {0})
arity_keeps at false = blame_keeps at Arity

atom_of_keeps : (root : Var) (e : Entry) (t : AtomTree) → KeepsFew (atom_of root e t)
atom_of_keeps root e t = λ n few. each_keeps (λ p. argument p.0 p.1) (zip e.kinds t.args) (all_by (λ p. argument p.0 p.1) (zip e.kinds t.args) (λ p. argument_keeps p.0 p.1))
    (blame_arity t.root.at (nat_eq (length e.kinds) (length t.args)) n).1 (arity_keeps t.root.at (nat_eq (length e.kinds) (length t.args)) n few)

atom_by_keeps : (root : Var) (o : Option Entry) (t : AtomTree) → KeepsFew (atom_by root o t)
atom_by_keeps root (Some e) t = atom_of_keeps root e t
atom_by_keeps root None t = λ n few. few

atom_keeps : (entries : List Entry) (t : AtomTree) → KeepsFew (atom entries t)
unfolding atom
atom_keeps entries t = then_keeps (number_var t.root) (λ root. atom_by root (entry t.name.text entries) t) (number_var_keeps t.root) (λ root. atom_by_keeps root (entry t.name.text entries) t)

limit_keeps : (most : ℕ) (l : Limit) (at count : ℕ) → KeepsFew (limit most l at count)
limit_keeps most l at count = λ n few. of n few (nat_eq count most && not (is_numbered n.reading))
  where
    of : (n : Numbering) → AreFew n → (b : Bool) → AreFew (if b then blame at (TooMany l) n else (tt {0}, n)).1
    of n few true = few
    of n few false = few

counted_atom_keeps : (entries : List Entry) (k : ℕ) (t : AtomTree) → KeepsFew (counted_atom entries k t)
counted_atom_keeps entries k t = λ n few. atom_keeps entries t (limit 64 Atoms t.root.at k n).1 (limit_keeps 64 Atoms t.root.at k n few)

-- ---- disjuncts

leave_all_keeps : (names : List Ident) → KeepsFew (leave_all names)
leave_all_keeps [] = λ n few. few
leave_all_keeps (x ∷ names) = λ n few. leave_all_keeps names (leave n).1 (leave_keeps n few)

disjunct_keeps : (entries : List Entry) (d : DisjunctTree) → KeepsFew (disjunct entries d)
unfolding disjunct
disjunct_keeps entries d = λ n few.
    let bound = each_keeps bind d.bound (all_by bind d.bound bind_keeps) n few in
    let atoms = counted_keeps (counted_atom entries) (counted_atom_keeps entries) d.atoms (each bind d.bound n).1 bound in
    let written = all_of_keeps d.items (each_counted (counted_atom entries) d.atoms (each bind d.bound n).1).1 atoms in
    leave_all_keeps d.bound (all_of false (map item d.items) (each_counted (counted_atom entries) d.atoms (each bind d.bound n).1).1).1 written

counted_case_keeps : (entries : List Entry) (k : ℕ) (d : DisjunctTree) → KeepsFew (counted_case entries k d)
counted_case_keeps entries k d = λ n few. disjunct_keeps entries d (limit 16 Cases d.at k n).1 (limit_keeps 16 Cases d.at k n few)

formula_keeps : (entries : List Entry) (f : FormulaTree) → KeepsFew (formula entries f)
formula_keeps entries f = λ n few. counted_keeps (counted_case entries) (counted_case_keeps entries) f.cases n few

pub names_stay_few : NamesStayFew
names_stay_few = record {
  names = resolve_keeps;
  binders = bind_keeps;
  numbers = number_keeps;
  conjunctions = λ is n few. all_of_keeps is n few;
  disjuncts = disjunct_keeps;
  formulas = formula_keeps;
}
