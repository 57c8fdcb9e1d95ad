-- A fault stays: each part of a source puts its faults behind those that there are.
use Rattle.std.proofs.Common.{◌≡◌, append_assoc, append-nil, ap, ◌∙◌, ℕ, ◌+◌, ◌<◌, Bool, true, false, nat_le, List, [], ◌∷◌, ◌++◌, length, map, Option, Some, None, arith, subst, sym, refl, if◌then◌else◌, ◌^◌, nat_eq, not, ◌&&◌}
use Rattle.std.specs.List.{fold, AllByRecursion, zip}
use Rattle.std.proofs.lemmas.Bool.Decides.{nat_tests}
use Rattle.hs_tree.specs.declared.ident.Ident.{Ident}
use Rattle.hs_tree.specs.declared.expr.PartTree.{PartTree}
use Rattle.hs_tree.specs.declared.expr.ExprTree.{ExprTree, ExprTree-F, map-ExprTree, roll-ExprTree, ind-ExprTree, fold-roll-ExprTree}
use Rattle.hs_tree.specs.declared.expr.ExprKind.{ExprKind, roll-ExprKind, map-ExprKind, fold-ExprKind, fold-roll-ExprKind}
use Rattle.hs_tree.specs.declared.expr.ExprKind.TheOpen.{ExprKind-F}
use Rattle.hs_pure.specs.declared.var.Var.{Var}
use Rattle.hs_pure.specs.declared.lin.Lin.{Lin}
use Rattle.hs_pure.specs.declared.bag.Bag.{Bag}
use Rattle.hs_numbering.specs.declared.fault.Problem.{Problem}
use Rattle.hs_numbering.specs.declared.fault.Problem.TheVariants.{Unknown, Kind, Shape, Twice, TooMany, Arity}
use Rattle.hs_numbering.specs.declared.fault.Limit.TheVariants.{Vars, Atoms, Cases}
use Rattle.hs_numbering.specs.declared.numbering.Numbering.{Numbering}
use Rattle.hs_numbering.specs.Names.{is_upper, numbered_var}
use Rattle.hs_numbering.specs.Numbering.{Builder, ◌>>=◌, ◌>>◌, ◌<$>◌, pure, each, each_counted, blame, blame_unknown, blame_twice, no_var, is_numbered, give, give_named, learn, takes_new, resolve, resolve_free, resolve_name, resolve_numbered, or_else, last_named, bind, bind_name, bind_numbered, bind_read, is_taken, has_number, enter, leave, leave_all, give_bound}
use Rattle.hs_norm_formula.specs.Sum.{blame_kind, number_var, part_term, term, sum, or_shape, allowed}
use Rattle.hs_norm_formula.specs.Expr.{Readings, bare_name, no_bag, sum_bag, both, kind_level as expr_level, readings, number, bag, is_bag, bare}
use mathlib.Core.Bool.{beq}
use Rattle.hs_tree.specs.declared.item.RelTree.{RelTree}
use Rattle.hs_tree.specs.declared.item.ItemTree.{ItemTree, ItemTree-F, map-ItemTree, roll-ItemTree, ind-ItemTree, fold-roll-ItemTree}
use Rattle.hs_tree.specs.declared.item.PureTree.{PureTree, PureTree-F, map-PureTree, roll-PureTree, fold-roll-PureTree}
use Rattle.hs_tree.specs.declared.item.ItemKind.{ItemKind, roll-ItemKind, map-ItemKind, fold-ItemKind, fold-roll-ItemKind}
use Rattle.hs_tree.specs.declared.item.ItemKind.TheOpen.{ItemKind-F}
use Rattle.hs_tree.specs.declared.formula.ArgTree.{ArgTree}
use Rattle.hs_tree.specs.declared.formula.AtomTree.{AtomTree}
use Rattle.hs_tree.specs.declared.formula.DisjunctTree.{DisjunctTree}
use Rattle.hs_tree.specs.declared.formula.FormulaTree.{FormulaTree}
use Rattle.hs_pure.specs.declared.pure.Pure.{Pure}
use Rattle.hs_numbering.specs.declared.fault.Limit.{Limit}
use Rattle.hs_norm_formula.specs.declared.table.Entry.{Entry}
use Rattle.hs_norm_formula.specs.Table.{entry}
use Rattle.hs_norm_formula.specs.Item.{item, disjunction, Inner, kind_level, tree_level, pure_level, bind_number, blame_shape, divisor_of, divides, is_of_bags, of_bags, of_numbers, relation, all_of_bag, quantified, all_of, conj, conjunction}
use Rattle.hs_norm_formula.specs.Formula.{single, equation, value, argument, blame_arity, atom_of, atom_by, atom, limit, counted_atom, disjunct, counted_case, formula}
use Rattle.hs_tree.specs.declared.expr.PartTree.TheVariants as part
use Rattle.hs_pure.specs.declared.bag.Bag.TheVariants as set
use Rattle.hs_tree.specs.declared.item.RelTree.TheVariants as rel
use Rattle.hs_tree.specs.declared.formula.ArgTree.TheVariants as arg
use Rattle.hs_pure.specs.declared.pure.Pure.TheVariants as pure_of
use Rattle.hs_numbering.specs.declared.fault.Fault.{Fault}
use Rattle.hs_norm_sound.proofs.Passing.{KeepsFaults}
use Rattle.hs_norm_sound.proofs.Stays.{FaultsStay}

module _ (old : List Fault) where
  -- the old faults come first
  abbrev Kept : Numbering → Type 0
  Kept n = (more : List Fault) × (n.faults ≡ old ++ more)

  abbrev Keeps : {A : Type 0} → Builder A → Type 0
  Keeps p = (n : Numbering) → Kept n → Kept (p n).1

  blamed : (n : Numbering) (f : Fault) → Kept n → Kept (record n { faults = n.faults ++ f ∷ [] })
  blamed n f h = (h.0 ++ f ∷ [], ap (λ fs. fs ++ f ∷ []) h.1 ∙ append_assoc old h.0 (f ∷ []))

  then_keeps : {A B : Type 0} (p : Builder A) (f : A → Builder B) → Keeps p → ((a : A) → Keeps (f a)) → Keeps (p >>= f)
  then_keeps p f h g = λ n kept. g (p n).0 (p n).1 (h n kept)

  pure_keeps : {A : Type 0} (a : A) → Keeps (pure a)
  pure_keeps a = λ n kept. kept

  map_keeps : {A B : Type 0} (f : A → B) (p : Builder A) → Keeps p → Keeps (f <$> p)
  map_keeps f p h = λ n kept. h n kept

  blame_keeps : (at : ℕ) (p : Problem) → Keeps (blame at p)
  blame_keeps at p = λ n kept. blamed n (record { at = at; problem = p }) kept

  if_keeps : {A : Type 0} (b : Bool) (p q : Builder A) → Keeps p → Keeps q → Keeps (if b then p else q)
  if_keeps true p q h g = h
  if_keeps false p q h g = g

  or_keeps : (o : Option Var) (q : Builder Var) → Keeps q → Keeps (or_else o q)
  or_keeps (Some v) q h = pure_keeps v
  or_keeps None q h = h

  above : (n : ℕ) → nat_le 1000 n ≡ false → n < 1000
  above n h = grind (arith, nat_tests)

  give_keeps : (name : Option (List ℕ)) (at : ℕ) (bag : Bool) → Keeps (give name at bag)
  give_keeps name at bag = λ n kept. of n kept (is_numbered n.reading) (nat_le 1000 (length n.names)) refl
    where
      given : Numbering → Bool → Bool → Var × Numbering
      given n s b = if s then (blame at Shape >> pure (no_var bag)) n
          else (if b then (blame at (TooMany Vars) >> pure (no_var bag)) n else (record { number = length n.names + 1; bag = bag }, record n { names = n.names ++ name ∷ [] }))

      of : (n : Numbering) → Kept n → (s b : Bool) → nat_le 1000 (length n.names) ≡ b → Kept (given n s b).1
      of n kept true b e = blame_keeps at Shape n kept
      of n kept false true e = blame_keeps at (TooMany Vars) n kept
      of n kept false false e = kept

  enter_keeps : (x : Ident) (v : Var) → Keeps (enter x v)
  enter_keeps x v = λ n kept. kept

  learn_keeps : (x : Ident) (v : Var) → Keeps (learn x v)
  learn_keeps x v = λ n kept. kept

  leave_keeps : Keeps leave
  unfolding leave
  leave_keeps = λ n kept. kept

  twice_keeps : (x : Ident) (b : Bool) → Keeps (blame_twice x b)
  twice_keeps x true = blame_keeps x.at (Twice x.text)
  twice_keeps x false = pure_keeps (tt {0})

  unknown_keeps : (x : Ident) → Keeps (blame_unknown x)
  unknown_keeps x = λ n kept. blame_keeps x.at (Unknown x.text) n kept

  -- ---- names

  free_keeps : (x : Ident) → Keeps (resolve_free x)
  free_keeps x = λ n kept. if_keeps (takes_new n.reading x.text) (give_named x >>= λ v. learn x v >> pure v) (blame_unknown x)
      (then_keeps (give_named x) (λ v. learn x v >> pure v) (give_keeps (Some x.text) x.at (is_upper x.text)) (λ v. then_keeps (learn x v) (λ _. pure v) (learn_keeps x v) (λ _. pure_keeps v)))
      (unknown_keeps x) n kept

  name_keeps : (x : Ident) → Keeps (resolve_name x)
  name_keeps x = λ n kept. or_keeps (last_named x.text n.around) (or_else (last_named x.text n.known) (or_else (last_named x.text n.fixed) (resolve_free x)))
      (or_keeps (last_named x.text n.known) (or_else (last_named x.text n.fixed) (resolve_free x)) (or_keeps (last_named x.text n.fixed) (resolve_free x) (free_keeps x))) n kept

  resolve_keeps : (x : Ident) → Keeps (resolve x)
  unfolding resolve
  resolve_keeps x = λ n kept. if_keeps (is_numbered n.reading) (resolve_numbered x) (resolve_name x) (or_keeps (numbered_var x.text) (blame_unknown x) (unknown_keeps x)) (name_keeps x) n kept

  entered_keeps : (x : Ident) (v : Var) → Keeps (enter x v >> pure v)
  entered_keeps x v = then_keeps (enter x v) (λ _. pure v) (enter_keeps x v) (λ _. pure_keeps v)

  bind_name_keeps : (x : Ident) → Keeps (bind_name x)
  bind_name_keeps x = λ n kept. then_keeps (blame_twice x (is_taken x.text n)) (λ _. give_named x >>= λ v. enter x v >> pure v) (twice_keeps x (is_taken x.text n))
      (λ _. then_keeps (give_named x) (λ v. enter x v >> pure v) (give_keeps (Some x.text) x.at (is_upper x.text)) (entered_keeps x)) n kept

  bind_read_keeps : (x : Ident) (o : Option Var) → Keeps (bind_read x o)
  bind_read_keeps x None = then_keeps (blame_unknown x) (λ v. enter x v >> pure v) (unknown_keeps x) (entered_keeps x)
  bind_read_keeps x (Some v) = λ n kept. then_keeps (blame_twice x (has_number v.number n.around)) (λ _. enter x v >> pure v) (twice_keeps x (has_number v.number n.around)) (λ _. entered_keeps x v) n kept

  bind_keeps : (x : Ident) → Keeps (bind x)
  unfolding bind
  bind_keeps x = λ n kept. if_keeps (is_numbered n.reading) (bind_numbered x) (bind_name x) (bind_read_keeps x (numbered_var x.text)) (bind_name_keeps x) n kept

  kind_keeps : (at : ℕ) (b : Bool) → Keeps (blame_kind at b)
  kind_keeps at true = blame_keeps at Kind
  kind_keeps at false = pure_keeps (tt {0})

  number_var_keeps : (x : Ident) → Keeps (number_var x)
  unfolding number_var
  number_var_keeps x = then_keeps (resolve x) (λ v. blame_kind x.at v.bag >> pure v) (resolve_keeps x)
      (λ v. then_keeps (blame_kind x.at v.bag) (λ _. pure v) (kind_keeps x.at v.bag) (λ _. pure_keeps v))

  -- ---- lists

  module _ {A B : Type 0} (f : A → Builder B) where
    from_keeps : (xs : List A) (ys : List B) (n : Numbering) → AllByRecursion (λ x. Keeps (f x)) xs → Kept n → Kept (fold (λ (done : List B × Numbering) x. (done.0 ++ (f x done.1).0 ∷ [], (f x done.1).1)) (ys, n) xs).1
    from_keeps [] ys n h kept = kept
    from_keeps (x ∷ xs) ys n h kept = from_keeps xs (ys ++ (f x n).0 ∷ []) (f x n).1 h.1 (h.0 n kept)

    each_keeps : (xs : List A) → AllByRecursion (λ x. Keeps (f x)) xs → Keeps (each f xs)
    each_keeps xs h = λ n kept. from_keeps xs [] n h kept

    all_by : (xs : List A) → ((x : A) → Keeps (f x)) → AllByRecursion (λ x. Keeps (f x)) xs
    all_by [] h = tt
    all_by (x ∷ xs) h = (h x, all_by xs h)

  module _ {A B : Type 0} (f : ℕ → A → Builder B) (h : (k : ℕ) (x : A) → Keeps (f k x)) where
    counted_from : (xs : List A) (ys : List B) (n : Numbering) → Kept n → Kept (fold (λ (done : List B × Numbering) x. (done.0 ++ (f (length done.0) x done.1).0 ∷ [], (f (length done.0) x done.1).1)) (ys, n) xs).1
    counted_from [] ys n kept = kept
    counted_from (x ∷ xs) ys n kept = counted_from xs (ys ++ (f (length ys) x n).0 ∷ []) (f (length ys) x n).1 (h (length ys) x n kept)

    counted_keeps : (xs : List A) → Keeps (each_counted f xs)
    counted_keeps xs = λ n kept. counted_from xs [] n kept

  -- ---- expressions

  part_keeps : (p : PartTree) → Keeps (part_term p)
  part_keeps (part.Number m) = λ n kept. kept
  part_keeps (part.Times m x) = λ n kept. number_var_keeps x n kept
  part_keeps (part.Name x) = λ n kept. number_var_keeps x n kept
  part_keeps part.Null = λ n kept. kept

  term_keeps : (p : Bool × PartTree) → Keeps (term p)
  term_keeps p = λ n kept. part_keeps p.1 n kept

  or_shape_keeps : (at : ℕ) (o : Option Lin) → Keeps (or_shape at o)
  or_shape_keeps at (Some a) = pure_keeps a
  or_shape_keeps at None = λ n kept. blame_keeps at Shape n kept

  sum_keeps : (parts : List (Bool × PartTree)) (at : ℕ) → Keeps (sum parts at)
  unfolding sum
  sum_keeps parts at = then_keeps (each term parts) (λ terms n. or_shape at (allowed (is_numbered n.reading) terms) n) (each_keeps term parts (all_by term parts term_keeps))
      (λ terms n kept. or_shape_keeps at (allowed (is_numbered n.reading) terms) n kept)

  no_bag_keeps : (parts : List (Bool × PartTree)) (at : ℕ) → Keeps (no_bag parts at)
  no_bag_keeps parts at = λ n kept. sum_keeps parts at (blame at Kind n).1 (blame_keeps at Kind n kept)

  sum_bag_keeps : (parts : List (Bool × PartTree)) (at : ℕ) (o : Option Ident) → Keeps (sum_bag parts at o)
  sum_bag_keeps parts at None = no_bag_keeps parts at
  sum_bag_keeps parts at (Some x) = if_keeps (is_upper x.text) (set.Name <$> resolve x) (no_bag parts at) (λ n kept. resolve_keeps x n kept) (no_bag_keeps parts at)

  both_keeps : (operation : Bag → Bag → Bag) (p q : Builder Bag) → Keeps p → Keeps q → Keeps (both operation p q)
  both_keeps operation p q h g = λ n kept. g (p n).1 (h n kept)

  abbrev expr_kind_of : ExprKind → ℕ → Readings
  expr_kind_of = fold-ExprKind (ℕ → Readings) Readings expr_level (λ e. e.kind e.at)

  abbrev Both : Readings → Type 0
  Both r = Keeps r.number × Keeps r.bag

  abbrev QK : ExprKind → Type 0
  QK k = (at : ℕ) → Both (expr_kind_of k at)

  abbrev QE : ExprTree → Type 0
  QE e = Both (readings e)

  abbrev LK : Type 0
  LK = (k : ExprKind) × QK k

  abbrev LE : Type 0
  LE = (e : ExprTree) × QE e

  elements_keep : (es : List LE) → AllByRecursion (λ (p : Builder Lin). Keeps p) (map (λ e. e.number) (map readings (map (λ e. e.0) es)))
  elements_keep [] = tt
  elements_keep (e ∷ es) = (e.1.0, elements_keep es)

  expr_kind : (k : ExprKind-F LK LE) (at : ℕ) → Both (expr_level (map-ExprKind ExprKind ExprTree (ℕ → Readings) Readings expr_kind_of readings (map-ExprKind LK LE ExprKind ExprTree (λ e. e.0) (λ e. e.0) k)) at)
  expr_kind (ExprKind-F.Sum parts) at = (sum_keeps parts at, sum_bag_keeps parts at (bare_name parts))
  expr_kind (ExprKind-F.Braces es) at = (λ n kept. blame_keeps at Kind n kept, λ n kept. each_keeps (λ e. e) (map (λ e. e.number) (map readings (map (λ e. e.0) es))) (elements_keep es) n kept)
  expr_kind (ExprKind-F.Union a b) at = (λ n kept. blame_keeps at Kind n kept, both_keeps set.Union (readings a.0).bag (readings b.0).bag a.1.1 b.1.1)
  expr_kind (ExprKind-F.Inter a b) at = (λ n kept. blame_keeps at Kind n kept, both_keeps set.Inter (readings a.0).bag (readings b.0).bag a.1.1 b.1.1)
  expr_kind (ExprKind-F.Diff a b) at = (λ n kept. blame_keeps at Kind n kept, both_keeps set.Diff (readings a.0).bag (readings b.0).bag a.1.1 b.1.1)

  expr_all_kinds : (x : ExprKind-F ExprKind ExprTree) (y : ExprKind-F LK LE) → map-ExprKind LK LE ExprKind ExprTree (λ e. e.0) (λ e. e.0) y ≡ x → QK (roll-ExprKind x)
  expr_all_kinds x y is = λ at. subst (λ b. Both (b at)) (sym (fold-roll-ExprKind (ℕ → Readings) Readings expr_level (λ e. e.kind e.at) x))
      (subst (λ z. Both (expr_level (map-ExprKind ExprKind ExprTree (ℕ → Readings) Readings expr_kind_of readings z) at)) is (expr_kind y at))

  expr_all_trees : (x : ExprTree-F ExprKind ExprTree) (y : ExprTree-F LK LE) → map-ExprTree LK LE ExprKind ExprTree (λ e. e.0) (λ e. e.0) y ≡ x → QE (roll-ExprTree x)
  expr_all_trees x y is = subst Both (sym (fold-roll-ExprTree (ℕ → Readings) Readings expr_level (λ e. e.kind e.at) x))
      (subst (λ z. Both (tree_of (map-ExprTree ExprKind ExprTree (ℕ → Readings) Readings expr_kind_of readings z))) is (y.kind.1 y.at))
    where
      tree_of : ExprTree-F (ℕ → Readings) Readings → Readings
      tree_of e = e.kind e.at

  expr_keeps : (e : ExprTree) → QE e
  expr_keeps = ind-ExprTree QK QE expr_all_kinds expr_all_trees

  number_keeps : (e : ExprTree) → Keeps (number e)
  unfolding number
  number_keeps e = (expr_keeps e).0

  bag_keeps : (e : ExprTree) → Keeps (bag e)
  unfolding bag
  bag_keeps e = (expr_keeps e).1

  shape_keeps : (at : ℕ) (b : Bool) → Keeps (blame_shape at b)
  shape_keeps at true = blame_keeps at Shape
  shape_keeps at false = pure_keeps (tt {0})

  bind_number_keeps : (x : Ident) → Keeps (bind_number x)
  unfolding bind_number
  bind_number_keeps x = then_keeps (bind x) (λ v. blame_kind x.at v.bag >> pure v) (bind_keeps x)
      (λ v. then_keeps (blame_kind x.at v.bag) (λ _. pure v) (kind_keeps x.at v.bag) (λ _. pure_keeps v))

  quantified_keeps : (q : Var → Pure → Pure) (x : Ident) (p : Builder Pure) → Keeps p → Keeps (quantified q x p)
  quantified_keeps q x p h = then_keeps (bind_number x) (λ v. p >>= λ p. leave >> pure (q v p)) (bind_number_keeps x)
      (λ v. then_keeps p (λ p. leave >> pure (q v p)) h (λ p. then_keeps leave (λ _. pure (q v p)) leave_keeps (λ _. pure_keeps (q v p))))

  all_keeps : (x : Ident) (b : ExprTree) (p : Builder Pure) → Keeps p → Keeps (all_of_bag x b p)
  all_keeps x b p h = then_keeps (bind_number x) (λ v. leave >> (bag b >>= λ e. enter x v >> (p >>= λ q. leave >> pure (pure_of.AllOf v e q)))) (bind_number_keeps x)
      (λ v. then_keeps leave (λ _. bag b >>= λ e. enter x v >> (p >>= λ q. leave >> pure (pure_of.AllOf v e q))) leave_keeps
      (λ _. then_keeps (bag b) (λ e. enter x v >> (p >>= λ q. leave >> pure (pure_of.AllOf v e q))) (bag_keeps b)
      (λ e. then_keeps (enter x v) (λ _. p >>= λ q. leave >> pure (pure_of.AllOf v e q)) (enter_keeps x v)
      (λ _. then_keeps p (λ q. leave >> pure (pure_of.AllOf v e q)) h
      (λ q. then_keeps leave (λ _. pure (pure_of.AllOf v e q)) leave_keeps (λ _. pure_keeps (pure_of.AllOf v e q)))))))

  divisor_keeps : (d at : ℕ) (b : Bool) → Keeps (divisor_of d at b)
  divisor_keeps d at true = λ n kept. kept
  divisor_keeps d at false = λ n kept. blame_keeps at Shape n kept

  divides_keeps : (d : ℕ) (t : ExprTree) (at : ℕ) → Keeps (divides d t at)
  unfolding divides
  divides_keeps d t at = then_keeps (divisor_of d at (nat_le 1 d && nat_le d (2 ^ 126))) (λ divisor. number t >>= λ a. pure (pure_of.Divides divisor a)) (divisor_keeps d at (nat_le 1 d && nat_le d (2 ^ 126)))
      (λ divisor n kept. number_keeps t n kept)

  of_bags_keeps : (s : RelTree) (l r : ExprTree) → Keeps (of_bags s l r)
  unfolding of_bags
  of_bags_keeps rel.Within l r = λ n kept. bag_keeps r (number l n).1 (number_keeps l n kept)
  of_bags_keeps rel.Eq l r = λ n kept. bag_keeps r (bag l n).1 (bag_keeps l n kept)
  of_bags_keeps rel.Ne l r = λ n kept. bag_keeps r (bag l n).1 (bag_keeps l n kept)
  of_bags_keeps rel.Lt l r = λ n kept. bag_keeps r (bag l n).1 (bag_keeps l n kept)
  of_bags_keeps rel.Le l r = λ n kept. bag_keeps r (bag l n).1 (bag_keeps l n kept)
  of_bags_keeps rel.Gt l r = λ n kept. bag_keeps r (bag l n).1 (bag_keeps l n kept)
  of_bags_keeps rel.Ge l r = λ n kept. bag_keeps r (bag l n).1 (bag_keeps l n kept)
  of_bags_keeps rel.Subset l r = λ n kept. bag_keeps r (bag l n).1 (bag_keeps l n kept)

  relation_keeps : (s : RelTree) (l r : ExprTree) (inside : Bool) (at : ℕ) → Keeps (relation s l r inside at)
  unfolding relation
  relation_keeps s l r inside at = if_keeps (is_of_bags s l) (blame_shape at inside >> of_bags s l r) (of_numbers s l r)
      (then_keeps (blame_shape at inside) (λ _. of_bags s l r) (shape_keeps at inside) (λ _. of_bags_keeps s l r))
      (λ n kept. number_keeps r (number l n).1 (number_keeps l n kept))

  -- ---- items

  abbrev kind_of : ItemKind → ℕ → Inner
  kind_of = fold-ItemKind (ℕ → Inner) Inner Inner kind_level tree_level pure_level

  abbrev PK : ItemKind → Type 0
  PK k = (at : ℕ) (inside : Bool) → Keeps (kind_of k at inside)

  abbrev PI : ItemTree → Type 0
  PI i = (inside : Bool) → Keeps (item i inside)

  abbrev PP : PureTree → Type 0
  PP p = (inside : Bool) → Keeps (disjunction p inside)

  abbrev K : Type 0
  K = (k : ItemKind) × PK k

  abbrev I : Type 0
  I = (i : ItemTree) × PI i

  abbrev P : Type 0
  P = (p : PureTree) × PP p

  kind : (k : ItemKind-F K I P) (at : ℕ) (inside : Bool) → Keeps (kind_level (map-ItemKind ItemKind ItemTree PureTree (ℕ → Inner) Inner Inner kind_of item disjunction (map-ItemKind K I P ItemKind ItemTree PureTree (λ e. e.0) (λ e. e.0) (λ e. e.0) k)) at inside)
  kind ItemKind-F.True at inside = λ n kept. kept
  kind ItemKind-F.False at inside = λ n kept. kept
  kind (ItemKind-F.Not i) at inside = λ n kept. i.1 inside n kept
  kind (ItemKind-F.Group p) at inside = p.1 inside
  kind (ItemKind-F.Exists x p) at inside = quantified_keeps pure_of.Exists x (disjunction p.0 true) (p.1 true)
  kind (ItemKind-F.Forall x p) at inside = quantified_keeps pure_of.Forall x (disjunction p.0 true) (p.1 true)
  kind (ItemKind-F.All x b p) at inside = then_keeps (blame_shape at inside) (λ _. all_of_bag x b (disjunction p.0 true)) (shape_keeps at inside) (λ _. all_keeps x b (disjunction p.0 true) (p.1 true))
  kind (ItemKind-F.Divides d t) at inside = divides_keeps d t at
  kind (ItemKind-F.Rel s l r) at inside = relation_keeps s l r inside at

  items_keep : (inside : Bool) (is : List I) → AllByRecursion (λ i. Keeps (i inside)) (map item (map (λ e. e.0) is))
  items_keep inside [] = tt
  items_keep inside (i ∷ is) = (i.1 inside, items_keep inside is)

  cases_keep : (inside : Bool) (cs : List (List I)) → AllByRecursion (λ case. Keeps (conj <$> all_of inside case)) (map (map item) (map (map (λ e. e.0)) cs))
  cases_keep inside [] = tt
  cases_keep inside (c ∷ cs) = (λ n kept. each_keeps (λ i. i inside) (map item (map (λ e. e.0) c)) (items_keep inside c) n kept, cases_keep inside cs)

  tree : (i : ItemTree-F K I P) (inside : Bool) → Keeps (tree_level (map-ItemTree ItemKind ItemTree PureTree (ℕ → Inner) Inner Inner kind_of item disjunction (map-ItemTree K I P ItemKind ItemTree PureTree (λ e. e.0) (λ e. e.0) (λ e. e.0) i)) inside)
  tree i inside = i.kind.1 i.at inside

  joined : (p : PureTree-F K I P) (inside : Bool) → Keeps (pure_level (map-PureTree ItemKind ItemTree PureTree (ℕ → Inner) Inner Inner kind_of item disjunction (map-PureTree K I P ItemKind ItemTree PureTree (λ e. e.0) (λ e. e.0) (λ e. e.0) p)) inside)
  joined p inside = λ n kept. each_keeps (λ case. conj <$> all_of inside case) (map (map item) (map (map (λ e. e.0)) p.cases)) (cases_keep inside p.cases) n kept

  all_kinds : (x : ItemKind-F ItemKind ItemTree PureTree) (y : ItemKind-F K I P) → map-ItemKind K I P ItemKind ItemTree PureTree (λ e. e.0) (λ e. e.0) (λ e. e.0) y ≡ x → PK (roll-ItemKind x)
  all_kinds x y is = λ at inside. subst (λ b. Keeps (b at inside)) (sym (fold-roll-ItemKind (ℕ → Inner) Inner Inner kind_level tree_level pure_level x))
      (subst (λ z. Keeps (kind_level (map-ItemKind ItemKind ItemTree PureTree (ℕ → Inner) Inner Inner kind_of item disjunction z) at inside)) is (kind y at inside))

  all_trees : (x : ItemTree-F ItemKind ItemTree PureTree) (y : ItemTree-F K I P) → map-ItemTree K I P ItemKind ItemTree PureTree (λ e. e.0) (λ e. e.0) (λ e. e.0) y ≡ x → PI (roll-ItemTree x)
  all_trees x y is = λ inside. subst (λ b. Keeps (b inside)) (sym (fold-roll-ItemTree (ℕ → Inner) Inner Inner kind_level tree_level pure_level x))
      (subst (λ z. Keeps (tree_level (map-ItemTree ItemKind ItemTree PureTree (ℕ → Inner) Inner Inner kind_of item disjunction z) inside)) is (tree y inside))

  all_pure : (x : PureTree-F ItemKind ItemTree PureTree) (y : PureTree-F K I P) → map-PureTree K I P ItemKind ItemTree PureTree (λ e. e.0) (λ e. e.0) (λ e. e.0) y ≡ x → PP (roll-PureTree x)
  all_pure x y is = λ inside. subst (λ b. Keeps (b inside)) (sym (fold-roll-PureTree (ℕ → Inner) Inner Inner kind_level tree_level pure_level x))
      (subst (λ z. Keeps (pure_level (map-PureTree ItemKind ItemTree PureTree (ℕ → Inner) Inner Inner kind_of item disjunction z) inside)) is (joined y inside))

  item_keeps : (i : ItemTree) (inside : Bool) → Keeps (item i inside)
  item_keeps = ind-ItemTree PK PI PP all_kinds all_trees all_pure

  every_item : (is : List ItemTree) → AllByRecursion (λ i. Keeps (i false)) (map item is)
  every_item [] = tt
  every_item (i ∷ is) = (item_keeps i false, every_item is)

  all_of_keeps : (is : List ItemTree) → Keeps (all_of false (map item is))
  all_of_keeps is = each_keeps (λ i. i false) (map item is) (every_item is)

  -- ---- atoms

  bound_keeps : (at : ℕ) (is_bag : Bool) → Keeps (give_bound at is_bag)
  bound_keeps at is_bag = λ n kept. give_keeps None at is_bag n kept

  equation_keeps : (v : Var) (e : ExprTree) → Keeps (equation v e)
  unfolding equation
  equation_keeps v e = if_keeps v.bag (pure_of.BagEq (set.Name v) <$> bag e) (pure_of.Eq (single v) <$> number e) (λ n kept. bag_keeps e n kept) (λ n kept. number_keeps e n kept)

  value_keeps : (is_bag : Bool) (e : ExprTree) (o : Option Ident) → Keeps (value is_bag e o)
  value_keeps is_bag e (Some x) = then_keeps (resolve x) (λ v. blame_kind x.at (not (beq v.bag is_bag)) >> pure v) (resolve_keeps x)
      (λ v. then_keeps (blame_kind x.at (not (beq v.bag is_bag))) (λ _. pure v) (kind_keeps x.at (not (beq v.bag is_bag))) (λ _. pure_keeps v))
  value_keeps is_bag e None = λ n kept. equation_keeps (give_bound e.at is_bag n).0 e (give_bound e.at is_bag n).1 (bound_keeps e.at is_bag n kept)

  argument_keeps : (is_bag : Bool) (a : ArgTree) → Keeps (argument is_bag a)
  unfolding argument
  argument_keeps is_bag (arg.Hole at) = bound_keeps at is_bag
  argument_keeps is_bag (arg.Value e) = value_keeps is_bag e (bare e)

  arity_keeps : (at : ℕ) (b : Bool) → Keeps (blame_arity at b)
  arity_keeps at true = pure_keeps (tt {0})
  arity_keeps at false = blame_keeps at Arity

  atom_of_keeps : (root : Var) (e : Entry) (t : AtomTree) → Keeps (atom_of root e t)
  atom_of_keeps root e t = λ n kept. each_keeps (λ p. argument p.0 p.1) (zip e.kinds t.args) (all_by (λ p. argument p.0 p.1) (zip e.kinds t.args) (λ p. argument_keeps p.0 p.1))
      (blame_arity t.root.at (nat_eq (length e.kinds) (length t.args)) n).1 (arity_keeps t.root.at (nat_eq (length e.kinds) (length t.args)) n kept)

  atom_by_keeps : (root : Var) (o : Option Entry) (t : AtomTree) → Keeps (atom_by root o t)
  atom_by_keeps root (Some e) t = atom_of_keeps root e t
  atom_by_keeps root None t = λ n kept. blame_keeps t.name.at (Unknown t.name.text) n kept

  atom_keeps : (entries : List Entry) (t : AtomTree) → Keeps (atom entries t)
  unfolding atom
  atom_keeps entries t = then_keeps (number_var t.root) (λ root. atom_by root (entry t.name.text entries) t) (number_var_keeps t.root) (λ root. atom_by_keeps root (entry t.name.text entries) t)

  limit_keeps : (most : ℕ) (l : Limit) (at count : ℕ) → Keeps (limit most l at count)
  limit_keeps most l at count = λ n kept. of n kept (nat_eq count most && not (is_numbered n.reading))
    where
      of : (n : Numbering) → Kept n → (b : Bool) → Kept (if b then blame at (TooMany l) n else (tt {0}, n)).1
      of n kept true = blame_keeps at (TooMany l) n kept
      of n kept false = kept

  counted_atom_keeps : (entries : List Entry) (k : ℕ) (t : AtomTree) → Keeps (counted_atom entries k t)
  counted_atom_keeps entries k t = λ n kept. atom_keeps entries t (limit 64 Atoms t.root.at k n).1 (limit_keeps 64 Atoms t.root.at k n kept)

  -- ---- disjuncts

  leave_all_keeps : (names : List Ident) → Keeps (leave_all names)
  leave_all_keeps [] = λ n kept. kept
  leave_all_keeps (x ∷ names) = λ n kept. leave_all_keeps names (leave n).1 (leave_keeps n kept)

  disjunct_keeps : (entries : List Entry) (d : DisjunctTree) → Keeps (disjunct entries d)
  unfolding disjunct
  disjunct_keeps entries d = λ n kept.
      let bound = each_keeps bind d.bound (all_by bind d.bound bind_keeps) n kept in
      let atoms = counted_keeps (counted_atom entries) (counted_atom_keeps entries) d.atoms (each bind d.bound n).1 bound in
      let written = all_of_keeps d.items (each_counted (counted_atom entries) d.atoms (each bind d.bound n).1).1 atoms in
      leave_all_keeps d.bound (all_of false (map item d.items) (each_counted (counted_atom entries) d.atoms (each bind d.bound n).1).1).1 written

  counted_case_keeps : (entries : List Entry) (k : ℕ) (d : DisjunctTree) → Keeps (counted_case entries k d)
  counted_case_keeps entries k d = λ n kept. disjunct_keeps entries d (limit 16 Cases d.at k n).1 (limit_keeps 16 Cases d.at k n kept)

  formula_keeps : (entries : List Entry) (f : FormulaTree) → Keeps (formula entries f)
  formula_keeps entries f = λ n kept. counted_keeps (counted_case entries) (counted_case_keeps entries) f.cases n kept

  -- the conjunction of items
  conjunction_keeps : (is : List ItemTree) → Keeps (conjunction (map item is))
  conjunction_keeps is = λ n kept. all_of_keeps is n kept

-- no fault at the end of a part, and none before it
stays : {A : Type 0} (p : Builder A) → ((old : List Fault) → Keeps old p) → KeepsFaults p
stays p h = λ n e. let k = h n.faults n ([], sym (append-nil n.faults)) in none n.faults k.0 (sym k.1 ∙ e)
  where
    none : (xs ys : List Fault) → xs ++ ys ≡ [] → xs ≡ []
    none [] ys e = refl
    none (x ∷ xs) ys e = cc

pub faults_stay : FaultsStay
faults_stay = record {
  numbers = λ e. stays (number e) (λ old. number_keeps old e);
  conjunctions = λ is. stays (conjunction (map item is)) (λ old. conjunction_keeps old is);
  disjuncts = λ entries d. stays (disjunct entries d) (λ old. disjunct_keeps old entries d);
  formulas = λ entries f. stays (formula entries f) (λ old. formula_keeps old entries f);
}
