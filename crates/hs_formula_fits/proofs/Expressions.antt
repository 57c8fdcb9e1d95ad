-- Numbers and bags of variables in scope.
use Rattle.std.proofs.Common.{◌≡◌, ℕ, pos, Bool, true, false, IsTrue, List, [], ◌∷◌, map, Option, Some, None, unwrap_or, refl, sym, ◌∙◌, subst, if◌then◌else◌}
use Rattle.std.specs.List.{All, AllByRecursion, fold}
use Rattle.std.proofs.lemmas.Bool.{and_from}
use Rattle.std.proofs.lemmas.List.Elements.{All-head, All-tail}
use Rattle.hs_tree.specs.declared.ident.Ident.{Ident}
use Rattle.hs_tree.specs.declared.expr.PartTree.{PartTree}
use Rattle.hs_tree.specs.declared.expr.PartTree.TheVariants as part
use Rattle.hs_tree.specs.declared.expr.ExprTree.{ExprTree, ExprTree-F, map-ExprTree, roll-ExprTree, ind-ExprTree, fold-roll-ExprTree}
use Rattle.hs_tree.specs.declared.expr.ExprKind.{ExprKind, roll-ExprKind, map-ExprKind, fold-ExprKind, fold-roll-ExprKind}
use Rattle.hs_tree.specs.declared.expr.ExprKind.TheOpen.{ExprKind-F}
use Rattle.hs_pure.specs.declared.var.Var.{Var}
use Rattle.hs_pure.specs.declared.lin.Lin.{Lin}
use Rattle.hs_pure.specs.declared.bag.Bag.{Bag}
use Rattle.hs_pure.specs.declared.bag.Bag.TheVariants as set
use Rattle.hs_pure.proofs.Views.{fold_bag-Empty, fold_bag-Name, fold_bag-One, fold_bag-Union, fold_bag-Inter, fold_bag-Diff}
use Rattle.hs_heap.specs.Tests.{sum_fits, bag_fits, bag_fits_level}
use Rattle.hs_numbering.specs.declared.fault.Problem.TheVariants.{Kind}
use Rattle.hs_numbering.specs.declared.numbering.Numbering.{Numbering}
use Rattle.hs_numbering.specs.Names.{is_upper}
use Rattle.hs_numbering.specs.Numbering.{Builder, ◌>>◌, ◌<$>◌, pure, each, blame, is_numbered, resolve}
use Rattle.hs_norm_formula.specs.declared.sum.Term.{Term}
use Rattle.hs_norm_formula.specs.Sum.{blame_kind, number_var, part_term, term, sum, or_shape, allowed}
use Rattle.hs_norm_formula.specs.Expr.{Readings, bare_name, no_bag, sum_bag, both, add_one, joined, kind_level, readings, number, bag}
use Rattle.hs_formula_fits.proofs.Formed.{sum_wider, bag_wider}
use Rattle.hs_formula_fits.proofs.Keeps.{scope, Stays, stays_itself, scope_later, stays, Result, Kept, DoesIf, Keeps, blamed, then_does, map_does, both_do, Each, each_all, each_does, all_by}
use Rattle.hs_formula_fits.proofs.Names.{VarIn, resolve_does}
use Rattle.hs_formula_fits.proofs.Sums.{OptionIn, added_fits}

abbrev pub SumIn : Result Lin
SumIn k m a = IsTrue (sum_fits a (scope m))

abbrev pub BagIn : Result Bag
BagIn k m b = IsTrue (bag_fits b (scope m))

-- ---- sums

-- the kind is not blamed
kind_does : (at : ℕ) (v : Var) (m : Numbering) (bag : Bool) → DoesIf Stays ((v.bag ≡ bag) × IsTrue (scope m v)) (VarIn false) m ((blame_kind at v.bag >> pure v) m)
kind_does at v m bag = of v.bag refl
  where
    of : (b : Bool) → v.bag ≡ b → DoesIf Stays ((v.bag ≡ bag) × IsTrue (scope m v)) (VarIn false) m ((blame_kind at b >> pure v) m)
    of true e = λ f. absurd (blamed m.faults _ f)
    of false e = λ f. (f, λ sane h. record { sane = sane; moves = stays_itself m; result = (e, h.1) })

pub number_var_does : (x : Ident) → Keeps Stays (VarIn false) (number_var x)
unfolding number_var
number_var_does x n = then_does stays (VarIn (is_upper x.text)) (VarIn false) n (resolve x n) ((blame_kind x.at (resolve x n).0.bag >> pure (resolve x n).0) (resolve x n).1)
    (resolve_does x n) (kind_does x.at (resolve x n).0 (resolve x n).1 (is_upper x.text)) (λ j k le h. h)

abbrev PartIn : Result (Option Var × ℕ)
PartIn k m t = OptionIn (scope m) t.0

part_does : (p : PartTree) → Keeps Stays PartIn (part_term p)
part_does (part.Number m) n = λ e. (e, λ sane. record { sane = sane; moves = stays_itself n; result = tt })
part_does (part.Times m x) n = map_does Stays (VarIn false) PartIn (λ v. (Some v, m)) n (number_var x n) (number_var_does x n) (λ h. h)
part_does (part.Name x) n = map_does Stays (VarIn false) PartIn (λ v. (Some v, 1)) n (number_var x n) (number_var_does x n) (λ h. h)
part_does part.Null n = λ e. (e, λ sane. record { sane = sane; moves = stays_itself n; result = tt })

abbrev TermIn : Result Term
TermIn k m t = OptionIn (scope m) t.var

term_does : (p : Bool × PartTree) → Keeps Stays TermIn (term p)
term_does p n = map_does Stays PartIn TermIn (λ t. record { minus = p.0; var = t.0; size = t.1 }) n (part_term p.1 n) (part_does p.1 n) (λ h. h)

term_carry : (p : Bool × PartTree) (j k : ℕ) (n m : Numbering) (t : Term) → Stays n m → OptionIn (scope n) t.var → OptionIn (scope m) t.var
term_carry p j k n m t s = of t.var
  where
    of : (o : Option Var) → OptionIn (scope n) o → OptionIn (scope m) o
    of None h = tt
    of (Some v) h = (h.0, scope_later n m s v h.1)

shape_does : (at : ℕ) (m : Numbering) (ts : List Term) → DoesIf Stays (All (λ (t : Term). OptionIn (scope m) t.var) ts) SumIn m (or_shape at (allowed (is_numbered m.reading) ts) m)
shape_does at m ts = of (allowed (is_numbered m.reading) ts) refl
  where
    of : (o : Option Lin) → allowed (is_numbered m.reading) ts ≡ o → DoesIf Stays (All (λ (t : Term). OptionIn (scope m) t.var) ts) SumIn m (or_shape at o m)
    of (Some a) e = λ f. (f, λ sane all. record { sane = sane; moves = stays_itself m; result = added_fits (scope m) (is_numbered m.reading) ts a sane.named e all })
    of None e = λ f. absurd (blamed m.faults _ f)

terms_does : (parts : List (Bool × PartTree)) → Keeps Stays (λ k m ts. All (λ (t : Term). OptionIn (scope m) t.var) ts) (each term parts)
terms_does parts n = λ e.
    let was = each_does term stays (λ p. TermIn) (λ p j k n m t le. term_carry p j k n m t) parts (all_by term (λ p. Keeps Stays TermIn (term p)) parts term_does) n e in
    (was.0, λ sane. of (was.1 sane))
  where
    of : Kept Stays (λ k m ts. Each term (λ p t. OptionIn (scope m) t.var) parts ts) n (each term parts n) → Kept Stays (λ k m ts. All (λ (t : Term). OptionIn (scope m) t.var) ts) n (each term parts n)
    of a = record { sane = a.sane; moves = a.moves; result = each_all term (λ t. OptionIn (scope (each term parts n).1) t.var) parts (each term parts n).0 a.result }

pub sum_does : (parts : List (Bool × PartTree)) (at : ℕ) → Keeps Stays SumIn (sum parts at)
unfolding sum
sum_does parts at n = then_does stays (λ k m ts. All (λ (t : Term). OptionIn (scope m) t.var) ts) SumIn n (each term parts n) (or_shape at (allowed (is_numbered (each term parts n).1.reading) (each term parts n).0) (each term parts n).1)
    (terms_does parts n) (shape_does at (each term parts n).1 (each term parts n).0) (λ j k le h. h)

-- ---- bags

empty_in : (s : Var → Bool) → IsTrue (bag_fits set.Empty s)
empty_in s = subst (λ f. IsTrue (f s)) (sym (fold_bag-Empty bag_fits_level)) refl

pub name_in : (s : Var → Bool) (v : Var) → v.bag ≡ true → IsTrue (s v) → IsTrue (bag_fits (set.Name v) s)
name_in s v kind h = subst (λ f. IsTrue (f s)) (sym (fold_bag-Name bag_fits_level v)) (and_from v.bag (s v) kind h)

one_in : (s : Var → Bool) (a : Lin) → IsTrue (sum_fits a s) → IsTrue (bag_fits (set.One a) s)
one_in s a h = subst (λ f. IsTrue (f s)) (sym (fold_bag-One bag_fits_level a)) h

union_in : (s : Var → Bool) (a b : Bag) → IsTrue (bag_fits a s) → IsTrue (bag_fits b s) → IsTrue (bag_fits (set.Union a b) s)
union_in s a b h g = subst (λ f. IsTrue (f s)) (sym (fold_bag-Union bag_fits_level a b)) (and_from (bag_fits a s) (bag_fits b s) h g)

inter_in : (s : Var → Bool) (a b : Bag) → IsTrue (bag_fits a s) → IsTrue (bag_fits b s) → IsTrue (bag_fits (set.Inter a b) s)
inter_in s a b h g = subst (λ f. IsTrue (f s)) (sym (fold_bag-Inter bag_fits_level a b)) (and_from (bag_fits a s) (bag_fits b s) h g)

diff_in : (s : Var → Bool) (a b : Bag) → IsTrue (bag_fits a s) → IsTrue (bag_fits b s) → IsTrue (bag_fits (set.Diff a b) s)
diff_in s a b h g = subst (λ f. IsTrue (f s)) (sym (fold_bag-Diff bag_fits_level a b)) (and_from (bag_fits a s) (bag_fits b s) h g)

module _ (s : Var → Bool) where
  abbrev SomeIn : Option Bag → Type 0
  SomeIn None = Unit {0}
  SomeIn (Some b) = IsTrue (bag_fits b s)

  joined_from : (elements : List Lin) (found : Option Bag) → SomeIn found → All (λ a. IsTrue (sum_fits a s)) elements → IsTrue (bag_fits (unwrap_or (fold (λ found a. Some (add_one found a)) found elements) set.Empty) s)
  joined_from [] None h all = empty_in s
  joined_from [] (Some b) h all = h
  joined_from (a ∷ elements) found h all = joined_from elements (Some (add_one found a)) (more found h) (All-tail (λ a. IsTrue (sum_fits a s)) a elements all)
    where
      more : (o : Option Bag) → SomeIn o → IsTrue (bag_fits (add_one o a) s)
      more None h = one_in s a (All-head (λ a. IsTrue (sum_fits a s)) a elements all)
      more (Some b) h = union_in s b (set.One a) h (one_in s a (All-head (λ a. IsTrue (sum_fits a s)) a elements all))

  joined_in : (elements : List Lin) → All (λ a. IsTrue (sum_fits a s)) elements → IsTrue (bag_fits (joined elements) s)
  joined_in elements all = joined_from elements None tt all

no_bag_does : (parts : List (Bool × PartTree)) (at : ℕ) → Keeps Stays BagIn (no_bag parts at)
no_bag_does parts at n = λ e. absurd (blamed n.faults _ (sum_does parts at (blame at Kind n).1 e).0)

named_bag_does : (x : Ident) → is_upper x.text ≡ true → Keeps Stays BagIn (set.Name <$> resolve x)
named_bag_does x e n = map_does Stays (VarIn (is_upper x.text)) BagIn set.Name n (resolve x n) (resolve_does x n) (λ h. name_in (scope (resolve x n).1) (resolve x n).0 (h.0 ∙ e) h.1)

sum_bag_does : (parts : List (Bool × PartTree)) (at : ℕ) (o : Option Ident) → Keeps Stays BagIn (sum_bag parts at o)
sum_bag_does parts at None = no_bag_does parts at
sum_bag_does parts at (Some x) = of (is_upper x.text) refl
  where
    built : Bool → Builder Bag
    built b = if b then set.Name <$> resolve x else no_bag parts at

    of : (b : Bool) → is_upper x.text ≡ b → Keeps Stays BagIn (built b)
    of true e = named_bag_does x e
    of false e = no_bag_does parts at

pub sum_carry : (k : ℕ) (n m : Numbering) (a : Lin) → Stays n m → SumIn k n a → SumIn k m a
sum_carry k n m a s = sum_wider (scope n) (scope m) a (scope_later n m s)

pub bag_carry : (k : ℕ) (n m : Numbering) (b : Bag) → Stays n m → BagIn k n b → BagIn k m b
bag_carry k n m b s = bag_wider (scope n) (scope m) (scope_later n m s) b

bags_do : (operation : Bag → Bag → Bag) → ((k : ℕ) (m : Numbering) (a b : Bag) → BagIn k m a → BagIn k m b → BagIn k m (operation a b)) → (p q : Builder Bag) → Keeps Stays BagIn p → Keeps Stays BagIn q → Keeps Stays BagIn (both operation p q)
bags_do operation result = both_do operation stays BagIn BagIn BagIn bag_carry (λ j k m y le h. h) result

-- ---- trees

abbrev kind_of : ExprKind → ℕ → Readings
kind_of = fold-ExprKind (ℕ → Readings) Readings kind_level (λ e. e.kind e.at)

abbrev Both : Readings → Type 0
Both r = Keeps Stays SumIn r.number × Keeps Stays BagIn r.bag

abbrev PK : ExprKind → Type 0
PK k = (at : ℕ) → Both (kind_of k at)

abbrev PE : ExprTree → Type 0
PE e = Both (readings e)

abbrev K : Type 0
K = (k : ExprKind) × PK k

abbrev E : Type 0
E = (e : ExprTree) × PE e

no_number : (at : ℕ) → Keeps Stays SumIn (blame at Kind >> pure (record { terms = []; constant = pos 0 }))
no_number at n = λ e. absurd (blamed n.faults _ e)

elements_do : (es : List E) → AllByRecursion (λ (p : Builder Lin). Keeps Stays SumIn p) (map (λ e. e.number) (map readings (map (λ e. e.0) es)))
elements_do [] = tt
elements_do (e ∷ es) = (e.1.0, elements_do es)

literal_does : (ps : List (Builder Lin)) → AllByRecursion (λ (p : Builder Lin). Keeps Stays SumIn p) ps → Keeps Stays BagIn (joined <$> each (λ e. e) ps)
literal_does ps h n = map_does Stays (λ k m ys. Each (λ (p : Builder Lin). p) (λ p a. IsTrue (sum_fits a (scope m))) ps ys) BagIn joined n (each (λ e. e) ps n)
    (each_does (λ (p : Builder Lin). p) stays (λ p. SumIn) (λ p j k n m a le s. sum_wider (scope n) (scope m) a (scope_later n m s)) ps h n)
    (λ all. joined_in (scope (each (λ e. e) ps n).1) (each (λ e. e) ps n).0 (each_all (λ (p : Builder Lin). p) (λ a. IsTrue (sum_fits a (scope (each (λ e. e) ps n).1))) ps (each (λ e. e) ps n).0 all))

kind : (k : ExprKind-F K E) (at : ℕ) → Both (kind_level (map-ExprKind ExprKind ExprTree (ℕ → Readings) Readings kind_of readings (map-ExprKind K E ExprKind ExprTree (λ e. e.0) (λ e. e.0) k)) at)
kind (ExprKind-F.Sum parts) at = (sum_does parts at, sum_bag_does parts at (bare_name parts))
kind (ExprKind-F.Braces es) at = (no_number at, literal_does (map (λ e. e.number) (map readings (map (λ e. e.0) es))) (elements_do es))
kind (ExprKind-F.Union a b) at = (no_number at, bags_do set.Union (λ k m. union_in (scope m)) (readings a.0).bag (readings b.0).bag a.1.1 b.1.1)
kind (ExprKind-F.Inter a b) at = (no_number at, bags_do set.Inter (λ k m. inter_in (scope m)) (readings a.0).bag (readings b.0).bag a.1.1 b.1.1)
kind (ExprKind-F.Diff a b) at = (no_number at, bags_do set.Diff (λ k m. diff_in (scope m)) (readings a.0).bag (readings b.0).bag a.1.1 b.1.1)

all_kinds : (x : ExprKind-F ExprKind ExprTree) (y : ExprKind-F K E) → map-ExprKind K E ExprKind ExprTree (λ e. e.0) (λ e. e.0) y ≡ x → PK (roll-ExprKind x)
all_kinds x y is = λ at. subst (λ b. Both (b at)) (sym (fold-roll-ExprKind (ℕ → Readings) Readings kind_level (λ e. e.kind e.at) x))
    (subst (λ z. Both (kind_level (map-ExprKind ExprKind ExprTree (ℕ → Readings) Readings kind_of readings z) at)) is (kind y at))

all_trees : (x : ExprTree-F ExprKind ExprTree) (y : ExprTree-F K E) → map-ExprTree K E ExprKind ExprTree (λ e. e.0) (λ e. e.0) y ≡ x → PE (roll-ExprTree x)
all_trees x y is = subst Both (sym (fold-roll-ExprTree (ℕ → Readings) Readings kind_level (λ e. e.kind e.at) x))
    (subst (λ z. Both (tree_of (map-ExprTree ExprKind ExprTree (ℕ → Readings) Readings kind_of readings z))) is (y.kind.1 y.at))
  where
    tree_of : ExprTree-F (ℕ → Readings) Readings → Readings
    tree_of e = e.kind e.at

expr_does : (e : ExprTree) → PE e
expr_does = ind-ExprTree PK PE all_kinds all_trees

-- where a number belongs
pub number_does : (e : ExprTree) → Keeps Stays SumIn (number e)
unfolding number
number_does e = (expr_does e).0

-- where a bag belongs
pub bag_does : (e : ExprTree) → Keeps Stays BagIn (bag e)
unfolding bag
bag_does e = (expr_does e).1
