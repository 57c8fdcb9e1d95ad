-- Items are well formed.
use Rattle.std.proofs.Common.{◌≡◌, ℕ, suc, ◌-◌, ◌≤◌, ◌^◌, pos, Bool, true, false, ◌&&◌, ◌||◌, nat_le, IsTrue, List, [], ◌∷◌, ◌++◌, length, map, take, refl, sym, ap, ◌∙◌, subst, arith, if◌then◌else◌, true≢false}
use Rattle.std.specs.List.{All, AllByRecursion}
use Rattle.std.proofs.lemmas.List.Elements.{All-nil, All-head}
use Rattle.hs_tree.specs.declared.ident.Ident.{Ident}
use Rattle.hs_tree.specs.declared.expr.ExprTree.{ExprTree}
use Rattle.hs_tree.specs.declared.item.RelTree.{RelTree}
use Rattle.hs_tree.specs.declared.item.RelTree.TheVariants as rel
use Rattle.hs_tree.specs.declared.item.ItemTree.{ItemTree, ItemTree-F, map-ItemTree, roll-ItemTree, ind-ItemTree, fold-roll-ItemTree}
use Rattle.hs_tree.specs.declared.item.PureTree.{PureTree, PureTree-F, map-PureTree, roll-PureTree, fold-roll-PureTree}
use Rattle.hs_tree.specs.declared.item.ItemKind.{ItemKind, roll-ItemKind, map-ItemKind, fold-ItemKind, fold-roll-ItemKind}
use Rattle.hs_tree.specs.declared.item.ItemKind.TheOpen.{ItemKind-F}
use Rattle.hs_pure.specs.declared.var.Var.{Var}
use Rattle.hs_pure.specs.declared.lin.Lin.{Lin}
use Rattle.hs_pure.specs.declared.bag.Bag.{Bag}
use Rattle.hs_pure.specs.declared.pure.Pure.{Pure}
use Rattle.hs_pure.specs.declared.pure.Pure.TheVariants as pure_of
use Rattle.hs_pure.specs.Stack.{same}
use Rattle.hs_heap.specs.Meaning.{is_in}
use Rattle.hs_numbering.specs.declared.fault.Problem.TheVariants.{Shape}
use Rattle.hs_numbering.specs.declared.numbering.Named.{Named}
use Rattle.hs_numbering.specs.declared.numbering.Numbering.{Numbering}
use Rattle.hs_numbering.specs.Numbering.{Builder, ◌>>=◌, ◌>>◌, ◌<$>◌, pure, each, blame, bind, enter, leave}
use Rattle.hs_norm_formula.specs.Sum.{blame_kind}
use Rattle.hs_norm_formula.specs.Expr.{number, bag}
use Rattle.hs_norm_formula.specs.Item.{item, disjunction, Inner, kind_level, tree_level, pure_level, bind_number, blame_shape, divisor_of, divides, is_of_bags, compared, compared_bags, of_bags, of_numbers, relation, all_of_bag, quantified, all_of, conj, disj, cases}
use Rattle.hs_formula_fits.specs.Fits.{vars_of, free_vars, Extends}
use Rattle.hs_formula_fits.proofs.State.{extends_itself, extends_later, IsFresh, fresh_later}
use Rattle.hs_formula_fits.proofs.Formed.{FormedIn, formed_wider, bag_wider, eq_formed, lt_formed, le_formed, divides_formed, bag_eq_formed, subset_formed, member_formed, all_formed, not_formed, exists_formed, forall_formed, and_formed, or_formed}
use Rattle.hs_formula_fits.proofs.Keeps.{scope, Sane, Stays, stays_itself, scope_later, stays, Result, Kept, Does, Keeps, blamed, map_does, both_do, Each, each_all, each_does}
use Rattle.hs_formula_fits.proofs.Names.{Bound, bind_does, entered, extends_aside, all_but_last, left_sane}
use Rattle.hs_formula_fits.proofs.Expressions.{SumIn, BagIn, sum_carry, bag_carry, number_does, bag_does}

-- a formula of what is in scope
abbrev pub FormedAt : Bool → Result Pure
FormedAt i k m p = FormedIn i k m (scope m) p

pub formed_carry : (i : Bool) (j k : ℕ) (n m : Numbering) (p : Pure) → j ≤ k → Stays n m → FormedAt i k n p → FormedAt i j m p
formed_carry i j k n m p le s = formed_wider i j k n m (scope n) (scope m) p le s.extends (scope_later n m s)

-- ---- binders

abbrev Binds_number : Ident → Numbering → Var × Numbering → Type 0
Binds_number x n done = done.1.faults ≡ [] → (n.faults ≡ []) × (Sane n → Bound x n done × (done.0.bag ≡ false))

bind_number_does : (x : Ident) (n : Numbering) → Binds_number x n (bind_number x n)
unfolding bind_number
bind_number_does x n = of (bind x n).0.bag refl
  where
    of : (b : Bool) → (bind x n).0.bag ≡ b → Binds_number x n ((blame_kind x.at b >> pure (bind x n).0) (bind x n).1)
    of true e = λ f. absurd (blamed (bind x n).1.faults _ f)
    of false e = λ f. let was = bind_does x n f in (was.0, λ sane. (was.1 sane, e))

-- what is true after the scope of a binder
record Closed (v : Var) (outside : List Named) (m : Numbering) (done : Pure × Numbering) : Type 0 where
  pub sane : Sane (leave done.1).1
  pub extends : Extends m (leave done.1).1
  pub around : (leave done.1).1.around ≡ outside
  pub flat : (leave done.1).1.flat ≡ m.flat
  pub equations : (leave done.1).1.equations ≡ m.equations
  pub result : FormedIn true (length m.names) (leave done.1).1 (λ w. same w v || scope (leave done.1).1 w) done.0

with_last : (w : Var) (ms : List Named) (e : Named) → IsTrue (is_in w (vars_of (ms ++ e ∷ []))) → IsTrue (same w e.var || is_in w (vars_of ms))
with_last w [] e h = h
with_last w (m ∷ ms) e h = of (same w m.var) (same w e.var) (is_in w (vars_of ms)) (with_last w ms e) h
  where
    of : (a s d : Bool) → (IsTrue (is_in w (vars_of (ms ++ e ∷ []))) → IsTrue (s || d)) → IsTrue (a || is_in w (vars_of (ms ++ e ∷ []))) → IsTrue (s || (a || d))
    of a true d f h = refl
    of true false d f h = refl
    of false false d f h = f h

regrouped : (a c s d : Bool) → (IsTrue a → IsTrue (s || d)) → IsTrue (a || c) → IsTrue (s || (d || c))
regrouped a c true d f h = refl
regrouped a c false true f h = refl
regrouped true c false false f h = absurd (true≢false (sym (f refl)))
regrouped false c false false f h = h

closes : (x : Ident) (v : Var) (outside : List Named) (m : Numbering) (done : Pure × Numbering) → m.around ≡ outside ++ record { name = x.text; var = v } ∷ [] →
    Kept Stays (FormedAt true) m done → Closed v outside m done
unfolding leave
closes x v outside m done is a =
    let entry : Named = record { name = x.text; var = v } in
    let l = done.1 in
    let around : take (length l.around - 1) l.around ≡ outside = ap (λ ms. take (length ms - 1) ms) (a.moves.around ∙ is) ∙ all_but_last outside entry in
    record {
      sane = left_sane l a.sane;
      extends = extends_aside m l (leave l).1 refl refl refl refl refl a.moves.extends;
      around = around;
      flat = a.moves.flat;
      equations = a.moves.equations;
      result = formed_wider true (length m.names) (length m.names) l (leave l).1 (scope l) (λ w. same w v || scope (leave l).1 w) done.0 (self (length m.names)) (extends_aside l l (leave l).1 refl refl refl refl refl (extends_itself l))
          (λ w h. regrouped (is_in w (vars_of l.around)) (is_in w l.flat || is_in w (free_vars l)) (same w v) (is_in w (vars_of (leave l).1.around))
          (λ k. subst (λ ms. IsTrue (same w v || is_in w (vars_of ms))) (sym around) (with_last w outside entry (subst (λ ms. IsTrue (is_in w (vars_of ms))) (a.moves.around ∙ is) k))) h) a.result;
    }
  where
    self : (k : ℕ) → k ≤ k
    self k = omega arith

-- ---- quantifiers

module _ (q : Var → Pure → Pure) (formed : (i : Bool) (k : ℕ) (m : Numbering) (s : Var → Bool) (u : Var) (p : Pure) → u.bag ≡ false → IsFresh k m u → FormedIn true k m (λ v. same v u || s v) p → FormedIn i k m s (q u p)) where
  quantified_does : (i : Bool) (x : Ident) (body : Builder Pure) → Keeps Stays (FormedAt true) body → Keeps Stays (FormedAt i) (quantified q x body)
  unfolding leave
  quantified_does i x body h n = λ e.
      let inner = h (bind_number x n).1 e in
      let outer = bind_number_does x n inner.0 in
      (outer.0, λ sane. of (outer.1 sane) inner.1)
    where
      of : Bound x n (bind_number x n) × ((bind_number x n).0.bag ≡ false) → (Sane (bind_number x n).1 → Kept Stays (FormedAt true) (bind_number x n).1 (body (bind_number x n).1)) → Kept Stays (FormedAt i) n (quantified q x body n)
      of both f =
          let b = both.0 in
          let v = (bind_number x n).0 in
          let m = (bind_number x n).1 in
          let l = (leave (body m).1).1 in
          let c = closes x v n.around m (body m) b.around (f b.sane) in
          record {
            sane = c.sane;
            moves = record { extends = extends_later n m l b.sane.known b.extends c.extends; around = c.around; flat = c.flat ∙ b.flat; equations = c.equations ∙ b.equations };
            result = formed i (length n.names) l (scope l) v (body m).0 both.1 (fresh_later (length n.names) (length n.names) m l v (self (length n.names)) c.extends b.fresh)
                (formed_wider true (length n.names) (length m.names) l l (λ w. same w v || scope l w) (λ w. same w v || scope l w) (body m).0 b.extends.names (extends_itself l) (λ w k. k) c.result);
          }
        where
          self : (k : ℕ) → k ≤ k
          self k = omega arith

all_does : (i : Bool) → i ≡ false → (x : Ident) (elements : ExprTree) (body : Builder Pure) → Keeps Stays (FormedAt true) body → Keeps Stays (FormedAt i) (all_of_bag x elements body)
unfolding leave
all_does i out x elements body h n = λ e.
    let inner = h (entry_of).1 e in
    let among = bag_does elements (leave (bind_number x n).1).1 inner.0 in
    let outer = bind_number_does x n among.0 in
    (outer.0, λ sane. of (outer.1 sane) among.1 inner.1)
  where
    v : Var
    v = (bind_number x n).0

    after : Numbering
    after = (leave (bind_number x n).1).1

    entry_of : Unit {0} × Numbering
    entry_of = enter x (bind_number x n).0 (bag elements (leave (bind_number x n).1).1).1

    of : Bound x n (bind_number x n) × ((bind_number x n).0.bag ≡ false) → (Sane (leave (bind_number x n).1).1 → Kept Stays BagIn (leave (bind_number x n).1).1 (bag elements (leave (bind_number x n).1).1)) →
        (Sane entry_of.1 → Kept Stays (FormedAt true) entry_of.1 (body entry_of.1)) → Kept Stays (FormedAt i) n (all_of_bag x elements body n)
    of both f g =
        let b = both.0 in
        let u = (bind_number x n).0 in
        let m1 = (bind_number x n).1 in
        let m2 = (leave m1).1 in
        let m3 = (bag elements m2).1 in
        let m4 = (enter x u m3).1 in
        let m5 = (body m4).1 in
        let l = (leave m5).1 in
        let self : length n.names ≤ length n.names = same_number (length n.names) in
        let a = f (left_sane m1 b.sane) in
        let one : Extends m1 m3 = extends_later m1 m2 m3 (left_sane m1 b.sane).known (extends_aside m1 m1 m2 refl refl refl refl refl (extends_itself m1)) a.moves.extends in
        let fresh : IsFresh (length n.names) m3 u = fresh_later (length n.names) (length n.names) m1 m3 u self one b.fresh in
        let inner_sane : Sane m4 = entered x u m3 (length n.names) a.sane b.kind fresh in
        let c = closes x u m3.around m4 (body m4) refl (g inner_sane) in
        let two : Extends m3 l = extends_later m3 m4 l inner_sane.known (extends_aside m3 m3 m4 refl refl refl refl refl (extends_itself m3)) c.extends in
        let inside : Stays m3 l = record { extends = two; around = c.around; flat = c.flat; equations = c.equations } in
        let lower : length n.names ≤ length m4.names = (extends_later n m1 m3 b.sane.known b.extends one).names in
        record {
          sane = c.sane;
          moves = record {
            extends = extends_later n m3 l a.sane.known (extends_later n m1 m3 b.sane.known b.extends one) two;
            around = c.around ∙ a.moves.around ∙ (ap (λ ms. take (length ms - 1) ms) b.around ∙ all_but_last n.around (record { name = x.text; var = u }));
            flat = c.flat ∙ a.moves.flat ∙ b.flat;
            equations = c.equations ∙ a.moves.equations ∙ b.equations;
          };
          result = all_formed i (length n.names) l (scope l) out u (bag elements m2).0 (body m4).0 (bag_wider (scope m3) (scope l) (scope_later m3 l inside) (bag elements m2).0 a.result) both.1
              (fresh_later (length n.names) (length n.names) m3 l u self two fresh)
              (formed_wider true (length n.names) (length m4.names) l l (λ w. same w u || scope l w) (λ w. same w u || scope l w) (body m4).0 lower (extends_itself l) (λ w k. k) c.result);
        }
      where
        same_number : (k : ℕ) → k ≤ k
        same_number k = omega arith

-- ---- relations

divides_does : (i : Bool) (d : ℕ) (t : ExprTree) (at : ℕ) → Keeps Stays (FormedAt i) (divides d t at)
unfolding divides
divides_does i d t at n = of (nat_le 1 d && nat_le d (2 ^ 126))
  where
    of : (b : Bool) → Does Stays (FormedAt i) n ((divisor_of d at b >>= λ divisor. number t >>= λ a. pure (pure_of.Divides divisor a)) n)
    of true = map_does Stays SumIn (FormedAt i) (pure_of.Divides (pos d)) n (number t n) (number_does t n) (λ h. divides_formed i (length n.names) (number t n).1 (scope (number t n).1) (pos d) (number t n).0 h)
    of false = λ e. absurd (blamed n.faults _ (number_does t (blame at Shape n).1 e).0)

compared_formed : (s : RelTree) (i : Bool) (k : ℕ) (m : Numbering) (a b : Lin) → SumIn k m a → SumIn k m b → FormedAt i k m (compared s a b)
compared_formed rel.Lt i k m a b h g = lt_formed i k m (scope m) a b h g
compared_formed rel.Le i k m a b h g = le_formed i k m (scope m) a b h g
compared_formed rel.Gt i k m a b h g = lt_formed i k m (scope m) b a g h
compared_formed rel.Ge i k m a b h g = le_formed i k m (scope m) b a g h
compared_formed rel.Ne i k m a b h g = not_formed i k m (scope m) (pure_of.Eq a b) (eq_formed i k m (scope m) a b h g)
compared_formed rel.Eq i k m a b h g = eq_formed i k m (scope m) a b h g
compared_formed rel.Subset i k m a b h g = eq_formed i k m (scope m) a b h g
compared_formed rel.Within i k m a b h g = eq_formed i k m (scope m) a b h g

bags_formed : (s : RelTree) (k : ℕ) (m : Numbering) (a b : Bag) → BagIn k m a → BagIn k m b → FormedAt false k m (compared_bags s a b)
bags_formed rel.Lt k m a b h g = bag_eq_formed false k m (scope m) refl a b h g
bags_formed rel.Le k m a b h g = bag_eq_formed false k m (scope m) refl a b h g
bags_formed rel.Gt k m a b h g = bag_eq_formed false k m (scope m) refl a b h g
bags_formed rel.Ge k m a b h g = bag_eq_formed false k m (scope m) refl a b h g
bags_formed rel.Ne k m a b h g = not_formed false k m (scope m) (pure_of.BagEq a b) (bag_eq_formed false k m (scope m) refl a b h g)
bags_formed rel.Eq k m a b h g = bag_eq_formed false k m (scope m) refl a b h g
bags_formed rel.Subset k m a b h g = subset_formed false k m (scope m) refl a b h g
bags_formed rel.Within k m a b h g = bag_eq_formed false k m (scope m) refl a b h g

two_bags : (s : RelTree) (l r : ExprTree) → Keeps Stays (FormedAt false) (bag l >>= λ a. bag r >>= λ b. pure (compared_bags s a b))
two_bags s l r = both_do (compared_bags s) stays BagIn BagIn (FormedAt false) bag_carry (λ j k m y le h. h) (bags_formed s) (bag l) (bag r) (bag_does l) (bag_does r)

of_bags_does : (s : RelTree) (l r : ExprTree) → Keeps Stays (FormedAt false) (of_bags s l r)
unfolding of_bags
of_bags_does rel.Within l r = both_do pure_of.Member stays SumIn BagIn (FormedAt false) sum_carry (λ j k m y le h. h) (λ k m a b h g. member_formed false k m (scope m) refl a b h g) (number l) (bag r) (number_does l) (bag_does r)
of_bags_does rel.Eq l r = two_bags rel.Eq l r
of_bags_does rel.Ne l r = two_bags rel.Ne l r
of_bags_does rel.Lt l r = two_bags rel.Lt l r
of_bags_does rel.Le l r = two_bags rel.Le l r
of_bags_does rel.Gt l r = two_bags rel.Gt l r
of_bags_does rel.Ge l r = two_bags rel.Ge l r
of_bags_does rel.Subset l r = two_bags rel.Subset l r

-- what may not stand under a quantifier
outside_does : (i : Bool) (at : ℕ) (p : Builder Pure) → (i ≡ false → Keeps Stays (FormedAt i) p) → Keeps Stays (FormedAt false) p → Keeps Stays (FormedAt i) (blame_shape at i >> p)
outside_does true at p h g n = λ e. absurd (blamed n.faults _ (g (blame at Shape n).1 e).0)
outside_does false at p h g n = h refl n

relation_does : (s : RelTree) (l r : ExprTree) (i : Bool) (at : ℕ) → Keeps Stays (FormedAt i) (relation s l r i at)
unfolding relation
relation_does s l r i at = of (is_of_bags s l)
  where
    of : (b : Bool) → Keeps Stays (FormedAt i) (if b then blame_shape at i >> of_bags s l r else of_numbers s l r)
    of true = outside_does i at (of_bags s l r) (λ e. subst (λ j. Keeps Stays (FormedAt j) (of_bags s l r)) (sym e) (of_bags_does s l r)) (of_bags_does s l r)
    of false = both_do (compared s) stays SumIn SumIn (FormedAt i) sum_carry (λ j k m y le h. h) (compared_formed s i) (number l) (number r) (number_does l) (number_does r)

-- ---- lists

one_of : (i : Bool) (k : ℕ) (m : Numbering) (f : List Pure → Pure) → ((ps : List Pure) → (length ps ≡ 1 → ⊥) → All (FormedAt i k m) ps → FormedAt i k m (f ps)) →
    (g : List Pure → Pure) → ((p : Pure) → g (p ∷ []) ≡ p) → (g [] ≡ f []) → ((p q : Pure) (ps : List Pure) → g (p ∷ q ∷ ps) ≡ f (p ∷ q ∷ ps)) → (ps : List Pure) → All (FormedAt i k m) ps → FormedAt i k m (g ps)
one_of i k m f formed g one none more [] all = subst (FormedAt i k m) (sym none) (formed [] (λ e. absurd cc) all)
one_of i k m f formed g one none more (p ∷ []) all = subst (FormedAt i k m) (sym (one p)) (All-head (FormedAt i k m) p [] all)
one_of i k m f formed g one none more (p ∷ q ∷ ps) all = subst (FormedAt i k m) (sym (more p q ps)) (formed (p ∷ q ∷ ps) (λ e. two (length ps) e) all)
  where
    two : (k : ℕ) → suc (suc k) ≡ 1 → ⊥
    two k e = omega arith

pub conj_formed : (i : Bool) (k : ℕ) (m : Numbering) (ps : List Pure) → All (FormedAt i k m) ps → FormedAt i k m (conj ps)
conj_formed i k m = one_of i k m pure_of.And (and_formed i k m (scope m)) conj (λ p. refl) refl (λ p q ps. refl)

disj_formed : (i : Bool) (k : ℕ) (m : Numbering) (ps : List Pure) → All (FormedAt i k m) ps → FormedAt i k m (disj ps)
disj_formed i k m = one_of i k m pure_of.Or (or_formed i k m (scope m)) disj (λ p. refl) refl (λ p q ps. refl)

-- a list of formulas, each as it should be
pub formulas_do : {A : Type 0} (i : Bool) (f : A → Builder Pure) (xs : List A) → AllByRecursion (λ x. Keeps Stays (FormedAt i) (f x)) xs → Keeps Stays (λ k m ps. All (FormedAt i k m) ps) (each f xs)
formulas_do {A} i f xs h n = λ e.
    let was = each_does f stays (λ x. FormedAt i) (λ x. formed_carry i) xs h n e in
    (was.0, λ sane. of (was.1 sane))
  where
    of : Kept Stays (λ k m ps. Each f (λ x p. FormedAt i k m p) xs ps) n (each f xs n) → Kept Stays (λ k m ps. All (FormedAt i k m) ps) n (each f xs n)
    of a = record { sane = a.sane; moves = a.moves; result = each_all f (FormedAt i (length n.names) (each f xs n).1) xs (each f xs n).0 a.result }

conjunct_does : (i : Bool) (items : List Inner) → AllByRecursion (λ (p : Inner). Keeps Stays (FormedAt i) (p i)) items → Keeps Stays (FormedAt i) (conj <$> all_of i items)
conjunct_does i items h n = map_does Stays (λ k m ps. All (FormedAt i k m) ps) (FormedAt i) conj n (all_of i items n) (formulas_do i (λ (p : Inner). p i) items h n)
    (conj_formed i (length n.names) (all_of i items n).1 (all_of i items n).0)

disjunction_does : (i : Bool) (cs : List (List Inner)) → AllByRecursion (λ (case : List Inner). Keeps Stays (FormedAt i) (conj <$> all_of i case)) cs → Keeps Stays (FormedAt i) (disj <$> cases i cs)
disjunction_does i cs h n = map_does Stays (λ k m ps. All (FormedAt i k m) ps) (FormedAt i) disj n (cases i cs n) (formulas_do i (λ (case : List Inner). conj <$> all_of i case) cs h n)
    (disj_formed i (length n.names) (cases i cs n).1 (cases i cs n).0)

-- ---- trees

abbrev kind_of : ItemKind → ℕ → Inner
kind_of = fold-ItemKind (ℕ → Inner) Inner Inner kind_level tree_level pure_level

abbrev PK : ItemKind → Type 0
PK k = (at : ℕ) (inside : Bool) → Keeps Stays (FormedAt inside) (kind_of k at inside)

abbrev PI : ItemTree → Type 0
PI t = (inside : Bool) → Keeps Stays (FormedAt inside) (item t inside)

abbrev PP : PureTree → Type 0
PP p = (inside : Bool) → Keeps Stays (FormedAt inside) (disjunction p inside)

abbrev K : Type 0
K = (k : ItemKind) × PK k

abbrev I : Type 0
I = (t : ItemTree) × PI t

abbrev P : Type 0
P = (p : PureTree) × PP p

constant_does : (i : Bool) (p : Pure) → ((k : ℕ) (m : Numbering) → FormedAt i k m p) → Keeps Stays (FormedAt i) (pure p)
constant_does i p h n = λ e. (e, λ sane. record { sane = sane; moves = stays_itself n; result = h (length n.names) n })

kind : (k : ItemKind-F K I P) (at : ℕ) (inside : Bool) → Keeps Stays (FormedAt inside) (kind_level (map-ItemKind ItemKind ItemTree PureTree (ℕ → Inner) Inner Inner kind_of item disjunction (map-ItemKind K I P ItemKind ItemTree PureTree (λ e. e.0) (λ e. e.0) (λ e. e.0) k)) at inside)
kind ItemKind-F.True at inside = constant_does inside (pure_of.And []) (λ k m. and_formed inside k m (scope m) [] (λ e. absurd cc) (All-nil _))
kind ItemKind-F.False at inside = constant_does inside (pure_of.Or []) (λ k m. or_formed inside k m (scope m) [] (λ e. absurd cc) (All-nil _))
kind (ItemKind-F.Not t) at inside = λ n. map_does Stays (FormedAt inside) (FormedAt inside) pure_of.Not n (item t.0 inside n) (t.1 inside n) (not_formed inside (length n.names) (item t.0 inside n).1 (scope (item t.0 inside n).1) (item t.0 inside n).0)
kind (ItemKind-F.Group p) at inside = p.1 inside
kind (ItemKind-F.Exists x p) at inside = quantified_does pure_of.Exists exists_formed inside x (disjunction p.0 true) (p.1 true)
kind (ItemKind-F.Forall x p) at inside = quantified_does pure_of.Forall forall_formed inside x (disjunction p.0 true) (p.1 true)
kind (ItemKind-F.All x b p) at inside = outside_does inside at (all_of_bag x b (disjunction p.0 true)) (λ e. all_does inside e x b (disjunction p.0 true) (p.1 true)) (all_does false refl x b (disjunction p.0 true) (p.1 true))
kind (ItemKind-F.Divides d t) at inside = divides_does inside d t at
kind (ItemKind-F.Rel s l r) at inside = relation_does s l r inside at

items_do : (inside : Bool) (ts : List I) → AllByRecursion (λ (p : Inner). Keeps Stays (FormedAt inside) (p inside)) (map item (map (λ e. e.0) ts))
items_do inside [] = tt
items_do inside (t ∷ ts) = (t.1 inside, items_do inside ts)

cases_do : (inside : Bool) (cs : List (List I)) → AllByRecursion (λ (case : List Inner). Keeps Stays (FormedAt inside) (conj <$> all_of inside case)) (map (map item) (map (map (λ e. e.0)) cs))
cases_do inside [] = tt
cases_do inside (c ∷ cs) = (conjunct_does inside (map item (map (λ e. e.0) c)) (items_do inside c), cases_do inside cs)

tree : (t : ItemTree-F K I P) (inside : Bool) → Keeps Stays (FormedAt inside) (tree_level (map-ItemTree ItemKind ItemTree PureTree (ℕ → Inner) Inner Inner kind_of item disjunction (map-ItemTree K I P ItemKind ItemTree PureTree (λ e. e.0) (λ e. e.0) (λ e. e.0) t)) inside)
tree t inside = t.kind.1 t.at inside

joined : (p : PureTree-F K I P) (inside : Bool) → Keeps Stays (FormedAt inside) (pure_level (map-PureTree ItemKind ItemTree PureTree (ℕ → Inner) Inner Inner kind_of item disjunction (map-PureTree K I P ItemKind ItemTree PureTree (λ e. e.0) (λ e. e.0) (λ e. e.0) p)) inside)
joined p inside = disjunction_does inside (map (map item) (map (map (λ e. e.0)) p.cases)) (cases_do inside p.cases)

all_kinds : (x : ItemKind-F ItemKind ItemTree PureTree) (y : ItemKind-F K I P) → map-ItemKind K I P ItemKind ItemTree PureTree (λ e. e.0) (λ e. e.0) (λ e. e.0) y ≡ x → PK (roll-ItemKind x)
all_kinds x y is = λ at inside. subst (λ b. Keeps Stays (FormedAt inside) (b at inside)) (sym (fold-roll-ItemKind (ℕ → Inner) Inner Inner kind_level tree_level pure_level x))
    (subst (λ z. Keeps Stays (FormedAt inside) (kind_level (map-ItemKind ItemKind ItemTree PureTree (ℕ → Inner) Inner Inner kind_of item disjunction z) at inside)) is (kind y at inside))

all_trees : (x : ItemTree-F ItemKind ItemTree PureTree) (y : ItemTree-F K I P) → map-ItemTree K I P ItemKind ItemTree PureTree (λ e. e.0) (λ e. e.0) (λ e. e.0) y ≡ x → PI (roll-ItemTree x)
all_trees x y is = λ inside. subst (λ b. Keeps Stays (FormedAt inside) (b inside)) (sym (fold-roll-ItemTree (ℕ → Inner) Inner Inner kind_level tree_level pure_level x))
    (subst (λ z. Keeps Stays (FormedAt inside) (tree_level (map-ItemTree ItemKind ItemTree PureTree (ℕ → Inner) Inner Inner kind_of item disjunction z) inside)) is (tree y inside))

all_pure : (x : PureTree-F ItemKind ItemTree PureTree) (y : PureTree-F K I P) → map-PureTree K I P ItemKind ItemTree PureTree (λ e. e.0) (λ e. e.0) (λ e. e.0) y ≡ x → PP (roll-PureTree x)
all_pure x y is = λ inside. subst (λ b. Keeps Stays (FormedAt inside) (b inside)) (sym (fold-roll-PureTree (ℕ → Inner) Inner Inner kind_level tree_level pure_level x))
    (subst (λ z. Keeps Stays (FormedAt inside) (pure_level (map-PureTree ItemKind ItemTree PureTree (ℕ → Inner) Inner Inner kind_of item disjunction z) inside)) is (joined y inside))

item_does : (t : ItemTree) (inside : Bool) → Keeps Stays (FormedAt inside) (item t inside)
item_does = ind-ItemTree PK PI PP all_kinds all_trees all_pure

every_item : (ts : List ItemTree) → AllByRecursion (λ (p : Inner). Keeps Stays (FormedAt false) (p false)) (map item ts)
every_item [] = tt
every_item (t ∷ ts) = (item_does t false, every_item ts)

-- items that stand under no quantifier
pub all_of_do : (ts : List ItemTree) → Keeps Stays (λ k m ps. All (FormedAt false k m) ps) (all_of false (map item ts))
all_of_do ts = formulas_do false (λ (p : Inner). p false) (map item ts) (every_item ts)

pub conjunction_does : (ts : List ItemTree) → Keeps Stays (FormedAt false) (conj <$> all_of false (map item ts))
conjunction_does ts = conjunct_does false (map item ts) (every_item ts)
