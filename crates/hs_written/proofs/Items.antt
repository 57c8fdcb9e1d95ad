-- A written pure formula is read as itself.
use Rattle.std.proofs.Common.{◌≡◌, ℕ, nat_eq, pos, Bool, true, false, not, ◌&&◌, if◌then◌else◌, List, [], ◌∷◌, ◌++◌, length, map, refl, sym, ap, ◌∙◌, subst}
use Rattle.std.specs.Bool.{IsTrue}
use Rattle.std.specs.List.{list_all}
use Rattle.std.proofs.lemmas.List.{map_push}
use Rattle.hs_tree.specs.declared.ident.Ident.{Ident}
use Rattle.hs_tree.specs.declared.expr.ExprTree.{ExprTree}
use Rattle.hs_tree.specs.declared.item.RelTree.{RelTree}
use Rattle.hs_tree.specs.declared.item.RelTree.TheVariants as rel
use Rattle.hs_tree.specs.declared.item.ItemTree.{ItemTree, fold-roll-ItemTree}
use Rattle.hs_tree.specs.declared.item.PureTree.{PureTree, roll-PureTree, fold-roll-PureTree}
use Rattle.hs_tree.specs.declared.item.ItemKind.{ItemKind, fold-ItemKind, fold-roll-ItemKind}
use Rattle.hs_tree.specs.declared.item.ItemKind.TheOpen.{ItemKind-F}
use Rattle.hs_tree.specs.declared.item.ItemKind.TheVariants as kind
use Rattle.hs_pure.specs.declared.var.Var.{Var}
use Rattle.hs_pure.specs.declared.lin.Lin.{Lin}
use Rattle.hs_pure.specs.declared.bag.Bag.{Bag}
use Rattle.hs_pure.specs.declared.pure.Pure.{Pure}
use Rattle.hs_pure.specs.declared.pure.Pure.TheVariants as pure_of
use Rattle.hs_pure.proofs.Views.{fold-Eq, fold-Lt, fold-Le, fold-Divides, fold-BagEq, fold-Subset, fold-Member, fold-AllOf, fold-Not, fold-And, fold-Or, fold-Exists, fold-Forall}
use Rattle.hs_numbering.specs.declared.numbering.Named.{Named}
use Rattle.hs_numbering.specs.declared.numbering.Numbering.{Numbering}
use Rattle.hs_numbering.specs.Numbering.{Builder, ◌>>=◌, ◌>>◌, ◌<$>◌, pure, enter, leave}
use Rattle.hs_norm_formula.specs.Expr.{number, bag, is_bag}
use Rattle.hs_norm_formula.specs.Item.{Inner, kind_level, tree_level, pure_level, item, disjunction, conj, disj, all_of, cases, quantified, all_of_bag, blame_shape, divisor_of, divides, is_of_bags, compared, compared_bags, of_bags, of_numbers, relation}
use Rattle.hs_written.specs.Writable.{Test, has_number, sum_fits, bag_fits, is_divisor, is_among, binder_fits, members_fit, pure_fits_level, pure_fits}
use Rattle.hs_written.specs.Written.{Names, Pairwise, none, another, IsSum, IsBag, IsItem, IsKind, IsPure, one_case, several, AreCases, no_case, case, IsConj, one_item, items, AreItems, no_item, another_item}
use Rattle.hs_written.specs.Written as written
use Rattle.hs_written.proofs.Names.{both_true, not_true}
use Rattle.hs_written.proofs.State.{inside, each_from_pairs}
use Rattle.hs_written.proofs.Exprs.{number-sum, is_bag-sum, bag-bag, is_bag-bag}
use Rattle.hs_written.proofs.Binders.{numbers, entered, bind_number-numbered, leave-entered}

-- ---- what an item is, by its kind

abbrev kind_of : ItemKind → ℕ → Inner
kind_of = fold-ItemKind (ℕ → Inner) Inner Inner kind_level tree_level pure_level

kind-True : kind_of kind.True ≡ kind_level ItemKind-F.True
kind-True = ap kind_of (sym kind.rolls-True) ∙ fold-roll-ItemKind (ℕ → Inner) Inner Inner kind_level tree_level pure_level ItemKind-F.True

kind-False : kind_of kind.False ≡ kind_level ItemKind-F.False
kind-False = ap kind_of (sym kind.rolls-False) ∙ fold-roll-ItemKind (ℕ → Inner) Inner Inner kind_level tree_level pure_level ItemKind-F.False

kind-Not : (i : ItemTree) → kind_of (kind.Not i) ≡ kind_level (ItemKind-F.Not (item i))
kind-Not i = ap kind_of (sym (kind.rolls-Not i)) ∙ fold-roll-ItemKind (ℕ → Inner) Inner Inner kind_level tree_level pure_level (ItemKind-F.Not i)

kind-Group : (t : PureTree) → kind_of (kind.Group t) ≡ kind_level (ItemKind-F.Group (disjunction t))
kind-Group t = ap kind_of (sym (kind.rolls-Group t)) ∙ fold-roll-ItemKind (ℕ → Inner) Inner Inner kind_level tree_level pure_level (ItemKind-F.Group t)

kind-Exists : (x : Ident) (t : PureTree) → kind_of (kind.Exists x t) ≡ kind_level (ItemKind-F.Exists x (disjunction t))
kind-Exists x t = ap kind_of (sym (kind.rolls-Exists x t)) ∙ fold-roll-ItemKind (ℕ → Inner) Inner Inner kind_level tree_level pure_level (ItemKind-F.Exists x t)

kind-Forall : (x : Ident) (t : PureTree) → kind_of (kind.Forall x t) ≡ kind_level (ItemKind-F.Forall x (disjunction t))
kind-Forall x t = ap kind_of (sym (kind.rolls-Forall x t)) ∙ fold-roll-ItemKind (ℕ → Inner) Inner Inner kind_level tree_level pure_level (ItemKind-F.Forall x t)

kind-All : (x : Ident) (e : ExprTree) (t : PureTree) → kind_of (kind.All x e t) ≡ kind_level (ItemKind-F.All x e (disjunction t))
kind-All x e t = ap kind_of (sym (kind.rolls-All x e t)) ∙ fold-roll-ItemKind (ℕ → Inner) Inner Inner kind_level tree_level pure_level (ItemKind-F.All x e t)

kind-Divides : (d : ℕ) (e : ExprTree) → kind_of (kind.Divides d e) ≡ kind_level (ItemKind-F.Divides d e)
kind-Divides d e = ap kind_of (sym (kind.rolls-Divides d e)) ∙ fold-roll-ItemKind (ℕ → Inner) Inner Inner kind_level tree_level pure_level (ItemKind-F.Divides d e)

kind-Rel : (s : RelTree) (l r : ExprTree) → kind_of (kind.Rel s l r) ≡ kind_level (ItemKind-F.Rel s l r)
kind-Rel s l r = ap kind_of (sym (kind.rolls-Rel s l r)) ∙ fold-roll-ItemKind (ℕ → Inner) Inner Inner kind_level tree_level pure_level (ItemKind-F.Rel s l r)

item-tree : (k : ItemKind) (at : ℕ) → item (record { kind = k; at = at }) ≡ kind_of k at
item-tree k at = fold-roll-ItemTree (ℕ → Inner) Inner Inner kind_level tree_level pure_level (record { kind = k; at = at })

disjunction-tree : (cs : List (List ItemTree)) (at : ℕ) (under : Bool) → disjunction (roll-PureTree (record { cases = cs; at = at })) under ≡ (disj <$> cases under (map (map item) cs))
disjunction-tree cs at under = ap (λ (f : Inner). f under) (fold-roll-PureTree (ℕ → Inner) Inner Inner kind_level tree_level pure_level (record { cases = cs; at = at }))

-- ---- quantifiers

record BinderFits (u : Var) (around : List ℕ) : Type 0 where
  kind : u.bag ≡ false
  number : IsTrue (has_number u)
  free : is_among u.number around ≡ false

binder_fit : (u : Var) (around : List ℕ) → IsTrue (binder_fits u around) → BinderFits u around
binder_fit u around h =
    let k = both_true (not u.bag && has_number u) (not (is_among u.number around)) h in
    let a = both_true (not u.bag) (has_number u) k.0 in
    record { kind = not_true u.bag a.0; number = a.1; free = not_true (is_among u.number around) k.1 }

module _ (u : Var) (x : Ident) (p : Pure) (body : Builder Pure) (around : List Named) (fit : BinderFits u (numbers around)) (is : Names u x) (h : body (inside (around ++ entered x u ∷ [])) ≡ (p, inside (around ++ entered x u ∷ []))) where
  quantified_reads : (q : Var → Pure → Pure) → quantified q x body (inside around) ≡ (q u p, inside around)
  quantified_reads q =
      ap (λ (z : Var × Numbering). (body >>= λ p. leave >> pure (q z.0 p)) z.1) (bind_number-numbered u x around fit.number fit.kind fit.free is)
      ∙ ap (λ (z : Pure × Numbering). (leave >> pure (q u z.0)) z.1) h
      ∙ ap (λ (z : Unit {0} × Numbering). (q u p, z.1)) (leave-entered around (entered x u))

  all_reads : (b : Bag) (e : ExprTree) → IsTrue (bag_fits b) → IsBag b e → all_of_bag x e body (inside around) ≡ (pure_of.AllOf u b p, inside around)
  all_reads b e fits is_bag =
      ap (λ (z : Var × Numbering). (leave >> (bag e >>= λ b. enter x z.0 >> (body >>= λ p. leave >> pure (pure_of.AllOf z.0 b p)))) z.1) (bind_number-numbered u x around fit.number fit.kind fit.free is)
      ∙ ap (λ (z : Unit {0} × Numbering). (bag e >>= λ b. enter x u >> (body >>= λ p. leave >> pure (pure_of.AllOf u b p))) z.1) (leave-entered around (entered x u))
      ∙ ap (λ (z : Bag × Numbering). (enter x u >> (body >>= λ p. leave >> pure (pure_of.AllOf u z.0 p))) z.1) (bag-bag around b e fits is_bag)
      ∙ ap (λ (z : Pure × Numbering). (leave >> pure (pure_of.AllOf u b z.0)) z.1) h
      ∙ ap (λ (z : Unit {0} × Numbering). (pure_of.AllOf u b p, z.1)) (leave-entered around (entered x u))

-- ---- relations

module _ (around : List Named) where
  divides_reads : (d : ℕ) (a : Lin) (e : ExprTree) (at : ℕ) → IsTrue (is_divisor (pos d)) → IsTrue (sum_fits a) → IsSum a e → divides d e at (inside around) ≡ (pure_of.Divides (pos d) a, inside around)
  unfolding divides
  divides_reads d a e at h fit is =
      ap (λ b. (divisor_of d at b >>= λ divisor. number e >>= λ a. pure (pure_of.Divides divisor a)) (inside around)) h
      ∙ ap (λ (z : Lin × Numbering). (pure_of.Divides (pos d) z.0, z.1)) (number-sum a e around fit is)

  numbers_reads : (s : RelTree) (a b : Lin) (l r : ExprTree) (under : Bool) (at : ℕ) → is_of_bags s l ≡ false → IsTrue (sum_fits a && sum_fits b) → IsSum a l → IsSum b r →
      relation s l r under at (inside around) ≡ (compared s a b, inside around)
  unfolding relation
  numbers_reads s a b l r under at e fit left right =
      let fits = both_true (sum_fits a) (sum_fits b) fit in
      (λ j. (if e j then blame_shape at under >> of_bags s l r else of_numbers s l r) (inside around))
      ∙ ap (λ (z : Lin × Numbering). (number r >>= λ b. pure (compared s z.0 b)) z.1) (number-sum a l around fits.0 left)
      ∙ ap (λ (z : Lin × Numbering). (compared s a z.0, z.1)) (number-sum b r around fits.1 right)

  bags_read : (s : RelTree) (l r : ExprTree) (under : Bool) (at : ℕ) (p : Pure) → is_of_bags s l ≡ true → under ≡ false → of_bags s l r (inside around) ≡ (p, inside around) →
      relation s l r under at (inside around) ≡ (p, inside around)
  unfolding relation
  bags_read s l r under at p e outside h =
      (λ j. (if e j then blame_shape at under >> of_bags s l r else of_numbers s l r) (inside around))
      ∙ ap (λ b. (blame_shape at b >> of_bags s l r) (inside around)) outside ∙ h

  pair_reads : (q : Bag → Bag → Pure) (a b : Bag) (l r : ExprTree) → IsTrue (bag_fits a && bag_fits b) → IsBag a l → IsBag b r →
      (bag l >>= λ a. bag r >>= λ b. pure (q a b)) (inside around) ≡ (q a b, inside around)
  pair_reads q a b l r fit left right =
      let fits = both_true (bag_fits a) (bag_fits b) fit in
      ap (λ (z : Bag × Numbering). (bag r >>= λ b. pure (q z.0 b)) z.1) (bag-bag around a l fits.0 left)
      ∙ ap (λ (z : Bag × Numbering). (q a z.0, z.1)) (bag-bag around b r fits.1 right)

  of_bags-Eq : (a b : Bag) (l r : ExprTree) → IsTrue (bag_fits a && bag_fits b) → IsBag a l → IsBag b r → of_bags rel.Eq l r (inside around) ≡ (pure_of.BagEq a b, inside around)
  unfolding of_bags
  of_bags-Eq a b l r fit left right = pair_reads (compared_bags rel.Eq) a b l r fit left right

  of_bags-Ne : (a b : Bag) (l r : ExprTree) → IsTrue (bag_fits a && bag_fits b) → IsBag a l → IsBag b r → of_bags rel.Ne l r (inside around) ≡ (pure_of.Not (pure_of.BagEq a b), inside around)
  unfolding of_bags
  of_bags-Ne a b l r fit left right = pair_reads (compared_bags rel.Ne) a b l r fit left right

  of_bags-Subset : (a b : Bag) (l r : ExprTree) → IsTrue (bag_fits a && bag_fits b) → IsBag a l → IsBag b r → of_bags rel.Subset l r (inside around) ≡ (pure_of.Subset a b, inside around)
  unfolding of_bags
  of_bags-Subset a b l r fit left right = pair_reads (compared_bags rel.Subset) a b l r fit left right

  of_bags-Within : (a : Lin) (b : Bag) (l r : ExprTree) → IsTrue (sum_fits a && bag_fits b) → IsSum a l → IsBag b r → of_bags rel.Within l r (inside around) ≡ (pure_of.Member a b, inside around)
  unfolding of_bags
  of_bags-Within a b l r fit left right =
      let fits = both_true (sum_fits a) (bag_fits b) fit in
      ap (λ (z : Lin × Numbering). (bag r >>= λ b. pure (pure_of.Member z.0 b)) z.1) (number-sum a l around fits.0 left)
      ∙ ap (λ (z : Bag × Numbering). (pure_of.Member a z.0, z.1)) (bag-bag around b r fits.1 right)

-- ---- items

-- read as p wherever p fits
abbrev Reads : Pure → Inner → Type 0
Reads p i = (under : Bool) (around : List Named) → IsTrue (pure_fits p (numbers around) under) → i under (inside around) ≡ (p, inside around)

-- what p tests is what its level tests
tested : (p : Pure) (t : Test) → pure_fits p ≡ t → (around : List ℕ) (under : Bool) → IsTrue (pure_fits p around under) → IsTrue (t around under)
tested p t e around under h = subst (λ (t : Test). IsTrue (t around under)) e h

-- under one more binder
entered_fits : (p : Pure) (x : Ident) (u : Var) (around : List Named) → IsTrue (pure_fits p (numbers around ++ u.number ∷ []) true) → IsTrue (pure_fits p (numbers (around ++ entered x u ∷ [])) true)
entered_fits p x u around h = ap (λ ns. pure_fits p ns true) (map_push (λ (m : Named). m.var.number) around (entered x u)) ∙ h

bound_reads : (q : Var → Pure → Pure) (u : Var) (x : Ident) (p : Pure) (t : PureTree) (around : List Named) → IsTrue (binder_fits u (numbers around) && pure_fits p (numbers around ++ u.number ∷ []) true) → Names u x →
    Reads p (disjunction t) → quantified q x (disjunction t true) (inside around) ≡ (q u p, inside around)
bound_reads q u x p t around fit is h =
    let fits = both_true (binder_fits u (numbers around)) (pure_fits p (numbers around ++ u.number ∷ []) true) fit in
    quantified_reads u x p (disjunction t true) around (binder_fit u (numbers around) fits.0) is (h true (around ++ entered x u ∷ []) (entered_fits p x u around fits.1)) q

all_of_reads : (u : Var) (x : Ident) (b : Bag) (e : ExprTree) (p : Pure) (t : PureTree) (under : Bool) (at : ℕ) (around : List Named) →
    IsTrue (not under && (bag_fits b && (binder_fits u (numbers around) && pure_fits p (numbers around ++ u.number ∷ []) true))) → Names u x → IsBag b e → Reads p (disjunction t) →
    (blame_shape at under >> all_of_bag x e (disjunction t true)) (inside around) ≡ (pure_of.AllOf u b p, inside around)
all_of_reads u x b e p t under at around fit is is_bag h =
    let a = both_true (not under) (bag_fits b && (binder_fits u (numbers around) && pure_fits p (numbers around ++ u.number ∷ []) true)) fit in
    let c = both_true (bag_fits b) (binder_fits u (numbers around) && pure_fits p (numbers around ++ u.number ∷ []) true) a.1 in
    let d = both_true (binder_fits u (numbers around)) (pure_fits p (numbers around ++ u.number ∷ []) true) c.1 in
    ap (λ z. (blame_shape at z >> all_of_bag x e (disjunction t true)) (inside around)) (not_true under a.0)
    ∙ all_reads u x p (disjunction t true) around (binder_fit u (numbers around) d.0) is (h true (around ++ entered x u ∷ []) (entered_fits p x u around d.1)) b e c.0 is_bag

-- a kind that is built by its level
levelled : (k : ItemKind) (x : ItemKind-F (ℕ → Inner) Inner Inner) (p : Pure) → kind_of k ≡ kind_level x → ((at : ℕ) → Reads p (kind_level x at)) → (at : ℕ) → Reads p (kind_of k at)
levelled k x p e h at under around fit = ap (λ (f : ℕ → Inner). f at under (inside around)) e ∙ h at under around fit

related : (s : RelTree) (l r : ExprTree) (p : Pure) → ((at : ℕ) → Reads p (λ under. relation s l r under at)) → (at : ℕ) → Reads p (kind_of (kind.Rel s l r) at)
related s l r p h = levelled (kind.Rel s l r) (ItemKind-F.Rel s l r) p (kind-Rel s l r) h

numbers_related : (s : RelTree) (a b : Lin) (l r : ExprTree) → is_of_bags s l ≡ false → IsTrue (sum_fits a && sum_fits b) → IsSum a l → IsSum b r → (at : ℕ) (under : Bool) (around : List Named) →
    relation s l r under at (inside around) ≡ (compared s a b, inside around)
numbers_related s a b l r e fit left right at under around = numbers_reads around s a b l r under at e fit left right

of_left : (a b : Lin) (l : ExprTree) → IsTrue (sum_fits a && sum_fits b) → IsSum a l → is_bag l ≡ false
of_left a b l fit left = is_bag-sum a l (both_true (sum_fits a) (sum_fits b) fit).0 left

-- bags that stand under no quantifier
module _ (a b : Bag) (l r : ExprTree) (under : Bool) (at : ℕ) (around : List Named) (fit : IsTrue (not under && (bag_fits a && bag_fits b))) (left : IsBag a l) (right : IsBag b r) where
  fits : IsTrue (not under) × IsTrue (bag_fits a && bag_fits b)
  fits = both_true (not under) (bag_fits a && bag_fits b) fit

  of_bag : is_bag l ≡ true
  of_bag = is_bag-bag a l (both_true (bag_fits a) (bag_fits b) fits.1).0 left

  bags-Eq : relation rel.Eq l r under at (inside around) ≡ (pure_of.BagEq a b, inside around)
  bags-Eq = bags_read around rel.Eq l r under at (pure_of.BagEq a b) of_bag (not_true under fits.0) (of_bags-Eq around a b l r fits.1 left right)

  bags-Ne : relation rel.Ne l r under at (inside around) ≡ (pure_of.Not (pure_of.BagEq a b), inside around)
  bags-Ne = bags_read around rel.Ne l r under at (pure_of.Not (pure_of.BagEq a b)) of_bag (not_true under fits.0) (of_bags-Ne around a b l r fits.1 left right)

  bags-Subset : relation rel.Subset l r under at (inside around) ≡ (pure_of.Subset a b, inside around)
  bags-Subset = bags_read around rel.Subset l r under at (pure_of.Subset a b) refl (not_true under fits.0) (of_bags-Subset around a b l r fits.1 left right)

bags-Within : (a : Lin) (b : Bag) (l r : ExprTree) (under : Bool) (at : ℕ) (around : List Named) → IsTrue (not under && (sum_fits a && bag_fits b)) → IsSum a l → IsBag b r →
    relation rel.Within l r under at (inside around) ≡ (pure_of.Member a b, inside around)
bags-Within a b l r under at around fit left right =
    let k = both_true (not under) (sum_fits a && bag_fits b) fit in
    bags_read around rel.Within l r under at (pure_of.Member a b) refl (not_true under k.0) (of_bags-Within around a b l r k.1 left right)

-- ---- connectives

-- each formula fits
abbrev pub AllFit : List Pure → List Named → Bool → Type 0
AllFit ps around under = IsTrue (list_all (λ (t : Test). t (numbers around) under) (map pure_fits ps))

first_fits : (p : Pure) (ps : List Pure) (around : List Named) (under : Bool) → AllFit (p ∷ ps) around under → IsTrue (pure_fits p (numbers around) under) × AllFit ps around under
first_fits p ps around under h = both_true (pure_fits p (numbers around) under) (list_all (λ (t : Test). t (numbers around) under) (map pure_fits ps)) h

members_all : (ts : List Test) (around : List ℕ) (under : Bool) → IsTrue (members_fit ts around under) → IsTrue (list_all (λ (t : Test). t around under) ts)
members_all ts around under h = (both_true (not (nat_eq (length ts) 1)) (list_all (λ (t : Test). t around under) ts) h).1

-- read as p
abbrev pub ItemGives : Bool → List Named → Pure → Inner → Type 0
ItemGives under around p i = i under (inside around) ≡ (p, inside around)

abbrev CaseGives : Bool → List Named → Pure → List Inner → Type 0
CaseGives under around p c = (conj <$> all_of under c) (inside around) ≡ (p, inside around)

conj_all : (under : Bool) (around : List Named) (ps : List Pure) (is : List Inner) → Pairwise (ItemGives under around) ps is → (conj <$> all_of under is) (inside around) ≡ (conj ps, inside around)
conj_all under around ps is h = ap (λ (z : List Pure × Numbering). (conj z.0, z.1)) (each_from_pairs (λ (i : Inner). i under) (inside around) ps is h)

disj_all : (under : Bool) (around : List Named) (ps : List Pure) (cs : List (List Inner)) → Pairwise (CaseGives under around) ps cs → (disj <$> cases under cs) (inside around) ≡ (disj ps, inside around)
disj_all under around ps cs h = ap (λ (z : List Pure × Numbering). (disj z.0, z.1)) (each_from_pairs (λ (c : List Inner). conj <$> all_of under c) (inside around) ps cs h)

disjunction_all : (under : Bool) (around : List Named) (ps : List Pure) (cs : List (List ItemTree)) (at : ℕ) → Pairwise (CaseGives under around) ps (map (map item) cs) →
    disjunction (roll-PureTree (record { cases = cs; at = at })) under (inside around) ≡ (disj ps, inside around)
disjunction_all under around ps cs at h = ap (λ (f : Builder Pure). f (inside around)) (disjunction-tree cs at under) ∙ disj_all under around ps (map (map item) cs) h

mutual
  item_reads : (p : Pure) (i : ItemTree) → IsItem p i → Reads p (item i)
  item_reads p _ (written.item {k = k} {at = at} is) = λ under around fit. ap (λ (f : Inner). f under (inside around)) (item-tree k at) ∙ kind_reads p k is at under around fit

  kind_reads : (p : Pure) (k : ItemKind) → IsKind p k → (at : ℕ) → Reads p (kind_of k at)
  kind_reads _ _ written.truth = levelled kind.True ItemKind-F.True (pure_of.And []) kind-True (λ at under around fit. refl)
  kind_reads _ _ written.falsity = levelled kind.False ItemKind-F.False (pure_of.Or []) kind-False (λ at under around fit. refl)
  kind_reads _ _ (written.negation {p = p} {i = i} is) = levelled (kind.Not i) (ItemKind-F.Not (item i)) (pure_of.Not p) (kind-Not i)
      (λ at under around fit. ap (λ (z : Pure × Numbering). (pure_of.Not z.0, z.1)) (item_reads p i is under around (tested (pure_of.Not p) _ (fold-Not pure_fits_level p) (numbers around) under fit)))
  kind_reads p _ (written.group {t = t} is) = levelled (kind.Group t) (ItemKind-F.Group (disjunction t)) p (kind-Group t) (λ at. pure_reads p t is)
  kind_reads _ _ (written.exists {u = u} {x = x} {p = p} {t = t} is body) = levelled (kind.Exists x t) (ItemKind-F.Exists x (disjunction t)) (pure_of.Exists u p) (kind-Exists x t)
      (λ at under around fit. bound_reads pure_of.Exists u x p t around (tested (pure_of.Exists u p) _ (fold-Exists pure_fits_level u p) (numbers around) under fit) is (pure_reads p t body))
  kind_reads _ _ (written.forall {u = u} {x = x} {p = p} {t = t} is body) = levelled (kind.Forall x t) (ItemKind-F.Forall x (disjunction t)) (pure_of.Forall u p) (kind-Forall x t)
      (λ at under around fit. bound_reads pure_of.Forall u x p t around (tested (pure_of.Forall u p) _ (fold-Forall pure_fits_level u p) (numbers around) under fit) is (pure_reads p t body))
  kind_reads _ _ (written.all {u = u} {x = x} {b = b} {e = e} {p = p} {t = t} is of body) = levelled (kind.All x e t) (ItemKind-F.All x e (disjunction t)) (pure_of.AllOf u b p) (kind-All x e t)
      (λ at under around fit. all_of_reads u x b e p t under at around (tested (pure_of.AllOf u b p) _ (fold-AllOf pure_fits_level u b p) (numbers around) under fit) is of (pure_reads p t body))
  kind_reads _ _ (written.divides {d = d} {a = a} {e = e} is) = levelled (kind.Divides d e) (ItemKind-F.Divides d e) (pure_of.Divides (pos d) a) (kind-Divides d e)
      (λ at under around fit. let k = both_true (is_divisor (pos d)) (sum_fits a) (tested (pure_of.Divides (pos d) a) _ (fold-Divides pure_fits_level (pos d) a) (numbers around) under fit) in divides_reads around d a e at k.0 k.1 is)
  kind_reads _ _ (written.equal {a = a} {b = b} {l = l} {r = r} left right) = related rel.Eq l r (pure_of.Eq a b)
      (λ at under around fit. let k = tested (pure_of.Eq a b) _ (fold-Eq pure_fits_level a b) (numbers around) under fit in numbers_related rel.Eq a b l r (of_left a b l k left) k left right at under around)
  kind_reads _ _ (written.unequal {a = a} {b = b} {l = l} {r = r} left right) = related rel.Ne l r (pure_of.Not (pure_of.Eq a b))
      (λ at under around fit. let k = tested (pure_of.Eq a b) _ (fold-Eq pure_fits_level a b) (numbers around) under (tested (pure_of.Not (pure_of.Eq a b)) _ (fold-Not pure_fits_level (pure_of.Eq a b)) (numbers around) under fit) in
      numbers_related rel.Ne a b l r (of_left a b l k left) k left right at under around)
  kind_reads _ _ (written.less {a = a} {b = b} {l = l} {r = r} left right) = related rel.Lt l r (pure_of.Lt a b)
      (λ at under around fit. numbers_related rel.Lt a b l r refl (tested (pure_of.Lt a b) _ (fold-Lt pure_fits_level a b) (numbers around) under fit) left right at under around)
  kind_reads _ _ (written.at_most {a = a} {b = b} {l = l} {r = r} left right) = related rel.Le l r (pure_of.Le a b)
      (λ at under around fit. numbers_related rel.Le a b l r refl (tested (pure_of.Le a b) _ (fold-Le pure_fits_level a b) (numbers around) under fit) left right at under around)
  kind_reads _ _ (written.bags_equal {a = a} {b = b} {l = l} {r = r} left right) = related rel.Eq l r (pure_of.BagEq a b)
      (λ at under around fit. bags-Eq a b l r under at around (tested (pure_of.BagEq a b) _ (fold-BagEq pure_fits_level a b) (numbers around) under fit) left right)
  kind_reads _ _ (written.bags_unequal {a = a} {b = b} {l = l} {r = r} left right) = related rel.Ne l r (pure_of.Not (pure_of.BagEq a b))
      (λ at under around fit. bags-Ne a b l r under at around (tested (pure_of.BagEq a b) _ (fold-BagEq pure_fits_level a b) (numbers around) under (tested (pure_of.Not (pure_of.BagEq a b)) _ (fold-Not pure_fits_level (pure_of.BagEq a b)) (numbers around) under fit)) left right)
  kind_reads _ _ (written.subset {a = a} {b = b} {l = l} {r = r} left right) = related rel.Subset l r (pure_of.Subset a b)
      (λ at under around fit. bags-Subset a b l r under at around (tested (pure_of.Subset a b) _ (fold-Subset pure_fits_level a b) (numbers around) under fit) left right)
  kind_reads _ _ (written.within {a = a} {b = b} {l = l} {r = r} left right) = related rel.Within l r (pure_of.Member a b)
      (λ at under around fit. bags-Within a b l r under at around (tested (pure_of.Member a b) _ (fold-Member pure_fits_level a b) (numbers around) under fit) left right)

  pure_reads : (p : Pure) (t : PureTree) → IsPure p t → Reads p (disjunction t)
  pure_reads p _ (one_case {c = c} at is) = λ under around fit. disjunction_all under around (p ∷ []) (c ∷ []) at (another (conj_reads p c is under around fit) none)
  pure_reads _ _ (several {p = p} {q = q} {ps = ps} {c = c} {d = d} {cs = cs} at first second rest) = λ under around fit.
      let all = members_all (map pure_fits (p ∷ q ∷ ps)) (numbers around) under (tested (pure_of.Or (p ∷ q ∷ ps)) _ (fold-Or pure_fits_level (p ∷ q ∷ ps)) (numbers around) under fit) in
      let f = first_fits p (q ∷ ps) around under all in
      let g = first_fits q ps around under f.1 in
      disjunction_all under around (p ∷ q ∷ ps) (c ∷ d ∷ cs) at (another (conj_reads p c first under around f.0) (another (conj_reads q d second under around g.0) (cases_read ps cs rest under around g.1)))

  cases_read : (ps : List Pure) (cs : List (List ItemTree)) → AreCases ps cs → (under : Bool) (around : List Named) → AllFit ps around under → Pairwise (CaseGives under around) ps (map (map item) cs)
  cases_read _ _ no_case = λ under around fit. none
  cases_read _ _ (case {p = p} {ps = ps} {c = c} {cs = cs} is rest) = λ under around fit. let f = first_fits p ps around under fit in another (conj_reads p c is under around f.0) (cases_read ps cs rest under around f.1)

  conj_reads : (p : Pure) (c : List ItemTree) → IsConj p c → (under : Bool) (around : List Named) → IsTrue (pure_fits p (numbers around) under) → CaseGives under around p (map item c)
  conj_reads p _ (one_item {i = i} is) = λ under around fit. conj_all under around (p ∷ []) (item i ∷ []) (another (item_reads p i is under around fit) none)
  conj_reads _ _ (items {p = p} {q = q} {ps = ps} {i = i} {j = j} {is = is} first second rest) = λ under around fit.
      let all = members_all (map pure_fits (p ∷ q ∷ ps)) (numbers around) under (tested (pure_of.And (p ∷ q ∷ ps)) _ (fold-And pure_fits_level (p ∷ q ∷ ps)) (numbers around) under fit) in
      let f = first_fits p (q ∷ ps) around under all in
      let g = first_fits q ps around under f.1 in
      conj_all under around (p ∷ q ∷ ps) (item i ∷ item j ∷ map item is) (another (item_reads p i first under around f.0) (another (item_reads q j second under around g.0) (items_read ps is rest under around g.1)))

  pub items_read : (ps : List Pure) (is : List ItemTree) → AreItems ps is → (under : Bool) (around : List Named) → AllFit ps around under → Pairwise (ItemGives under around) ps (map item is)
  items_read _ _ no_item = λ under around fit. none
  items_read _ _ (another_item {p = p} {ps = ps} {i = i} {is = is} first rest) = λ under around fit. let f = first_fits p ps around under fit in another (item_reads p i first under around f.0) (items_read ps is rest under around f.1)
