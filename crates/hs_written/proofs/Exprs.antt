-- A written sum or bag is read as itself.
use Rattle.std.proofs.Common.{◌≡◌, ℕ, ℤ, Bool, true, false, ◌&&◌, nat_eq, if◌then◌else◌, List, [], ◌∷◌, ◌++◌, length, map, Some, None, slice_get, refl, sym, ap, ◌∙◌, arith}
use Rattle.std.specs.Bool.{IsTrue}
use Rattle.std.specs.Fmt.{decimal}
use Rattle.std.proofs.lemmas.Bool.Decides.{nat_tests}
use Rattle.hs_tree.specs.declared.ident.Ident.{Ident}
use Rattle.hs_tree.specs.declared.expr.PartTree.{PartTree}
use Rattle.hs_tree.specs.declared.expr.PartTree.TheVariants as part
use Rattle.hs_tree.specs.declared.expr.ExprTree.{ExprTree, fold-roll-ExprTree}
use Rattle.hs_tree.specs.declared.expr.ExprKind.{ExprKind, fold-ExprKind, fold-roll-ExprKind}
use Rattle.hs_tree.specs.declared.expr.ExprKind.TheOpen.{ExprKind-F}
use Rattle.hs_tree.specs.declared.expr.ExprKind.TheVariants as kind
use Rattle.hs_pure.specs.declared.var.Var.{Var}
use Rattle.hs_pure.specs.declared.lin.Lin.{Lin}
use Rattle.hs_pure.specs.declared.bag.Bag.{Bag}
use Rattle.hs_pure.specs.declared.bag.Bag.TheVariants as set
use Rattle.hs_pure.proofs.Views.{fold_bag-Name, fold_bag-One, fold_bag-Union, fold_bag-Inter, fold_bag-Diff}
use Rattle.hs_numbering.specs.declared.numbering.Named.{Named}
use Rattle.hs_numbering.specs.declared.numbering.Numbering.{Numbering}
use Rattle.hs_numbering.specs.Names.{is_upper}
use Rattle.hs_numbering.specs.Numbering.{◌<$>◌, resolve}
use Rattle.hs_norm_formula.specs.Expr.{Readings, names_bag, name_of, bare_name, no_bag, joined, both, kind_level, readings, number, bag, bare, is_bag}
use Rattle.hs_print.specs.Variable.{letter, numbered_text}
use Rattle.hs_written.specs.Writable.{has_number, terms_fit, sum_fits, bag_fits_level, bag_fits}
use Rattle.hs_written.specs.Written.{IsTimes, once, times, AreParts, nothing, constant, IsSum, IsBare, IsBag}
use Rattle.hs_written.specs.Written as written
use Rattle.hs_written.proofs.Names.{both_true}
use Rattle.hs_written.proofs.State.{inside, resolve-numbered}
use Rattle.hs_written.proofs.Sums.{term_fits, sum-numbered}

-- ---- what a kind is

abbrev kind_of : ExprKind → ℕ → Readings
kind_of = fold-ExprKind (ℕ → Readings) Readings kind_level (λ e. e.kind e.at)

readings-tree : (k : ExprKind) (at : ℕ) → readings (record { kind = k; at = at }) ≡ kind_of k at
readings-tree k at = fold-roll-ExprTree (ℕ → Readings) Readings kind_level (λ e. e.kind e.at) (record { kind = k; at = at })

readings-Sum : (ps : List (Bool × PartTree)) (at : ℕ) → readings (record { kind = kind.Sum ps; at = at }) ≡ kind_level (ExprKind-F.Sum ps) at
readings-Sum ps at = readings-tree (kind.Sum ps) at ∙ ap (λ k. kind_of k at) (sym (kind.rolls-Sum ps))
    ∙ ap (λ r. r at) (fold-roll-ExprKind (ℕ → Readings) Readings kind_level (λ e. e.kind e.at) (ExprKind-F.Sum ps))

readings-Braces : (es : List ExprTree) (at : ℕ) → readings (record { kind = kind.Braces es; at = at }) ≡ kind_level (ExprKind-F.Braces (map readings es)) at
readings-Braces es at = readings-tree (kind.Braces es) at ∙ ap (λ k. kind_of k at) (sym (kind.rolls-Braces es))
    ∙ ap (λ r. r at) (fold-roll-ExprKind (ℕ → Readings) Readings kind_level (λ e. e.kind e.at) (ExprKind-F.Braces es))

readings-Union : (l r : ExprTree) (at : ℕ) → readings (record { kind = kind.Union l r; at = at }) ≡ kind_level (ExprKind-F.Union (readings l) (readings r)) at
readings-Union l r at = readings-tree (kind.Union l r) at ∙ ap (λ k. kind_of k at) (sym (kind.rolls-Union l r))
    ∙ ap (λ e. e at) (fold-roll-ExprKind (ℕ → Readings) Readings kind_level (λ e. e.kind e.at) (ExprKind-F.Union l r))

readings-Inter : (l r : ExprTree) (at : ℕ) → readings (record { kind = kind.Inter l r; at = at }) ≡ kind_level (ExprKind-F.Inter (readings l) (readings r)) at
readings-Inter l r at = readings-tree (kind.Inter l r) at ∙ ap (λ k. kind_of k at) (sym (kind.rolls-Inter l r))
    ∙ ap (λ e. e at) (fold-roll-ExprKind (ℕ → Readings) Readings kind_level (λ e. e.kind e.at) (ExprKind-F.Inter l r))

readings-Diff : (l r : ExprTree) (at : ℕ) → readings (record { kind = kind.Diff l r; at = at }) ≡ kind_level (ExprKind-F.Diff (readings l) (readings r)) at
readings-Diff l r at = readings-tree (kind.Diff l r) at ∙ ap (λ k. kind_of k at) (sym (kind.rolls-Diff l r))
    ∙ ap (λ e. e at) (fold-roll-ExprKind (ℕ → Readings) Readings kind_level (λ e. e.kind e.at) (ExprKind-F.Diff l r))

-- ---- sums

pub number-sum : (a : Lin) (e : ExprTree) (around : List Named) → IsTrue (sum_fits a) → IsSum a e → number e (inside around) ≡ (a, inside around)
unfolding number
number-sum a _ around fit (written.sum {ps = ps} {at = at} is) = ap (λ (r : Readings). r.number (inside around)) (readings-Sum ps at) ∙ sum-numbered a ps at around fit is

-- a number's name begins with a small letter, and a bag's with a capital
is_upper-text : (v : Var) → is_upper (numbered_text v) ≡ v.bag
is_upper-text v = of v.bag
  where
    of : (b : Bool) → is_upper (letter b ++ decimal v.number) ≡ b
    of true = refl
    of false = refl

alone : (t : Bool × PartTree) (ps : List (Bool × PartTree)) → names_bag (name_of (Some t)) ≡ false → names_bag (bare_name (t ∷ ps)) ≡ false
alone t [] h = h
alone t (p ∷ ps) h = let e : nat_eq (length (t ∷ p ∷ ps)) 1 ≡ false = grind (arith, nat_tests) in ap (λ b. names_bag (if b then name_of (slice_get (t ∷ p ∷ ps) 0) else None)) e

no_name-Number : (minus : Bool) (n : ℕ) → names_bag (name_of (Some (minus, part.Number n))) ≡ false
no_name-Number true n = refl
no_name-Number false n = refl

no_bag-times : (v : Var) (minus : Bool) (n : ℕ) (p : PartTree) → v.bag ≡ false → IsTimes v n p → names_bag (name_of (Some (minus, p))) ≡ false
no_bag-times v true n _ kind (once e is) = refl
no_bag-times v false n _ kind (once e is) = ap is_upper is ∙ is_upper-text v ∙ kind
no_bag-times v true n _ kind (times is) = refl
no_bag-times v false n _ kind (times is) = refl

no_bag-parts : (k : ℕ) (ts : List (Var × ℤ)) (c : ℤ) (ps : List (Bool × PartTree)) → IsTrue (terms_fit k ts) → AreParts ts c ps → names_bag (bare_name ps) ≡ false
no_bag-parts k _ c _ fit (nothing e) = refl
no_bag-parts k _ c _ fit (constant {minus = minus} {n = n} e) = alone (minus, part.Number n) [] (no_name-Number minus n)
no_bag-parts k _ c _ fit (written.term {t = t} {ts = ts} {minus = minus} {n = n} {p = p} {ps = ps} is often rest) =
    alone (minus, p) ps (no_bag-times t.0 minus n p (term_fits k t ts fit).kind often)

pub is_bag-sum : (a : Lin) (e : ExprTree) → IsTrue (sum_fits a) → IsSum a e → is_bag e ≡ false
unfolding is_bag
is_bag-sum a _ fit (written.sum {ps = ps} {at = at} is) =
    ap (λ (r : Readings). r.is_bag) (readings-Sum ps at) ∙ no_bag-parts 0 a.terms a.constant ps (both_true (terms_fit 0 a.terms) _ fit).0 is

-- ---- bags

record IsRead (b : Bag) (e : ExprTree) (around : List Named) : Type 0 where
  test : (readings e).is_bag ≡ true
  value : (readings e).bag (inside around) ≡ (b, inside around)

module _ (around : List Named) where
  name_read : (v : Var) (e : ExprTree) → IsTrue (v.bag && has_number v) → IsBare v e → IsRead (set.Name v) e around
  name_read v _ fit (written.bare {x = x} {at = at} is) =
      let fits = both_true v.bag (has_number v) fit in
      let upper : is_upper x.text ≡ true = ap is_upper is ∙ is_upper-text v ∙ fits.0 in record {
        test = ap (λ (r : Readings). r.is_bag) (readings-Sum ((false, part.Name x) ∷ []) at) ∙ upper;
        value = ap (λ (r : Readings). r.bag (inside around)) (readings-Sum ((false, part.Name x) ∷ []) at)
            ∙ ap (λ b. (if b then set.Name <$> resolve x else no_bag ((false, part.Name x) ∷ []) at) (inside around)) upper
            ∙ ap (λ (z : Var × Numbering). (set.Name z.0, z.1)) (resolve-numbered v x around fits.1 is);
      }

  one_read : (a : Lin) (e : ExprTree) (at : ℕ) → IsTrue (sum_fits a) → IsSum a e → IsRead (set.One a) (record { kind = kind.Braces (e ∷ []); at = at }) around
  unfolding number
  one_read a e at fit is = record {
    test = ap (λ (r : Readings). r.is_bag) (readings-Braces (e ∷ []) at);
    value = ap (λ (r : Readings). r.bag (inside around)) (readings-Braces (e ∷ []) at) ∙ ap (λ (z : Lin × Numbering). (joined (z.0 ∷ []), z.1)) (number-sum a e around fit is);
  }

  both_read : (operation : Bag → Bag → Bag) (a b : Bag) (l r : ExprTree) → (readings l).bag (inside around) ≡ (a, inside around) → (readings r).bag (inside around) ≡ (b, inside around) →
      both operation (readings l).bag (readings r).bag (inside around) ≡ (operation a b, inside around)
  both_read operation a b l r left right =
      ap (λ (z : Bag × Numbering). (operation z.0 ((readings r).bag z.1).0, ((readings r).bag z.1).1)) left ∙ ap (λ (z : Bag × Numbering). (operation a z.0, z.1)) right

  bag_read : (b : Bag) (e : ExprTree) → IsTrue (bag_fits b) → IsBag b e → IsRead b e around
  bag_read _ _ fit (written.empty {at = at}) = record {
    test = ap (λ (r : Readings). r.is_bag) (readings-Braces [] at);
    value = ap (λ (r : Readings). r.bag (inside around)) (readings-Braces [] at);
  }
  bag_read _ _ fit (written.name {v = v} {e = e} is) = name_read v e (sym (fold_bag-Name bag_fits_level v) ∙ fit) is
  bag_read _ _ fit (written.one {a = a} {e = e} {at = at} is) = one_read a e at (sym (fold_bag-One bag_fits_level a) ∙ fit) is
  bag_read _ _ fit (written.union {a = a} {b = b} {l = l} {r = r} {at = at} left right) =
      let fits = both_true (bag_fits a) (bag_fits b) (sym (fold_bag-Union bag_fits_level a b) ∙ fit) in record {
        test = ap (λ (e : Readings). e.is_bag) (readings-Union l r at);
        value = ap (λ (e : Readings). e.bag (inside around)) (readings-Union l r at) ∙ both_read set.Union a b l r (bag_read a l fits.0 left).value (bag_read b r fits.1 right).value;
      }
  bag_read _ _ fit (written.inter {a = a} {b = b} {l = l} {r = r} {at = at} left right) =
      let fits = both_true (bag_fits a) (bag_fits b) (sym (fold_bag-Inter bag_fits_level a b) ∙ fit) in record {
        test = ap (λ (e : Readings). e.is_bag) (readings-Inter l r at);
        value = ap (λ (e : Readings). e.bag (inside around)) (readings-Inter l r at) ∙ both_read set.Inter a b l r (bag_read a l fits.0 left).value (bag_read b r fits.1 right).value;
      }
  bag_read _ _ fit (written.diff {a = a} {b = b} {l = l} {r = r} {at = at} left right) =
      let fits = both_true (bag_fits a) (bag_fits b) (sym (fold_bag-Diff bag_fits_level a b) ∙ fit) in record {
        test = ap (λ (e : Readings). e.is_bag) (readings-Diff l r at);
        value = ap (λ (e : Readings). e.bag (inside around)) (readings-Diff l r at) ∙ both_read set.Diff a b l r (bag_read a l fits.0 left).value (bag_read b r fits.1 right).value;
      }

  pub bag-bag : (b : Bag) (e : ExprTree) → IsTrue (bag_fits b) → IsBag b e → bag e (inside around) ≡ (b, inside around)
  unfolding bag
  bag-bag b e fit is = (bag_read b e fit is).value

pub is_bag-bag : (b : Bag) (e : ExprTree) → IsTrue (bag_fits b) → IsBag b e → is_bag e ≡ true
unfolding is_bag
is_bag-bag b e fit is = (bag_read [] b e fit is).test

-- ---- names alone

pub bare-bare : (x : Ident) (at : ℕ) → bare (record { kind = kind.Sum ((false, part.Name x) ∷ []); at = at }) ≡ Some x
unfolding bare
bare-bare x at = ap (λ (r : Readings). r.name) (readings-Sum ((false, part.Name x) ∷ []) at)
