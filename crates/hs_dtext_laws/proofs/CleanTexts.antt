-- The texts of formulas have no line ends, slashes and semicolons.
use Rattle.std.proofs.Common.{ℕ, zero, suc, ℤ, pos, negsuc, unsigned_abs, Bool, true, false, ◌==◌, List, [], ◌∷◌, ◌++◌, map, None, refl, sym, subst, inl, inr}
use Rattle.std.specs.Prelude.{codes, slice_get}
use Rattle.std.specs.List.{AllByRecursion}
use Rattle.std.specs.Fmt.{decimal, signed_decimal}
use Rattle.std.proofs.lemmas.Bool.{cases_Bool}
use Rattle.hs_pure.specs.declared.var.Var.{Var}
use Rattle.hs_pure.specs.declared.lin.Lin.{Lin}
use Rattle.hs_pure.specs.declared.bag.Bag.{Bag, ind-Bag, fold-roll-Bag, map-Bag, roll-Bag}
use Rattle.hs_pure.specs.declared.bag.Bag.TheOpen.{Bag-F}
use Rattle.hs_pure.specs.declared.pure.Pure.{Pure, ind-Pure, fold-roll-Pure, map-Pure, roll-Pure}
use Rattle.hs_pure.specs.declared.pure.Pure.TheOpen.{Pure-F}
use Rattle.hs_heap.specs.declared.formula.Of.{Of}
use Rattle.hs_heap.specs.declared.formula.Of.TheVariants.{Node, Pred}
use Rattle.hs_heap.specs.declared.formula.Atom.{Atom}
use Rattle.hs_heap.specs.declared.formula.Disjunct.{Disjunct}
use Rattle.hs_heap.specs.declared.formula.Formula.{Formula}
use Rattle.hs_heap.specs.declared.definitions.NodeDef.{NodeDef}
use Rattle.hs_heap.specs.declared.definitions.PredDef.{PredDef}
use Rattle.hs_heap.specs.declared.definitions.Defs.{Defs}
use Rattle.hs_print.specs.declared.place.Place.{Place}
use Rattle.hs_print.specs.declared.place.Place.TheVariants.{Alone, Member, Denied}
use Rattle.hs_print.specs.declared.place.Class.{Class}
use Rattle.hs_print.specs.declared.place.Class.TheVariants.{Equation, Relation, Connective, DeniedEquation, Item}
use Rattle.hs_print.specs.declared.place.Signs.{Signs}
use Rattle.hs_print.specs.declared.place.Signs.TheVariants.{And, Or}
use Rattle.hs_print.specs.Lists.{each_after}
use Rattle.hs_print.specs.Variable.{numbered_text}
use Rattle.hs_print.specs.Linear.{magnitude_text, first_sign, later_sign, first_term, later_terms, later_constant, sum_text, linear_text, operation_text, bag_level, bag_text}
use Rattle.hs_print.specs.Pure.{Printed, is_denied, opening, closing, text_at, equation_sign, between, none, members_text, sums_text, bags_text, quantified_text, each_of_text, divides_text, pure_level, printed, pure_text, member_text}
use Rattle.hs_print.specs.Formula.{node_name, pred_name, of_text, variables_text, atom_text, atoms_text, bound_text, disjunct_text, cases_text, formula_text}
use Rattle.hs_written.specs.Writable.{IsSourceName, DefsAreWritable}
use Rattle.hs_dtext_laws.proofs.Clean.{Clean, join, with_clean, decimal_clean, signed_clean, name_clean, variable_clean}

-- ---- sums

magnitude_clean : (v : Var) (n : ℕ) → Clean (magnitude_text None v n)
magnitude_clean v n =
    elim (cases_Bool (n == 1)) [
      | inl is ↦ rw is (variable_clean v)
      | inr other ↦ rw other (join (decimal n) (42 ∷ numbered_text v) (decimal_clean n) (refl, variable_clean v))
    ]

later_sign_clean : (z : ℤ) → Clean (later_sign z)
later_sign_clean (pos n) = (refl, (refl, (refl, tt)))
later_sign_clean (negsuc n) = (refl, (refl, (refl, tt)))

first_sign_clean : (z : ℤ) → Clean (first_sign z)
first_sign_clean (pos n) = tt
first_sign_clean (negsuc n) = (refl, tt)

later_terms_clean : (ts : List (Var × ℤ)) → Clean (later_terms None ts)
later_terms_clean [] = tt
later_terms_clean (t ∷ ts) =
    join (later_sign t.1) (magnitude_text None t.0 (unsigned_abs t.1) ++ later_terms None ts) (later_sign_clean t.1)
    (join (magnitude_text None t.0 (unsigned_abs t.1)) (later_terms None ts) (magnitude_clean t.0 (unsigned_abs t.1)) (later_terms_clean ts))

later_constant_clean : (c : ℤ) → Clean (later_constant c)
later_constant_clean c =
    elim (cases_Bool (unsigned_abs c == 0)) [
      | inl is ↦ rw is tt
      | inr other ↦ rw other (join (later_sign c) (decimal (unsigned_abs c)) (later_sign_clean c) (decimal_clean (unsigned_abs c)))
    ]

sum_clean : (ts : List (Var × ℤ)) (c : ℤ) → Clean (sum_text None ts c)
sum_clean [] c = signed_clean c
sum_clean (t ∷ ts) c =
    join (first_term None t) (later_terms None ts ++ later_constant c)
    (join (first_sign t.1) (magnitude_text None t.0 (unsigned_abs t.1)) (first_sign_clean t.1) (magnitude_clean t.0 (unsigned_abs t.1)))
    (join (later_terms None ts) (later_constant c) (later_terms_clean ts) (later_constant_clean c))

linear_clean : (a : Lin) → Clean (linear_text None a)
linear_clean a = sum_clean a.terms a.constant

-- ---- bags

abbrev OfBag : Bag → Type 0
OfBag b = Clean (bag_text None b)

abbrev KnownBag : Type 0
KnownBag = (b : Bag) × OfBag b

abbrev bag_of : KnownBag → Bag
bag_of e = e.0

operation_clean : (name a b : List ℕ) → Clean name → Clean a → Clean b → Clean (operation_text name a b)
operation_clean name a b h f g =
    join name (a ++ (codes ", " ++ (b ++ codes ")"))) h
    (join a (codes ", " ++ (b ++ codes ")")) f
    (refl, (refl, join b (codes ")") g (refl, tt))))

union_clean : Clean (codes "union(")
union_clean = (refl, (refl, (refl, (refl, (refl, (refl, tt))))))

inter_clean : Clean (codes "inter(")
inter_clean = (refl, (refl, (refl, (refl, (refl, (refl, tt))))))

diff_clean : Clean (codes "diff(")
diff_clean = (refl, (refl, (refl, (refl, (refl, tt)))))

abbrev BagAt : Bag-F Bag → Type 0
BagAt x = Clean (bag_level None (map-Bag Bag (List ℕ) (bag_text None) x))

bag_level_clean : (y : Bag-F KnownBag) → BagAt (map-Bag KnownBag Bag bag_of y)
bag_level_clean Bag-F.Empty = (refl, (refl, tt))
bag_level_clean (Bag-F.Name v) = variable_clean v
bag_level_clean (Bag-F.One a) = (refl, join (linear_text None a) (codes "}") (linear_clean a) (refl, tt))
bag_level_clean (Bag-F.Union a b) = operation_clean (codes "union(") (bag_text None a.0) (bag_text None b.0) union_clean a.1 b.1
bag_level_clean (Bag-F.Inter a b) = operation_clean (codes "inter(") (bag_text None a.0) (bag_text None b.0) inter_clean a.1 b.1
bag_level_clean (Bag-F.Diff a b) = operation_clean (codes "diff(") (bag_text None a.0) (bag_text None b.0) diff_clean a.1 b.1

bag_rolled : (x : Bag-F Bag) → BagAt x → OfBag (roll-Bag x)
bag_rolled x h = subst Clean (sym (fold-roll-Bag (List ℕ) (bag_level None) x)) h

bag_clean : (b : Bag) → OfBag b
bag_clean = ind-Bag OfBag (λ x y is. bag_rolled x (subst BagAt is (bag_level_clean y)))

-- ---- pure formulas

opening_clean : (place : Place) (c : Class) → Clean (opening place c)
opening_clean Alone c = tt
opening_clean Member Equation = tt
opening_clean Member Relation = tt
opening_clean Member Connective = (refl, tt)
opening_clean Member DeniedEquation = tt
opening_clean Member Item = tt
opening_clean Denied Equation = tt
opening_clean Denied Relation = (refl, (refl, tt))
opening_clean Denied Connective = (refl, (refl, tt))
opening_clean Denied DeniedEquation = (refl, (refl, tt))
opening_clean Denied Item = (refl, tt)

closing_clean : (place : Place) (c : Class) → Clean (closing place c)
closing_clean Alone c = tt
closing_clean Member Equation = tt
closing_clean Member Relation = tt
closing_clean Member Connective = (refl, tt)
closing_clean Member DeniedEquation = tt
closing_clean Member Item = tt
closing_clean Denied Equation = tt
closing_clean Denied Relation = (refl, tt)
closing_clean Denied Connective = (refl, tt)
closing_clean Denied DeniedEquation = (refl, tt)
closing_clean Denied Item = tt

abbrev IsCleanPrinted : Printed → Type 0
IsCleanPrinted p = (b : Bool) → Clean (p.body b)

at_clean : (place : Place) (p : Printed) → IsCleanPrinted p → Clean (text_at place p)
at_clean place p h =
    join (opening place p.class) (p.body (is_denied place) ++ closing place p.class) (opening_clean place p.class)
    (join (p.body (is_denied place)) (closing place p.class) (h (is_denied place)) (closing_clean place p.class))

abbrev OfPure : Pure → Type 0
OfPure p = IsCleanPrinted (printed None p)

abbrev KnownPure : Type 0
KnownPure = (p : Pure) × OfPure p

abbrev pure_part : KnownPure → Pure
pure_part e = e.0

sign_clean : (d : Bool) → Clean (equation_sign d)
sign_clean true = (refl, (refl, (refl, (refl, tt))))
sign_clean false = (refl, (refl, (refl, tt)))

between_clean : (s : Signs) → Clean (between s)
between_clean And = (refl, (refl, (refl, tt)))
between_clean Or = (refl, (refl, (refl, tt)))

none_clean : (s : Signs) → Clean (none s)
none_clean And = (refl, (refl, (refl, (refl, tt))))
none_clean Or = (refl, (refl, (refl, (refl, (refl, tt)))))

sums_clean : (a : Lin) (sign : List ℕ) (b : Lin) → Clean sign → Clean (sums_text None a sign b)
sums_clean a sign b h = join (linear_text None a) (sign ++ linear_text None b) (linear_clean a) (join sign (linear_text None b) h (linear_clean b))

bags_clean : (a : Bag) (sign : List ℕ) (b : Bag) → Clean sign → Clean (bags_text None a sign b)
bags_clean a sign b h = join (bag_text None a) (sign ++ bag_text None b) (bag_clean a) (join sign (bag_text None b) h (bag_clean b))

members_each : (es : List KnownPure) → AllByRecursion (λ p. Clean (text_at Member p)) (map (printed None) (map pure_part es))
members_each [] = tt
members_each (e ∷ es) = (at_clean Member (printed None e.0) e.1, members_each es)

members_clean : (s : Signs) (es : List KnownPure) → Clean (members_text s (map (printed None) (map pure_part es)))
members_clean s [] = none_clean s
members_clean s (e ∷ es) = with_clean [] (between s) (text_at Member) (map (printed None) (map pure_part (e ∷ es))) tt (between_clean s) (members_each (e ∷ es))

quantified_clean : (word : List ℕ) (u : Var) (e : KnownPure) → Clean word → Clean (quantified_text None word u (printed None e.0))
quantified_clean word u e h =
    join word (numbered_text u ++ (codes ". " ++ (text_at Alone (printed None e.0) ++ codes ")"))) h
    (join (numbered_text u) (codes ". " ++ (text_at Alone (printed None e.0) ++ codes ")")) (variable_clean u)
    (refl, (refl, join (text_at Alone (printed None e.0)) (codes ")") (at_clean Alone (printed None e.0) e.1) (refl, tt))))

all_word_clean : Clean (codes "all ")
all_word_clean = (refl, (refl, (refl, (refl, tt))))

in_word_clean : Clean (codes " in ")
in_word_clean = (refl, (refl, (refl, (refl, tt))))

each_of_clean : (u : Var) (b : Bag) → Clean (each_of_text None u b)
each_of_clean u b =
    join (codes "all ") (numbered_text u ++ (codes " in " ++ (bag_text None b ++ codes ": ("))) all_word_clean
    (join (numbered_text u) (codes " in " ++ (bag_text None b ++ codes ": (")) (variable_clean u)
    (join (codes " in ") (bag_text None b ++ codes ": (") in_word_clean (join (bag_text None b) (codes ": (") (bag_clean b) (refl, (refl, (refl, tt))))))

divides_word_clean : Clean (codes "divides(")
divides_word_clean = (refl, (refl, (refl, (refl, (refl, (refl, (refl, (refl, tt))))))))

divides_clean : (d : ℤ) (a : Lin) → Clean (divides_text None d a)
divides_clean d a =
    join (codes "divides(") (signed_decimal d ++ (codes ", " ++ (linear_text None a ++ codes ")"))) divides_word_clean
    (join (signed_decimal d) (codes ", " ++ (linear_text None a ++ codes ")")) (signed_clean d)
    (refl, (refl, join (linear_text None a) (codes ")") (linear_clean a) (refl, tt))))

exists_word_clean : Clean (codes "(exists ")
exists_word_clean = (refl, (refl, (refl, (refl, (refl, (refl, (refl, (refl, tt))))))))

forall_word_clean : Clean (codes "(forall ")
forall_word_clean = (refl, (refl, (refl, (refl, (refl, (refl, (refl, (refl, tt))))))))

subset_word_clean : Clean (codes " subset ")
subset_word_clean = (refl, (refl, (refl, (refl, (refl, (refl, (refl, (refl, tt))))))))

abbrev PureAt : Pure-F Pure → Type 0
PureAt x = IsCleanPrinted (pure_level None (map-Pure Pure Printed (printed None) x))

level_clean : (y : Pure-F KnownPure) → PureAt (map-Pure KnownPure Pure pure_part y)
level_clean (Pure-F.Eq a b) = λ d. sums_clean a (equation_sign d) b (sign_clean d)
level_clean (Pure-F.Lt a b) = λ d. sums_clean a (codes " < ") b (refl, (refl, (refl, tt)))
level_clean (Pure-F.Le a b) = λ d. sums_clean a (codes " <= ") b (refl, (refl, (refl, (refl, tt))))
level_clean (Pure-F.Divides n a) = λ d. divides_clean n a
level_clean (Pure-F.BagEq a b) = λ d. bags_clean a (equation_sign d) b (sign_clean d)
level_clean (Pure-F.Subset a b) = λ d. bags_clean a (codes " subset ") b subset_word_clean
level_clean (Pure-F.Member a b) = λ d.
    join (linear_text None a) (codes " in " ++ bag_text None b) (linear_clean a) (join (codes " in ") (bag_text None b) in_word_clean (bag_clean b))
level_clean (Pure-F.AllOf u b e) = λ d.
    join (each_of_text None u b) (text_at Alone (printed None e.0) ++ codes ")") (each_of_clean u b) (join (text_at Alone (printed None e.0)) (codes ")") (at_clean Alone (printed None e.0) e.1) (refl, tt))
level_clean (Pure-F.Not e) = λ d. at_clean Denied (printed None e.0) e.1
level_clean (Pure-F.And es) = λ d. members_clean And es
level_clean (Pure-F.Or es) = λ d. members_clean Or es
level_clean (Pure-F.Exists u e) = λ d. quantified_clean (codes "(exists ") u e exists_word_clean
level_clean (Pure-F.Forall u e) = λ d. quantified_clean (codes "(forall ") u e forall_word_clean

pure_rolled : (x : Pure-F Pure) → PureAt x → OfPure (roll-Pure x)
pure_rolled x h = subst IsCleanPrinted (sym (fold-roll-Pure Printed (pure_level None) x)) h

printed_clean : (p : Pure) → OfPure p
printed_clean = ind-Pure OfPure (λ x y is. pure_rolled x (subst PureAt is (level_clean y)))

pub pure_clean : (p : Pure) → Clean (pure_text None p)
pure_clean p = at_clean Alone (printed None p) (printed_clean p)

pub member_clean : (p : Pure) → Clean (member_text None p)
member_clean p = at_clean Member (printed None p) (printed_clean p)

-- ---- names of definitions

all_left : {X : Type 0} (P : X → Type 0) (xs ys : List X) → AllByRecursion P (xs ++ ys) → AllByRecursion P xs
all_left P [] ys h = tt
all_left P (x ∷ xs) ys h = (h.0, all_left P xs ys h.1)

all_right : {X : Type 0} (P : X → Type 0) (xs ys : List X) → AllByRecursion P (xs ++ ys) → AllByRecursion P ys
all_right P [] ys h = h
all_right P (x ∷ xs) ys h = all_right P xs ys h.1

node_clean : (nodes : List NodeDef) (k : ℕ) → AllByRecursion IsSourceName (map (λ d. d.name) nodes) → Clean (node_name (slice_get nodes k))
node_clean [] k all = tt
node_clean (d ∷ nodes) zero all = name_clean d.name all.0.name.run.all
node_clean (d ∷ nodes) (suc k) all = node_clean nodes k all.1

pred_clean : (preds : List PredDef) (k : ℕ) → AllByRecursion IsSourceName (map (λ p. p.name) preds) → Clean (pred_name (slice_get preds k))
pred_clean [] k all = tt
pred_clean (d ∷ preds) zero all = name_clean d.name all.0.name.run.all
pred_clean (d ∷ preds) (suc k) all = pred_clean preds k all.1

module _ (defs : Defs) (fit : DefsAreWritable defs) where
  of_clean : (o : Of) → Clean (of_text defs o)
  of_clean (Node zero) = tt
  of_clean (Node (suc k)) = node_clean defs.nodes k (all_left IsSourceName (map (λ d. d.name) defs.nodes) (map (λ p. p.name) defs.preds) fit.names)
  of_clean (Pred zero) = tt
  of_clean (Pred (suc k)) = pred_clean defs.preds k (all_right IsSourceName (map (λ d. d.name) defs.nodes) (map (λ p. p.name) defs.preds) fit.names)

  -- ---- formulas

  each_variable : (vs : List Var) → AllByRecursion (λ v. Clean (numbered_text v)) vs
  each_variable [] = tt
  each_variable (v ∷ vs) = (variable_clean v, each_variable vs)

  variables_clean : (vs : List Var) → Clean (variables_text None vs)
  variables_clean vs = with_clean [] (codes ", ") numbered_text vs tt (refl, (refl, tt)) (each_variable vs)

  atom_clean : (a : Atom) → Clean (atom_text defs None a)
  atom_clean a =
      join (numbered_text a.root) (codes "::" ++ (of_text defs a.of ++ (codes "<" ++ (variables_text None a.args ++ codes ">")))) (variable_clean a.root) (
        refl,
        (
          refl,
          join (of_text defs a.of) (codes "<" ++ (variables_text None a.args ++ codes ">")) (of_clean a.of)
              (refl, join (variables_text None a.args) (codes ">") (variables_clean a.args) (refl, tt)),
        ),
      )

  each_atom : (xs : List Atom) → AllByRecursion (λ a. Clean (atom_text defs None a)) xs
  each_atom [] = tt
  each_atom (a ∷ xs) = (atom_clean a, each_atom xs)

  pub atoms_clean : (xs : List Atom) → Clean (atoms_text defs None xs)
  atoms_clean [] = (refl, (refl, (refl, tt)))
  atoms_clean (a ∷ xs) = with_clean [] (codes " * ") (atom_text defs None) (a ∷ xs) tt (refl, (refl, (refl, tt))) (each_atom (a ∷ xs))

  bound_word_clean : Clean (codes "exists ")
  bound_word_clean = (refl, (refl, (refl, (refl, (refl, (refl, (refl, tt)))))))

  bound_clean : (vs : List Var) → Clean (bound_text None vs)
  bound_clean [] = tt
  bound_clean (v ∷ vs) = join (codes "exists ") (variables_text None (v ∷ vs) ++ codes ". ") bound_word_clean (join (variables_text None (v ∷ vs)) (codes ". ") (variables_clean (v ∷ vs)) (refl, (refl, tt)))

  each_conjunct : (ps : List Pure) → AllByRecursion (λ p. Clean (member_text None p)) ps
  each_conjunct [] = tt
  each_conjunct (p ∷ ps) = (member_clean p, each_conjunct ps)

  disjunct_clean : (d : Disjunct) → Clean (disjunct_text defs None d)
  disjunct_clean d =
      join (bound_text None d.bound) (atoms_text defs None d.atoms ++ each_after (codes " & ") (member_text None) d.pure) (bound_clean d.bound)
      (join (atoms_text defs None d.atoms) (each_after (codes " & ") (member_text None) d.pure) (atoms_clean d.atoms)
      (with_clean (codes " & ") (codes " & ") (member_text None) d.pure (refl, (refl, (refl, tt))) (refl, (refl, (refl, tt))) (each_conjunct d.pure)))

  each_disjunct : (ds : List Disjunct) → AllByRecursion (λ d. Clean (disjunct_text defs None d)) ds
  each_disjunct [] = tt
  each_disjunct (d ∷ ds) = (disjunct_clean d, each_disjunct ds)

  cases_clean : (ds : List Disjunct) → Clean (cases_text defs None ds)
  cases_clean [] = (refl, (refl, (refl, (refl, tt))))
  cases_clean (d ∷ ds) = with_clean [] (codes " or ") (disjunct_text defs None) (d ∷ ds) tt (refl, (refl, (refl, (refl, tt)))) (each_disjunct (d ∷ ds))

  pub formula_clean : (f : Formula) → Clean (formula_text defs None f)
  formula_clean f = cases_clean f.cases
