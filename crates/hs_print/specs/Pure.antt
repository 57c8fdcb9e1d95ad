-- The texts of pure formulas.
use Rattle.std.specs.Prelude.{ℕ, zero, suc, ℤ, Bool, true, false, List, [], ◌∷◌, ◌++◌, length, codes}
use Rattle.std.specs.Fmt.{signed_decimal}
use Rattle.hs_pure.specs.declared.var.Var.{Var}
use Rattle.hs_pure.specs.declared.lin.Lin.{Lin}
use Rattle.hs_pure.specs.declared.bag.Bag.{Bag}
use Rattle.hs_pure.specs.declared.pure.Pure.{Pure, fold-Pure}
use Rattle.hs_pure.specs.declared.pure.Pure.TheOpen.{Pure-F}
use Rattle.hs_print.specs.declared.place.Place.{Place}
use Rattle.hs_print.specs.declared.place.Place.TheVariants.{Alone, Member, Denied}
use Rattle.hs_print.specs.declared.place.Class.{Class}
use Rattle.hs_print.specs.declared.place.Class.TheVariants.{Equation, Relation, Connective, DeniedEquation, Item}
use Rattle.hs_print.specs.declared.place.Signs.{Signs}
use Rattle.hs_print.specs.declared.place.Signs.TheVariants.{And, Or}
use Rattle.hs_print.specs.Lists.{separated}
use Rattle.hs_print.specs.Variable.{Naming, variable_text}
use Rattle.hs_print.specs.Linear.{linear_text, bag_text}

-- What a formula prints: the body is its text, or that of its denial for an equation.
pub record Printed : Type 0 where
  pub class : Class
  pub body : Bool → List ℕ

abbrev pub is_denied : Place → Bool
is_denied Alone = false
is_denied Member = false
is_denied Denied = true

-- a connective inside another one stands in parentheses; a denial has its mark, and parentheses round a
-- relation or connective, unless the relation is an equation, whose sign denies it
abbrev pub opening : Place → Class → List ℕ
opening Alone c = []
opening Member Equation = []
opening Member Relation = []
opening Member Connective = codes "("
opening Member DeniedEquation = []
opening Member Item = []
opening Denied Equation = []
opening Denied Relation = codes "!("
opening Denied Connective = codes "!("
opening Denied DeniedEquation = codes "!("
opening Denied Item = codes "!"

abbrev pub closing : Place → Class → List ℕ
closing Alone c = []
closing Member Equation = []
closing Member Relation = []
closing Member Connective = codes ")"
closing Member DeniedEquation = []
closing Member Item = []
closing Denied Equation = []
closing Denied Relation = codes ")"
closing Denied Connective = codes ")"
closing Denied DeniedEquation = codes ")"
closing Denied Item = []

abbrev pub text_at : Place → Printed → List ℕ
text_at place p = opening place p.class ++ (p.body (is_denied place) ++ closing place p.class)

abbrev pub equation_sign : Bool → List ℕ
equation_sign true = codes " != "
equation_sign false = codes " = "

abbrev pub denied_class : Class → Class
denied_class Equation = DeniedEquation
denied_class c = Item

abbrev pub item : List ℕ → Printed
item text = record { class = Item; body = λ b. text }

abbrev pub relation : List ℕ → Printed
relation text = record { class = Relation; body = λ b. text }

abbrev pub between : Signs → List ℕ
between And = codes " & "
between Or = codes " | "

abbrev pub none : Signs → List ℕ
none And = codes "true"
none Or = codes "false"

-- the members with a sign between them, or the word for none
abbrev pub members_text : Signs → List Printed → List ℕ
members_text signs [] = none signs
members_text signs (p ∷ ps) = separated (between signs) (text_at Member) (p ∷ ps)

-- by how many members there are
abbrev pub members_class : ℕ → Class
members_class zero = Item
members_class (suc n) = Connective

abbrev pub connective : Signs → List Printed → Printed
connective signs ps = record { class = members_class (length ps); body = λ b. members_text signs ps }

module _ (names : Naming) where
  abbrev pub sums_text : Lin → List ℕ → Lin → List ℕ
  sums_text a sign b = linear_text names a ++ (sign ++ linear_text names b)

  abbrev pub bags_text : Bag → List ℕ → Bag → List ℕ
  bags_text a sign b = bag_text names a ++ (sign ++ bag_text names b)

  -- a quantifier with its word
  abbrev pub quantified_text : List ℕ → Var → Printed → List ℕ
  quantified_text word u p = word ++ (variable_text names u ++ (codes ". " ++ (text_at Alone p ++ codes ")")))

  abbrev pub membership_text : Lin → Bag → List ℕ
  membership_text a b = linear_text names a ++ (codes " in " ++ bag_text names b)

  -- what an `all` binds, and its bag
  abbrev pub each_of_text : Var → Bag → List ℕ
  each_of_text u b = codes "all " ++ (variable_text names u ++ (codes " in " ++ (bag_text names b ++ codes ": (")))

  abbrev pub divides_text : ℤ → Lin → List ℕ
  divides_text d a = codes "divides(" ++ (signed_decimal d ++ (codes ", " ++ (linear_text names a ++ codes ")")))

  abbrev pub pure_level : Pure-F Printed → Printed
  pure_level (Pure-F.Eq a b) = record { class = Equation; body = λ d. sums_text a (equation_sign d) b }
  pure_level (Pure-F.Lt a b) = relation (sums_text a (codes " < ") b)
  pure_level (Pure-F.Le a b) = relation (sums_text a (codes " <= ") b)
  pure_level (Pure-F.Divides d a) = item (divides_text d a)
  pure_level (Pure-F.BagEq a b) = record { class = Equation; body = λ d. bags_text a (equation_sign d) b }
  pure_level (Pure-F.Subset a b) = relation (bags_text a (codes " subset ") b)
  pure_level (Pure-F.Member a b) = relation (membership_text a b)
  pure_level (Pure-F.AllOf u b p) = item (each_of_text u b ++ (text_at Alone p ++ codes ")"))
  pure_level (Pure-F.Not p) = record { class = denied_class p.class; body = λ d. text_at Denied p }
  pure_level (Pure-F.And ps) = connective And ps
  pure_level (Pure-F.Or ps) = connective Or ps
  pure_level (Pure-F.Exists u p) = item (quantified_text (codes "(exists ") u p)
  pure_level (Pure-F.Forall u p) = item (quantified_text (codes "(forall ") u p)

  abbrev pub printed : Pure → Printed
  printed = fold-Pure Printed pure_level

  -- the text of a formula by itself
  abbrev pub pure_text : Pure → List ℕ
  pure_text p = text_at Alone (printed p)

  -- its text inside another connective, and as a conjunct of a disjunct
  abbrev pub member_text : Pure → List ℕ
  member_text p = text_at Member (printed p)
