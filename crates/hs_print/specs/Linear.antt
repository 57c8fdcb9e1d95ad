-- The texts of sums and bags.
use Rattle.std.specs.Prelude.{ℕ, ◌==◌, if◌then◌else◌, List, [], ◌∷◌, ◌++◌, codes, ℤ, pos, negsuc, unsigned_abs}
use Rattle.std.specs.Fmt.{decimal, signed_decimal}
use Rattle.hs_pure.specs.declared.var.Var.{Var}
use Rattle.hs_pure.specs.declared.lin.Lin.{Lin}
use Rattle.hs_pure.specs.declared.bag.Bag.{Bag, fold-Bag}
use Rattle.hs_pure.specs.declared.bag.Bag.TheOpen.{Bag-F}
use Rattle.hs_print.specs.Variable.{Naming, variable_text}

-- a term without its sign
abbrev pub magnitude_text : Naming → Var → ℕ → List ℕ
magnitude_text names v n = if n == 1 then variable_text names v else decimal n ++ (codes "*" ++ variable_text names v)

-- the sign of a first term, and of a later part
abbrev pub first_sign : ℤ → List ℕ
first_sign (pos n) = []
first_sign (negsuc n) = codes "-"

abbrev pub later_sign : ℤ → List ℕ
later_sign (pos n) = codes " + "
later_sign (negsuc n) = codes " - "

abbrev pub first_term : Naming → Var × ℤ → List ℕ
first_term names t = first_sign t.1 ++ magnitude_text names t.0 (unsigned_abs t.1)

abbrev pub later_terms : Naming → List (Var × ℤ) → List ℕ
later_terms names [] = []
later_terms names (t ∷ ts) = later_sign t.1 ++ (magnitude_text names t.0 (unsigned_abs t.1) ++ later_terms names ts)

-- a constant behind terms; 0 is left out
abbrev pub later_constant : ℤ → List ℕ
later_constant c = if unsigned_abs c == 0 then [] else later_sign c ++ decimal (unsigned_abs c)

abbrev pub sum_text : Naming → List (Var × ℤ) → ℤ → List ℕ
sum_text names [] c = signed_decimal c
sum_text names (t ∷ ts) c = first_term names t ++ (later_terms names ts ++ later_constant c)

abbrev pub linear_text : Naming → Lin → List ℕ
linear_text names a = sum_text names a.terms a.constant

-- ---- bags

abbrev pub operation_text : List ℕ → List ℕ → List ℕ → List ℕ
operation_text name a b = name ++ (a ++ (codes ", " ++ (b ++ codes ")")))

abbrev pub bag_level : Naming → Bag-F (List ℕ) → List ℕ
bag_level names Bag-F.Empty = codes "{}"
bag_level names (Bag-F.Name v) = variable_text names v
bag_level names (Bag-F.One a) = codes "{" ++ (linear_text names a ++ codes "}")
bag_level names (Bag-F.Union a b) = operation_text (codes "union(") a b
bag_level names (Bag-F.Inter a b) = operation_text (codes "inter(") a b
bag_level names (Bag-F.Diff a b) = operation_text (codes "diff(") a b

abbrev pub bag_text : Naming → Bag → List ℕ
bag_text names = fold-Bag (List ℕ) (bag_level names)
