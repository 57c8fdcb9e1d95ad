-- What several formulas have, as the code reads them one after another.
use Rattle.std.specs.Prelude.{ℕ, ◌+◌, Bool, List, [], ◌∷◌, ◌++◌}
use Rattle.hs_pure.specs.declared.var.Var.{Var}
use Rattle.hs_pure.specs.declared.lin.Lin.{Lin}
use Rattle.hs_pure.specs.declared.pure.Pure.{Pure}
use Rattle.hs_pure.specs.Assertion.{assertion_of}
use Rattle.hs_reduction.specs.Layout.{terms, names, compounds, denied}

abbrev pub terms_of : Pure → List Lin
terms_of p = terms (assertion_of p)

abbrev pub all_terms : List Pure → List Lin
all_terms [] = []
all_terms (p ∷ ps) = terms_of p ++ all_terms ps

abbrev pub names_of : Pure → List Var → List Var
names_of p = names (assertion_of p)

abbrev pub all_names : List Pure → List Var → List Var
all_names [] vs = vs
all_names (p ∷ ps) vs = all_names ps (names_of p vs)

abbrev pub compounds_of : Pure → ℕ
compounds_of p = compounds (assertion_of p)

abbrev pub all_compounds : List Pure → ℕ
all_compounds [] = 0
all_compounds (p ∷ ps) = compounds_of p + all_compounds ps

abbrev pub denied_of : Bool → Pure → ℕ
denied_of asserted p = denied asserted (assertion_of p)

abbrev pub all_denied : Bool → List Pure → ℕ
all_denied asserted [] = 0
all_denied asserted (p ∷ ps) = denied_of asserted p + all_denied asserted ps
