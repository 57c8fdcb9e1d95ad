-- Lower bounds, as they are gathered: without their sign.
use Rattle.std.specs.Prelude.{ℕ, zero, suc, List, [], ◌∷◌, ◌++◌, ℤ, pos, negsuc}
use Rattle.hs_pure.specs.declared.lin.Lin.{Lin}
use Rattle.hs_elimination.specs.Linear.{coefficient, rest}
use Rattle.hs_elimination.specs.Form.{Form, const, positive, multiple, no_multiple, conjunction, disjunction}
use Rattle.hs_elimination.specs.Cases.{join_distinct}
use Rattle.hs_cooper_forms.specs.declared.nnf.Nnf.{Nnf}
use Rattle.hs_cooper_forms.specs.Reading.{form_of}

-- the r of 0 < x + r
abbrev pub denied_bound : ℤ → Lin → List Lin
denied_bound (pos zero) r = []
denied_bound (pos (suc n)) r = r ∷ []
denied_bound (negsuc n) r = []

abbrev pub denied_bounds : ℕ → Form → List Lin
denied_bounds x (const b) = []
denied_bounds x (positive t) = denied_bound (coefficient x t.terms) (rest x t)
denied_bounds x (multiple d t) = []
denied_bounds x (no_multiple d t) = []
denied_bounds x (conjunction f g) = denied_bounds x f ++ denied_bounds x g
denied_bounds x (disjunction f g) = denied_bounds x f ++ denied_bounds x g

-- those of one formula after another, each once
abbrev pub join_all : ℕ → List Lin → List Nnf → List Lin
join_all x done [] = done
join_all x done (f ∷ fs) = join_all x (join_distinct done (denied_bounds x (form_of f))) fs
