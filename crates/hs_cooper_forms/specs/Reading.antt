-- What the program's formulas are read as.
use Rattle.std.specs.Prelude.{ℤ, pos, int_lt, Bool, true, false, not, ◌&&◌, ◌||◌, List, [], ◌∷◌, IsTrue}
use Rattle.std.specs.List.{fold}
use Rattle.hs_pure.specs.declared.lin.Lin.{Lin}
use Rattle.hs_elimination.specs.Form.{Form, const, positive, multiple, no_multiple, conjunction, disjunction, all_of, some_of}
use Rattle.hs_elimination.specs.Normal.{both_of, either_of, divides_test}
use Rattle.hs_cooper_forms.specs.declared.nnf.Relation.{Relation}
use Rattle.hs_cooper_forms.specs.declared.nnf.Relation.TheVariants.{Positive, Multiple, NoMultiple}
use Rattle.hs_cooper_forms.specs.declared.nnf.Literal.{Literal}
use Rattle.hs_cooper_forms.specs.declared.nnf.Connective.{Connective}
use Rattle.hs_cooper_forms.specs.declared.nnf.Connective.TheVariants.{And, Or}
use Rattle.hs_cooper_forms.specs.declared.nnf.Nnf.{Nnf, fold-Nnf}
use Rattle.hs_cooper_forms.specs.declared.nnf.Nnf.TheOpen.{Nnf-F}

abbrev pub form_by : Relation → Lin → Form
form_by Positive t = positive t
form_by (Multiple d) t = multiple d t
form_by (NoMultiple d) t = no_multiple d t

-- whether a literal without variables is true, from the constant of its sum
abbrev pub holds_by : Relation → ℤ → Bool
holds_by Positive c = int_lt (pos 0) c
holds_by (Multiple d) c = divides_test d c
holds_by (NoMultiple d) c = not (divides_test d c)

abbrev pub literal_form : Literal → Form
literal_form l = form_by l.relation l.sum

-- all of a list, or one of it
abbrev pub listed : Connective → List Form → Form
listed And fs = all_of fs
listed Or fs = some_of fs

-- what a list without members is
abbrev pub unit : Connective → Bool
unit And = true
unit Or = false

-- two evaluated formulas joined
abbrev pub join : Connective → Form → Form → Form
join And f g = both_of f g
join Or f g = either_of f g

-- evaluated formulas joined one after another
abbrev pub joined : Connective → List Form → Form
joined c fs = fold (join c) (const (unit c)) fs

abbrev pub form_level : Nnf-F Form → Form
form_level (Nnf-F.Truth b) = const b
form_level (Nnf-F.Literal l) = literal_form l
form_level (Nnf-F.Joined c fs) = listed c fs

-- the formula that the program holds
abbrev pub form_of : Nnf → Form
form_of = fold-Nnf Form form_level

-- neither true nor false
abbrev pub is_proper : Form → Bool
is_proper (const b) = false
is_proper (positive t) = true
is_proper (multiple d t) = true
is_proper (no_multiple d t) = true
is_proper (conjunction f g) = true
is_proper (disjunction f g) = true

abbrev pub all_proper : List Form → Bool
all_proper [] = true
all_proper (f ∷ fs) = is_proper f && all_proper fs

abbrev pub truth_level : Nnf-F Bool → Bool
truth_level (Nnf-F.Truth b) = true
truth_level (Nnf-F.Literal l) = false
truth_level (Nnf-F.Joined c fs) = false

-- whether it is written as true or false
abbrev pub is_truth : Nnf → Bool
is_truth = fold-Nnf Bool truth_level

-- true and false are written as such
abbrev pub IsCanonical : Nnf → Type 0
IsCanonical f = IsTrue (is_truth f || is_proper (form_of f))
