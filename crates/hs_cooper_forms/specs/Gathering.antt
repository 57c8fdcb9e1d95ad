-- What a list of members that is being gathered stands for.
use Rattle.std.specs.Prelude.{not, map, IsTrue, if◌then◌else◌}
use Rattle.hs_elimination.specs.Form.{Form, const}
use Rattle.hs_cooper_forms.specs.Reading.{listed, unit, form_of, all_proper}
use Rattle.hs_cooper_forms.specs.declared.gather.Gathered.{Gathered}

abbrev pub gathered : Gathered → Form
gathered g = if g.decided then const (not (unit g.connective)) else listed g.connective (map form_of g.members)

-- no member is true or false
abbrev pub HasProper : Gathered → Type 0
HasProper g = IsTrue (all_proper (map form_of g.members))
