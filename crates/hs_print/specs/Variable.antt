-- The texts of variables: by the source names of a claim, or in numbered form.
use Rattle.std.specs.Prelude.{ℕ, zero, suc, ◌-◌, Bool, true, false, if◌then◌else◌, List, ◌++◌, codes, Option, Some, None, slice_get, take}
use Rattle.std.specs.List.{list_any}
use Rattle.std.specs.Str.{bytes_eq}
use Rattle.std.specs.Fmt.{decimal}
use Rattle.hs_pure.specs.declared.var.Var.{Var}
use Rattle.hs_numbering.specs.declared.names.Names.{Names}

-- the names of a claim; none in numbered form
abbrev pub Naming : Type 0
Naming = Option Names

abbrev pub has_name : List ℕ → Option (List ℕ) → Bool
has_name name None = false
has_name name (Some other) = bytes_eq name other

abbrev pub name_here : Option (Option (List ℕ)) → Option (List ℕ)
name_here None = None
name_here (Some name) = name

-- the source name of a number, if it has one
abbrev pub source_name : Names → ℕ → Option (List ℕ)
source_name names zero = None
source_name names (suc k) = name_here (slice_get names.list k)

-- a name, unless one of the first k numbers has it
abbrev pub unless_before : ℕ → List (Option (List ℕ)) → Option (List ℕ) → Option (List ℕ)
unless_before k names None = None
unless_before k names (Some name) = if list_any (has_name name) (take k names) then None else Some name

-- the source name of a number, if no lesser number has it
abbrev pub shown_name : Names → ℕ → Option (List ℕ)
shown_name names n = unless_before (n - 1) names.list (source_name names n)

abbrev pub letter : Bool → List ℕ
letter true = codes "V"
letter false = codes "v"

abbrev pub numbered_text : Var → List ℕ
numbered_text v = letter v.bag ++ decimal v.number

abbrev pub or_numbered : Option (List ℕ) → Var → List ℕ
or_numbered (Some name) v = name
or_numbered None v = letter v.bag ++ (codes "$" ++ decimal v.number)

-- by its source name, or by its number where it has none
abbrev pub named_text : Names → Var → List ℕ
named_text names v = or_numbered (shown_name names v.number) v

abbrev pub variable_text : Naming → Var → List ℕ
variable_text None v = numbered_text v
variable_text (Some names) v = named_text names v
