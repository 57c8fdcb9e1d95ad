-- The declared data types and predicates.
use Rattle.std.specs.Prelude.{ℕ, List, Option, Some, None, slice_get, if◌then◌else◌}
use Rattle.std.specs.List.{position_from}
use Rattle.std.specs.Str.{bytes_eq}
use Rattle.hs_norm_formula.specs.declared.table.Entry.{Entry}

abbrev pub or_first : Option ℕ → Option ℕ → Option ℕ
or_first (Some i) other = Some i
or_first None other = other

abbrev pub here : List ℕ → Entry → ℕ → Option ℕ
here name e i = if bytes_eq name e.name then Some i else None

-- where the name is declared first
abbrev pub place : List ℕ → List Entry → Option ℕ
place name = position_from (λ e. bytes_eq name e.name) 0

abbrev pub entry_at : List Entry → Option ℕ → Option Entry
entry_at entries None = None
entry_at entries (Some i) = slice_get entries i

abbrev pub entry : List ℕ → List Entry → Option Entry
entry name entries = entry_at entries (place name entries)
