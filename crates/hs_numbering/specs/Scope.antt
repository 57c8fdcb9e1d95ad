-- The variables under a name, of a list of names with their variables.
use Rattle.std.specs.Prelude.{ℕ, List, [], ◌∷◌, ◌++◌, Option, None, Some, if◌then◌else◌, length, ◌-◌, take}
use Rattle.std.specs.Str.{bytes_eq}
use Rattle.hs_pure.specs.declared.var.Var.{Var}
use Rattle.hs_numbering.specs.declared.numbering.Named.{Named}

-- the variable, if the name is the one that is asked for
abbrev pub here : List ℕ → List ℕ → Var → List Var
here q name v = if bytes_eq q name then v ∷ [] else []

-- those of the list under the name, in order
abbrev pub named : List ℕ → List Named → List Var
named q [] = []
named q (m ∷ ms) = here q m.name m.var ++ named q ms

-- what is kept under a name
abbrev pub kept : Option (List Var) → List Var
kept None = []
kept (Some vs) = vs

-- without the last one
abbrev pub front : List Var → List Var
front vs = take (length vs - 1) vs

-- what is left under q when the last variable of the name is taken away
abbrev pub left : List ℕ → List ℕ → List Var → List Var
left q name vs = if bytes_eq q name then front vs else vs

-- the last one, or what was found before
abbrev pub last_or : Option Var → List Var → Option Var
last_or found [] = found
last_or found (v ∷ vs) = last_or (Some v) vs
