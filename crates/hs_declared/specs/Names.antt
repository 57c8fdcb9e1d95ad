-- Places of names in a list.
use Rattle.std.specs.Prelude.{ℕ, if◌then◌else◌, List, slice_get, Option, Some, None}
use Rattle.std.specs.List.{position_from}
use Rattle.std.specs.Str.{bytes_eq}
use Rattle.hs_tree.specs.declared.ident.Ident.{Ident}

abbrev pub here : List ℕ → Ident → ℕ → Option ℕ
here name x i = if bytes_eq name x.text then Some i else None

-- where the name is declared first
abbrev pub place : List ℕ → List Ident → Option ℕ
place name = position_from (λ x. bytes_eq name x.text) 0

abbrev pub item_at : {A : Type 0} → List A → Option ℕ → Option A
item_at xs None = None
item_at xs (Some i) = slice_get xs i
