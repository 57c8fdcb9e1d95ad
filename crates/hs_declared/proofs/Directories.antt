-- Places of names in a list, and second declarations.
use Rattle.std.proofs.Common.{◌≡◌, ℕ, ◌+◌, ◌<◌, List, length, take, get_or, Option, sym, ◌∙◌}
use Rattle.std.specs.Str.{bytes_eq}
use Rattle.hs_tree.specs.declared.ident.Ident.{Ident}
use Rattle.hs_norm_formula.specs.Table.{or_first}
use Rattle.hs_norm_formula.proofs.Tables.{position_more}
use Rattle.hs_declared.specs.Names.{here, place}

pub noted : (xs : List Ident) (i : ℕ) (d : Ident) (q : List ℕ) (new old : Option ℕ) → i < length xs → old ≡ place q (take i xs) →
    new ≡ or_first old (here q (get_or xs i d) i) → new ≡ place q (take (i + 1) xs)
noted xs i d q new old lt e h = h ∙ (λ j. or_first (e j) (here q (get_or xs i d) i)) ∙ sym (position_more (λ x. bytes_eq q x.text) xs i d lt)
