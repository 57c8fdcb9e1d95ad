-- The texts of slots.
use Rattle.std.specs.Prelude.{ℕ, zero, suc, List, [], ◌∷◌, ◌++◌, codes, Option, Some}
use Rattle.std.specs.Fmt.{decimal}
use Rattle.hs_numbering.specs.declared.names.Names.{Names}
use Rattle.hs_print.specs.Lists.{separated}

-- slot k is `sK`
abbrev pub slot_text : ℕ → List ℕ
slot_text k = codes "s" ++ decimal k

-- with commas between them
abbrev pub slots_text : List ℕ → List ℕ
slots_text ks = separated (codes ", ") slot_text ks

-- the texts of so many slots from one on
abbrev pub names_from : ℕ → ℕ → List (Option (List ℕ))
names_from k zero = []
names_from k (suc n) = Some (slot_text k) ∷ names_from (suc k) n

-- the slots of a method, as the names of the variables of its terms and conditions
abbrev pub slot_names : ℕ → Names
slot_names n = record { list = names_from 1 n }
