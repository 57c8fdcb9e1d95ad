-- A text that is cut at a byte.
use Rattle.std.specs.Prelude.{ℕ, ◌<◌, ◌^◌, Bool, true, false, not, nat_eq, List, [], ◌∷◌, length, take_while, Option, Some, None}
use Rattle.std.specs.List.{slice_split, AllByRecursion}

-- the pieces before, between and behind the bytes of this value
abbrev pub cut_at : ℕ → List ℕ → List (List ℕ)
cut_at c text = slice_split (λ b. nat_eq b c) text

-- the piece that comes next
abbrev pub first_piece : List (List ℕ) → Option (List ℕ)
first_piece [] = None
first_piece (p ∷ ps) = Some p

-- the pieces behind it
abbrev pub later_pieces : List (List ℕ) → List (List ℕ)
later_pieces [] = []
later_pieces (p ∷ ps) = ps

-- whether none is left
abbrev pub no_pieces : List (List ℕ) → Bool
no_pieces [] = true
no_pieces (p ∷ ps) = false

-- the length of the first piece
abbrev pub piece_len : ℕ → List ℕ → ℕ
piece_len c text = length (take_while (λ b. not (nat_eq b c)) text)

-- the pieces of what is left, if something is
abbrev pub cut_or_none : ℕ → Option (List ℕ) → List (List ℕ)
cut_or_none c None = []
cut_or_none c (Some text) = cut_at c text

-- what is behind the byte at which a text was cut
abbrev pub behind_cut : List ℕ → Option (List ℕ)
behind_cut [] = None
behind_cut (b ∷ text) = Some text

-- each piece is short enough for the lexer
abbrev pub AreShort : List (List ℕ) → Type 0
AreShort pieces = AllByRecursion (λ p. length p < 2 ^ 32) pieces
