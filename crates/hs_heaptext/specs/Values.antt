-- Values and their text.
use Rattle.std.specs.Prelude.{◌≡◌, ℕ, ◌≤◌, ◌^◌, ℤ, unsigned_abs, List, ◌∷◌, ◌++◌}
use Rattle.std.specs.List.{AllByRecursion, flat_map}
use Rattle.std.specs.Fmt.{signed_decimal}
use Rattle.hs_heaptext.specs.Lines.{CutsAt}

-- it lies within 2^126
abbrev pub IsSmall : ℤ → Type 0
IsSmall x = unsigned_abs x ≤ 2 ^ 126

abbrev pub AreSmall : List ℤ → Type 0
AreSmall xs = AllByRecursion IsSmall xs

-- each value after a blank
abbrev pub values_text : List ℤ → List ℕ
values_text xs = flat_map (λ x. 32 ∷ signed_decimal x) xs

-- the text is a blank and the value, with the rest from the next blank on
pub record IsNextValue (text : List ℕ) (x : ℤ) (rest : List ℕ) : Type 0 where
  pub word : List ℕ
  pub split : text ≡ 32 ∷ (word ++ rest)
  pub cut : CutsAt 32 (word ++ rest) word rest
  pub value : word ≡ signed_decimal x
  pub small : IsSmall x
