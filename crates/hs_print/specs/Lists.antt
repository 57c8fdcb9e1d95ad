-- Texts of lists.
use Rattle.std.specs.Prelude.{ℕ, List, [], ◌∷◌, ◌++◌}

-- the texts of the parts, the first after one sign and each later one after another
abbrev pub with_signs : {A : Type 0} → List ℕ → List ℕ → (A → List ℕ) → List A → List ℕ
with_signs first sign text [] = []
with_signs first sign text (x ∷ xs) = first ++ (text x ++ with_signs sign sign text xs)

-- each after a sign
abbrev pub each_after : {A : Type 0} → List ℕ → (A → List ℕ) → List A → List ℕ
each_after sign text xs = with_signs sign sign text xs

-- with a sign between them
abbrev pub separated : {A : Type 0} → List ℕ → (A → List ℕ) → List A → List ℕ
separated sign text xs = with_signs [] sign text xs
