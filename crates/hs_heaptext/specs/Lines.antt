-- Parts of a text: what stands before a byte, and the first line.
use Rattle.std.specs.Prelude.{◌≡◌, ℕ, List, [], ◌∷◌, ◌++◌}
use Rattle.std.specs.List.{AllByRecursion}

-- no byte of the text is this one
abbrev pub Lacks : ℕ → List ℕ → Type 0
Lacks b text = AllByRecursion (λ c. ¬ (c ≡ b)) text

-- the text is empty or begins with the byte
abbrev pub EndsAt : ℕ → List ℕ → Type 0
EndsAt b [] = Unit {0}
EndsAt b (c ∷ text) = c ≡ b

-- the front is what stands before the first such byte, or all of the text
pub record CutsAt (b : ℕ) (text front behind : List ℕ) : Type 0 where
  pub split : text ≡ front ++ behind
  pub lacks : Lacks b front
  pub ends : EndsAt b behind

-- the text begins with the line, which holds no line feed, and goes on with the rest behind a line feed
pub record FirstLine (text line rest : List ℕ) : Type 0 where
  pub split : text ≡ line ++ 10 ∷ rest
  pub lacks : Lacks 10 line

-- the text has no first line of the form
abbrev pub HasNoLine : (List ℕ → Type 0) → List ℕ → Type 0
HasNoLine Form text = (line rest : List ℕ) → FirstLine text line rest → ¬ (Form line)
