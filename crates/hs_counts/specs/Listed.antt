-- Elements with their counts, by rising element, in which a count is set.
use Rattle.std.specs.Prelude.{◌≡◌, ℤ, pos, Bool, false, List, [], ◌∷◌, drop, if◌then◌else◌}
use Rattle.std.specs.Int.Signed.{lt_z}
use Rattle.std.specs.List.{All, list_any}
use Rattle.std.specs.Ordering.{int_eq}
use Rattle.hs_pure.specs.declared.var.Var.{Var}
use Rattle.hs_pure.specs.Multiset.{nothing}
use Rattle.hs_pure.specs.Stack.{Stack, same}
use Rattle.hs_pure.specs.Eval.{multiset_of}
use Rattle.hs_counts.specs.declared.count.Count.{Count}
use Rattle.hs_counts.specs.Counts.{bag_with, Rises}

-- whether x is the first element
abbrev pub starts_with : ℤ → List (ℤ × ℤ) → Bool
starts_with x [] = false
starts_with x (e ∷ es) = int_eq e.0 x

-- without x, if that is the first element
abbrev pub freed : ℤ → List (ℤ × ℤ) → List (ℤ × ℤ)
freed x es = if starts_with x es then drop 1 es else es

-- n times x in front, if it is there at all
abbrev pub put_count : ℤ → ℤ → List (ℤ × ℤ) → List (ℤ × ℤ)
put_count x n es = if lt_z (pos 0) n then (x, n) ∷ es else es

-- n as the count of x
abbrev pub with_count : ℤ → ℤ → List (ℤ × ℤ) → List (ℤ × ℤ)
with_count x n [] = put_count x n []
with_count x n (e ∷ es) = if lt_z e.0 x then e ∷ with_count x n es else put_count x n (freed x (e ∷ es))

-- whether a bag of v is listed
abbrev pub is_listed : List (Var × List (ℤ × ℤ)) → Var → Bool
is_listed bs v = list_any (λ b. same b.0 v) bs

-- each listed bag is what the counts say of its variable
abbrev pub AreSaid : Stack → List Count → List (Var × List (ℤ × ℤ)) → Type 0
AreSaid t cs bs = All (λ b. (multiset_of b.1 ≡ bag_with t cs b.0 nothing) × Rises b.1) bs
