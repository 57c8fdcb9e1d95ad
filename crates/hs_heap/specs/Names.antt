-- The pairs of names by which a body is instantiated.
use Rattle.std.specs.Prelude.{◌≡◌, ◌<◌, IsTrue, ℕ, suc, Bool, true, false, not, ◌&&◌, ◌||◌, List, [], ◌∷◌, ◌++◌, if◌then◌else◌}
use Rattle.hs_pure.specs.declared.var.Var.{Var}
use Rattle.hs_heap.specs.declared.seen.Seen.{Seen}
use Rattle.std.specs.List.{All}
use Rattle.hs_pure.specs.Sums.{IsLight}
use Rattle.hs_heap.specs.Meaning.{is_in, self_var}
use Rattle.hs_heap.specs.Variables.{occurs_in_formula}
use Rattle.hs_heap.specs.Sound.{kinds}
use Rattle.hs_heap.specs.Instance.{Body}

-- whether a variable of this number occurs that is neither `self` nor a parameter
abbrev pub is_other_seen : List Var → ℕ → Seen → Bool
is_other_seen params n s =
    (s.number && not (is_in (record { number = n; bag = false }) (self_var ∷ params)))
    || (s.bag && not (is_in (record { number = n; bag = true }) (self_var ∷ params)))

-- the others of a table that begins at the number n get the numbers from next on
abbrev pub other_pairs : List Var → ℕ → ℕ → List Seen → List (Var × Var)
other_pairs params next n [] = []
other_pairs params next n (s ∷ ss) =
    if is_other_seen params n s then
    (record { number = n; bag = false }, record { number = next; bag = false }) ∷ (record { number = n; bag = true }, record { number = next; bag = true }) ∷ other_pairs params (suc next) (suc n) ss
    else other_pairs params next (suc n) ss

-- the number after the last one taken
abbrev pub next_number : List Var → ℕ → ℕ → List Seen → ℕ
next_number params next n [] = next
next_number params next n (s ∷ ss) = if is_other_seen params n s then next_number params (suc next) (suc n) ss else next_number params next (suc n) ss

abbrev pub paired : List Var → List Var → List (Var × Var)
paired [] args = []
paired (w ∷ ws) [] = []
paired (w ∷ ws) (a ∷ args) = (w, a) ∷ paired ws args

abbrev pub new_names : List Var → Var → List Var → ℕ → List Seen → List (Var × Var)
new_names params root args fresh seen = paired (self_var ∷ params) (root ∷ args) ++ other_pairs params fresh 0 seen

-- what is asked of a body to make the pairs and to put the names in
pub record IsReady (b : Body) (root : Var) (args : List Var) : Type 0 where
  pub light : All (λ d. All IsLight d.pure) b.formula.cases
  pub numbers : (v : Var) → IsTrue (occurs_in_formula v b.formula) → v.number < b.next
  pub arity : kinds (self_var ∷ b.params) ≡ kinds (root ∷ args)
