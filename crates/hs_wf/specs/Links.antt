-- Links between variables, and what they lead to.
use Rattle.std.specs.Prelude.{◌≡◌, ◌⊎◌, ◌≤◌, Bool, true, false, List, [], ◌∷◌, ◌++◌, map, length, Option, Some, None, if◌then◌else◌}
use Rattle.std.specs.List.{All, Contains, flat_map}
use Rattle.hs_pure.specs.declared.var.Var.{Var}
use Rattle.hs_pure.specs.declared.pure.Pure.{Pure}
use Rattle.hs_pure.specs.Equated.{equated}
use Rattle.hs_heap.specs.declared.formula.Atom.{Atom}
use Rattle.hs_heap.specs.declared.formula.Disjunct.{Disjunct}
use Rattle.hs_wf.specs.Founded.{is_node}

-- from one variable to another
abbrev pub Link : Type 0
Link = Var × Var

-- what links lead to from marked variables
pub data IsLed (marked : Var → Bool) (links : List Link) : Var → Type 0 where
  begins : {v : Var} → marked v ≡ true → IsLed marked links v
  leads : {v w : Var} → Contains links (v, w) → IsLed marked links v → IsLed marked links w

abbrev pub links_to : Var → List Var → List Link
links_to root args = map (λ v. (root, v)) args

-- from the root of a node to its arguments
abbrev pub atom_links : Atom → List Link
atom_links a = if is_node a.of then links_to a.root a.args else []

abbrev pub pair_links : Option Link → List Link
pair_links None = []
pair_links (Some e) = (e.0, e.1) ∷ (e.1, e.0) ∷ []

-- both ways between the variables that a conjunct equates
abbrev pub equation_links : Pure → List Link
equation_links p = pair_links (equated p)

abbrev pub case_links : Disjunct → List Link
case_links d = flat_map atom_links d.atoms ++ flat_map equation_links d.pure

-- what one pass over links does: those with a marked source are followed, the others wait
pub record Followed (old new : Var → Bool) (links waiting : List Link) : Type 0 where
  pub kept : (v : Var) → old v ≡ true → new v ≡ true
  pub sound : (v : Var) → new v ≡ true → IsLed old links v
  pub given : (l : Link) → Contains waiting l → Contains links l
  pub waits : (l : Link) → Contains links l → Contains waiting l ⊎ (new l.1 ≡ true)
  pub fewer : length waiting ≤ length links
  -- where all wait, none has a marked source
  pub stuck : length waiting ≡ length links → (l : Link) → Contains links l → new l.0 ≡ false
