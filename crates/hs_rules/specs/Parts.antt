-- What the rows of the table are made of: places, sides, open variables, equations, new numbers.
use Rattle.std.specs.Prelude.{ℕ, suc, ◌-◌, ◌≤◌, Bool, not, if◌then◌else◌, List, [], ◌∷◌, ◌++◌, map, length, get_or, take, drop, filter}
use Rattle.std.specs.List.{list_any}
use Rattle.hs_pure.specs.declared.var.Var.{Var}
use Rattle.hs_pure.specs.declared.bag.Bag.TheVariants as bag_of
use Rattle.hs_pure.specs.declared.pure.Pure.{Pure}
use Rattle.hs_pure.specs.declared.pure.Pure.TheVariants as pure_of
use Rattle.hs_pure.specs.Stack.{same}
use Rattle.hs_pure.specs.Occurs.{is_free}
use Rattle.hs_pure.specs.Equated.{variable_sum}
use Rattle.hs_heap.specs.declared.formula.Of.TheVariants.{Node}
use Rattle.hs_heap.specs.declared.formula.Atom.{Atom}
use Rattle.hs_heap.specs.declared.formula.Disjunct.{Disjunct}
use Rattle.hs_heap.specs.declared.formula.Formula.{Formula}
use Rattle.hs_heap.specs.Meaning.{self_var}
use Rattle.hs_heap.specs.Renamed.{renamed_disjunct}
use Rattle.hs_goal.specs.declared.goal.Goal.{Goal}
use Rattle.hs_goal.specs.Classes.{nothing, the_case}

-- ---- places count from 1

-- there is an item at the place
abbrev pub IsPlace : {X : Type 0} → ℕ → List X → Type 0
IsPlace n xs = (1 ≤ n) × (n ≤ length xs)

-- all but the one at a place
abbrev pub without : {X : Type 0} → ℕ → List X → List X
without n xs = take (n - 1) xs ++ drop n xs

-- others in the place of one
abbrev pub in_place : {X : Type 0} → ℕ → List X → List X → List X
in_place n ys xs = take (n - 1) xs ++ ys ++ drop n xs

-- where there is none
abbrev pub no_atom : Atom
no_atom = record { root = self_var; of = Node 0; args = [] }

-- the item at a place
abbrev pub atom_at : ℕ → List Atom → Atom
atom_at n atoms = get_or atoms (n - 1) no_atom

abbrev pub conjunct_at : ℕ → List Pure → Pure
conjunct_at n ps = get_or ps (n - 1) (pure_of.And [])

abbrev pub case_at : ℕ → List Disjunct → Disjunct
case_at n ds = get_or ds (n - 1) nothing

-- ---- sides

-- one disjunct
abbrev pub only : Disjunct → Formula
only d = record { cases = d ∷ [] }

-- the parts of simple sides
abbrev pub left_atoms : Goal → List Atom
left_atoms g = (the_case g.left).atoms

abbrev pub left_pure : Goal → List Pure
left_pure g = (the_case g.left).pure

abbrev pub right_atoms : Goal → List Atom
right_atoms g = (the_case g.right).atoms

abbrev pub right_pure : Goal → List Pure
right_pure g = (the_case g.right).pure

-- a simple side with these parts
abbrev pub plain : List Atom → List Pure → Formula
plain atoms pure = only (record { bound = []; atoms = atoms; pure = pure })

-- a case in the place of an atom of a simple side: its atoms stand there, its conjuncts come last
abbrev pub replaced : ℕ → Disjunct → Disjunct → Disjunct
replaced n side d = record { bound = d.bound; atoms = in_place n d.atoms side.atoms; pure = side.pure ++ d.pure }

-- ---- new numbers

-- each of bs becomes n, n + 1 and so on
abbrev pub to_fresh : List Var → ℕ → Var → Var
to_fresh [] n v = v
to_fresh (b ∷ bs) n v = if same b v then record { number = n; bag = v.bag } else to_fresh bs (suc n) v

-- the variables that stand for those that a disjunct binds
abbrev pub fresh_variables : Disjunct → ℕ → List Var
fresh_variables d n = map (to_fresh d.bound n) d.bound

-- a disjunct with new numbers for what it binds, which it binds no more
abbrev pub opened : Disjunct → ℕ → Disjunct
opened d n = record { bound = []; atoms = (renamed_disjunct (to_fresh d.bound n) d).atoms; pure = (renamed_disjunct (to_fresh d.bound n) d).pure }

-- ---- open variables

-- whether an open variable occurs free
abbrev pub has_open : List Var → Pure → Bool
has_open opens p = list_any (λ v. is_free v p) opens

-- the open variables that do not occur free
abbrev pub still_open : Pure → List Var → List Var
still_open p opens = filter (λ v. not (is_free v p)) opens

-- ---- equations of arguments

-- of bags or of numbers, as the first is
abbrev pub argument_equation : Var → Var → Pure
argument_equation v w = if v.bag then pure_of.BagEq (bag_of.Name v) (bag_of.Name w) else pure_of.Eq (variable_sum v) (variable_sum w)

-- each of the first variables equals its partner
abbrev pub equations : List Var → List Var → List Pure
equations [] ws = []
equations (v ∷ vs) [] = []
equations (v ∷ vs) (w ∷ ws) = argument_equation v w ∷ equations vs ws
