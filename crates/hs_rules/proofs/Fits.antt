-- What a well-formed goal gives.
use Rattle.std.proofs.Common.{ℕ, ◌<◌, ◌≡◌, Bool, true, IsTrue, inl, inr, List, [], ◌∷◌, ◌++◌, sym, ◌∙◌, ap}
use Rattle.std.specs.List.{list_any, All}
use Rattle.std.proofs.lemmas.List.Elements.{All-head, All-tail, All-append}
use Rattle.hs_pure.specs.declared.var.Var.{Var}
use Rattle.hs_pure.specs.Occurs.{is_free}
use Rattle.hs_pure.proofs.Lists.{All-left, All-right}
use Rattle.hs_heap.specs.declared.formula.Atom.{Atom}
use Rattle.hs_heap.specs.declared.formula.Disjunct.{Disjunct}
use Rattle.hs_heap.specs.declared.definitions.Defs.{Defs}
use Rattle.hs_heap.specs.Variables.{in_atom, is_free_in_disjunct, occurs_in_disjunct}
use Rattle.hs_heap.specs.Sound.{AtomFits, argument_kinds, kinds}
use Rattle.std.proofs.lemmas.Bool.{or_cases}
use Rattle.hs_pure.proofs.Vars.{or_left, or_right}
use Rattle.std.proofs.lemmas.Option.{same_Some}
use Rattle.hs_heap.proofs.Occurring.{stands_occurs, free_occurs}
use Rattle.hs_goal.specs.Shape.{CaseFits}

pub All-middle : {X : Type 0} (P : X → Type 0) (xs : List X) (y : X) (ys : List X) → All P (xs ++ y ∷ ys) → P y
All-middle P xs y ys f = All-head P y ys (All-right P xs (y ∷ ys) f)

pub All-others : {X : Type 0} (P : X → Type 0) (xs : List X) (y : X) (ys : List X) → All P (xs ++ y ∷ ys) → All P (xs ++ ys)
All-others P xs y ys f = All-append P xs ys (All-left P xs (y ∷ ys) f) (All-tail P y ys (All-right P xs (y ∷ ys) f))

-- atoms of one name have arguments of the same kinds
pub args_fit : (defs : Defs) (a b : Atom) → AtomFits defs a → AtomFits defs b → a.of ≡ b.of → kinds a.args ≡ kinds b.args
args_fit defs a b f g e = same_Some (kinds a.args) (kinds b.args) (sym f.1 ∙ ap (argument_kinds defs) e ∙ g.1)

-- numbers below next, of what stands in a disjunct
module _ (next : ℕ) (d : Disjunct) (numbers : (v : Var) → IsTrue (occurs_in_disjunct v d) → v.number < next) where
  pub atoms_below : (v : Var) → IsTrue (list_any (in_atom v) d.atoms) → v.number < next
  atoms_below v e = numbers v (stands_occurs v d (or_left (list_any (in_atom v) d.atoms) (list_any (is_free v) d.pure) e))

  pub pure_below : (v : Var) → IsTrue (list_any (is_free v) d.pure) → v.number < next
  pure_below v e = numbers v (stands_occurs v d (or_right (list_any (in_atom v) d.atoms) (list_any (is_free v) d.pure) e))

  pub free_below : (v : Var) → IsTrue (is_free_in_disjunct v d) → v.number < next
  free_below v e = numbers v (free_occurs v d e)

pub cases_below : (defs : Defs) (next : ℕ) (ds : List Disjunct) → All (CaseFits defs next) ds → (v : Var) → IsTrue (list_any (is_free_in_disjunct v) ds) → v.number < next
cases_below defs next [] f v e = absurd cc
cases_below defs next (d ∷ ds) f v e = elim (or_cases (is_free_in_disjunct v d) (list_any (is_free_in_disjunct v) ds) e) [
  | inl k ↦ free_below next d (All-head (CaseFits defs next) d ds f).numbers v k
  | inr k ↦ cases_below defs next ds (All-tail (CaseFits defs next) d ds f) v k
]

pub any_others : {X : Type 0} (p : X → Bool) (xs : List X) (y : X) (ys : List X) → list_any p (xs ++ ys) ≡ true → list_any p (xs ++ y ∷ ys) ≡ true
any_others p [] y ys e = or_right (p y) (list_any p ys) e
any_others p (x ∷ xs) y ys e = elim (or_cases (p x) (list_any p (xs ++ ys)) e) [
  | inl k ↦ or_left (p x) (list_any p (xs ++ y ∷ ys)) k
  | inr k ↦ or_right (p x) (list_any p (xs ++ y ∷ ys)) (any_others p xs y ys k)
]

pub any_middle : {X : Type 0} (p : X → Bool) (xs : List X) (y : X) (ys : List X) → p y ≡ true → list_any p (xs ++ y ∷ ys) ≡ true
any_middle p [] y ys e = or_left (p y) (list_any p ys) e
any_middle p (x ∷ xs) y ys e = or_right (p x) (list_any p (xs ++ y ∷ ys)) (any_middle p xs y ys e)
