-- Tests that tell which goals are well formed.
use Rattle.std.proofs.Common.{◌≡◌, ℕ, zero, suc, ◌<◌, ◌≤◌, nat_lt, Bool, false, ◌&&◌, ◌||◌, IsTrue, inl, inr, List, [], ◌∷◌, sym, subst, arith}
use Rattle.std.specs.List.{All, list_all, list_any}
use Rattle.hs_pure.specs.declared.var.Var.{Var}
use Rattle.hs_pure.specs.declared.pure.Pure.{Pure}
use Rattle.hs_pure.specs.Stack.{same}
use Rattle.hs_pure.specs.Occurs.{occurs}
use Rattle.hs_pure.proofs.Vars.{or_left, or_right, same-eq, same-refl}
use Rattle.hs_pure.proofs.Lists.{All-weaker}
use Rattle.hs_heap.specs.declared.formula.Atom.{Atom}
use Rattle.hs_heap.specs.declared.formula.Disjunct.{Disjunct}
use Rattle.hs_heap.specs.declared.definitions.Defs.{Defs}
use Rattle.hs_heap.specs.Meaning.{is_in}
use Rattle.hs_heap.specs.Variables.{in_atom, occurs_in_disjunct, is_free_in_formula}
use Rattle.hs_heap.specs.WellFormed.{is_and, IsProper}
use Rattle.hs_heap.specs.Sound.{AtomFits}
use Rattle.hs_heap.proofs.Booleans.{bool_cases, clash}
use Rattle.hs_heap.proofs.Tells.{Tells, tells, tells_both, tells_all, tells_lt, either_all}
use Rattle.hs_heap.proofs.Lists.{any_forth, any_back, listed_forth, listed_back}
use Rattle.hs_goal.specs.declared.goal.Goal.{Goal}
use Rattle.hs_goal.specs.Shape.{AreBelow, CaseFits, GoalFits}
use Rattle.hs_goal.specs.Parts.{vars_are_below, atom_is_below, ConjunctFits, NamesFit, ItemsFit, UsedFits, OpenFits, PartsFit}
use Rattle.hs_goal.specs.Closed.{is_nil, is_closed, case_is_closed}
use Rattle.hs_goal.proofs.Closing.{Nowhere, nowhere, somewhere, nowhere_both, closed_told}

-- ---- numbers

module _ (next : ℕ) where
  abbrev IsBelow : Var → Type 0
  IsBelow v = v.number < next

  vars_told : (vs : List Var) → Tells (vars_are_below next vs) (AreBelow next (λ v. is_in v vs))
  vars_told vs = tells (vars_are_below next vs) (All IsBelow vs) (AreBelow next (λ v. is_in v vs)) (tells_all (λ v. nat_lt v.number next) IsBelow (λ v. tells_lt v.number next) vs)
      (listed_forth IsBelow vs) (listed_back IsBelow vs)

  pub atom_below_told : (a : Atom) → Tells (atom_is_below next a) (AreBelow next (λ v. in_atom v a))
  atom_below_told a = tells (atom_is_below next a) (IsBelow a.root × AreBelow next (λ v. is_in v a.args)) (AreBelow next (λ v. in_atom v a))
      (tells_both (nat_lt a.root.number next) (vars_are_below next a.args) (IsBelow a.root) (AreBelow next (λ v. is_in v a.args)) (tells_lt a.root.number next) (vars_told a.args))
      (λ h. either_all (λ v. same v a.root) (λ v. is_in v a.args) IsBelow (λ v e. subst IsBelow (sym (same-eq v a.root e)) h.0) h.1)
      (λ h. (h a.root (or_left (same a.root a.root) (is_in a.root a.args) (same-refl a.root)), λ v e. h v (or_right (same v a.root) (is_in v a.args) e)))

  -- the greatest number tells that all are below, unless next is 0
  pub top_told : (has : Var → Bool) (top : ℕ) → (next ≡ 0 → ⊥) → ((v : Var) → IsTrue (has v) → v.number ≤ top) →
      (0 < top → (v : Var) × (IsTrue (has v) × (v.number ≡ top))) → Tells (nat_lt top next) (AreBelow next has)
  top_told has top some bound reached = tells (nat_lt top next) (top < next) (AreBelow next has) (tells_lt top next)
      (λ less v h. let low = bound v h in omega arith)
      (λ h. back top reached h)
    where
      back : (top : ℕ) → (0 < top → (v : Var) × (IsTrue (has v) × (v.number ≡ top))) → AreBelow next has → top < next
      back zero r h = omega arith
      back (suc n) r h =
          let at = r (omega arith) in
          let less : at.0.number < next = h at.0 at.1.0 in
          let is : at.0.number ≡ suc n = at.1.1 in
          omega arith

-- ---- no variable

-- nothing is below 0
none_below : (has : Var → Bool) (b : Bool) → Tells b (Nowhere has) → Tells b (AreBelow 0 has)
none_below has b t = tells b (Nowhere has) (AreBelow 0 has) t
    (λ h v is. clash is (h v))
    (λ h v. elim (bool_cases (has v)) [ inl is ↦ let less : v.number < 0 = h v is in absurd (omega arith) | inr isnt ↦ isnt ])

nil_told : (vs : List Var) → Tells (is_nil vs) (Nowhere (λ v. is_in v vs))
nil_told [] = nowhere
nil_told (w ∷ ws) = somewhere (λ v. same v w || is_in v ws) w (or_left (same w w) (is_in w ws) (same-refl w))

no_atom_told : (atoms : List Atom) → Tells (is_nil atoms) (Nowhere (λ v. list_any (in_atom v) atoms))
no_atom_told [] = nowhere
no_atom_told (a ∷ rest) = somewhere (λ v. in_atom v a || list_any (in_atom v) rest) a.root
    (or_left (in_atom a.root a) (list_any (in_atom a.root) rest) (or_left (same a.root a.root) (is_in a.root a.args) (same-refl a.root)))

conjuncts_closed_told : (ps : List Pure) → Tells (list_all is_closed ps) (Nowhere (λ v. list_any (occurs v) ps))
conjuncts_closed_told [] = nowhere
conjuncts_closed_told (p ∷ ps) = nowhere_both (λ v. occurs v p) (λ v. list_any (occurs v) ps) (is_closed p) (list_all is_closed ps) (closed_told p) (conjuncts_closed_told ps)

pub case_closed_told : (d : Disjunct) → Tells (case_is_closed d) (AreBelow 0 (λ v. occurs_in_disjunct v d))
case_closed_told d = none_below (λ v. occurs_in_disjunct v d) (case_is_closed d)
    (nowhere_both (λ v. is_in v d.bound) (λ v. list_any (in_atom v) d.atoms || list_any (occurs v) d.pure) (is_nil d.bound) (is_nil d.atoms && list_all is_closed d.pure) (nil_told d.bound)
    (nowhere_both (λ v. list_any (in_atom v) d.atoms) (λ v. list_any (occurs v) d.pure) (is_nil d.atoms) (list_all is_closed d.pure) (no_atom_told d.atoms) (conjuncts_closed_told d.pure)))

-- ---- disjuncts

pub case_told : (defs : Defs) (next : ℕ) (d : Disjunct) (b : Bool) → Tells b (NamesFit next d × ItemsFit defs d) → Tells b (CaseFits defs next d)
case_told defs next d b t = tells b (NamesFit next d × ItemsFit defs d) (CaseFits defs next d) t
    (λ h. record {
      numbers = h.0.0;
      atoms = h.1.0;
      distinct = h.0.1;
      flat = All-weaker ConjunctFits (λ p. is_and p ≡ false) (λ p f. f.0) d.pure h.1.1;
      pure = All-weaker ConjunctFits IsProper (λ p f. f.1) d.pure h.1.1;
    })
    (λ h. ((h.numbers, h.distinct), (h.atoms, λ k p less. (h.flat k p less, h.pure k p less))))

-- ---- goals

pub goal_fits : (defs : Defs) (g : Goal) → g.next ≤ 1073741824 → (g.right.cases ≡ [] → ⊥) → PartsFit defs g → GoalFits defs g
goal_fits defs g few some h = record {
  used = All-weaker (UsedFits defs g.next) (AtomFits defs) (λ a f. f.0) g.used h.0.0;
  used_numbers = any_forth in_atom (λ v. v.number < g.next) g.used (All-weaker (UsedFits defs g.next) (λ a. AreBelow g.next (λ v. in_atom v a)) (λ a f. f.1) g.used h.0.0);
  left = h.1.0;
  right = h.1.1;
  opens_numbers = listed_forth (λ v. v.number < g.next) g.opens (All-weaker (OpenFits g) (λ v. v.number < g.next) (λ v f. f.0) g.opens h.0.1.1);
  few = few;
  distinct = h.0.1.0;
  apart_used = listed_forth (λ v. list_any (in_atom v) g.used ≡ false) g.opens (All-weaker (OpenFits g) (λ v. list_any (in_atom v) g.used ≡ false) (λ v f. f.1.0) g.opens h.0.1.1);
  apart_left = listed_forth (λ v. is_free_in_formula v g.left ≡ false) g.opens (All-weaker (OpenFits g) (λ v. is_free_in_formula v g.left ≡ false) (λ v f. f.1.1) g.opens h.0.1.1);
  some = some;
}

pub parts_of : (defs : Defs) (g : Goal) → GoalFits defs g → PartsFit defs g
parts_of defs g h = (
  (
    λ k a less. (h.used k a less, any_back in_atom (λ v. v.number < g.next) g.used h.used_numbers k a less),
    (h.distinct, listed_back (OpenFits g) g.opens (λ v e. (h.opens_numbers v e, (h.apart_used v e, h.apart_left v e)))),
  ),
  (h.left, h.right),
)
