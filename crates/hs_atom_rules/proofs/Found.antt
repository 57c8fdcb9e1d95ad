-- An atom at a place of a simple side, and the subgoals with a body in its place.
use Rattle.std.proofs.Common.{◌≡◌, ℕ, ◌≤◌, true, false, List, map, length, sym, ap, ◌∙◌, subst}
use Rattle.std.proofs.lemmas.List.{length-map}
use Rattle.hs_pure.specs.declared.var.Var.{Var}
use Rattle.hs_heap.specs.declared.formula.Of.TheVariants.{Pred}
use Rattle.hs_heap.specs.declared.formula.Atom.{Atom}
use Rattle.hs_heap.specs.declared.formula.Disjunct.{Disjunct}
use Rattle.hs_heap.specs.declared.formula.Formula.{Formula}
use Rattle.hs_heap.specs.declared.definitions.Defs.{Defs}
use Rattle.hs_heap.specs.Renamed.{renamed_disjunct}
use Rattle.hs_heap.specs.Instance.{Body, body_renaming, instantiated, next_after}
use Rattle.hs_goal.specs.declared.goal.Goal.{Goal}
use Rattle.hs_goal.specs.Classes.{the_case, IsSimple}
use Rattle.hs_goal.specs.Shape.{SideFits}
use Rattle.hs_rules.specs.Conditions.{IsPred}
use Rattle.hs_rules.specs.Parts.{IsPlace, no_atom, atom_at, case_at, only, replaced}
use Rattle.hs_rules.specs.Subgoals.{left_replaced, right_replaced}
use Rattle.hs_rules.proofs.Fitting.{AtomIsGood, side_parts, All-place}

-- an atom at a place of a simple side
pub record IsFound (f : Formula) (n : ℕ) (side : Disjunct) (a : Atom) : Type 0 where
  pub simple : IsSimple f
  pub side_is : side ≡ the_case f
  pub place : IsPlace n (the_case f).atoms
  pub atom_is : a ≡ atom_at n (the_case f).atoms

pub found : (f : Formula) (n : ℕ) (side : Disjunct) (atoms : List Atom) (a : Atom) →
    IsSimple f × (side ≡ the_case f) → atoms ≡ side.atoms → IsPlace n atoms × (a ≡ atom_at n atoms) → IsFound f n side a
found f n side atoms a simple listed at =
    let e : atoms ≡ (the_case f).atoms = listed ∙ ap (λ (d : Disjunct). d.atoms) simple.1 in
    record { simple = simple.0; side_is = simple.1; place = subst (IsPlace n) e at.0; atom_is = at.1 ∙ ap (atom_at n) e }

-- it fits
pub found_is_good : (defs : Defs) (next : ℕ) (f : Formula) (n : ℕ) (side : Disjunct) (a : Atom) → SideFits defs next f → IsFound f n side a → AtomIsGood defs next a
found_is_good defs next f n side a fits at =
    subst (AtomIsGood defs next) (sym at.atom_is)
    (All-place (AtomIsGood defs next) n (the_case f).atoms no_atom at.place (side_parts defs next f at.simple.one fits).atoms)

-- an instantiated body at the found atom
module _ (f : Formula) (n : ℕ) (side : Disjunct) (a : Atom) (at : IsFound f n side a) (b : Body) (args : List Var) (fresh : ℕ) (body : Formula) where
  abbrev Expected : Formula
  Expected = instantiated b (atom_at n (the_case f).atoms).root (atom_at n (the_case f).atoms).args fresh

  instance_is : args ≡ a.args → body ≡ instantiated b a.root args fresh → body ≡ Expected
  instance_is args_are body_is =
      body_is ∙ ap (λ vs. instantiated b a.root vs fresh) args_are ∙ ap (λ (k : Atom). instantiated b k.root k.args fresh) at.atom_is

pub left_replaced_is : (g : Goal) (l : ℕ) (side : Disjunct) (a : Atom) → IsFound g.left l side a → (b : Body) (args : List Var) (body : Formula) (next : ℕ) (sub : Goal) →
    args ≡ a.args → body ≡ instantiated b a.root args g.next → next ≡ next_after b g.next →
    sub ≡ record g { left = record { cases = map (replaced l side) body.cases }; next = next; looked = false } → sub ≡ left_replaced g l b
left_replaced_is g l side a at b args body next sub args_are body_is next_is sub_is =
    let side_is = at.side_is in
    let all_is = instance_is g.left l side a at b args g.next body args_are body_is in
    sub_is ∙ (λ i. record g { left = record { cases = map (replaced l (side_is i)) (all_is i).cases }; next = next_is i; looked = false })

pub right_replaced_is : (g : Goal) (r k : ℕ) (side : Disjunct) (a : Atom) → IsFound g.right r side a → (b : Body) (args : List Var) (body : Formula) (next : ℕ) (sub : Goal) →
    args ≡ a.args → body ≡ instantiated b a.root args g.next → next ≡ next_after b g.next → (case : Disjunct) → case ≡ case_at k body.cases →
    sub ≡ record g { right = only (replaced r side case); next = next; looked = true } → sub ≡ right_replaced g r k b
right_replaced_is g r k side a at b args body next sub args_are body_is next_is case case_is sub_is =
    let side_is = at.side_is in
    let all_is = instance_is g.right r side a at b args g.next body args_are body_is in
    let one_is = case_is ∙ ap (λ (f : Formula). case_at k f.cases) all_is in
    sub_is ∙ (λ i. record g { right = only (replaced r (side_is i) (one_is i)); next = next_is i; looked = true })

-- the found atom's predicate, by the name of the expected atom
module _ (f : Formula) (n : ℕ) (side : Disjunct) (a : Atom) (at : IsFound f n side a) (pred : ℕ) (is : a.of ≡ Pred pred) where
  pub name_is : Pred pred ≡ (atom_at n (the_case f).atoms).of
  name_is = sym is ∙ ap (λ (k : Atom). k.of) at.atom_is

  pub of_pred : IsPred (atom_at n (the_case f).atoms).of
  of_pred = subst IsPred name_is tt

-- the place of a case of an instantiated body is one of the body
pub case_place : (k : ℕ) (b : Body) (a : Atom) (args : List Var) (fresh : ℕ) (body : Formula) (cases : List Disjunct) →
    body ≡ instantiated b a.root args fresh → cases ≡ body.cases → IsPlace k cases → IsPlace k b.formula.cases
case_place k b a args fresh body cases body_is cases_are place =
    let e : length cases ≡ length b.formula.cases =
    ap length (cases_are ∙ ap (λ (f : Formula). f.cases) body_is) ∙ length-map b.formula.cases (renamed_disjunct (body_renaming b a.root args fresh)) in
    (place.0, subst (λ n. k ≤ n) e place.1)
