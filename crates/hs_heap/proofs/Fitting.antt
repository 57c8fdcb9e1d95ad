-- The tests of a formula beside any free variables, and of nodes.
use Rattle.std.proofs.Common.{◌≡◌, ℕ, ◌<◌, ◌≤◌, Bool, true, false, not, ◌&&◌, ◌||◌, ◌==◌, nat_le, nat_lt, IsTrue, inl, inr, List, [], ◌∷◌, length, Option, Some, None, if◌then◌else◌, refl, sym, ap, ◌∙◌, subst}
use Rattle.std.specs.List.{All, list_all, list_any}
use Rattle.std.proofs.lemmas.List.Folds.{list_all-map}
use Rattle.hs_pure.proofs.Vars.{or_left}
use Rattle.std.specs.Prelude.{option_map}
use Rattle.std.specs.Map.{values_of}
use Rattle.std.proofs.lemmas.Bool.{and_parts, and_from}
use Rattle.hs_pure.specs.declared.var.Var.{Var}
use Rattle.hs_pure.specs.declared.pure.Pure.{Pure}
use Rattle.hs_pure.specs.Stack.{same}
use Rattle.hs_pure.specs.Occurs.{occurs}
use Rattle.hs_heap.specs.declared.formula.Atom.{Atom}
use Rattle.hs_heap.specs.declared.formula.Disjunct.{Disjunct}
use Rattle.hs_heap.specs.declared.definitions.NodeDef.{NodeDef}
use Rattle.hs_heap.specs.declared.definitions.Defs.{Defs}
use Rattle.hs_heap.specs.declared.node.HeapNode.{HeapNode}
use Rattle.hs_heap.specs.Heap.{Heap, Entry}
use Rattle.hs_heap.specs.Meaning.{is_in}
use Rattle.hs_heap.specs.Variables.{in_atom}
use Rattle.hs_heap.specs.Sound.{IsNumbered, AtomFits, PureFits, DisjunctFits, NodeFits, HeapFits, argument_kinds, kinds, node_at}
use Rattle.hs_heap.specs.Tests.{number_fits, arguments_fit, atom_alone_fits, disjunct_fits, has_fields, node_fits}
use Rattle.hs_heap.proofs.Stacks.{same_true}
use Rattle.hs_heap.proofs.Booleans.{bool_cases}
use Rattle.hs_heap.proofs.Tells.{Tells, tells, tells_both, tells_all, tells_not, tells_le, tells_lt, tells_eq}
use Rattle.hs_heap.proofs.Occurring.{free_occurs, bound-occurs_of}
use Rattle.hs_heap.proofs.Soundness.{arguments_told, disjunct_told}

pub atom_alone_told : (defs : Defs) (a : Atom) → Tells (atom_alone_fits defs a) (AtomFits defs a)
atom_alone_told defs a = tells_both (not a.root.bag) (arguments_fit defs a.of a.args) (a.root.bag ≡ false) (argument_kinds defs a.of ≡ Some (kinds a.args)) (tells_not a.root.bag) (arguments_told defs a.of a.args)

-- ---- free variables with any numbers: those in range count

number_told : (next : ℕ) (v : Var) → Tells (number_fits next v) (IsNumbered next v)
number_told next v = tells_both (nat_le 1 v.number) (nat_lt v.number next) (1 ≤ v.number) (v.number < next) (tells_le 1 v.number) (tells_lt v.number next)

abbrev in_range : ℕ → List Var → List Var
in_range next [] = []
in_range next (v ∷ vs) = if number_fits next v then v ∷ in_range next vs else in_range next vs

or_cut : (a b c : Bool) → (a ≡ true → c ≡ true) → (a || (c && b)) ≡ (c && (a || b))
or_cut true b true f = refl
or_cut true b false f = sym (f refl)
or_cut false b c f = refl

cut_or : (a b c : Bool) → (a ≡ true → c ≡ false) → (c && b) ≡ (c && (a || b))
cut_or true b true f = absurd (let e : true ≡ false = f refl in cc)
cut_or true b false f = refl
cut_or false b c f = refl

is_in-in_range : (next : ℕ) (vs : List Var) (v : Var) → is_in v (in_range next vs) ≡ (number_fits next v && is_in v vs)
is_in-in_range next [] v = cut_none (number_fits next v)
  where
    cut_none : (c : Bool) → false ≡ (c && false)
    cut_none true = refl
    cut_none false = refl
is_in-in_range next (w ∷ ws) v =
    let rest = is_in-in_range next ws v in
    let moved : same v w ≡ true → number_fits next v ≡ number_fits next w = λ e. ap (number_fits next) (same_true v w e) in
    elim (bool_cases (number_fits next w)) [
      | inl is ↦ rw is (ap (λ b. same v w || b) rest ∙ or_cut (same v w) (is_in v ws) (number_fits next v) (λ e. moved e ∙ is))
      | inr isnt ↦ rw isnt (rest ∙ cut_or (same v w) (is_in v ws) (number_fits next v) (λ e. moved e ∙ isnt))
    ]

and_out : (a b : Bool) → a ≡ true → (a && b) ≡ false → b ≡ false
and_out true b e f = f
and_out false b e f = absurd cc

and_none : (a b : Bool) → b ≡ false → (a && b) ≡ false
and_none true b e = e
and_none false b e = refl

module _ (defs : Defs) (free : List Var) (next : ℕ) (d : Disjunct) where
  numbered : (v : Var) → IsTrue (is_in v (in_range next free)) → IsNumbered next v
  numbered v e = (number_told next v).0 (and_parts (number_fits next v) (is_in v free) (subst IsTrue (is_in-in_range next free v) e)).0

  -- out of those in range, and out of all
  out : (v : Var) → IsNumbered next v → is_in v (in_range next free) ≡ false → is_in v free ≡ false
  out v n e = and_out (number_fits next v) (is_in v free) ((number_told next v).1 n) (sym (is_in-in_range next free v) ∙ e)

  out_back : (v : Var) → is_in v free ≡ false → is_in v (in_range next free) ≡ false
  out_back v e = is_in-in_range next free v ∙ and_none (number_fits next v) (is_in v free) e

  pure_forth : (p : Pure) → PureFits (in_range next free) next p → PureFits free next p
  pure_forth p f = record { formed = f.formed; apart = λ u b. out u (f.numbers u (bound-occurs_of u p b)) (f.apart u b); numbers = f.numbers }

  pure_back : (p : Pure) → PureFits free next p → PureFits (in_range next free) next p
  pure_back p f = record { formed = f.formed; apart = λ u b. out_back u (f.apart u b); numbers = f.numbers }

  forth : DisjunctFits defs (in_range next free) next d → DisjunctFits defs free next d
  forth f = record {
    distinct = f.distinct;
    apart = λ u b. out u (f.numbers u (or_left (is_in u d.bound) (list_any (in_atom u) d.atoms || list_any (occurs u) d.pure) b)) (f.apart u b);
    among = λ v e. (and_parts (number_fits next v) (is_in v free) (subst IsTrue (is_in-in_range next free v) (f.among v e))).1;
    numbers = f.numbers;
    atoms = f.atoms;
    pure = λ i p less. pure_forth _ (f.pure i p less);
    flat = f.flat;
  }

  back : DisjunctFits defs free next d → DisjunctFits defs (in_range next free) next d
  back f = record {
    distinct = f.distinct;
    apart = λ u b. out_back u (f.apart u b);
    among = λ v e. subst IsTrue (sym (is_in-in_range next free v)) (and_from (number_fits next v) (is_in v free) ((number_told next v).1 (f.numbers v (free_occurs v d e))) (f.among v e));
    numbers = f.numbers;
    atoms = f.atoms;
    pure = λ i p less. pure_back _ (f.pure i p less);
    flat = f.flat;
  }

  pub disjunct_alone_told : Tells (disjunct_fits defs (λ v. number_fits next v && is_in v free) next d) (DisjunctFits defs free next d)
  disjunct_alone_told = subst (λ (scope : Var → Bool). Tells (disjunct_fits defs scope next d) (DisjunctFits defs free next d)) (λ i v. is_in-in_range next free v i)
      (tells (disjunct_fits defs (λ v. is_in v (in_range next free)) next d) (DisjunctFits defs (in_range next free) next d) (DisjunctFits defs free next d) (disjunct_told defs (in_range next free) next numbered d) forth back)

pub formula_alone_told : (defs : Defs) (free : List Var) (next : ℕ) (ds : List Disjunct) →
    Tells (list_all (disjunct_fits defs (λ v. number_fits next v && is_in v free) next) ds) (All (DisjunctFits defs free next) ds)
formula_alone_told defs free next ds = tells_all (disjunct_fits defs (λ v. number_fits next v && is_in v free) next) (DisjunctFits defs free next) (disjunct_alone_told defs free next) ds

-- ---- nodes

fields_told : (o : Option NodeDef) (n : ℕ) → Tells (has_fields o n) (option_map (λ (d : NodeDef). length d.fields) o ≡ Some n)
fields_told None n = (λ h. absurd cc, λ h. absurd cc)
fields_told (Some d) n = tells (length d.fields == n) (length d.fields ≡ n) (Some (length d.fields) ≡ Some n) (tells_eq (length d.fields) n) (λ e. ap (λ k. Some k) e) (λ e. cc)

pub node_told : (defs : Defs) (n : HeapNode) → Tells (node_fits defs n) (NodeFits defs n)
node_told defs n = fields_told (node_at defs n.of) (length n.values)

pub stops_here : {X : Type 0} (p : X → Bool) (x : X) (xs : List X) → p x ≡ false → list_all p (x ∷ xs) ≡ false
stops_here p x xs e = rw e refl

pub heap_told : (defs : Defs) (h : Heap) → Tells (list_all (node_fits defs) (values_of h)) (HeapFits defs h)
heap_told defs h = subst (λ b. Tells b (HeapFits defs h)) (sym (list_all-map (node_fits defs) (λ (e : Entry). e.1) h)) (tells_all (λ (e : Entry). node_fits defs e.1) (λ e. NodeFits defs e.1) (λ e. node_told defs e.1) h)
