-- Nodes of a data type fit, and formulas with one more node are shaped.
use Rattle.std.proofs.Common.{ℕ, ◌≡◌, false, List, [], ◌∷◌, length, map, Option, Some, None, option_map, refl, sym, ◌∙◌, ap, arith}
use Rattle.std.proofs.lemmas.List.Elements.{All-cons, All-head, All-tail, All-map}
use Rattle.hs_pure.specs.declared.var.Var.{Var}
use Rattle.hs_heap.specs.declared.formula.Of.TheVariants.{Node}
use Rattle.hs_heap.specs.declared.formula.Atom.{Atom}
use Rattle.hs_heap.specs.declared.formula.Formula.{Formula}
use Rattle.hs_heap.specs.declared.definitions.NodeDef.{NodeDef}
use Rattle.hs_heap.specs.declared.definitions.Defs.{Defs}
use Rattle.hs_heap.specs.Sound.{AtomFits, argument_kinds, node_at, kinds}
use Rattle.hs_core.specs.Sound.{HasFields, HasField, field_count}
use Rattle.hs_program_rules.specs.Parts.{node_atom, with_atom, beside, count_or_none, new_fields}
use Rattle.hs_program_rules.proofs.Standing.{AreNumbers, from_length, from_numbers}
use Rattle.hs_program_fits.proofs.Shapes.{CaseIsShaped, IsShaped}

falses : {F : Type 0} (fs : List F) (vs : List Var) → AreNumbers vs → length vs ≡ length fs → map (λ f. false) fs ≡ kinds vs
falses [] [] numbers e = refl
falses [] (v ∷ vs) numbers e = absurd (omega arith)
falses (f ∷ fs) [] numbers e = absurd (omega arith)
falses (f ∷ fs) (v ∷ vs) numbers e =
    let first = sym (All-head (λ (v : Var). v.bag ≡ false) v vs numbers) in
    let rest = falses fs vs (All-tail (λ (v : Var). v.bag ≡ false) v vs numbers) (omega arith) in
    λ i. first i ∷ rest i

module _ (defs : Defs) where
  node_kinds : (kind n : ℕ) (vs : List Var) → HasFields defs kind n → AreNumbers vs → length vs ≡ n → argument_kinds defs (Node kind) ≡ Some (kinds vs)
  node_kinds kind n vs has numbers size = go (node_at defs kind) has
    where
      some_is : (a b : ℕ) → Some a ≡ Some b → a ≡ b
      some_is a b e = cc

      go : (o : Option NodeDef) → option_map (λ (d : NodeDef). length d.fields) o ≡ Some n → option_map (λ (d : NodeDef). map (λ f. false) d.fields) o ≡ Some (kinds vs)
      go None e = absurd (cc)
      go (Some d) e = ap Some (falses d.fields vs numbers (size ∙ sym (some_is (length d.fields) n e)))

  pub node_fits : (root : Var) (kind n : ℕ) (vs : List Var) → root.bag ≡ false → HasFields defs kind n → AreNumbers vs → length vs ≡ n → AtomFits defs (node_atom root kind vs)
  node_fits root kind n vs number has numbers size = (number, node_kinds kind n vs has numbers size)

  -- new variables for all fields
  pub fields_length : (kind n next : ℕ) → HasFields defs kind n → length (new_fields defs kind next) ≡ n
  fields_length kind n next has = from_length next (count_or_none (field_count defs kind)) ∙ ap count_or_none has

  pub fields_numbers : (kind next : ℕ) → AreNumbers (new_fields defs kind next)
  fields_numbers kind next = from_numbers next (count_or_none (field_count defs kind))

  pub fields_fit : (root : Var) (kind field next : ℕ) → root.bag ≡ false → HasField defs kind field → AtomFits defs (node_atom root kind (new_fields defs kind next))
  fields_fit root kind field next number (n, has, up) = node_fits root kind n (new_fields defs kind next) number has (fields_numbers kind next) (fields_length kind n next has)

  pub beside_shaped : (a : Atom) (f : Formula) → AtomFits defs a → IsShaped defs f → IsShaped defs (beside a f)
  beside_shaped a f fits h = All-map (CaseIsShaped defs) (with_atom a) f.cases (λ i d less.
      let s = h i d less in
      record { atoms = All-cons (AtomFits defs) a _ fits s.atoms; distinct = s.distinct; pure = s.pure })
