-- What the pairs of a call make of a pair in normal form.
use Rattle.std.proofs.Common.{◌≡◌, ℕ, suc, ◌+◌, ◌<◌, ◌≤◌, ◌^◌, inl, inr, true, false, IsTrue, List, ◌∷◌, ◌++◌, length, map, Option, refl, sym, ◌∙◌, ap, subst, arith, rules}
use Rattle.std.specs.List.{All}
use Rattle.hs_pure.specs.declared.var.Var.{Var}
use Rattle.hs_pure.specs.Rename.{renaming}
use Rattle.hs_pure.specs.Sums.{IsLight}
use Rattle.hs_pure.proofs.Lists.{All-weaker}
use Rattle.hs_heap.specs.declared.formula.Disjunct.{Disjunct}
use Rattle.hs_heap.specs.declared.formula.Formula.{Formula}
use Rattle.hs_heap.specs.declared.definitions.Defs.{Defs}
use Rattle.hs_heap.specs.Meaning.{is_in}
use Rattle.hs_heap.specs.Variables.{occurs_in_formula}
use Rattle.hs_heap.specs.Renamed.{renamed_formula, FormulaInRange}
use Rattle.hs_heap.specs.Sound.{PureFits, DisjunctFits, FormulaFits, IsNumbered}
use Rattle.hs_pure.proofs.Vars.{or_left, or_right}
use Rattle.hs_heap.proofs.Booleans.{clash}
use Rattle.hs_heap.proofs.Instances.{formula_in_range}
use Rattle.hs_heap.proofs.SameNames.{formula_alike}
use Rattle.hs_rules.proofs.Variables.{is_in-append}
use Rattle.hs_core.specs.declared.program.Pair.{Pair}
use Rattle.hs_core.specs.declared.program.Method.{Method}
use Rattle.hs_core.specs.Sound.{PairFits, vars_from, param_vars, reserved_vars}
use Rattle.hs_core.proofs.GivenVars.{in_from, from_in}
use Rattle.hs_program_rules.specs.States.{Held, number_var}
use Rattle.hs_program_rules.specs.Parts.{is_of_pair, call_renaming, result_var, last_vars, return_renaming}
use Rattle.hs_program_rules.proofs.Standing.{from_length}
use Rattle.hs_program_rules.proofs.Pairs.{names, name_low}
use Rattle.hs_program_rules.proofs.Renaming.{IsKnown, reserved_of_pair, logic_of_pair, pre_known, post_known, occurs_low}
use Rattle.hs_program_parts.specs.Pairs.{call_pairs, return_pairs, CanBeCalled}
use Rattle.hs_program_parts.proofs.Names.{call_is, return_is, vars_alike}

cases_light : (defs : Defs) (vs : List Var) (next : ℕ) (f : Formula) → FormulaFits defs vs next f → All (λ (d : Disjunct). All IsLight d.pure) f.cases
cases_light defs vs next f fits = All-weaker (DisjunctFits defs vs next) (λ d. All IsLight d.pure) (λ d g. All-weaker (PureFits vs next) IsLight (λ p h. h.formed.light) d.pure g.pure) f.cases fits

module _ (m : Method) (p : Pair) (able : CanBeCalled m p) where
  reserved_name : (v : Var) → is_in v (reserved_vars m) ≡ true → is_in v (names able.defs m p able.fits) ≡ true
  reserved_name v e =
      is_in-append v (param_vars m ++ reserved_vars m) p.logic
      ∙ or_left (is_in v (param_vars m ++ reserved_vars m)) (is_in v p.logic) (is_in-append v (param_vars m) (reserved_vars m) ∙ or_right (is_in v (param_vars m)) (is_in v (reserved_vars m)) e)

  logic_name : (v : Var) → is_in v p.logic ≡ true → is_in v (names able.defs m p able.fits) ≡ true
  logic_name v e = is_in-append v (param_vars m ++ reserved_vars m) p.logic ∙ or_right (is_in v (param_vars m ++ reserved_vars m)) (is_in v p.logic) e

  pub pre_in_range : (ρ : Var → Var) → FormulaInRange ρ p.pre
  pre_in_range ρ = formula_in_range ρ p.pre (cases_light able.defs (names able.defs m p able.fits) p.next p.pre able.fits.pre_apart)

  pub post_in_range : (ρ : Var → Var) → FormulaInRange ρ p.post
  post_in_range ρ = formula_in_range ρ p.post (cases_light able.defs (names able.defs m p able.fits) p.next p.post able.fits.post)

  pub few : p.next ≤ 2 ^ 16
  few = able.fits.bounded

  last_low : (suc m.params + length m.refs) < p.next
  last_low = name_low able.defs m p able.fits (number_var (suc m.params + length m.refs))
      (reserved_name (number_var (suc m.params + length m.refs))
      (from_in (number_var (suc m.params + length m.refs)) (suc m.params) (suc (length m.refs)) refl (omega arith) (omega arith)))

  -- the reserved numbers are below next
  pub reserved_few : m.params + length m.refs + 2 ≤ p.next
  reserved_few = let low = last_low in omega arith

  pub return_formula_is : (from : Option ℕ) (held : Held) → renamed_formula (renaming (return_pairs m from held)) p.post ≡ renamed_formula (return_renaming m from held) p.post
  return_formula_is from held = λ i. renamed_formula (return_is m from held i) p.post

  module _ (args : List Var) (fresh : ℕ) (arity : length args ≡ m.params) where
    abbrev ρ : Var → Var
    ρ = renaming (call_pairs m p args fresh)

    abbrev σ : Var → Var
    σ = call_renaming m p args fresh

    -- one name for each known variable that is below next
    one_name : (v : Var) → IsKnown able.defs m p able.fits v → v.number < p.next → renaming (call_pairs m p args fresh) v ≡ call_renaming m p args fresh v
    one_name v known low = call_is m p args fresh (arity ∙ sym (from_length 1 m.params)) v (λ out. (elim known [ inl is ↦ clash is out | inr of ↦ of ], low))

    pub pre_is : renamed_formula (renaming (call_pairs m p args fresh)) p.pre ≡ renamed_formula (call_renaming m p args fresh) p.pre
    pre_is = formula_alike (renaming (call_pairs m p args fresh)) (call_renaming m p args fresh) p.pre
        (λ v o. one_name v (pre_known able.defs m p able.fits v o) (occurs_low able.defs m p able.fits p.pre able.fits.pre_apart v o))

    pub post_is : renamed_formula (renaming (call_pairs m p args fresh)) p.post ≡ renamed_formula (call_renaming m p args fresh) p.post
    post_is = formula_alike (renaming (call_pairs m p args fresh)) (call_renaming m p args fresh) p.post
        (λ v o. one_name v (post_known able.defs m p able.fits v o) (occurs_low able.defs m p able.fits p.post able.fits.post v o))

    pub logic_is : map (renaming (call_pairs m p args fresh)) p.logic ≡ map (call_renaming m p args fresh) p.logic
    logic_is = vars_alike (renaming (call_pairs m p args fresh)) (call_renaming m p args fresh) p.logic
        (λ v i. one_name v (inr (logic_of_pair able.defs m p able.fits v i)) (name_low able.defs m p able.fits v (logic_name v i)))

    reserved_one : (v : Var) → is_in v (reserved_vars m) ≡ true → renaming (call_pairs m p args fresh) v ≡ call_renaming m p args fresh v
    reserved_one v i = one_name v (inr (reserved_of_pair able.defs m p able.fits v i)) (name_low able.defs m p able.fits v (reserved_name v i))

    pub result_is : renaming (call_pairs m p args fresh) (result_var m) ≡ call_renaming m p args fresh (result_var m)
    result_is = reserved_one (result_var m) (from_in (result_var m) (suc m.params) (suc (length m.refs)) refl (omega arith) (omega arith))

    pub lasts_are : map (renaming (call_pairs m p args fresh)) (last_vars m) ≡ map (call_renaming m p args fresh) (last_vars m)
    lasts_are = vars_alike (renaming (call_pairs m p args fresh)) (call_renaming m p args fresh) (last_vars m)
        (λ v i. let there = in_from v (suc (suc m.params)) (length m.refs) i in let low = there.1 in let high = there.2 in
        reserved_one v (from_in v (suc m.params) (suc (length m.refs)) there.0 (omega arith) (omega arith)))

-- ---- numbers of programs

pub few_all : (m : Method) (p : Pair) → CanBeCalled m p → m.params + length m.refs + 2 ≤ 65536
few_all m p able = let most : p.next ≤ 65536 = few m p able in let low = reserved_few m p able in omega arith

pub few_params : (m : Method) (p : Pair) → CanBeCalled m p → m.params + 2 ≤ 65536
few_params m p able = let low = few_all m p able in omega arith

pub few_refs : (m : Method) (p : Pair) → CanBeCalled m p → length m.refs ≤ 65536
few_refs m p able = let low = few_all m p able in omega arith

pub first : (m : Method) (pairs : List (Var × Var)) → renaming pairs (record { number = m.params + 1; bag = false }) ≡ renaming pairs (result_var m)
first m pairs = let e : m.params + 1 ≡ suc m.params = omega arith in ap (λ k. renaming pairs (number_var k)) e

pub lasts_at : (m : Method) (n : ℕ) → n ≡ length m.refs → vars_from (m.params + 2) n ≡ last_vars m
lasts_at m n is = let e : m.params + 2 ≡ suc (suc m.params) = omega arith in λ i. vars_from (e i) (is i)
