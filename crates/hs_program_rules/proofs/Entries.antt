-- The start of each pair of a sound program is well formed.
use Rattle.std.proofs.Common.{rules, ℕ, zero, suc, ◌≡◌, ◌+◌, ◌-◌, ◌<◌, ◌≤◌, ◌^◌, inl, List, [], ◌∷◌, ◌++◌, length, map, replicate, Option, Some, None, refl, sym, subst, arith}
use Rattle.std.proofs.lemmas.List.Elements.{All-weaker}
use Rattle.hs_pure.specs.declared.var.Var.{Var}
use Rattle.hs_heap.specs.declared.formula.Disjunct.{Disjunct}
use Rattle.hs_heap.specs.declared.definitions.Defs.{Defs}
use Rattle.hs_heap.specs.WellFormed.{IsProper}
use Rattle.hs_heap.specs.Sound.{PureFits, DisjunctFits}
use Rattle.hs_goal.specs.Shape.{CaseFits}
use Rattle.hs_rules.proofs.Proper.{well_formed_proper}
use Rattle.hs_core.specs.declared.program.Method.{Method}
use Rattle.hs_core.specs.Machine.{method_of}
use Rattle.hs_core.specs.Sound.{param_vars}
use Rattle.hs_core.proofs.GivenVars.{from_in}
use Rattle.hs_program_rules.specs.States.{IsOwn, pair_of, entry_held, number_var}
use Rattle.hs_program_rules.specs.Laws.{EntriesFit}
use Rattle.hs_program_rules.proofs.Standing.{map_length, from_length}
use Rattle.hs_program_rules.proofs.Pairs.{pair_fits, names, name_low, param_name}
use Rattle.hs_program_rules.proofs.Values.{entry_holds}

abbrev no_var : Option Var
no_var = None

append_length : {A : Type 0} (xs ys : List A) → length (xs ++ ys) ≡ length xs + length ys
append_length [] ys = omega arith
append_length (x ∷ xs) ys = let e = append_length xs ys in omega arith

replicate_length : (n : ℕ) → length (replicate n no_var) ≡ n
replicate_length zero = refl
replicate_length (suc n) = let e = replicate_length n in omega arith

one_each : (m : Method) → m.params ≤ m.slots → length (entry_held m) ≡ m.slots
one_each m less =
    let all = append_length (map (λ v. Some v) (param_vars m)) (replicate (m.slots - m.params) no_var) in
    let first = map_length (λ (v : Var). Some v) (param_vars m) in
    let params = from_length 1 m.params in
    let rest = replicate_length (m.slots - m.params) in
    omega arith

side_case : (defs : Defs) (vs : List Var) (next : ℕ) (d : Disjunct) → DisjunctFits defs vs next d → CaseFits defs next d
side_case defs vs next d f = record {
  numbers = λ v o. (f.numbers v o).1;
  atoms = f.atoms;
  distinct = f.distinct;
  flat = f.flat;
  pure = All-weaker (PureFits vs next) IsProper (λ p g. well_formed_proper p g.formed) d.pure f.pure;
}

small : (n : ℕ) → n ≤ 2 ^ 16 → n ≤ 2 ^ 30
small n le = let more : 2 ^ 16 ≤ 2 ^ 30 = search rules in omega arith

pub entries_are_fit : EntriesFit
entries_are_fit defs program sound m i (there, pair) =
    let method = method_of program m in
    let p = pair_of method i in
    let fits = sound.methods m there in
    let normal = pair_fits defs program sound m i there pair in
    record {
      method = there;
      pair = pair;
      point = fits.begins;
      slots = one_each method fits.params;
      held = λ k v e.
          let (up, is) = entry_holds method k v e in
          let P : Var → Type 0 = λ u. IsOwn method p u × (u.number < p.next) in
          let (least, most) = up in
          subst P (sym is) (inl (refl, up), name_low defs method p normal (number_var k) (param_name defs method p normal (number_var k) (from_in (number_var k) 1 method.params refl least (omega arith))));
      not_below = omega arith;
      few = small p.next normal.bounded;
      formula = All-weaker (DisjunctFits defs (names defs method p normal) p.next) (CaseFits defs p.next) (side_case defs (names defs method p normal) p.next) p.pre.cases normal.pre_apart;
    }
