-- What pairs in normal form give: which variables are free in their formulas, and which are bound.
use Rattle.std.proofs.Common.{ℕ, zero, suc, ◌≡◌, ◌<◌, ◌⊎◌, inl, inr, true, false, IsTrue, ◌||◌, List, [], ◌∷◌, ◌++◌, length, sym, ◌∙◌, arith}
use Rattle.std.specs.List.{All, list_any}
use Rattle.std.proofs.lemmas.Bool.{or_cases}
use Rattle.std.proofs.lemmas.List.Elements.{All-head, All-tail}
use Rattle.hs_pure.specs.declared.var.Var.{Var}
use Rattle.hs_pure.specs.declared.pure.Pure.{Pure}
use Rattle.hs_pure.specs.Occurs.{is_bound}
use Rattle.hs_pure.proofs.Vars.{or_left}
use Rattle.hs_heap.specs.declared.formula.Disjunct.{Disjunct}
use Rattle.hs_heap.specs.declared.definitions.Defs.{Defs}
use Rattle.hs_heap.specs.Meaning.{is_in}
use Rattle.hs_heap.specs.Renamed.{is_bound_in_disjunct}
use Rattle.hs_heap.specs.Sound.{IsNumbered, PureFits, DisjunctFits}
use Rattle.hs_heap.proofs.Booleans.{bool_cases, or_false_left, or_false_right}
use Rattle.hs_heap.proofs.Lists.{listed_forth}
use Rattle.hs_heap.proofs.Occurring.{bound_occurs}
use Rattle.hs_rules.proofs.Variables.{is_in-append}
use Rattle.hs_core.specs.declared.program.Pair.{Pair}
use Rattle.hs_core.specs.declared.program.Method.{Method}
use Rattle.hs_core.specs.declared.program.Program.{Program}
use Rattle.hs_core.specs.Machine.{numbered, method_of}
use Rattle.hs_core.specs.Sound.{IsUpTo, PairFits, IsSoundProgram, param_vars, reserved_vars}
use Rattle.hs_core.proofs.GivenVars.{in_from, apart_forth}
use Rattle.hs_program_rules.specs.States.{no_pair, pair_of}

pub numbered_all : {A : Type 0} (P : A → Type 0) (xs : List A) (k : ℕ) (d : A) → IsUpTo (length xs) k → All P xs → P (numbered xs k d)
numbered_all P xs zero d (low, high) all = absurd (omega arith)
numbered_all P [] (suc i) d (low, high) all = absurd (omega arith)
numbered_all P (x ∷ xs) (suc zero) d (low, high) all = All-head P x xs all
numbered_all P (x ∷ xs) (suc (suc i)) d (low, high) all = numbered_all P xs (suc i) d (omega arith, omega arith) (All-tail P x xs all)

-- the pairs of sound programs are in normal form
pub pair_fits : (defs : Defs) (program : Program) → IsSoundProgram defs program → (m i : ℕ) → IsUpTo (length program.methods) m → IsUpTo (length (method_of program m).pairs) i →
    PairFits defs (method_of program m) (pair_of (method_of program m) i)
pair_fits defs program sound m i there pair = numbered_all (PairFits defs (method_of program m)) (method_of program m).pairs i no_pair pair (sound.methods m there).pairs

module _ (defs : Defs) (m : Method) (p : Pair) (fits : PairFits defs m p) where
  -- the names with a meaning at the method's ends
  abbrev pub names : List Var
  names = param_vars m ++ reserved_vars m ++ p.logic

  in_names : (v : Var) → is_in v names ≡ ((is_in v (param_vars m) || is_in v (reserved_vars m)) || is_in v p.logic)
  in_names v = is_in-append v (param_vars m ++ reserved_vars m) p.logic ∙ rw (is_in-append v (param_vars m) (reserved_vars m))

  -- a name is a parameter, reserved or a logic variable
  pub name_cases : (v : Var) → is_in v names ≡ true → (is_in v (param_vars m) ≡ true) ⊎ ((is_in v (reserved_vars m) ≡ true) ⊎ (is_in v p.logic ≡ true))
  name_cases v e = elim (or_cases (is_in v (param_vars m) || is_in v (reserved_vars m)) (is_in v p.logic) (sym (in_names v) ∙ e)) [
    | inl k ↦ elim (or_cases (is_in v (param_vars m)) (is_in v (reserved_vars m)) k) [ inl i ↦ inl i | inr i ↦ inr (inl i) ]
    | inr k ↦ inr (inr k)
  ]

  pub record IsNoName (v : Var) : Type 0 where
    pub no_param : is_in v (param_vars m) ≡ false
    pub unreserved : is_in v (reserved_vars m) ≡ false
    pub not_logic : is_in v p.logic ≡ false

  pub no_name : (v : Var) → is_in v names ≡ false → IsNoName v
  no_name v e =
      let f = sym (in_names v) ∙ e in
      let first = or_false_left (is_in v (param_vars m) || is_in v (reserved_vars m)) (is_in v p.logic) f in
      record {
        no_param = or_false_left (is_in v (param_vars m)) (is_in v (reserved_vars m)) first;
        unreserved = or_false_right (is_in v (param_vars m)) (is_in v (reserved_vars m)) first;
        not_logic = or_false_right (is_in v (param_vars m) || is_in v (reserved_vars m)) (is_in v p.logic) f;
      }

  -- what is bound in a disjunct is no name
  pub bound_no_name : (d : Disjunct) → DisjunctFits defs names p.next d → (u : Var) → IsTrue (is_bound_in_disjunct u d) → IsNoName u
  bound_no_name d f u i = no_name u (elim (or_cases (is_in u d.bound) (list_any (is_bound u) d.pure) i) [
    | inl k ↦ f.apart u k
    | inr k ↦ inside d.pure f.pure k
  ])
    where
      inside : (ps : List Pure) → All (PureFits names p.next) ps → IsTrue (list_any (is_bound u) ps) → is_in u names ≡ false
      inside [] f k = absurd cc
      inside (q ∷ qs) f k = elim (or_cases (is_bound u q) (list_any (is_bound u) qs) k) [
        | inl h ↦ (All-head (PureFits names p.next) q qs f).apart u h
        | inr h ↦ inside qs (All-tail (PureFits names p.next) q qs f) h
      ]

  pub bound_low : (d : Disjunct) → DisjunctFits defs names p.next d → (u : Var) → IsTrue (is_bound_in_disjunct u d) → u.number < p.next
  bound_low d f u i = (f.numbers u (bound_occurs u d i)).1

  pub param_name : (v : Var) → is_in v (param_vars m) ≡ true → is_in v names ≡ true
  param_name v e = in_names v ∙ or_left (is_in v (param_vars m) || is_in v (reserved_vars m)) (is_in v p.logic) (or_left (is_in v (param_vars m)) (is_in v (reserved_vars m)) e)

  -- names are below next
  pub name_low : (v : Var) → is_in v names ≡ true → v.number < p.next
  name_low v e = (listed_forth (IsNumbered p.next) names fits.numbers v e).1

  -- reserved and logic variables are no parameters, and logic variables are not reserved
  pub reserved_no_param : (v : Var) → is_in v (reserved_vars m) ≡ true → is_in v (param_vars m) ≡ false
  reserved_no_param v e = elim (bool_cases (is_in v (param_vars m))) [
    | inl is ↦
        let low = (in_from v (suc m.params) (suc (length m.refs)) e).1 in
        let high = (in_from v 1 m.params is).2 in absurd (omega arith)
    | inr isnt ↦ isnt
  ]

  pub logic_no_other : (v : Var) → is_in v p.logic ≡ true → (is_in v (param_vars m) ≡ false) × (is_in v (reserved_vars m) ≡ false)
  logic_no_other v e =
      let split = apart_forth (param_vars m ++ reserved_vars m) p.logic fits.distinct in
      let f = sym (is_in-append v (param_vars m) (reserved_vars m)) ∙ split.1 v e in
      (or_false_left (is_in v (param_vars m)) (is_in v (reserved_vars m)) f, or_false_right (is_in v (param_vars m)) (is_in v (reserved_vars m)) f)
