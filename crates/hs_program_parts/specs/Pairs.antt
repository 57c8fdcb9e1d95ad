-- The pairs by which formulas are renamed.
use Rattle.std.specs.Prelude.{ℕ, zero, suc, ◌+◌, ◌≤◌, ◌^◌, nat_le, not, ◌&&◌, Bool, true, false, List, [], ◌∷◌, ◌++◌, Option, Some, None, if◌then◌else◌}
use Rattle.std.specs.List.{All}
use Rattle.hs_pure.specs.declared.var.Var.{Var}
use Rattle.hs_heap.specs.declared.formula.Disjunct.{Disjunct}
use Rattle.hs_heap.specs.declared.definitions.Defs.{Defs}
use Rattle.hs_heap.specs.Variables.{occurs_in_disjunct}
use Rattle.hs_heap.specs.WellFormed.{IsProper}
use Rattle.hs_heap.specs.Sound.{AreDistinct}
use Rattle.hs_heap.specs.Instance.{count_below}
use Rattle.hs_goal.specs.Shape.{AreBelow}
use Rattle.hs_core.specs.declared.program.Pair.{Pair}
use Rattle.hs_core.specs.declared.program.Method.{Method}
use Rattle.hs_core.specs.Sound.{param_vars, PairFits}
use Rattle.hs_program_rules.specs.States.{Held, number_var, variable_in}
use Rattle.hs_program_rules.specs.Parts.{is_other, result_var, last_vars, variables_in}

-- a number variable of a number from low to high
abbrev pub is_between : ℕ → ℕ → Var → Bool
is_between low high v = not v.bag && (nat_le low v.number && nat_le v.number high)

-- each of the first variables with its partner
abbrev pub paired : List Var → List Var → List (Var × Var)
paired [] args = []
paired (w ∷ ws) [] = []
paired (w ∷ ws) (a ∷ args) = (w, a) ∷ paired ws args

-- the variables of both kinds of a number, with another number
abbrev pub both_with : ℕ → ℕ → List (Var × Var)
both_with n next = (record { number = n; bag = false }, record { number = next; bag = false }) ∷ (record { number = n; bag = true }, record { number = next; bag = true }) ∷ []

-- the numbers below n that pass a test, with the numbers from fresh on
abbrev pub others_below : (ℕ → Bool) → ℕ → ℕ → List (Var × Var)
others_below test fresh zero = []
others_below test fresh (suc n) = others_below test fresh n ++ (if test n then both_with n (fresh + count_below test n) else [])

-- those of a call
abbrev pub call_pairs : Method → Pair → List Var → ℕ → List (Var × Var)
call_pairs m p args fresh = paired (param_vars m) args ++ others_below (is_other m p) fresh p.next

-- those of a return
abbrev pub return_pairs : Method → Option ℕ → Held → List (Var × Var)
return_pairs m None held = paired (last_vars m) (variables_in held m.refs)
return_pairs m (Some k) held = (result_var m, variable_in held k) ∷ paired (last_vars m) (variables_in held m.refs)

-- the first n slots with their variables
abbrev pub slots_below : Held → ℕ → List (Var × Var)
slots_below held zero = []
slots_below held (suc n) = slots_below held n ++ (number_var (suc n), variable_in held (suc n)) ∷ []

-- each variable with a number of its own, from n on
abbrev pub fresh_pairs : List Var → ℕ → List (Var × Var)
fresh_pairs [] n = []
fresh_pairs (b ∷ bs) n = (b, record { number = n; bag = b.bag }) ∷ fresh_pairs bs (suc n)

-- ---- what is asked

-- the pair is in normal form over some definitions
pub record CanBeCalled (m : Method) (p : Pair) : Type 0 where
  pub defs : Defs
  pub fits : PairFits defs m p

-- what a disjunct binds can get numbers from next on
pub record CanBeOpened (next : ℕ) (d : Disjunct) : Type 0 where
  pub few : next ≤ 2 ^ 30
  pub distinct : AreDistinct d.bound
  pub numbers : AreBelow next (λ v. occurs_in_disjunct v d)
  pub pure : All IsProper d.pure
