-- What the rows of the table are made of: states elsewhere, new numbers, renamings, joined residues.
use Rattle.std.specs.Prelude.{ℕ, suc, ◌+◌, ◌-◌, max, not, ◌&&◌, ◌||◌, Bool, false, true, List, [], ◌∷◌, ◌++◌, map, length, Option, Some, None, slice_set}
use Rattle.std.specs.List.{fold, flat_map}
use Rattle.hs_pure.specs.declared.var.Var.{Var}
use Rattle.hs_pure.specs.declared.pure.Pure.{Pure, fold-Pure}
use Rattle.hs_pure.specs.declared.pure.Pure.TheOpen.{Pure-F}
use Rattle.hs_pure.specs.declared.pure.Pure.TheVariants as pure_of
use Rattle.hs_heap.specs.declared.formula.Of.TheVariants.{Node}
use Rattle.hs_heap.specs.declared.formula.Atom.{Atom}
use Rattle.hs_heap.specs.declared.formula.Disjunct.{Disjunct}
use Rattle.hs_heap.specs.declared.formula.Formula.{Formula}
use Rattle.hs_heap.specs.declared.definitions.Defs.{Defs}
use Rattle.hs_heap.specs.Meaning.{is_in}
use Rattle.hs_heap.specs.Variables.{occurs_in_formula, vars_top, disjuncts_top}
use Rattle.hs_heap.specs.Instance.{count_below, put_arguments}
use Rattle.hs_goal.specs.declared.goal.Goal.{Goal}
use Rattle.hs_goal.specs.Goal.{start}
use Rattle.hs_core.specs.declared.program.Pair.{Pair}
use Rattle.hs_core.specs.declared.program.Method.{Method}
use Rattle.hs_core.specs.declared.state.At.{At}
use Rattle.hs_core.specs.Sound.{field_count, vars_from, param_vars, reserved_vars}
use Rattle.hs_program_rules.specs.States.{Held, number_var, variable_in}

-- ---- numbers

abbrev pub number_or_none : Option Var → ℕ
number_or_none None = 0
number_or_none (Some v) = v.number

abbrev pub held_top : Held → ℕ
held_top held = fold (λ top h. max top (number_or_none h)) 0 held

-- above every number of a formula and of what slots hold, and not below old
abbrev pub next_of : ℕ → Formula → Held → ℕ
next_of old f held = max old (suc (max (disjuncts_top f.cases) (held_top held)))

-- above every number of a goal, and not below old
abbrev pub next_of_goal : ℕ → Formula → List Var → Formula → ℕ
next_of_goal old left opens right = max old (suc (max (disjuncts_top left.cases) (max (vars_top opens) (disjuncts_top right.cases))))

-- ---- states and goals

-- what slots hold, with a variable in a slot
abbrev pub with_held : Held → ℕ → Var → Held
with_held held k v = slice_set held (k - 1) (Some v)

-- the state at another point, with a new formula
abbrev pub goes : At → ℕ → Held → Formula → At
goes at point held f = record at { point = point; state = record { slots = held; formula = f; next = next_of at.state.next f held } }

-- the goal that a state's formula implies the right side; it leaves new numbers from low on
abbrev pub asked : At → ℕ → List Var → Formula → Goal
asked at low opens right = start at.state.formula opens right (next_of_goal low at.state.formula opens right)

-- ---- nodes

abbrev pub node_atom : Var → ℕ → List Var → Atom
node_atom root kind args = record { root = root; of = Node kind; args = args }

abbrev pub with_atom : Atom → Disjunct → Disjunct
with_atom a d = record d { atoms = a ∷ d.atoms }

-- each disjunct with the atom put first
abbrev pub beside : Atom → Formula → Formula
beside a f = record { cases = map (with_atom a) f.cases }

abbrev pub count_or_none : Option ℕ → ℕ
count_or_none None = 0
count_or_none (Some n) = n

-- new variables for the fields of a data type
abbrev pub new_fields : Defs → ℕ → ℕ → List Var
new_fields defs kind next = vars_from next (count_or_none (field_count defs kind))

-- ---- conditions

-- the formula again, and its conjuncts
abbrev pub Flat : Type 0
Flat = Pure × List Pure

abbrev pub itself : Pure → Flat
itself p = (p, p ∷ [])

abbrev pub flat_level : Pure-F Flat → Flat
flat_level (Pure-F.Eq a b) = itself (pure_of.Eq a b)
flat_level (Pure-F.Lt a b) = itself (pure_of.Lt a b)
flat_level (Pure-F.Le a b) = itself (pure_of.Le a b)
flat_level (Pure-F.Divides d a) = itself (pure_of.Divides d a)
flat_level (Pure-F.BagEq a b) = itself (pure_of.BagEq a b)
flat_level (Pure-F.Subset a b) = itself (pure_of.Subset a b)
flat_level (Pure-F.Member a b) = itself (pure_of.Member a b)
flat_level (Pure-F.AllOf u b p) = itself (pure_of.AllOf u b p.0)
flat_level (Pure-F.Not p) = itself (pure_of.Not p.0)
flat_level (Pure-F.And ps) = (pure_of.And (map (λ p. p.0) ps), flat_map (λ p. p.1) ps)
flat_level (Pure-F.Or ps) = itself (pure_of.Or (map (λ p. p.0) ps))
flat_level (Pure-F.Exists u p) = itself (pure_of.Exists u p.0)
flat_level (Pure-F.Forall u p) = itself (pure_of.Forall u p.0)

-- the conjuncts of a formula: those of the members of an And at every depth, or itself
abbrev pub conjuncts : Pure → List Pure
conjuncts p = (fold-Pure Flat flat_level p).1

-- ---- calls

abbrev pub joined_case : Disjunct → Disjunct → Disjunct
joined_case d e = record { bound = d.bound ++ e.bound; atoms = d.atoms ++ e.atoms; pure = d.pure ++ e.pure }

-- each disjunct of the first beside each of the second
abbrev pub all_joined : Formula → Formula → Formula
all_joined f g = record { cases = flat_map (λ d. map (joined_case d) g.cases) f.cases }

-- whether a variable that is no parameter belongs to a pair: it occurs, is open or is reserved
abbrev pub is_of_pair : Method → Pair → Var → Bool
is_of_pair m p v =
    not (is_in v (param_vars m)) && (is_in v (reserved_vars m) || (is_in v p.logic || (occurs_in_formula v p.pre || occurs_in_formula v p.post)))

-- whether this is the number of such a variable
abbrev pub is_other : Method → Pair → ℕ → Bool
is_other m p n = is_of_pair m p (record { number = n; bag = false }) || is_of_pair m p (record { number = n; bag = true })

abbrev pub new_number : Method → Pair → ℕ → Var → Var
new_number m p fresh v = record { number = fresh + count_below (is_other m p) v.number; bag = v.bag }

-- parameters become the arguments' variables, others get new numbers from fresh on in the order of their numbers
abbrev pub call_renaming : Method → Pair → List Var → ℕ → Var → Var
call_renaming m p args fresh = put_arguments (param_vars m) args (new_number m p fresh)

-- the number after the last one taken
abbrev pub after_call : Method → Pair → ℕ → ℕ
after_call m p fresh = fresh + count_below (is_other m p) p.next

-- the result's variable, the first reserved one
abbrev pub result_var : Method → Var
result_var m = number_var (suc m.params)

-- those of the last values of the reference parameters
abbrev pub last_vars : Method → List Var
last_vars m = vars_from (suc (suc m.params)) (length m.refs)

-- the variables of slots
abbrev pub variables_in : Held → List ℕ → List Var
variables_in held ks = map (variable_in held) ks

-- what slots hold with variables in slots; of two in one slot the first counts
abbrev pub all_held : Held → List ℕ → List Var → Held
all_held held [] vs = held
all_held held (k ∷ ks) [] = held
all_held held (k ∷ ks) (v ∷ vs) = with_held (all_held held ks vs) k v

abbrev pub result_held : Option ℕ → Var → Held → Held
result_held None v held = held
result_held (Some k) v held = with_held held k v

-- ---- returns

-- the result's variable becomes that of the slot, and each last value's that of the parameter's slot
abbrev pub return_renaming : Method → Option ℕ → Held → Var → Var
return_renaming m None held = put_arguments (last_vars m) (variables_in held m.refs) (λ v. v)
return_renaming m (Some k) held = put_arguments (result_var m ∷ last_vars m) (variable_in held k ∷ variables_in held m.refs) (λ v. v)
