-- When a program is sound over definitions.
use Rattle.std.specs.Prelude.{◌≡◌, ℕ, zero, suc, ◌<◌, ◌≤◌, ◌^◌, Bool, true, false, IsTrue, List, [], ◌∷◌, ◌++◌, length, Option, Some, None, slice_get, option_map}
use Rattle.std.specs.List.{All}
use Rattle.hs_pure.specs.declared.var.Var.{Var}
use Rattle.hs_pure.specs.declared.lin.Lin.{Lin}
use Rattle.hs_pure.specs.declared.pure.Pure.{Pure}
use Rattle.hs_pure.specs.Occurs.{in_lin, occurs, has_bags}
use Rattle.hs_pure.specs.Sums.{LinIsLight, LinIsOrdered}
use Rattle.hs_pure.specs.Eval.{has_quantifiers}
use Rattle.hs_heap.specs.declared.definitions.NodeDef.{NodeDef}
use Rattle.hs_heap.specs.declared.definitions.Defs.{Defs}
use Rattle.hs_heap.specs.Sound.{IsNumbered, AreAmong, AreDistinct, FormulaFits, node_at}
use Rattle.hs_heap.specs.WellFormed.{IsWellFormed}
use Rattle.hs_core.specs.declared.instr.Instr.{Instr}
use Rattle.hs_core.specs.declared.instr.Instr.TheVariants.{Assign, New, Get, Set, Branch, Jump, Call, Return}
use Rattle.hs_core.specs.declared.program.Pair.{Pair}
use Rattle.hs_core.specs.declared.program.Method.{Method}
use Rattle.hs_core.specs.declared.program.Program.{Program}
use Rattle.hs_core.specs.Machine.{numbered, method_of}

-- k is a number from 1 to n
abbrev pub IsUpTo : ℕ → ℕ → Type 0
IsUpTo n k = (1 ≤ k) × (k ≤ n)

-- the variable is one of n slots
abbrev pub IsSlot : ℕ → Var → Type 0
IsSlot n v = (v.bag ≡ false) × IsUpTo n v.number

-- a term over n slots
pub record TermFits (n : ℕ) (a : Lin) : Type 0 where
  pub ordered : LinIsOrdered a
  pub light : LinIsLight a
  pub slots : All (λ t. IsSlot n t.0) a.terms

-- a condition over n slots
pub record ConditionFits (n : ℕ) (p : Pure) : Type 0 where
  pub formed : IsWellFormed p
  pub no_quantifiers : has_quantifiers p ≡ false
  pub no_bags : has_bags p ≡ false
  pub slots : (v : Var) → IsTrue (occurs v p) → IsSlot n v

-- how many fields the data type of a number from 1 has
abbrev pub field_count : Defs → ℕ → Option ℕ
field_count defs kind = option_map (λ (d : NodeDef). length d.fields) (node_at defs kind)

-- the data type is there, and has n fields
abbrev pub HasFields : Defs → ℕ → ℕ → Type 0
HasFields defs kind n = field_count defs kind ≡ Some n

-- the data type is there, and has the field
abbrev pub HasField : Defs → ℕ → ℕ → Type 0
HasField defs kind field = (n : ℕ) × (field_count defs kind ≡ Some n) × IsUpTo n field

-- a result goes to a slot only where the method has one
abbrev pub TakesFit : ℕ → Bool → Option ℕ → Type 0
TakesFit n result None = Unit {0}
TakesFit n result (Some k) = IsUpTo n k × (result ≡ true)

-- a return gives a slot exactly where its method has a result
abbrev pub GivesFit : ℕ → Bool → Option ℕ → Type 0
GivesFit n result None = result ≡ false
GivesFit n result (Some k) = IsUpTo n k × (result ≡ true)

-- the arguments of the reference parameters are different slots
abbrev pub AreApart : List ℕ → List ℕ → Type 0
AreApart args [] = Unit {0}
AreApart args (r ∷ refs) = All (λ q. ¬ (numbered args q 0 ≡ numbered args r 0)) refs × AreApart args refs

-- the instruction goes on to the next one
abbrev pub GoesOn : Method → ℕ → Type 0
GoesOn m i = suc i < length m.code

-- forward, to an instruction that is there
abbrev pub IsForward : Method → ℕ → ℕ → Type 0
IsForward m i target = (i < target) × (target < length m.code)

module _ (defs : Defs) (program : Program) (m : Method) where
  -- the instruction at the point i of the method
  abbrev pub InstrFits : ℕ → Instr → Type 0
  InstrFits i (Assign to term) = IsUpTo m.slots to × TermFits m.slots term × GoesOn m i
  InstrFits i (New to kind args) = IsUpTo m.slots to × All (IsUpTo m.slots) args × HasFields defs kind (length args) × GoesOn m i
  InstrFits i (Get to at kind field) = IsUpTo m.slots to × IsUpTo m.slots at × HasField defs kind field × GoesOn m i
  InstrFits i (Set at kind field from) = IsUpTo m.slots at × IsUpTo m.slots from × HasField defs kind field × GoesOn m i
  InstrFits i (Branch condition other) = ConditionFits m.slots condition × GoesOn m i × IsForward m i other
  InstrFits i (Jump target) = IsForward m i target
  InstrFits i (Call to method args) =
      let callee = method_of program method in
      IsUpTo (length program.methods) method × All (IsUpTo m.slots) args × (length args ≡ callee.params) × TakesFit m.slots callee.result to
      × AreApart args callee.refs × GoesOn m i
  InstrFits i (Return from) = GivesFit m.slots m.result from

-- numbers from 1 to n, rising from above low
abbrev pub AreRising : ℕ → ℕ → List ℕ → Type 0
AreRising n low [] = Unit {0}
AreRising n low (k ∷ ks) = (low < k) × (k ≤ n) × AreRising n k ks

-- ---- pairs

-- the number variables from, from + 1 and so on, so many of them
abbrev pub vars_from : ℕ → ℕ → List Var
vars_from from zero = []
vars_from from (suc count) = record { number = from; bag = false } ∷ vars_from (suc from) count

abbrev pub param_vars : Method → List Var
param_vars m = vars_from 1 m.params

-- those of the result and of each reference parameter's last value
abbrev pub reserved_vars : Method → List Var
reserved_vars m = vars_from (suc m.params) (suc (length m.refs))

abbrev pub VariantFits : List Var → Option Lin → Type 0
VariantFits free None = Unit {0}
VariantFits free (Some a) = LinIsLight a × LinIsOrdered a × AreAmong (λ v. in_lin v a) free

-- a pair of the method in normal form
pub record PairFits (defs : Defs) (m : Method) (p : Pair) : Type 0 where
  pub bounded : p.next ≤ 2 ^ 16
  pub distinct : AreDistinct (param_vars m ++ reserved_vars m ++ p.logic)
  pub numbers : All (IsNumbered p.next) (param_vars m ++ reserved_vars m ++ p.logic)
  pub pre_there : 1 ≤ length p.pre.cases
  pub post_there : 1 ≤ length p.post.cases
  pub pre : FormulaFits defs (param_vars m ++ p.logic) p.next p.pre
  -- the precondition binds no reserved variable either
  pub pre_apart : FormulaFits defs (param_vars m ++ reserved_vars m ++ p.logic) p.next p.pre
  pub post : FormulaFits defs (param_vars m ++ reserved_vars m ++ p.logic) p.next p.post
  pub variant : VariantFits (param_vars m ++ p.logic) p.variant

-- ---- programs

pub record MethodFits (defs : Defs) (program : Program) (m : Method) : Type 0 where
  pub params : m.params ≤ m.slots
  pub refs : AreRising m.params 0 m.refs
  pub begins : 0 < length m.code
  pub code : (i : ℕ) (instr : Instr) → slice_get m.code i ≡ Some instr → InstrFits defs program m i instr
  pub pairs : All (PairFits defs m) m.pairs

pub record IsSoundProgram (defs : Defs) (program : Program) : Type 0 where
  pub methods : (k : ℕ) → IsUpTo (length program.methods) k → MethodFits defs program (method_of program k)
