-- Instructions with their rules.
use Rattle.std.proofs.Common.{ℕ, List, Option}
use Rattle.hs_pure.specs.declared.lin.Lin.{Lin}
use Rattle.hs_pure.specs.declared.pure.Pure.{Pure}
use Rattle.hs_rules.specs.Parts.{IsPlace}
use Rattle.hs_core.specs.declared.instr.Instr.{Instr}
use Rattle.hs_core.specs.declared.instr.Instr.TheVariants as instr
use Rattle.hs_core.specs.declared.program.Program.{Program}
use Rattle.hs_core.specs.declared.state.PRule.{PRule}
use Rattle.hs_core.specs.declared.state.PRule.TheVariants as rule
use Rattle.hs_core.specs.Machine.{method_of}
use Rattle.hs_program_rules.specs.Table.{IsRuleOf}

-- the instruction and its rule
pub data Matched (program : Program) : Instr → PRule → Type 0 where
  assigns : (to : ℕ) (term : Lin) → Matched program (instr.Assign to term) rule.Assign
  makes : (to kind : ℕ) (args : List ℕ) → Matched program (instr.New to kind args) rule.New
  gets : (to slot kind field : ℕ) → Matched program (instr.Get to slot kind field) rule.Get
  sets : (slot kind field from : ℕ) → Matched program (instr.Set slot kind field from) rule.Set
  branches : (condition : Pure) (other : ℕ) → Matched program (instr.Branch condition other) rule.Branch
  jumps : (target : ℕ) → Matched program (instr.Jump target) rule.Jump
  calls : (to : Option ℕ) (method : ℕ) (args : List ℕ) (i : ℕ) → IsPlace i (method_of program method).pairs → Matched program (instr.Call to method args) (rule.Call i)
  returns : (from : Option ℕ) → Matched program (instr.Return from) rule.Return

module _ (program : Program) where
  pub matched : (i : Instr) (r : PRule) → IsRuleOf program i r → Matched program i r
  matched (instr.Assign to term) rule.Or e = absurd e
  matched (instr.Assign to term) rule.Assign e = assigns to term
  matched (instr.Assign to term) rule.New e = absurd e
  matched (instr.Assign to term) rule.Get e = absurd e
  matched (instr.Assign to term) rule.Set e = absurd e
  matched (instr.Assign to term) rule.Branch e = absurd e
  matched (instr.Assign to term) rule.Jump e = absurd e
  matched (instr.Assign to term) (rule.Call i) e = absurd e
  matched (instr.Assign to term) rule.Return e = absurd e
  matched (instr.New to kind args) rule.Or e = absurd e
  matched (instr.New to kind args) rule.Assign e = absurd e
  matched (instr.New to kind args) rule.New e = makes to kind args
  matched (instr.New to kind args) rule.Get e = absurd e
  matched (instr.New to kind args) rule.Set e = absurd e
  matched (instr.New to kind args) rule.Branch e = absurd e
  matched (instr.New to kind args) rule.Jump e = absurd e
  matched (instr.New to kind args) (rule.Call i) e = absurd e
  matched (instr.New to kind args) rule.Return e = absurd e
  matched (instr.Get to slot kind field) rule.Or e = absurd e
  matched (instr.Get to slot kind field) rule.Assign e = absurd e
  matched (instr.Get to slot kind field) rule.New e = absurd e
  matched (instr.Get to slot kind field) rule.Get e = gets to slot kind field
  matched (instr.Get to slot kind field) rule.Set e = absurd e
  matched (instr.Get to slot kind field) rule.Branch e = absurd e
  matched (instr.Get to slot kind field) rule.Jump e = absurd e
  matched (instr.Get to slot kind field) (rule.Call i) e = absurd e
  matched (instr.Get to slot kind field) rule.Return e = absurd e
  matched (instr.Set slot kind field from) rule.Or e = absurd e
  matched (instr.Set slot kind field from) rule.Assign e = absurd e
  matched (instr.Set slot kind field from) rule.New e = absurd e
  matched (instr.Set slot kind field from) rule.Get e = absurd e
  matched (instr.Set slot kind field from) rule.Set e = sets slot kind field from
  matched (instr.Set slot kind field from) rule.Branch e = absurd e
  matched (instr.Set slot kind field from) rule.Jump e = absurd e
  matched (instr.Set slot kind field from) (rule.Call i) e = absurd e
  matched (instr.Set slot kind field from) rule.Return e = absurd e
  matched (instr.Branch condition other) rule.Or e = absurd e
  matched (instr.Branch condition other) rule.Assign e = absurd e
  matched (instr.Branch condition other) rule.New e = absurd e
  matched (instr.Branch condition other) rule.Get e = absurd e
  matched (instr.Branch condition other) rule.Set e = absurd e
  matched (instr.Branch condition other) rule.Branch e = branches condition other
  matched (instr.Branch condition other) rule.Jump e = absurd e
  matched (instr.Branch condition other) (rule.Call i) e = absurd e
  matched (instr.Branch condition other) rule.Return e = absurd e
  matched (instr.Jump target) rule.Or e = absurd e
  matched (instr.Jump target) rule.Assign e = absurd e
  matched (instr.Jump target) rule.New e = absurd e
  matched (instr.Jump target) rule.Get e = absurd e
  matched (instr.Jump target) rule.Set e = absurd e
  matched (instr.Jump target) rule.Branch e = absurd e
  matched (instr.Jump target) rule.Jump e = jumps target
  matched (instr.Jump target) (rule.Call i) e = absurd e
  matched (instr.Jump target) rule.Return e = absurd e
  matched (instr.Call to method args) rule.Or e = absurd e
  matched (instr.Call to method args) rule.Assign e = absurd e
  matched (instr.Call to method args) rule.New e = absurd e
  matched (instr.Call to method args) rule.Get e = absurd e
  matched (instr.Call to method args) rule.Set e = absurd e
  matched (instr.Call to method args) rule.Branch e = absurd e
  matched (instr.Call to method args) rule.Jump e = absurd e
  matched (instr.Call to method args) (rule.Call i) e = calls to method args i e
  matched (instr.Call to method args) rule.Return e = absurd e
  matched (instr.Return from) rule.Or e = absurd e
  matched (instr.Return from) rule.Assign e = absurd e
  matched (instr.Return from) rule.New e = absurd e
  matched (instr.Return from) rule.Get e = absurd e
  matched (instr.Return from) rule.Set e = absurd e
  matched (instr.Return from) rule.Branch e = absurd e
  matched (instr.Return from) rule.Jump e = absurd e
  matched (instr.Return from) (rule.Call i) e = absurd e
  matched (instr.Return from) rule.Return e = returns from
