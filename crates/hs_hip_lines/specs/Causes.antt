-- How what was tried at a state is printed.
use Rattle.std.specs.Prelude.{ℕ, suc, List, [], ◌∷◌, map, Option, Some}
use Rattle.hs_heap.specs.declared.definitions.Defs.{Defs}
use Rattle.hs_goal.specs.declared.rule.Limits.{Limits}
use Rattle.hs_goal.specs.declared.rule.Cause.{Cause}
use Rattle.hs_core.specs.declared.instr.Instr.{Instr}
use Rattle.hs_core.specs.declared.instr.Instr.TheVariants as instr
use Rattle.hs_core.specs.declared.program.Program.{Program}
use Rattle.hs_core.specs.declared.state.At.{At}
use Rattle.hs_numbering.specs.declared.names.Names.{Names}
use Rattle.hs_print.specs.declared.why.Why.{Why}
use Rattle.hs_print.specs.declared.why.Tried.{Tried}
use Rattle.hs_print.specs.declared.why.Tried.TheVariants as tried
use Rattle.hs_causes.specs.Causes.{why_of}
use Rattle.hs_program_rules.specs.States.{instruction_at}

-- a cause with what was tried, by the instruction: at a call the pair of this number
abbrev pub tried_by : Option Instr → ℕ → Why → Tried
tried_by (Some (instr.Get to from node field)) i w = tried.Get w
tried_by (Some (instr.Set to node field from)) i w = tried.Set w
tried_by (Some (instr.Return from)) i w = tried.Return w
tried_by _ i w = tried.Pair i w

-- causes, the first of them by the given number
abbrev pub tried_from : Option Instr → ℕ → List Why → List Tried
tried_from o i [] = []
tried_from o i (w ∷ ws) = tried_by o i w ∷ tried_from o (suc i) ws

-- the causes at a state of a pair, under the pair's names, whose numbers are below next
abbrev pub tried_at : Defs → Program → Names → ℕ → Limits → At → List Cause → List Tried
tried_at defs program names next limits at causes = tried_from (instruction_at program at) 1 (map (why_of defs names next limits) causes)
