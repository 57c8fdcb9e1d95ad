use Rattle.std.proofs.Common.{arith, sym}
use Rattle.hs_hip_lines.proofs.Causing.{no_instruction}
use Rattle.hs_hip_lines.proofs.causes.instruction.Goals as goal

pub returns-in-None : goal.returns-in-None
returns-in-None c = no_instruction c.args.program.now c.args.at.now.method c.args.at.now.point _ (omega arith) (sym c.in-None.ensures.value)
