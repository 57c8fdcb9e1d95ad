use Rattle.std.proofs.Common.{sym, subst}
use Rattle.hs_heap.proofs.Tells.{Tells}
use Rattle.hs_program_rules.specs.Table.{ReadsHeld}
use Rattle.hs_program_parts.proofs.Held.{reads_told}
use Rattle.hs_program_parts.proofs.reading.reads_held.Goals as goal

pub returns : goal.returns
returns c =
    record { exact = subst (λ b. Tells b (ReadsHeld c.args.m.now c.args.held.now c.args.instr.now)) (sym c.instr_held.ensures) (reads_told c.args.held.now c.args.m.now c.args.instr.now) }
