use Rattle.std.proofs.Common.{◌∙◌, ap, sym, subst, Some, ℕ, List, length, ◌≤◌}
use Rattle.std.specs.List.{All}
use Rattle.hs_core.specs.declared.instr.Instr.TheVariants as instr_of
use Rattle.hs_core.specs.Machine.{method_of}
use Rattle.hs_core.specs.Sound.{IsUpTo}
use Rattle.std.proofs.lemmas.Result.{IfOk-weaker}
use Rattle.hs_machine.specs.declared.machine.Machine.{Machine}
use Rattle.hs_machine.specs.Read.{Did, IsTurn}
use Rattle.hs_machine.proofs.Turns.{call_there, call_args, turn_call, turn_simple, stays_if, can_do_here, room}
use Rattle.hs_machine.proofs.machine.Machine.step.Goals as goal

pub call-requires-clause-there : goal.call-requires-clause-there
call-requires-clause-there c =
    call_there c.args.program.now c.args.self.now c.in-Call.field-0 c.in-Call.number c.in-Call.args c.requires (c.instruction.ensures ∙ ap (λ i. Some i) c.in-Call.is)

pub call-requires-clause-args : goal.call-requires-clause-args
call-requires-clause-args c =
    let fit = call_args c.args.program.now c.args.self.now c.in-Call.field-0 c.in-Call.number c.in-Call.args c.requires (c.instruction.ensures ∙ ap (λ i. Some i) c.in-Call.is) in
    let P : List ℕ → Type 0 = λ ks. All (IsUpTo (length c.args.self.now.frame.slots)) ks in
    let Q : List ℕ → Type 0 = λ ks. length ks ≤ (method_of c.args.program.now c.in-Call.number).slots in
    (subst P (sym c.as_slice.ensures) fit.0, subst Q (sym c.as_slice.ensures) fit.1)

pub simple-requires : goal.simple-requires
simple-requires c = record {
  room = room c.args.program.now c.args.self.now.frame c.requires.short c.requires.frame;
  can = can_do_here c.args.program.now c.args.self.now c.instruction.result.now c.requires c.instruction.ensures (stays_if c.instruction.result.now c.in_default.not-Call c.in_default.not-Return);
}

pub returns-in_ok-call-in-Call : goal.returns-in_ok-call-in-Call
returns-in_ok-call-in-Call c =
    let m = c.args.self.now in
    turn_call c.args.program.now m (record { frame = c.call.new.frame; callers = c.call.new.callers; heap = m.heap }) c.in-Call.field-0 c.in-Call.number c.as_slice.result.now c.requires
    (c.instruction.ensures ∙ ap (λ i. Some i) c.in-Call.is ∙ ap (λ ks. Some (instr_of.Call c.in-Call.field-0 c.in-Call.number ks)) (sym c.as_slice.ensures))
    c.in_ok-call-in-Call.ensures.frame c.in_ok-call-in-Call.ensures.slots c.in_ok-call-in-Call.ensures.few c.in_ok-call-in-Call.ensures.callers (λ i. m.heap)

pub returns-in_default : goal.returns-in_default
returns-in_default c =
    let m = c.args.self.now in
    let n : Machine = record { frame = c.simple.new.frame; callers = c.args.self.now.callers; heap = c.simple.new.heap } in
    IfOk-weaker c.simple.result (λ turn. Did c.instruction.result.now c.args.self.now.frame c.args.self.now.heap turn c.simple.new.frame c.simple.new.heap)
    (λ turn. IsTurn c.args.program.now c.args.self.now turn n)
    (λ turn did. turn_simple c.args.program.now m n c.instruction.result.now turn c.requires c.instruction.ensures (λ i. m.callers) did) c.simple.ensures
