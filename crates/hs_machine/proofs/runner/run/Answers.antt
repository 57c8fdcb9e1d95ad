use Rattle.std.proofs.Common.{◌≡◌, ℕ, [], ◌∷◌, sym, subst, refl, arith, add-one}
use Rattle.hs_heap.specs.Heap.{Heap}
use Rattle.hs_core.specs.Machine.{Run, RunnerStep, called}
use Rattle.hs_core.proofs.Runs.{run_more}
use Rattle.hs_machine.specs.declared.simple.Turn.{Turn}
use Rattle.hs_machine.specs.declared.simple.Turn.TheVariants as turn_of
use Rattle.hs_machine.specs.declared.runner.RunEnd.{RunEnd}
use Rattle.hs_machine.specs.Read.{frames_of, IsTurn}
use Rattle.hs_machine.specs.End.{IsEnd}
use Rattle.hs_machine.proofs.runner.run.Goals as goal

pub loop-done-preserved : goal.loop-done-preserved
loop-done-preserved c =
    let program = c.args.program.now in
    let m = c.loop-done.machine in
    let n = c.step.new.self in
    let fs = called c.args.number c.args.args.now ∷ [] in
    let T : Turn → Type 0 = λ t. IsTurn c.args.program.now c.loop-done.machine t c.step.new.self in
    let turn : IsTurn c.args.program.now c.loop-done.machine turn_of.Done c.step.new.self = subst T c.in-Done.is c.in_ok-step.ensures in
    let R : ℕ → Type 0 = λ k. Run (RunnerStep c.args.program.now) k (called c.args.number c.args.args.now ∷ []) c.args.heap (frames_of c.step.new.self) c.step.new.self.heap in
    record {
      run = subst R (sym (add-one c.loop-done.done)) (run_more (RunnerStep program) c.loop-done.done fs c.args.heap (frames_of m) m.heap (frames_of n) n.heap c.loop-done.invariant.run turn.0);
      ready = turn.1;
    }

pub returns : goal.returns
returns c =
    let m = c.loop-done.machine in
    let high = c.loop-done.auto.done-end in
    let low = c.loop-done-test.false in
    let all : c.loop-done.done ≡ c.args.steps = omega arith in
    let R : ℕ → Type 0 = λ k. Run (RunnerStep c.args.program.now) k (called c.args.number c.args.args.now ∷ []) c.args.heap (frames_of c.loop-done.machine) c.loop-done.machine.heap in
    let E : RunEnd → Type 0 = λ e. IsEnd c.args.program.now c.args.number c.args.args.now c.args.heap c.args.steps e in
    let K : Heap → Type 0 = λ k. Run (RunnerStep c.args.program.now) c.args.steps (called c.args.number c.args.args.now ∷ []) c.args.heap (frames_of c.loop-done.machine) k in
    subst E (sym c.stopped-2.ensures) (refl, (frames_of m, subst K (sym c.into_heap-2.ensures) (subst R all c.loop-done.invariant.run)), refl)
