use Rattle.std.proofs.Common.{◌≡◌, ℕ, List, length, refl, sym, ap, ◌∙◌, subst}
use Rattle.hs_goal.specs.declared.goal.Goal.{Goal}
use Rattle.hs_core.specs.declared.instr.Instr.{Instr}
use Rattle.hs_core.specs.declared.instr.Instr.TheVariants as instr
use Rattle.hs_core.specs.declared.program.Method.{Method}
use Rattle.hs_core.specs.Machine.{method_of}
use Rattle.hs_program_rules.specs.States.{pair_of, method_at, pair_at}
use Rattle.hs_program_rules.specs.Table.{call_goal, return_goal}
use Rattle.hs_prule.specs.Steps.{called, own_goal, IsApplied}
use Rattle.hs_prule.proofs.Asking.{call_is, goal_answer}
use Rattle.hs_prule.proofs.goals.goal_for.Goals as goal

pub call_goal-requires-clause-arity : goal.call_goal-requires-clause-arity
call_goal-requires-clause-arity c =
    let applied = subst (λ (i : Instr). IsApplied c.args.program.now c.args.at.now c.args.rule i) c.in-Call.is c.requires.applied in
    let k = call_is c.args.defs.now c.args.program.now c.args.at.now c.requires.program c.requires.fits c.args.rule c.in-Call.field-0 c.in-Call.number c.in-Call.args applied in
    ap (λ (ks : List ℕ). length ks) c.as_slice.ensures ∙ k.arity ∙ sym (ap (λ (m : Method). m.params) c.method-m.ensures)

pub returns-in-Call : goal.returns-in-Call
returns-in-Call c =
    let pair : c.pair.result.now ≡ pair_of (method_of c.args.program.now c.in-Call.number) (called c.args.rule) = c.pair.ensures ∙ (λ i. pair_of (c.method-m.ensures i) (c.called.ensures i)) in
    let same : ◌≡◌ {A = Goal} (call_goal c.args.at.now c.method-m.result.now c.pair.result.now c.as_slice.result.now)
    (call_goal c.args.at.now (method_of c.args.program.now c.in-Call.number) (pair_of (method_of c.args.program.now c.in-Call.number) (called c.args.rule)) c.in-Call.args)
    = λ i. call_goal c.args.at.now (c.method-m.ensures i) (pair i) (c.as_slice.ensures i) in
    goal_answer c.args.defs.now c.args.program.now c.args.at.now (called c.args.rule) c.args.instr.now (instr.Call c.in-Call.field-0 c.in-Call.number c.in-Call.args)
    (call_goal c.args.at.now (method_of c.args.program.now c.in-Call.number) (pair_of (method_of c.args.program.now c.in-Call.number) (called c.args.rule)) c.in-Call.args)
    (call_goal c.args.at.now c.method-m.result.now c.pair.result.now c.as_slice.result.now) c.call_goal.result c.some-in-Call.result c.in-Call.is refl same c.call_goal.ensures c.some-in-Call.ensures

pub returns-in-Return : goal.returns-in-Return
returns-in-Return c =
    let method : c.method-m-in-Return.result.now ≡ method_at c.args.program.now c.args.at.now = c.method-m-in-Return.ensures in
    let pair : c.pair-in-Return.result.now ≡ pair_at c.args.program.now c.args.at.now = c.pair-in-Return.ensures ∙ ap (λ m. pair_of m c.args.at.now.pair) method in
    let same : ◌≡◌ {A = Goal} (own_goal c.args.at.now c.method-m-in-Return.result.now c.pair-in-Return.result.now c.in-Return.from) (return_goal c.args.program.now c.args.at.now c.in-Return.from)
    = λ i. own_goal c.args.at.now (method i) (pair i) c.in-Return.from in
    goal_answer c.args.defs.now c.args.program.now c.args.at.now (called c.args.rule) c.args.instr.now (instr.Return c.in-Return.from)
    (return_goal c.args.program.now c.args.at.now c.in-Return.from) (own_goal c.args.at.now c.method-m-in-Return.result.now c.pair-in-Return.result.now c.in-Return.from)
    c.return_goal.result c.some-in-Return.result c.in-Return.is refl same c.return_goal.ensures c.some-in-Return.ensures
