use Rattle.std.proofs.Common.{◌≡◌, ◌+◌, [], ◌∷◌, ◌++◌, ap, ◌∙◌}
use Rattle.hs_print.specs.declared.why.Tried.{Tried}
use Rattle.hs_causes.specs.Causes.{why_of}
use Rattle.hs_program_rules.specs.States.{instruction_at}
use Rattle.hs_hip_lines.specs.Causes.{tried_by}
use Rattle.hs_hip_lines.proofs.Causing.{tried_more}
use Rattle.hs_hip_lines.proofs.causes.tried.Goals as goal

pub loop-cause-preserved : goal.loop-cause-preserved
loop-cause-preserved c =
    let instr = instruction_at c.args.program.now c.args.at.now in
    let said : c.tried_by.result ≡ tried_by instr (c.loop-cause.number + 1) c.in_ok-shown.shown =
    c.tried_by.ensures ∙ ap (λ o. tried_by o (c.loop-cause.number + 1) c.in_ok-shown.shown) c.instruction-instr.ensures in (
      ap (λ k. k + 1) c.loop-cause.invariant.0,
      tried_more instr (why_of c.args.defs.now c.args.p.now.names c.args.p.now.next c.args.limits.now) c.args.causes.now c.loop-cause.all c.push.new.self
          c.loop-cause.cause-index c.loop-cause.number c.cause-item.result c.in_ok-shown.shown
          c.loop-cause.invariant.1 c.loop-cause.invariant.0 c.loop-cause-test.true c.cause-item.is c.in_ok-shown.ensures.exact
          (c.in_ok-push.ensures.ok ∙ ap (λ (t : Tried). c.loop-cause.all ++ t ∷ []) said),
    )
