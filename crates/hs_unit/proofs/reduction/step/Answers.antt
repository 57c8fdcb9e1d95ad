use Rattle.std.proofs.Common.{◌≡◌, None, Some, sym, ap, ◌∙◌}
use Rattle.hs_unit.specs.Reduction.{unit_term, step_for}
use Rattle.hs_unit.proofs.Solutions.{unit_found}
use Rattle.hs_unit.proofs.Steps.{ok_map, proper-step}
use Rattle.hs_unit.proofs.reduction.step.Goals as goal

pub solved_for-requires-clause-unit : goal.solved_for-requires-clause-unit
solved_for-requires-clause-unit c = unit_found c.as_slice.result.now c.in-Some.t (sym c.unit_term.ensures ∙ c.in-Some.is)

pub returns : goal.returns
returns c =
    let u : unit_term c.args.f.now.terms ≡ Some c.in-Some.t = rw c.as_slice.ensures at (sym c.unit_term.ensures ∙ c.in-Some.is) in
    ok_map c.solved_for.result (λ o e. e ∙ ap (step_for c.args.r.now c.args.f.now c.args.later.now) (sym u) ∙ proper-step c.args.r.now c.args.f.now c.args.later.now c.requires.proper) c.solved_for.ensures

pub returns-in_default : goal.returns-in_default
returns-in_default c =
    let u : unit_term c.args.f.now.terms ≡ None = rw c.as_slice.ensures at (sym c.unit_term.ensures ∙ c.in_default.is) in
    ap (step_for c.args.r.now c.args.f.now c.args.later.now) (sym u) ∙ proper-step c.args.r.now c.args.f.now c.args.later.now c.requires.proper
