use Rattle.std.proofs.Common.{List, [], ◌∷◌, ◌++◌, ◌+◌, sym, ap, ◌∙◌}
use Rattle.hs_pure.specs.declared.var.Var.{Var}
use Rattle.hs_program_rules.specs.States.{number_var}
use Rattle.hs_program_parts.proofs.Ranges.{from_next}
use Rattle.hs_program_parts.proofs.nodes.new_vars.Goals as goal

pub loop-i-preserved : goal.loop-i-preserved
loop-i-preserved c =
    c.in_ok-push.ensures.ok ∙ ap (λ (vs : List Var). vs ++ number_var (c.args.from + c.loop-i.i) ∷ []) c.loop-i.invariant ∙ sym (from_next c.args.from c.loop-i.i)
