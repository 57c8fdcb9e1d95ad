use Rattle.std.proofs.Common.{◌+◌, List, [], ◌∷◌, ◌++◌, Option, Some, ap, sym, ◌∙◌}
use Rattle.hs_pure.specs.declared.var.Var.{Var}
use Rattle.hs_program_rules.specs.States.{number_var}
use Rattle.hs_claims.proofs.Entered.{held_more}
use Rattle.hs_claims.proofs.entries.entry_held.Goals as goal

pub loop-n-preserved : goal.loop-n-preserved
loop-n-preserved c =
    c.in_ok-push.ensures.ok
    ∙ ap (λ (held : List (Option Var)). held ++ Some (number_var (c.loop-n.n + 1)) ∷ []) c.loop-n.invariant
    ∙ sym (held_more c.loop-n.n)
