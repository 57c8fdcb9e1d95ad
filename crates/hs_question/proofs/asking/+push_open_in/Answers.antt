use Rattle.std.proofs.Common.{◌≡◌, ◌∙◌, ◌++◌, List, sym, subst}
use Rattle.std.specs.Result.{OnOk}
use Rattle.hs_pure.specs.declared.var.Var.{Var}
use Rattle.hs_question.proofs.Opens.{open_in_skipped}
use Rattle.hs_question.proofs.asking.+push_open_in.Goals as goal

pub returns-else-is_in_some : goal.returns-else-is_in_some
returns-else-is_in_some t c =
    subst (λ vs. OnOk c.push_open_in-else-is_in_some.result (◌≡◌ {A = List Var} c.push_open_in-else-is_in_some.new.all (c.args.all.now ++ vs)))
    (sym (open_in_skipped c.args.opens.now c.args.ps.now _ c.in-len1-up.len_at_least (sym c.is_in_some.ensures ∙ c.if-is_in_some.false)))
    c.push_open_in-else-is_in_some.ensures
