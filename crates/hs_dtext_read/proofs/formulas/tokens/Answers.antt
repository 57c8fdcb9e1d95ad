use Rattle.std.proofs.Common.{rules, ◌≡◌, true, false, if◌then◌else◌, Ok, Err, ◌∙◌}
use Rattle.hs_line.specs.declared.fault.Fault.TheVariants.{Formula}
use Rattle.hs_dtext.specs.Formulas.{has_comment}
use Rattle.hs_dtext_read.proofs.Tokens.{lexed_found}
use Rattle.hs_dtext_read.proofs.formulas.tokens.Goals as goal

pub returns-then-has_comment-clause-outcome : goal.returns-then-has_comment-clause-outcome
returns-then-has_comment-clause-outcome c =
    let some : has_comment c.args.text.now ≡ true = search rules in
    lexed_found c.args.text.now c.in-Ok.tokens.items c.in-Ok.ensures.found ∙ (λ i. if some i then Err Formula else Ok c.in-Ok.tokens.items)

pub returns-else-has_comment-clause-outcome : goal.returns-else-has_comment-clause-outcome
returns-else-has_comment-clause-outcome c =
    let none : has_comment c.args.text.now ≡ false = search rules in
    lexed_found c.args.text.now c.in-Ok.tokens.items c.in-Ok.ensures.found ∙ (λ i. if none i then Err Formula else Ok c.in-Ok.tokens.items)
