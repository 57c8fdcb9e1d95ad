use Rattle.std.proofs.Common.{◌≡◌, ap, ◌∙◌, ◌∷◌}
use Rattle.hs_heaptext.proofs.Words.{no_value}
use Rattle.hs_heaptext.proofs.values.next_value.Goals as goal

pub returns-in_err-value : goal.returns-in_err-value
returns-in_err-value c =
    let is : c.args.text.now ≡ 32 ∷ c.in_ok-blank.behind.now = c.in_ok-blank.ensures.cases.0 ∙ ap (λ b. b ∷ c.in_ok-blank.behind.now) c.if-blank-ne-BLANK.false in
    rw c.from_residual-in_err-value.ensures (no_value _ _ _ _ is c.cut.ensures c.in_err-value.ensures)
