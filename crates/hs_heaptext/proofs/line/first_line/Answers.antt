use Rattle.std.proofs.Common.{List, ℕ, subst}
use Rattle.hs_heaptext.specs.Lines.{CutsAt}
use Rattle.hs_heaptext.proofs.Lines.{no_line, empty_from_length}
use Rattle.hs_heaptext.proofs.line.first_line.Goals as goal

pub returns-in_err-rest : goal.returns-in_err-rest
returns-in_err-rest c =
    let all = c.cut.ensures in
    let none = empty_from_length _ c.in_err-rest.ensures.cases in
    let P : List ℕ → Type 0 = λ behind. CutsAt 10 c.args.text.now c.cut.result.0.now behind in
    rw c.from_residual.ensures (λ line rest. no_line _ line _ rest (subst P none all))
