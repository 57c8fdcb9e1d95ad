use Rattle.std.proofs.Common.{sym, subst}
use Rattle.hs_equations.specs.Rows.{Says}
use Rattle.hs_equations.proofs.Lists.{ok-map}
use Rattle.hs_equations.proofs.row.reduced.Goals as goal

pub returns : goal.returns
returns c = ok-map c.divided.result (λ r f s all h. f s (subst (Says c.args.row.kind) (sym (c.in_ok-sum.ensures s all)) h)) c.divided.ensures
