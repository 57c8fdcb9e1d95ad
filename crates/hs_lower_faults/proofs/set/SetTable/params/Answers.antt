use Rattle.std.proofs.Common.{◌≡◌, ◌∙◌, suc, true, replicate, ap, arith}
use Rattle.hs_lower_faults.proofs.Tables.{table_params}
use Rattle.hs_lower_faults.proofs.set.SetTable.params.Goals as goal

pub returns : goal.returns
returns c = let all : c.loop-i._i ≡ c.args.count = omega arith in table_params c.args.count c.loop-i.bits (c.loop-i.invariant ∙ ap (λ n. replicate (suc n) true) all)
