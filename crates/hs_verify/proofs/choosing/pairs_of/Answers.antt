use Rattle.std.proofs.Common.{◌∙◌, sym, arith}
use Rattle.hs_verify.proofs.Pairs.{pairs_none, pairs_some}
use Rattle.hs_verify.proofs.choosing.pairs_of.Goals as goal

pub returns-in-None : goal.returns-in-None
returns-in-None c = pairs_none c.args.program.now c.args.number _ (omega arith) (sym c.in-None.ensures.value)

pub returns-in_ok-count-in-Some : goal.returns-in_ok-count-in-Some
returns-in_ok-count-in-Some c =
    c.in_ok-count-in-Some.ensures ∙ c.len.ensures ∙ pairs_some c.args.program.now c.args.number _ c.in-Some.method.now (omega arith) (sym c.in-Some.ensures.value)
