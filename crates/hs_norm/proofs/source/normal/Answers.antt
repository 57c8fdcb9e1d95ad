use Rattle.std.proofs.Common.{rules, inr}
use Rattle.hs_norm.proofs.Answered.{gives_normal}
use Rattle.hs_norm.proofs.source.normal.Goals as goal

pub returns-in_err-found : goal.returns-in_err-found
returns-in_err-found c = inr (search rules)

pub returns : goal.returns
returns c = gives_normal c.args.source.now c.as_slice.result.now c.new-n.result c.in_ok-found.found c.items_normal.new.n c.as_slice-2.result.now c.first_fault.result
    c.as_slice.ensures c.new-n.ensures c.in_ok-found.ensures c.as_slice-2.ensures c.first_fault.ensures
