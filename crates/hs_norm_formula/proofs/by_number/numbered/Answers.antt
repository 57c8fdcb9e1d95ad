use Rattle.std.proofs.Common.{rules, inr}
use Rattle.hs_norm_formula.proofs.Answered.{gives_numbered}
use Rattle.hs_norm_formula.proofs.by_number.numbered.Goals as goal

pub returns-in_err-formula : goal.returns-in_err-formula
returns-in_err-formula c = record { exact = inr (search rules) }

pub returns : goal.returns
returns c = record {
  exact = gives_numbered c.args.defs.now c.args.tree.now c.new-n.result c.in_ok-formula.formula c.built.new.n c.as_slice.result.now c.first_fault.result
      c.new-n.ensures c.in_ok-formula.ensures c.as_slice.ensures c.first_fault.ensures;
}
