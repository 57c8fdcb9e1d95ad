use Rattle.std.proofs.Common.{ap, ◌∙◌}
use Rattle.hs_program_parts.specs.Pairs.{is_between}
use Rattle.hs_program_parts.proofs.Ranges.{param_is}
use Rattle.hs_program_parts.proofs.pairs.is_param.Goals as goal

pub returns : goal.returns
returns c = c.is_between.ensures ∙ ap (λ k. is_between 1 k c.args.v) c.from.ensures ∙ param_is c.args.m.now c.args.v
