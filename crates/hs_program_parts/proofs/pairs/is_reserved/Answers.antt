use Rattle.std.proofs.Common.{ℕ, ◌+◌, List, length, ap, ◌∙◌}
use Rattle.hs_program_parts.specs.Pairs.{is_between}
use Rattle.hs_program_parts.proofs.Ranges.{reserved_is}
use Rattle.hs_program_parts.proofs.pairs.is_reserved.Goals as goal

pub returns : goal.returns
returns c =
    c.is_between.ensures ∙ (λ i. is_between (c.from-params.ensures i + 1) (c.from-params.ensures i + length (c.as_slice.ensures i) + 1) c.args.v) ∙ reserved_is c.args.m.now c.args.v
