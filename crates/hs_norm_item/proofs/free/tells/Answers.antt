use Rattle.std.proofs.Common.{◌∙◌, arith}
use Rattle.hs_norm_item.proofs.Freeing.{told_is, told_beyond}
use Rattle.hs_norm_item.proofs.free.tells.Goals as goal

pub returns-then-place-free : goal.returns-then-place-free
returns-then-place-free c = c.kind.ensures ∙ told_is c.args.free.now c.args.v.number c.args.v.bag _ (omega arith)

pub returns-else-place-free : goal.returns-else-place-free
returns-else-place-free c = told_beyond c.args.free.now c.args.v.number c.args.v.bag (omega arith)
