use Rattle.std.proofs.Common.{◌∙◌, arith, false, get_or}
use Rattle.std.specs.List.{zip}
use Rattle.std.proofs.lemmas.List.{take_all}
use Rattle.std.proofs.lemmas.Slice.Zip.{length-zip}
use Rattle.hs_numbering.specs.Numbering.{each}
use Rattle.hs_norm_item.specs.Definitions.{blame_param_kind}
use Rattle.hs_norm_item.proofs.Builders.{stepped_zip}
use Rattle.hs_norm_item.proofs.definitions.blame_param_kinds.Goals as goal

pub loop-i-preserved : goal.loop-i-preserved
loop-i-preserved c = stepped_zip blame_param_kind c.args.kinds.now c.args.xs.now c.loop-i.i false c.index-xs-i.result c.args.n.now c.loop-i.n c.blame_param_kind.new.n _
    (omega arith) (omega arith) c.loop-i.invariant (c.in_ok-blame_param_kind.ensures ∙ λ j. blame_param_kind (get_or c.args.kinds.now c.loop-i.i false, c.index-xs-i.is j) c.loop-i.n)

pub returns-then-i-kinds : goal.returns-then-i-kinds
returns-then-i-kinds c = c.loop-i.invariant ∙ λ j. (each blame_param_kind (take_all c.loop-i.i (zip c.args.kinds.now c.args.xs.now) (omega (arith, length-zip c.args.kinds.now c.args.xs.now)) j) c.args.n.now).1

pub returns : goal.returns
returns c = c.loop-i.invariant ∙ λ j. (each blame_param_kind (take_all c.loop-i.i (zip c.args.kinds.now c.args.xs.now) (omega (arith, length-zip c.args.kinds.now c.args.xs.now)) j) c.args.n.now).1
