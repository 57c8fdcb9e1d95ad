use Rattle.std.proofs.Common.{◌∙◌, arith, false, get_or}
use Rattle.std.specs.List.{zip}
use Rattle.std.proofs.lemmas.List.{take_all}
use Rattle.std.proofs.lemmas.Slice.Zip.{length-zip}
use Rattle.hs_numbering.specs.Numbering.{each}
use Rattle.hs_norm_formula.specs.Formula.{argument}
use Rattle.hs_norm_formula.proofs.Builders.{pushed_zip}
use Rattle.hs_norm_formula.proofs.formula.arguments.Goals as goal

pub loop-i-preserved : goal.loop-i-preserved
loop-i-preserved c = pushed_zip (λ p. argument p.0 p.1) c.args.kinds.now c.args.trees.now c.loop-i.i false c.index-trees-i.result c.args.n.now c.loop-i.n c.argument.new.n c.loop-i.vars c.push.new.self _
    (omega arith) (omega arith) c.loop-i.invariant (c.in_ok-argument.ensures ∙ λ j. argument (get_or c.args.kinds.now c.loop-i.i false) (c.index-trees-i.is j) c.loop-i.n) c.in_ok-push.ensures.ok

pub returns-then-i-kinds : goal.returns-then-i-kinds
returns-then-i-kinds c = c.loop-i.invariant ∙ λ j. each (λ p. argument p.0 p.1) (take_all c.loop-i.i (zip c.args.kinds.now c.args.trees.now) (omega (arith, length-zip c.args.kinds.now c.args.trees.now)) j) c.args.n.now

pub returns : goal.returns
returns c = c.loop-i.invariant ∙ λ j. each (λ p. argument p.0 p.1) (take_all c.loop-i.i (zip c.args.kinds.now c.args.trees.now) (omega (arith, length-zip c.args.kinds.now c.args.trees.now)) j) c.args.n.now
