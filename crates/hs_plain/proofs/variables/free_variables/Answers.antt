use Rattle.std.proofs.Common.{ap, ◌∙◌, arith}
use Rattle.std.specs.List.{filter}
use Rattle.std.proofs.lemmas.List.{take_all}
use Rattle.hs_pure.specs.Occurs.{is_free}
use Rattle.hs_pure.specs.Rename.{sums}
use Rattle.hs_plain.specs.Variables.{with_sums}
use Rattle.hs_plain.proofs.Inserting.{free-is}
use Rattle.hs_plain.proofs.variables.free_variables.Goals as goal

pub returns : goal.returns
returns c =
    c.loop-v.invariant
    ∙ ap (filter (λ v. is_free v c.args.p.now)) (take_all c.loop-v.v-index c.deref-v-items.result.now (omega arith))
    ∙ free-is c.args.p.now c.deref-v-items.result.now (c.deref-v-items.ensures.value ∙ c.in_ok-add_all.ensures ∙ ap (with_sums (sums c.args.p.now)) c.new-all.ensures.items)
