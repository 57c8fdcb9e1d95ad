use Rattle.std.proofs.Common.{SFits, rules}
use Rattle.std.proofs.lemmas.Int.{to_z-of_z}
use Rattle.std.proofs.lemmas.Float.{T_from_true}
use Rattle.std.specs.Int.{w128}
use Rattle.std.specs.Int.Signed.{le_z_yes}
use Rattle.hs_heaptext.proofs.Lines.{empty_from_length}
use Rattle.hs_heaptext.proofs.Nodes.{no_place, no_blank, no_rise, no_data}
use Rattle.hs_heaptext.proofs.entry.entry.Goals as goal

pub returns-in_default : goal.returns-in_default
returns-in_default c = no_place _ _ _ _ _ c.cut.ensures c.in_default.ensures

pub returns-in_default-split_first : goal.returns-in_default-split_first
returns-in_default-split_first c = no_blank _ _ _ _ _ c.cut.ensures (empty_from_length _ c.in_default-split_first.ensures.cases)

pub returns-then-place-low : goal.returns-then-place-low
returns-then-place-low c =
    let fits : SFits w128 c.in-Some.place = search rules in
    let also : SFits w128 c.args.low = c.ranges.low in
    let le = rw (to_z-of_z w128 c.in-Some.place fits, to_z-of_z w128 c.args.low also) at c.if-place-low.true in
    no_rise _ _ c.in-Some.place _ _ _ c.cut.ensures c.in-Some.ensures.0 c.in-Some.ensures.1 (le_z_yes (T_from_true _ le))

pub returns-in_default-2 : goal.returns-in_default-2
returns-in_default-2 c = no_data _ _ _ _ _ c.in-Some-split_first.text.now _ c.cut.ensures c.in-Some-split_first.ensures.cases.0 (rw c.in_default-2.is at c.in_ok-node.ensures)
