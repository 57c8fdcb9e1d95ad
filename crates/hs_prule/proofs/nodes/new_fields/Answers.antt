use Rattle.std.proofs.Common.{◌≡◌, length, ap, ◌∙◌, arith}
use Rattle.hs_core.specs.Sound.{field_count, vars_from}
use Rattle.hs_program_rules.specs.Parts.{count_or_none, new_fields}
use Rattle.hs_program_rules.proofs.Standing.{from_length}
use Rattle.hs_prule.proofs.nodes.new_fields.Goals as goal

pub returns-then-count-next : goal.returns-then-count-next
returns-then-count-next c low =
    let e : length (new_fields c.args.defs.now c.args.kind c.args.next) ≡ count_or_none (field_count c.args.defs.now c.args.kind) = from_length c.args.next (count_or_none (field_count c.args.defs.now c.args.kind)) in
    let k = c.fields-count.ensures in
    let few = c.requires in
    let more = c.if-count-next.true in absurd (omega arith)

pub returns : goal.returns
returns c =
    let e : length (new_fields c.args.defs.now c.args.kind c.args.next) ≡ count_or_none (field_count c.args.defs.now c.args.kind) = from_length c.args.next (count_or_none (field_count c.args.defs.now c.args.kind)) in
    let k = c.fields-count.ensures in
    let few = c.requires in
    let less = c.if-count-next.false in
    (omega arith, c.in_ok-new_vars.ensures ∙ ap (vars_from c.args.next) c.fields-count.ensures)
