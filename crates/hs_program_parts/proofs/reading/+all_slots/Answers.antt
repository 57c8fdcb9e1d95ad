use Rattle.std.proofs.Common.{◌≡◌, false, sym, ap, ◌∙◌}
use Rattle.hs_heap.proofs.Tells.{list_all-map_at}
use Rattle.hs_program_parts.specs.Reading.{all_slots}
use Rattle.hs_program_parts.proofs.reading.+all_slots.Goals as goal

pub each_slots-returns-then-not-all_slots : goal.each_slots-returns-then-not-all_slots
each_slots-returns-then-not-all_slots t c =
    let test = all_slots c.args.held.now in
    let fails : test c.p-item.result ≡ false = sym c.all_slots.ensures ∙ c.if-not-all_slots.true in
    sym (list_all-map_at (λ b. b) test c.args.ps.now c.loop-p.p-index c.p-item.result c.loop-p-test.true (ap test (sym c.p-item.is) ∙ fails))
