use Rattle.std.proofs.Common.{rules, ◌≡◌, ℕ, ◌+◌, ◌-◌, length, false, sym, ap, ◌∙◌}
use Rattle.hs_line.specs.Scan.{is_over, slots_up_to}
use Rattle.hs_line.proofs.Turns.{one_more, slot_next, slot_stop}
use Rattle.hs_line.proofs.lists.slots.Goals as goal

pub returns-in_err-slot : goal.returns-in_err-slot
returns-in_err-slot c =
    let n : ℕ = length c.args.text.now - (c.loop-turn._turn + 1) in
    let some : is_over c.loop-turn.rest ≡ false = search rules in
    let turn = one_more (λ k. slots_up_to k c.loop-turn.found c.loop-turn.rest) (length c.args.text.now) c.loop-turn._turn c.loop-turn-test.true c.loop-turn.invariant in
    let stop = turn ∙ slot_stop n c.loop-turn.found c.loop-turn.rest _ some c.in_err-slot.ensures in
    search (rules, stop)

pub loop-turn-preserved : goal.loop-turn-preserved
loop-turn-preserved c =
    let n : ℕ = length c.args.text.now - (c.loop-turn._turn + 1) in
    let some : is_over c.loop-turn.rest ≡ false = search rules in
    let turn = one_more (λ k. slots_up_to k c.loop-turn.found c.loop-turn.rest) (length c.args.text.now) c.loop-turn._turn c.loop-turn-test.true c.loop-turn.invariant in
    turn ∙ (slot_next n c.loop-turn.found c.loop-turn.rest _ c.slot.new.self some c.in_ok-slot.ensures ∙ ap (λ l. slots_up_to n l c.slot.new.self) (sym c.in_ok-push.ensures.ok))
