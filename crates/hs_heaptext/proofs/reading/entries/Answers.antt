use Rattle.std.proofs.Common.{◌≡◌, sym, ◌∙◌, ap, length, rules, SFits}
use Rattle.std.proofs.lemmas.Int.{to_z-of_z}
use Rattle.std.proofs.lemmas.Bool.{eqb-false}
use Rattle.std.specs.Int.{w128}
use Rattle.hs_heap.specs.Heap.{put_node}
use Rattle.hs_heaptext.specs.Reading.{IsEntryLine}
use Rattle.hs_heaptext.proofs.Entries.{no_entries, one_more, stops, no_such_line, positive}
use Rattle.hs_heaptext.proofs.reading.entries.Goals as goal

pub loop-rest-init : goal.loop-rest-init
loop-rest-init c = rw c.new-heap.ensures (no_entries c.args.defs.now c.args.text.now)

pub returns-in_default-clause-cause : goal.returns-in_default-clause-cause
returns-in_default-clause-cause c =
    stops _ _ _ _ _ c.loop-rest.rest.now c.loop-rest.invariant (λ none. eqb-false _ 0 (sym c.is_empty.ensures ∙ c.loop-rest-test.true) (ap length none)) (λ line rest f. absurd (c.in_default.ensures line rest f))

pub returns-in_default-2-clause-cause : goal.returns-in_default-2-clause-cause
returns-in_default-2-clause-cause c =
    stops _ _ _ _ _ c.loop-rest.rest.now c.loop-rest.invariant (λ none. eqb-false _ 0 (sym c.is_empty.ensures ∙ c.loop-rest-test.true) (ap length none))
    (no_such_line (IsEntryLine c.args.defs.now _) _ _ _ c.in-Some.ensures (rw c.in_default-2.is at c.in_ok-place.ensures))

pub put-requires : goal.put-requires
put-requires c =
    let fits : SFits w128 c.in-Some-2.place = search rules in
    let h = rw c.in-Some-2.is at c.in_ok-place.ensures in
    rw (to_z-of_z w128 c.in-Some-2.place fits) (positive _ _ _ _ _ _ _ (c.in-Some-2.place, c.in-Some-2.node) c.loop-rest.invariant h)

pub loop-rest-preserved : goal.loop-rest-preserved
loop-rest-preserved c =
    let fits : SFits w128 c.in-Some-2.place = search rules in
    let e = to_z-of_z w128 c.in-Some-2.place fits in
    let h = rw c.in-Some-2.is at c.in_ok-place.ensures in
    let put : c.put.new.self ≡ put_node c.loop-rest.heap c.in-Some-2.place c.in-Some-2.node = c.in_ok-put.ensures.ok ∙ ap (λ q. put_node c.loop-rest.heap q c.in-Some-2.node) e in
    rw (put, e) (one_more _ _ _ _ _ _ _ _ (c.in-Some-2.place, c.in-Some-2.node) c.loop-rest.invariant c.in-Some.ensures h)
