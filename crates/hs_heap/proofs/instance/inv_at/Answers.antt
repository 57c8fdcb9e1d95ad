use Rattle.std.proofs.Common.{◌≡◌, replicate, ap, ◌∙◌}
use Rattle.hs_pure.specs.Rename.{renaming, renamed}
use Rattle.hs_pure.proofs.Weight.{light_in_range}
use Rattle.hs_heap.specs.Instance.{body_of_inv}
use Rattle.hs_heap.proofs.Instances.{inv_light, inv_is, next_is, inv_marks}
use Rattle.hs_heap.specs.Seen.{nothing_seen, mark_pure}
use Rattle.hs_heap.specs.Names.{new_names, next_number}
use Rattle.hs_heap.specs.Meaning.{self_var}
use Rattle.hs_heap.proofs.Seeing.{written, marks_pure}
use Rattle.hs_heap.proofs.instance.inv_at.Goals as goal

pub put_names-requires : goal.put_names-requires
put_names-requires c = light_in_range (renaming c.deref-2.result.now) c.args.p.now.inv (inv_light c.args.p.now c.args.root c.args.args.now c.requires.ready)

pub returns-clause-same : goal.returns-clause-same
returns-clause-same c =
    let table_is : c.deref.result.now ≡ c.mark_pure.new.seen = c.deref.ensures.value ∙ written (mark_pure c.args.p.now.inv) c.deref_mut.result.now c.mark_pure.new.seen _ _ (marks_pure self_var c.args.p.now.inv).size c.mark_pure.ensures c.deref_mut.ensures.len in
    let start : c.deref_mut.result.now ≡ replicate c.args.p.now.next nothing_seen = c.deref_mut.ensures.value ∙ c.in_ok-seen.ensures in
    let table : c.deref.result.now ≡ mark_pure c.args.p.now.inv (replicate c.args.p.now.next nothing_seen) = table_is ∙ c.mark_pure.ensures ∙ ap (mark_pure c.args.p.now.inv) start in
    let names : c.deref-2.result.now ≡ new_names c.args.p.now.params c.args.root c.args.args.now c.args.fresh (mark_pure c.args.p.now.inv (replicate c.args.p.now.next nothing_seen)) =
    c.deref-2.ensures.value ∙ c.in_ok-names.ensures.names ∙ (λ i. new_names (c.as_slice.ensures i) c.args.root c.args.args.now c.args.fresh (table i)) in
    c.in_ok-put_names.ensures ∙ ap (λ m. renamed (renaming m) c.args.p.now.inv) names ∙ inv_is c.args.p.now c.args.root c.args.args.now c.args.fresh c.requires.ready

pub returns-clause-next : goal.returns-clause-next
returns-clause-next c =
    let table_is : c.deref.result.now ≡ c.mark_pure.new.seen = c.deref.ensures.value ∙ written (mark_pure c.args.p.now.inv) c.deref_mut.result.now c.mark_pure.new.seen _ _ (marks_pure self_var c.args.p.now.inv).size c.mark_pure.ensures c.deref_mut.ensures.len in
    let start : c.deref_mut.result.now ≡ replicate c.args.p.now.next nothing_seen = c.deref_mut.ensures.value ∙ c.in_ok-seen.ensures in
    let table : c.deref.result.now ≡ mark_pure c.args.p.now.inv (replicate c.args.p.now.next nothing_seen) = table_is ∙ c.mark_pure.ensures ∙ ap (mark_pure c.args.p.now.inv) start in
    c.in_ok-names.ensures.next ∙ (λ i. next_number (c.as_slice.ensures i) c.args.fresh 0 (table i)) ∙ next_is (body_of_inv c.args.p.now) c.args.root c.args.args.now c.args.fresh c.requires.ready (mark_pure c.args.p.now.inv) (inv_marks c.args.p.now)
