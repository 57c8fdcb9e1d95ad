use Rattle.std.proofs.Common.{◌≡◌, ◌∷◌, ◌++◌, [], replicate, ap, ◌∙◌}
use Rattle.hs_pure.specs.Rename.{renaming}
use Rattle.hs_heap.specs.Renamed.{renamed_disjunct}
use Rattle.hs_heap.specs.Instance.{body_of_lemma}
use Rattle.hs_heap.proofs.Instances.{all_in_range, right_light, instance_is, next_is, right_marks}
use Rattle.hs_heap.specs.Seen.{nothing_seen, mark_disjunct}
use Rattle.hs_heap.specs.Names.{new_names, next_number}
use Rattle.hs_heap.specs.Meaning.{self_var}
use Rattle.hs_heap.proofs.Seeing.{written, marks_disjunct}
use Rattle.hs_heap.proofs.instance.right_at.Goals as goal

pub put_names-requires : goal.put_names-requires
put_names-requires c = all_in_range (renaming c.deref-2.result.now) c.args.l.now.right.pure (right_light c.args.l.now c.args.root c.args.args.now c.requires.ready)

pub returns-clause-same : goal.returns-clause-same
returns-clause-same c =
    let table_is : c.deref.result.now ≡ c.mark_disjunct.new.seen = c.deref.ensures.value ∙ written (mark_disjunct c.args.l.now.right) c.deref_mut.result.now c.mark_disjunct.new.seen _ _ (marks_disjunct self_var c.args.l.now.right).size c.mark_disjunct.ensures c.deref_mut.ensures.len in
    let start : c.deref_mut.result.now ≡ replicate c.args.l.now.next nothing_seen = c.deref_mut.ensures.value ∙ c.in_ok-seen.ensures in
    let table : c.deref.result.now ≡ mark_disjunct c.args.l.now.right (replicate c.args.l.now.next nothing_seen) = table_is ∙ c.mark_disjunct.ensures ∙ ap (mark_disjunct c.args.l.now.right) start in
    let names : c.deref-2.result.now ≡ new_names c.args.l.now.params c.args.root c.args.args.now c.args.fresh (mark_disjunct c.args.l.now.right (replicate c.args.l.now.next nothing_seen)) =
    c.deref-2.ensures.value ∙ c.in_ok-names.ensures.names ∙ (λ i. new_names (c.as_slice.ensures i) c.args.root c.args.args.now c.args.fresh (table i)) in
    let cases : c.push.new.self ≡ c.in_ok-put_names.field-0 ∷ [] = c.in_ok-push.ensures.ok ∙ ap (λ xs. xs ++ c.in_ok-put_names.field-0 ∷ []) c.new-cases.ensures in
    let right : c.in_ok-put_names.field-0 ≡ renamed_disjunct (renaming (new_names c.args.l.now.params c.args.root c.args.args.now c.args.fresh (mark_disjunct c.args.l.now.right (replicate c.args.l.now.next nothing_seen)))) c.args.l.now.right =
    c.in_ok-put_names.ensures ∙ ap (λ m. renamed_disjunct (renaming m) c.args.l.now.right) names in
    (λ i. record { cases = cases i }) ∙ (λ i. record { cases = right i ∷ [] }) ∙ instance_is (body_of_lemma c.args.l.now) c.args.root c.args.args.now c.args.fresh c.requires.ready (mark_disjunct c.args.l.now.right) (right_marks c.args.l.now)

pub returns-clause-next : goal.returns-clause-next
returns-clause-next c =
    let table_is : c.deref.result.now ≡ c.mark_disjunct.new.seen = c.deref.ensures.value ∙ written (mark_disjunct c.args.l.now.right) c.deref_mut.result.now c.mark_disjunct.new.seen _ _ (marks_disjunct self_var c.args.l.now.right).size c.mark_disjunct.ensures c.deref_mut.ensures.len in
    let start : c.deref_mut.result.now ≡ replicate c.args.l.now.next nothing_seen = c.deref_mut.ensures.value ∙ c.in_ok-seen.ensures in
    let table : c.deref.result.now ≡ mark_disjunct c.args.l.now.right (replicate c.args.l.now.next nothing_seen) = table_is ∙ c.mark_disjunct.ensures ∙ ap (mark_disjunct c.args.l.now.right) start in
    c.in_ok-names.ensures.next ∙ (λ i. next_number (c.as_slice.ensures i) c.args.fresh 0 (table i)) ∙ next_is (body_of_lemma c.args.l.now) c.args.root c.args.args.now c.args.fresh c.requires.ready (mark_disjunct c.args.l.now.right) (right_marks c.args.l.now)
