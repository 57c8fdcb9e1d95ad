use Rattle.std.proofs.Common.{◌≡◌, replicate, ap, ◌∙◌}
use Rattle.hs_pure.specs.Rename.{renaming}
use Rattle.hs_heap.specs.Renamed.{renamed_formula}
use Rattle.hs_heap.specs.Instance.{body_of_pred}
use Rattle.hs_heap.proofs.Instances.{formula_in_range, instance_is, next_is, body_marks}
use Rattle.hs_heap.specs.Seen.{nothing_seen, mark_cases}
use Rattle.hs_heap.specs.Names.{new_names, next_number}
use Rattle.hs_heap.specs.Meaning.{self_var}
use Rattle.hs_heap.proofs.Seeing.{written, marks_cases}
use Rattle.hs_heap.proofs.instance.body_at.Goals as goal

pub put_names-requires : goal.put_names-requires
put_names-requires c = formula_in_range (renaming c.deref-2.result.now) c.args.p.now.body c.requires.ready.light

pub returns-clause-same : goal.returns-clause-same
returns-clause-same c =
    let table_is : c.deref.result.now ≡ c.mark_cases.new.seen = c.deref.ensures.value ∙ written (mark_cases c.as_slice.result.now) c.deref_mut.result.now c.mark_cases.new.seen _ _ (marks_cases self_var c.as_slice.result.now).size c.mark_cases.ensures c.deref_mut.ensures.len in
    let start : c.deref_mut.result.now ≡ replicate c.args.p.now.next nothing_seen = c.deref_mut.ensures.value ∙ c.in_ok-seen.ensures in
    let table : c.deref.result.now ≡ mark_cases c.args.p.now.body.cases (replicate c.args.p.now.next nothing_seen) = table_is ∙ c.mark_cases.ensures ∙ (λ i. mark_cases (c.as_slice.ensures i) (start i)) in
    let names : c.deref-2.result.now ≡ new_names c.args.p.now.params c.args.root c.args.args.now c.args.fresh (mark_cases c.args.p.now.body.cases (replicate c.args.p.now.next nothing_seen)) =
    c.deref-2.ensures.value ∙ c.in_ok-names.ensures.names ∙ (λ i. new_names (c.as_slice-2.ensures i) c.args.root c.args.args.now c.args.fresh (table i)) in
    c.in_ok-put_names.ensures ∙ ap (λ m. renamed_formula (renaming m) c.args.p.now.body) names ∙ instance_is (body_of_pred c.args.p.now) c.args.root c.args.args.now c.args.fresh c.requires.ready (mark_cases c.args.p.now.body.cases) (body_marks c.args.p.now)

pub returns-clause-next : goal.returns-clause-next
returns-clause-next c =
    let table_is : c.deref.result.now ≡ c.mark_cases.new.seen = c.deref.ensures.value ∙ written (mark_cases c.as_slice.result.now) c.deref_mut.result.now c.mark_cases.new.seen _ _ (marks_cases self_var c.as_slice.result.now).size c.mark_cases.ensures c.deref_mut.ensures.len in
    let start : c.deref_mut.result.now ≡ replicate c.args.p.now.next nothing_seen = c.deref_mut.ensures.value ∙ c.in_ok-seen.ensures in
    let table : c.deref.result.now ≡ mark_cases c.args.p.now.body.cases (replicate c.args.p.now.next nothing_seen) = table_is ∙ c.mark_cases.ensures ∙ (λ i. mark_cases (c.as_slice.ensures i) (start i)) in
    c.in_ok-names.ensures.next ∙ (λ i. next_number (c.as_slice-2.ensures i) c.args.fresh 0 (table i)) ∙ next_is (body_of_pred c.args.p.now) c.args.root c.args.args.now c.args.fresh c.requires.ready (mark_cases c.args.p.now.body.cases) (body_marks c.args.p.now)
