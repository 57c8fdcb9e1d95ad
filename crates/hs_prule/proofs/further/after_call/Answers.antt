use Rattle.std.proofs.Common.{◌≡◌, map, ap, ◌∙◌}
use Rattle.hs_heap.specs.Renamed.{renamed_formula}
use Rattle.hs_core.specs.Machine.{picked}
use Rattle.hs_program_rules.specs.Parts.{all_joined, call_renaming, result_var, last_vars, variables_in, all_held, result_held}
use Rattle.hs_prule.proofs.Same.{one_more, goes_same}
use Rattle.hs_prule.proofs.further.after_call.Goals as goal

pub returns : goal.returns
returns c =
    let vs : c.as_slice.result.now ≡ variables_in c.args.at.now.state.slots c.args.args.now = c.as_slice.ensures ∙ c.in_ok-values.ensures ∙ ap (λ s. variables_in s c.args.args.now) c.as_slice-slots.ensures in
    let result = c.in_ok-gives.ensures.result ∙ ap (λ us. call_renaming c.args.m.now c.args.p.now us c.args.at.now.state.next (result_var c.args.m.now)) vs in
    let lasts = c.as_slice-4.ensures ∙ c.in_ok-gives.ensures.lasts ∙ ap (λ us. map (call_renaming c.args.m.now c.args.p.now us c.args.at.now.state.next) (last_vars c.args.m.now)) vs in
    let changed = c.as_slice-3.ensures ∙ c.in_ok-changed.ensures ∙ ap (λ ks. picked c.args.args.now ks) c.as_slice-2.ensures in
    let filled = c.in_ok-filled.ensures ∙ (λ i. all_held (c.as_slice-slots.ensures i) (changed i) (lasts i)) in
    goes_same c.args.at.now c.goes.result (one_more c.args.at.now.point) (c.in_ok-held.ensures ∙ (λ i. result_held c.args.to (result i) (filled i)))
    (c.in_ok-f.ensures ∙ ap (λ g. all_joined c.args.residue.now g) (c.in_ok-gives.ensures.post ∙ ap (λ us. renamed_formula (call_renaming c.args.m.now c.args.p.now us c.args.at.now.state.next) c.args.p.now.post) vs)) c.goes.ensures
