use Rattle.std.proofs.Common.{◌≡◌, ◌-◌, slice_set, ap, ◌∙◌}
use Rattle.hs_heap.specs.declared.formula.Atom.{Atom}
use Rattle.hs_program_rules.specs.States.{variable_in}
use Rattle.hs_program_rules.specs.Parts.{node_atom, beside}
use Rattle.hs_prule.proofs.Same.{one_more, goes_same}
use Rattle.hs_prule.proofs.further.after_set.Goals as goal

pub returns : goal.returns
returns c =
    let from = c.variable.ensures ∙ ap (λ s. variable_in s c.args.from) c.as_slice-slots.ensures in
    let root = c.variable-2.ensures ∙ ap (λ s. variable_in s c.args.slot) c.as_slice-slots.ensures in
    let args : c.as_slice.result.now ≡ slice_set c.args.fields.now (c.args.field - 1) (variable_in c.args.at.now.state.slots c.args.from) =
    c.as_slice.ensures ∙ c.in_ok-args.ensures ∙ ap (λ v. slice_set c.args.fields.now (c.args.field - 1) v) from in
    let atom : ◌≡◌ {A = Atom} c.in_ok-atom.atom (node_atom (variable_in c.args.at.now.state.slots c.args.slot) c.args.kind (slice_set c.args.fields.now (c.args.field - 1) (variable_in c.args.at.now.state.slots c.args.from)))
    = c.in_ok-atom.ensures ∙ (λ i. node_atom (root i) c.args.kind (args i)) in
    goes_same c.args.at.now c.goes.result (one_more c.args.at.now.point) (c.in_ok-held.ensures ∙ c.as_slice-slots.ensures) (c.in_ok-f.ensures ∙ ap (λ a. beside a c.args.residue.now) atom) c.goes.ensures
