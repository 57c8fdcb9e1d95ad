use Rattle.std.proofs.Common.{◌≡◌, ap, ◌∙◌}
use Rattle.hs_heap.specs.declared.formula.Atom.{Atom}
use Rattle.hs_program_rules.specs.States.{variable_in}
use Rattle.hs_program_rules.specs.Parts.{with_held, node_atom, beside}
use Rattle.hs_prule.proofs.Same.{one_more, goes_same}
use Rattle.hs_prule.proofs.further.after_get.Goals as goal

pub returns : goal.returns
returns c =
    let root = c.variable.ensures ∙ ap (λ s. variable_in s c.args.slot) c.as_slice-slots.ensures in
    let atom : ◌≡◌ {A = Atom} c.in_ok-atom.atom (node_atom (variable_in c.args.at.now.state.slots c.args.slot) c.args.kind c.args.fields.now) = c.in_ok-atom.ensures ∙ (λ i. node_atom (root i) c.args.kind c.args.fields.now) in
    goes_same c.args.at.now c.goes.result (one_more c.args.at.now.point) (c.in_ok-held.ensures ∙ (λ i. with_held (c.as_slice-slots.ensures i) c.args.to (c.field_var.ensures i)))
    (c.in_ok-f.ensures ∙ ap (λ a. beside a c.args.residue.now) atom) c.goes.ensures
