use Rattle.std.proofs.Common.{◌≡◌, ◌<◌, ◌+◌, List, length, get_or, true, sym, ap, ◌∙◌, subst}
use Rattle.hs_heap.specs.declared.formula.Atom.{Atom}
use Rattle.hs_rules.specs.Parts.{left_atoms}
use Rattle.hs_choices.specs.Tests.{in_class}
use Rattle.hs_choices.proofs.LemmaSteps.{one_more}
use Rattle.hs_choices.proofs.atoms.push_lemma_steps.Goals as goal

pub loop-i-preserved : goal.loop-i-preserved
loop-i-preserved c =
    let g = c.args.goal.now in
    let b = c.args.right.now in
    let i = c.loop-i.i in
    let a = c.left-item.result in
    let less : i < length (left_atoms g) = subst (λ (atoms : List Atom). i < length atoms) c.atoms_of-left-items.ensures c.loop-i-test.true in
    let is : a ≡ get_or (left_atoms g) i a = c.left-item.is ∙ ap (λ (atoms : List Atom). get_or atoms i a) c.atoms_of-left-items.ensures in
    let near : in_class g a b ≡ true = sym c.in_class.ensures ∙ c.if-not-in_class.false in
    let place : c.in_ok-place.field-0 ≡ i + 1 = c.in_ok-place.ensures in
    one_more c.args.defs.now g b i a c.in_ok-place.field-0 c.loop-i.all.items c.push_lemmas_at.new.all.items _ less is near place c.loop-i.invariant c.in_ok-push_lemmas_at.ensures
