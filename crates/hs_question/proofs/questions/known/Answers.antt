use Rattle.std.proofs.Common.{rules, ◌≡◌, ◌++◌, ap, ◌∙◌}
use Rattle.hs_xpure.specs.Approximation.{approximation_of, next_of}
use Rattle.hs_rules.specs.Parts.{left_atoms, left_pure}
use Rattle.hs_question.proofs.Known.{known_atoms_fit}
use Rattle.hs_question.proofs.Askable.{conjunction_low, known_low}
use Rattle.hs_question.proofs.questions.known.Goals as goal

pub approximation-requires-clause-fits : goal.approximation-requires-clause-fits
approximation-requires-clause-fits c = known_atoms_fit c.args.defs.now c.args.goal.now c.as_slice.result.now (c.as_slice.ensures ∙ c.in_ok-atoms.ensures) c.requires.fits

pub returns-clause-low : goal.returns-clause-low
returns-clause-low c =
    let defs = c.args.defs.now in
    let g = c.args.goal.now in
    let level = c.args.level in
    let are : c.push_conjuncts.new.all ≡ approximation_of defs level (g.used ++ left_atoms g) g.next ++ left_pure g = search rules in
    let next : c.in_ok-pure.field-0-1 ≡ next_of defs level (g.used ++ left_atoms g) g.next =
    c.in_ok-pure.ensures.next ∙ ap (λ atoms. next_of defs level atoms g.next) (c.as_slice.ensures ∙ c.in_ok-atoms.ensures) in
    conjunction_low c.push_conjuncts.new.all
    (known_low defs c.requires.sound g c.requires.fits c.new_numbers_are_in_range.ensures level c.in_ok-pure.field-0-1 next c.in_ok-pure.ensures.few c.push_conjuncts.new.all are)
