use Rattle.std.proofs.Common.{◌++◌, ap, ◌∙◌}
use Rattle.hs_xpure.specs.declared.formed.Formed.{Formed}
use Rattle.hs_xpure.specs.Approximation.{all_apart, next_of}
use Rattle.hs_xpure.specs.Counts.{atoms_taken, pred_taken}
use Rattle.hs_xpure.proofs.Capped.{is_many, is_not_many, is_few, atoms_next_of}
use Rattle.hs_xpure.proofs.calls.approximation.Goals as goal

pub returns-then-taken-gt-MOST-clause-numbers : goal.returns-then-taken-gt-MOST-clause-numbers
returns-then-taken-gt-MOST-clause-numbers c = λ k. is_many c.in_ok-taken.taken (atoms_taken (pred_taken c.args.defs.now c.args.level) c.args.atoms.now) c.args.fresh (next_of c.args.defs.now c.args.level c.args.atoms.now c.args.fresh)
    c.in_ok-taken.ensures c.if-taken-gt-MOST.true (atoms_next_of c.args.defs.now c.args.level c.args.atoms.now c.args.fresh)

pub atoms_formed-requires-clause-room : goal.atoms_formed-requires-clause-room
atoms_formed-requires-clause-room c = is_not_many c.in_ok-taken.taken (atoms_taken (pred_taken c.args.defs.now c.args.level) c.args.atoms.now) c.args.fresh c.in_ok-taken.ensures c.if-taken-gt-MOST.false c.requires.small

pub returns-clause-exact : goal.returns-clause-exact
returns-clause-exact c = c.in_ok-push_all_apart.ensures ∙ ap (λ ks. c.in_ok-pure.field-0.pure ++ all_apart ks) c.as_slice.ensures ∙ ap (λ (f : Formed). f.pure ++ all_apart f.addresses) c.in_ok-pure.ensures

pub returns-clause-next : goal.returns-clause-next
returns-clause-next c = ap (λ (f : Formed). f.next) c.in_ok-pure.ensures

pub returns-clause-few : goal.returns-clause-few
returns-clause-few c = is_few c.in_ok-taken.taken (atoms_taken (pred_taken c.args.defs.now c.args.level) c.args.atoms.now) c.args.fresh c.in_ok-pure.field-0.next c.in_ok-taken.ensures c.if-taken-gt-MOST.false
    (ap (λ (f : Formed). f.next) c.in_ok-pure.ensures ∙ atoms_next_of c.args.defs.now c.args.level c.args.atoms.now c.args.fresh)
