use Rattle.std.proofs.Common.{◌≡◌, ◌+◌, ◌*◌, take}
use Rattle.hs_xpure.specs.Approximation.{atoms_formed, cases_formed, form}
use Rattle.hs_xpure.proofs.form.+form.Given as goal

abbrev pub decreases-atom_formed : goal.decreases-atom_formed
decreases-atom_formed l = 3 * l.level

abbrev pub decreases-atoms_formed : goal.decreases-atoms_formed
decreases-atoms_formed l = 3 * l.level + 1

abbrev pub decreases-body_cases : goal.decreases-body_cases
decreases-body_cases l = 3 * l.level + 2

abbrev pub invariant-atoms_formed-loop-atom : goal.invariant-atoms_formed-loop-atom
invariant-atoms_formed-loop-atom l = l.all ≡ atoms_formed (form l.defs l.level) (take l.atom-index l.atoms) l.next

abbrev pub invariant-body_cases-loop-case : goal.invariant-body_cases-loop-case
invariant-body_cases-loop-case l = l.all ≡ cases_formed (form l.defs l.level) (take l.case-index l.case-items) l.first
