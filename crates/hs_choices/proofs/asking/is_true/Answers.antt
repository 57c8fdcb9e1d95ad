use Rattle.std.proofs.Common.{rules, ◌≡◌, IfErr, refl, sym, subst}
use Rattle.hs_choices.specs.declared.error.Spent.TheVariants.{Atoms, Wide}
use Rattle.hs_choices.specs.Asked.{IsUsedUp, IfSpent}
use Rattle.hs_choices.proofs.asking.is_true.Goals.{in-Yes, in-No, in-Atoms+in_ok-out_of_atoms-in-Atoms, in-Wide+in_ok-too_wide-in-Wide}
use Rattle.hs_choices.proofs.asking.is_true.Goals as goal

pub returns-clause-spent : goal.returns-clause-spent
returns-clause-spent c = elim c.match-branch-2.branch [
  | in-Yes w ↦ search rules
  | in-No w ↦ search rules
  | in-Atoms+in_ok-out_of_atoms-in-Atoms w ↦
      let same : w.in_ok-out_of_atoms-in-Atoms.field-0 ≡ Atoms c.args.q.now = search rules in
      let spent : IsUsedUp c.args.q.now c.args.atoms w.in_ok-out_of_atoms-in-Atoms.field-0 = subst (IsUsedUp c.args.q.now c.args.atoms) (sym same) (refl, search rules) in
      subst (λ r. IfErr r (IfSpent (IsUsedUp c.args.q.now c.args.atoms))) (sym w.result-is) spent
  | in-Wide+in_ok-too_wide-in-Wide w ↦
      let same : w.in_ok-too_wide-in-Wide.field-0 ≡ Wide c.args.q.now = search rules in
      let spent : IsUsedUp c.args.q.now c.args.atoms w.in_ok-too_wide-in-Wide.field-0 = subst (IsUsedUp c.args.q.now c.args.atoms) (sym same) (refl, c.in_ok-implies.ensures.wide (search rules)) in
      subst (λ r. IfErr r (IfSpent (IsUsedUp c.args.q.now c.args.atoms))) (sym w.result-is) spent
]
