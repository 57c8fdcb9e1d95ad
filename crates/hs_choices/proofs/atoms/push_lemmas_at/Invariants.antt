use Rattle.std.proofs.Common.{◌≡◌, ◌+◌, ◌++◌, map, drop}
use Rattle.hs_goal.specs.declared.rule.ERule.TheVariants as rule_of
use Rattle.hs_choices.specs.Places.{places_from}
use Rattle.hs_choices.specs.Choices.{leads_to, lemmas_at}
use Rattle.hs_choices.proofs.atoms.push_lemmas_at.Given as goal

abbrev pub invariant-loop-j : goal.invariant-loop-j
invariant-loop-j l = l.all.items ++ map (λ n. rule_of.Lemma n l.l) (places_from (leads_to l.left.of l.right.of) (l.j + 1) (drop l.j l.defs.lemmas)) ≡ l.initial.all.items ++ lemmas_at l.defs l.right l.l l.left
