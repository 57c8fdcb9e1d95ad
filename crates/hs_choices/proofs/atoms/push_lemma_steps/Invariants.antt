use Rattle.std.proofs.Common.{◌≡◌, ◌+◌, ◌++◌, drop}
use Rattle.std.specs.List.{flat_map}
use Rattle.hs_rules.specs.Parts.{atom_at, left_atoms}
use Rattle.hs_choices.specs.Places.{places_from}
use Rattle.hs_choices.specs.Tests.{in_class}
use Rattle.hs_choices.specs.Choices.{lemmas_at, lemma_steps}
use Rattle.hs_choices.proofs.atoms.push_lemma_steps.Given as goal

abbrev pub invariant-loop-i : goal.invariant-loop-i
invariant-loop-i l =
    l.all.items ++ flat_map (λ n. lemmas_at l.defs l.right n (atom_at n (left_atoms l.goal))) (places_from (λ a. in_class l.goal a l.right) (l.i + 1) (drop l.i (left_atoms l.goal)))
    ≡ l.initial.all.items ++ lemma_steps l.defs l.goal l.right
