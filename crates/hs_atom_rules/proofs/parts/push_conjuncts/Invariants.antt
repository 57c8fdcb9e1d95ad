use Rattle.std.proofs.Common.{◌≡◌, ◌++◌, take}
use Rattle.hs_atom_rules.proofs.parts.push_conjuncts.Given as goal

abbrev pub invariant-loop-conjunct : goal.invariant-loop-conjunct
invariant-loop-conjunct l = l.all ≡ l.initial.all ++ take l.conjunct-index l.conjuncts
