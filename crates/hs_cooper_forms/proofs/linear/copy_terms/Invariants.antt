use Rattle.std.proofs.Common.{◌≡◌, take}
use Rattle.hs_elimination.specs.Linear.{HasWideTerm}
use Rattle.hs_cooper_forms.proofs.linear.copy_terms.Given as goal

abbrev pub invariant-loop-v : goal.invariant-loop-v
invariant-loop-v l = record {
  terms : l.terms ≡ take l.v-index l.a;
  narrow : ¬ (HasWideTerm l.terms);
}
