use Rattle.std.proofs.Common.{◌≡◌, map, take}
use Rattle.hs_elimination.specs.Linear.{scale_term, HasWideTerm}
use Rattle.hs_cooper_forms.proofs.linear.scale_terms.Given as goal

abbrev pub invariant-loop-v : goal.invariant-loop-v
invariant-loop-v l = record {
  product : l.terms ≡ map (scale_term l.k) (take l.v-index l.a);
  narrow : ¬ (HasWideTerm l.terms);
}
