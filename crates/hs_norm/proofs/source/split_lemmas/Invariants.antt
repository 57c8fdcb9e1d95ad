use Rattle.std.proofs.Common.{◌≡◌, map}
use Rattle.hs_norm.proofs.source.split_lemmas.Given as goal

abbrev pub invariant-loop-lemma : goal.invariant-loop-lemma
invariant-loop-lemma l = record {
  first : l.lemmas ≡ map (λ p. p.0) l.yielded;
  second : l.all ≡ map (λ p. p.1) l.yielded;
}
