use Rattle.std.proofs.Common.{sym, arith}
use Rattle.hs_cooper_forms.proofs.Merging.{different_lengths}
use Rattle.hs_cooper_forms.proofs.linear.same_terms.Goals as goal

pub returns-then-a-b : goal.returns-then-a-b
returns-then-a-b c = sym (different_lengths c.args.a.now c.args.b.now (λ p. omega arith))
