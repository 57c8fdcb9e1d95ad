use Rattle.std.proofs.Common.{ℕ, false, ◌+◌, ◌≤◌, ◌<◌, List, length, take, get_or, subst, arith}
use Rattle.std.specs.List.{All}
use Rattle.std.proofs.lemmas.List.{take_all}
use Rattle.std.proofs.lemmas.List.Elements.{All-more}
use Rattle.hs_pure.specs.declared.var.Var.{Var}
use Rattle.hs_norm_item.proofs.entailments.beyond.Goals as goal

further : (vars : List Var) (i count new : ℕ) (d : Var) → i < length vars → All (λ v. v.number < count) (take i vars) → count ≤ new → (get_or vars i d).number < new → All (λ v. v.number < new) (take (i + 1) vars)
further vars i count new d less below le here = All-more (λ v. v.number < new) vars i d less (λ k e within. let b = below k e within in omega arith) here

pub loop-v-preserved : goal.loop-v-preserved
loop-v-preserved c = record {
  above = further c.args.vars.now c.loop-v.v-index c.loop-v.count c.max-count.result (record { number = 0; bag = false }) (omega arith) c.loop-v.invariant.above (grind arith) (grind arith);
  small = grind arith;
}

pub returns : goal.returns
returns c = subst (λ vs. All (λ v. v.number < c.loop-v.count) vs) (take_all c.loop-v.v-index c.args.vars.now (omega arith)) c.loop-v.invariant.above
