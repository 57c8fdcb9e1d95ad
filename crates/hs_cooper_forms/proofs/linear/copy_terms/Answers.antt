use Rattle.std.proofs.Common.{arith, sym, subst, get_or, ℤ, pos, false}
use mir.Syntax.{w128}
use mir.Val.{to_z, of_z}
use borrow.Author.Gap.{read_sfits}
use Rattle.std.proofs.lemmas.Grind.{common_steps}
use Rattle.hs_pure.specs.declared.var.Var.{Var}
use Rattle.hs_elimination.specs.Linear.{HasWideTerm}
use Rattle.hs_cooper_forms.proofs.Narrow.{narrow_more}
use Rattle.hs_cooper_forms.proofs.linear.copy_terms.Goals as goal

abbrev none_there : Var × ℤ
none_there = (record { number = 0; bag = false }, pos 0)

pub loop-v-preserved : goal.loop-v-preserved
loop-v-preserved c = record {
  terms = grind (arith, common_steps);
  narrow = subst (λ ts. ¬ (HasWideTerm ts)) (sym c.in_ok-push.ensures.ok) (narrow_more c.loop-v.terms (get_or c.args.a.now c.loop-v.v-index none_there).0 (to_z w128 (of_z w128 (get_or c.args.a.now c.loop-v.v-index none_there).1)) c.loop-v.invariant.narrow (read_sfits w128 _));
}
