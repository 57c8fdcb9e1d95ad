use Rattle.std.proofs.Common.{rules, subst, sym}
use mir.Syntax.{w128}
use borrow.Author.Gap.{read_sfits}
use Rattle.hs_elimination.specs.Linear.{HasWideTerm}
use Rattle.hs_cooper_forms.proofs.Merging.{wide_scaled, scale_more}
use Rattle.hs_cooper_forms.proofs.Narrow.{narrow_more}
use Rattle.hs_cooper_forms.proofs.linear.scale_terms.Goals as goal

pub returns-in_default-clause-wide : goal.returns-in_default-clause-wide
returns-in_default-clause-wide c = λ _. wide_scaled c.args.k _ _ _ c.loop-v-test.true (search rules) (search rules) c.in_default.ensures

pub loop-v-preserved : goal.loop-v-preserved
loop-v-preserved c = record {
  product = scale_more _ _ _ _ _ _ _ c.loop-v-test.true (search rules) c.in-Some.ensures.0 c.in-Some.ensures.1 c.loop-v.invariant.product c.in_ok-push.ensures.ok;
  narrow = subst (λ ts. ¬ (HasWideTerm ts)) (sym c.in_ok-push.ensures.ok) (narrow_more c.loop-v.terms _ _ c.loop-v.invariant.narrow (read_sfits w128 _));
}
