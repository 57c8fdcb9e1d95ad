use Rattle.std.proofs.Common.{rules, sym, ap, ◌∙◌}
use Rattle.hs_pure.specs.Assertion.{assertion_of}
use Rattle.hs_pure.specs.declared.pure.Pure.TheVariants as pure_of
use Rattle.hs_bag_parts.specs.Substituting.{substitution}
use Rattle.hs_bag_parts.proofs.Substitutions.{substitution-Bound, substituted-And, substituted-Or, wide-And, wide-Or, wide-Exists, wide-Forall, substituted-Exists, substituted-Forall}
use Rattle.hs_bag_parts.proofs.instances.+substitution.Goals as goal

pub substituted-returns-in_err-parts-in-And-clause-wide : goal.substituted-returns-in_err-parts-in-And-clause-wide
substituted-returns-in_err-parts-in-And-clause-wide t c = λ h. wide-And (substitution c.args.f.now) c.args.n c.args.p.now c.in-And.ps c.in-And.is (rw c.as_slice.ensures at (c.in_err-parts-in-And.ensures.wide (search rules)))

pub substituted-returns-in_ok-new-in-And-clause-exact : goal.substituted-returns-in_ok-new-in-And-clause-exact
substituted-returns-in_ok-new-in-And-clause-exact t c =
    ap assertion_of c.in_ok-new-in-And.ensures
    ∙ substituted-And (substitution c.args.f.now) c.args.n c.args.p.now c.in-And.ps c.in_ok-parts-in-And.parts c.in-And.is (rw c.as_slice.ensures at c.in_ok-parts-in-And.ensures.exact)

pub substituted-returns-in_err-parts-in-Or-clause-wide : goal.substituted-returns-in_err-parts-in-Or-clause-wide
substituted-returns-in_err-parts-in-Or-clause-wide t c = λ h. wide-Or (substitution c.args.f.now) c.args.n c.args.p.now c.in-Or.ps c.in-Or.is (rw c.as_slice-in-Or.ensures at (c.in_err-parts-in-Or.ensures.wide (search rules)))

pub substituted-returns-in_ok-new-in-Or-clause-exact : goal.substituted-returns-in_ok-new-in-Or-clause-exact
substituted-returns-in_ok-new-in-Or-clause-exact t c =
    ap assertion_of c.in_ok-new-in-Or.ensures
    ∙ substituted-Or (substitution c.args.f.now) c.args.n c.args.p.now c.in-Or.ps c.in_ok-parts-in-Or.parts c.in-Or.is (rw c.as_slice-in-Or.ensures at c.in_ok-parts-in-Or.ensures.exact)

pub substituted-returns-in_err-inner-in-Exists-clause-wide : goal.substituted-returns-in_err-inner-in-Exists-clause-wide
substituted-returns-in_err-inner-in-Exists-clause-wide t c = λ h. wide-Exists (substitution c.args.f.now) _ c.args.n _ c.in-Exists.u c.args.p.now c.get-in-Exists.result.now (substitution-Bound c.in-Exists.u c.args.n c.args.f) c.in_ok-next-in-Exists.ensures.next (c.in-Exists.is ∙ ap (pure_of.Exists c.in-Exists.u) (sym c.get-in-Exists.ensures)) (c.in_err-inner-in-Exists.ensures.wide (search rules))

pub substituted-returns-in_ok-exists-in-Exists-clause-exact : goal.substituted-returns-in_ok-exists-in-Exists-clause-exact
substituted-returns-in_ok-exists-in-Exists-clause-exact t c =
    c.in_ok-exists-in-Exists.ensures
    ∙ substituted-Exists (substitution c.args.f.now) _ c.args.n _ c.in-Exists.u c.args.p.now c.get-in-Exists.result.now (substitution-Bound c.in-Exists.u c.args.n c.args.f) c.in_ok-next-in-Exists.ensures.next (assertion_of c.in_ok-inner-in-Exists.inner) c.in_ok-inner-in-Exists.ensures.exact (c.in-Exists.is ∙ ap (pure_of.Exists c.in-Exists.u) (sym c.get-in-Exists.ensures))

pub substituted-returns-in_err-inner-in-Forall-clause-wide : goal.substituted-returns-in_err-inner-in-Forall-clause-wide
substituted-returns-in_err-inner-in-Forall-clause-wide t c = λ h. wide-Forall (substitution c.args.f.now) _ c.args.n _ c.in-Forall.u c.args.p.now c.get-in-Forall.result.now (substitution-Bound c.in-Forall.u c.args.n c.args.f) c.in_ok-next-in-Forall.ensures.next (c.in-Forall.is ∙ ap (pure_of.Forall c.in-Forall.u) (sym c.get-in-Forall.ensures)) (c.in_err-inner-in-Forall.ensures.wide (search rules))

pub substituted-returns-in_ok-forall-in-Forall-clause-exact : goal.substituted-returns-in_ok-forall-in-Forall-clause-exact
substituted-returns-in_ok-forall-in-Forall-clause-exact t c =
    c.in_ok-forall-in-Forall.ensures
    ∙ substituted-Forall (substitution c.args.f.now) _ c.args.n _ c.in-Forall.u c.args.p.now c.get-in-Forall.result.now (substitution-Bound c.in-Forall.u c.args.n c.args.f) c.in_ok-next-in-Forall.ensures.next (assertion_of c.in_ok-inner-in-Forall.inner) c.in_ok-inner-in-Forall.ensures.exact (c.in-Forall.is ∙ ap (pure_of.Forall c.in-Forall.u) (sym c.get-in-Forall.ensures))
