use Rattle.std.proofs.Common.{◌≡◌, true, rules, sym, ap, ◌∙◌, subst}
use Rattle.std.proofs.lemmas.List.{take_all}
use Rattle.std.proofs.lemmas.List.Elements.{All-more, All-same}
use Rattle.hs_pure.specs.declared.pure.Pure.{Pure}
use Rattle.hs_pure.specs.declared.pure.Pure.TheVariants as pure_of
use Rattle.hs_equations.specs.Claims.{truth_at, IsAnd, IsOr}
use Rattle.hs_equations.proofs.Lists.{ok-map, All-at}
use Rattle.hs_equations.proofs.Literals.{none-any}
use Rattle.hs_equations.proofs.Tests.{test-Not, test-And, test-Or}
use Rattle.hs_equations.proofs.known.+refuting.Goals as goal

pub refuted-returns-in-Not : goal.refuted-returns-in-Not
refuted-returns-in-Not t c = ok-map c.refuted.result (λ r f b s h e. f b s h (test-Not s c.args.p.now c.get.result.now c.args.expected (c.in-Not.is ∙ ap pure_of.Not (sym c.get.ensures)) e)) c.refuted.ensures

pub refuted-returns-in-And : goal.refuted-returns-in-And
refuted-returns-in-And t c = ok-map c.and_refuted.result (λ r f b s h e. f b s h (subst (IsAnd s c.args.expected) (sym c.as_slice.ensures) (test-And s c.args.p.now c.in-And.ps c.args.expected c.in-And.is e))) c.and_refuted.ensures

pub refuted-returns-in-Or : goal.refuted-returns-in-Or
refuted-returns-in-Or t c = ok-map c.or_refuted.result (λ r f b s h e. f b s h (subst (IsOr s c.args.expected) (sym c.as_slice-in-Or.ensures) (test-Or s c.args.p.now c.in-Or.ps c.args.expected c.in-Or.is e))) c.or_refuted.ensures

pub refuted-returns-in_default : goal.refuted-returns-in_default
refuted-returns-in_default t c = c.literal_refuted.ensures

pub and_refuted-returns-then-expected : goal.and_refuted-returns-then-expected
and_refuted-returns-then-expected t c = ok-map c.one_refuted.result (λ r f b s h e. f b s h (subst (λ x. IsAnd s x c.args.ps.now) c.if-expected.true e)) c.one_refuted.ensures

pub and_refuted-returns-else-expected : goal.and_refuted-returns-else-expected
and_refuted-returns-else-expected t c = ok-map c.all_refuted.result (λ r f b s h e. f b s h (subst (λ x. IsAnd s x c.args.ps.now) c.if-expected.false e)) c.all_refuted.ensures

pub or_refuted-returns-then-expected : goal.or_refuted-returns-then-expected
or_refuted-returns-then-expected t c = ok-map c.all_refuted.result (λ r f b s h e. f b s h (subst (λ x. IsOr s x c.args.ps.now) c.if-expected.true e)) c.all_refuted.ensures

pub or_refuted-returns-else-expected : goal.or_refuted-returns-else-expected
or_refuted-returns-else-expected t c = ok-map c.one_refuted.result (λ r f b s h e. f b s h (subst (λ x. IsOr s x c.args.ps.now) c.if-expected.false e)) c.one_refuted.ensures

pub one_refuted-returns-then-found : goal.one_refuted-returns-then-found
one_refuted-returns-then-found t c = λ b s h all.
    c.in_ok-found.ensures c.if-found.true s h (All-at (λ p. truth_at s p ≡ c.args.expected) c.args.ps.now c.loop-p.p-index c.p-item.result c.loop-p-test.true c.p-item.is all)

pub all_refuted-loop-p-preserved : goal.all_refuted-loop-p-preserved
all_refuted-loop-p-preserved m c = λ s h.
    let t : c.in_ok-found.found ≡ true = search rules in
    All-more (λ p. ¬ (truth_at s p ≡ c.args.expected)) c.args.ps.now c.loop-p.p-index c.p-item.result c.loop-p-test.true (c.loop-p.invariant s h)
    (subst (λ (p : Pure). ¬ (truth_at s p ≡ c.args.expected)) c.p-item.is (c.in_ok-found.ensures t s h))

pub all_refuted-returns : goal.all_refuted-returns
all_refuted-returns t c = λ b s h any.
    none-any (λ p. truth_at s p ≡ c.args.expected) c.args.ps.now (All-same (λ p. ¬ (truth_at s p ≡ c.args.expected)) _ _ (sym (take_all c.loop-p.p-index c.args.ps.now c.loop-p-test.false)) (c.loop-p.invariant s h)) any
