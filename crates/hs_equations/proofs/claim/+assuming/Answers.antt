use Rattle.std.proofs.Common.{◌≡◌, sym, ap, ◌∙◌, subst}
use Rattle.hs_pure.specs.declared.pure.Pure.TheVariants as pure_of
use Rattle.hs_equations.specs.Claims.{truth_at, IsAnd, IsOr}
use Rattle.hs_equations.proofs.Lists.{ok-map, All-at}
use Rattle.hs_equations.proofs.Tests.{test-Not, test-And, test-Or}
use Rattle.hs_equations.proofs.claim.+assuming.Goals as goal

pub assume-returns-in-Not : goal.assume-returns-in-Not
assume-returns-in-Not t c = ok-map c.assume.result (λ r f s h e. f s h (test-Not s c.args.p.now c.get.result.now c.args.expected (c.in-Not.is ∙ ap pure_of.Not (sym c.get.ensures)) e)) c.assume.ensures

pub assume-returns-in-And : goal.assume-returns-in-And
assume-returns-in-And t c = ok-map c.assume_and.result (λ r f s h e. f s h (subst (IsAnd s c.args.expected) (sym c.as_slice.ensures) (test-And s c.args.p.now c.in-And.ps c.args.expected c.in-And.is e))) c.assume_and.ensures

pub assume-returns-in-Or : goal.assume-returns-in-Or
assume-returns-in-Or t c = ok-map c.assume_or.result (λ r f s h e. f s h (subst (IsOr s c.args.expected) (sym c.as_slice-in-Or.ensures) (test-Or s c.args.p.now c.in-Or.ps c.args.expected c.in-Or.is e))) c.assume_or.ensures

pub assume-returns-in_default : goal.assume-returns-in_default
assume-returns-in_default t c = c.assume_literal.ensures

pub assume_and-returns-then-expected : goal.assume_and-returns-then-expected
assume_and-returns-then-expected t c = ok-map c.assume_all.result (λ r f s h e. f s h (subst (λ b. IsAnd s b c.args.ps.now) c.if-expected.true e)) c.assume_all.ensures

pub assume_and-returns-else-expected : goal.assume_and-returns-else-expected
assume_and-returns-else-expected t c = ok-map c.assume_one.result (λ r f s h e. f s h (subst (λ b. IsAnd s b c.args.ps.now) c.if-expected.false e)) c.assume_one.ensures

pub assume_or-returns-then-expected : goal.assume_or-returns-then-expected
assume_or-returns-then-expected t c = ok-map c.assume_one.result (λ r f s h e. f s h (subst (λ b. IsOr s b c.args.ps.now) c.if-expected.true e)) c.assume_one.ensures

pub assume_or-returns-else-expected : goal.assume_or-returns-else-expected
assume_or-returns-else-expected t c = ok-map c.assume_all.result (λ r f s h e. f s h (subst (λ b. IsOr s b c.args.ps.now) c.if-expected.false e)) c.assume_all.ensures

pub assume_all-loop-p-preserved : goal.assume_all-loop-p-preserved
assume_all-loop-p-preserved t c = λ s h all.
    c.in_ok-now.ensures s (c.loop-p.invariant s h all) (All-at (λ p. truth_at s p ≡ c.args.expected) c.args.ps.now c.loop-p.p-index c.p-item.result c.loop-p-test.true c.p-item.is all)
