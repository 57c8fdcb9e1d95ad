use Rattle.std.proofs.Common.{◌≡◌, rules, false, sym, ap, ◌∙◌, subst}
use Rattle.std.specs.List.{All}
use Rattle.hs_pure.specs.declared.pure.Pure.{Pure, the_lemmas}
use Rattle.hs_pure.specs.declared.pure.Pure.TheVariants as pure_of
use Rattle.hs_pure.specs.Assertion.{assertion_of}
use Rattle.hs_pure.specs.Occurs.{has_bags}
use Rattle.hs_pure.specs.Sums.{IsOrdered}
use Rattle.hs_cooper_forms.proofs.Changes.{ok_map}
use Rattle.hs_quantifiers.proofs.Stages.{not_atoms, not_wide}
use Rattle.hs_quantifiers.proofs.Joined.{without-And, without-Or, size-And, size-Or, wide-And, wide-Or}
use Rattle.hs_quantifiers.proofs.Parts.{literal_kept, bags-Not, bags-Exists, bags-Forall, bags-And, bags-Or, ordered-Not, ordered-Exists, ordered-Forall, ordered-And, ordered-Or, simple_of, ordered_of, result-Not, size-Not, wide-Not, result-Exists, size-Exists, size-Exists-inner, wide-Exists, wide-Exists-inner, result-Forall, size-Forall, size-Forall-inner, wide-Forall, wide-Forall-inner}
use Rattle.hs_quantifiers.proofs.quantifiers.+quantifiers.Goals as goal

pub all_without-without_quantifiers-requires : goal.all_without-without_quantifiers-requires
all_without-without_quantifiers-requires t c = (search (rules, the_lemmas), (subst (λ (p : Pure). has_bags p ≡ false) (sym c.p-item.is) (c.requires.no_bags c.loop-p.p-index c.p-item.result c.loop-p-test.true), (subst IsOrdered (sym c.p-item.is) (c.requires.ordered c.loop-p.p-index c.p-item.result c.loop-p-test.true), c.requires.small)))

pub all_without-returns-in_err-member-clause-atoms : goal.all_without-returns-in_err-member-clause-atoms
all_without-returns-in_err-member-clause-atoms t c = λ h. (c.p-item.result, ((c.loop-p.p-index, c.loop-p-test.true, sym c.p-item.is), c.in_err-member.ensures.atoms (search rules)))

pub all_without-returns-in_err-member-clause-wide : goal.all_without-returns-in_err-member-clause-wide
all_without-returns-in_err-member-clause-wide t c = λ h. (c.p-item.result, ((c.loop-p.p-index, c.loop-p-test.true, sym c.p-item.is), c.in_err-member.ensures.wide (search rules)))

pub without_quantifiers-without_quantifiers-requires : goal.without_quantifiers-without_quantifiers-requires
without_quantifiers-without_quantifiers-requires t c = (search (rules, the_lemmas), (bags-Not c.args.p.now c.get.result.now (c.in-Not.is ∙ ap pure_of.Not (sym c.get.ensures)) c.requires.no_bags, (ordered-Not c.args.p.now c.get.result.now (c.in-Not.is ∙ ap pure_of.Not (sym c.get.ensures)) c.requires.ordered, c.requires.small)))

pub without_quantifiers-returns-in_err-inner-in-Not-clause-atoms : goal.without_quantifiers-returns-in_err-inner-in-Not-clause-atoms
without_quantifiers-returns-in_err-inner-in-Not-clause-atoms t c = λ h. size-Not c.args.p.now c.get.result.now (c.in-Not.is ∙ ap pure_of.Not (sym c.get.ensures)) c.args.atoms (c.in_err-inner-in-Not.ensures.atoms (search rules))

pub without_quantifiers-returns-in_err-inner-in-Not-clause-wide : goal.without_quantifiers-returns-in_err-inner-in-Not-clause-wide
without_quantifiers-returns-in_err-inner-in-Not-clause-wide t c = λ h. wide-Not c.args.p.now c.get.result.now (c.in-Not.is ∙ ap pure_of.Not (sym c.get.ensures)) (c.in_err-inner-in-Not.ensures.wide (search rules))

pub without_quantifiers-returns-in_ok-inner-in-Not-clause-exact : goal.without_quantifiers-returns-in_ok-inner-in-Not-clause-exact
without_quantifiers-returns-in_ok-inner-in-Not-clause-exact t c = ok_map c.denial.result (λ s e. result-Not c.args.p.now c.get.result.now (c.in-Not.is ∙ ap pure_of.Not (sym c.get.ensures)) c.in_ok-inner-in-Not.inner s c.in_ok-inner-in-Not.ensures.exact e) c.denial.ensures.form

pub without_quantifiers-returns-in_ok-inner-in-Not-clause-atoms : goal.without_quantifiers-returns-in_ok-inner-in-Not-clause-atoms
without_quantifiers-returns-in_ok-inner-in-Not-clause-atoms t c = λ h. not_atoms c.denial.result c.denial.ensures.memory h

pub without_quantifiers-returns-in_ok-inner-in-Not-clause-wide : goal.without_quantifiers-returns-in_ok-inner-in-Not-clause-wide
without_quantifiers-returns-in_ok-inner-in-Not-clause-wide t c = λ h. not_wide c.denial.result c.denial.ensures.memory h

pub without_quantifiers-all_without-requires : goal.without_quantifiers-all_without-requires
without_quantifiers-all_without-requires t c = (search (rules, the_lemmas), (subst (All (λ (p : Pure). has_bags p ≡ false)) (sym c.as_slice.ensures) (bags-And c.args.p.now c.in-And.ps c.in-And.is c.requires.no_bags), (subst (All IsOrdered) (sym c.as_slice.ensures) (ordered-And c.args.p.now c.in-And.ps c.in-And.is c.requires.ordered), c.requires.small)))

pub without_quantifiers-returns-in_err-all_without-in-And-clause-atoms : goal.without_quantifiers-returns-in_err-all_without-in-And-clause-atoms
without_quantifiers-returns-in_err-all_without-in-And-clause-atoms t c = λ h. size-And c.args.atoms c.args.p.now c.in-And.ps c.in-And.is (rw c.as_slice.ensures at (c.in_err-all_without-in-And.ensures.atoms (search rules)))

pub without_quantifiers-returns-in_err-all_without-in-And-clause-wide : goal.without_quantifiers-returns-in_err-all_without-in-And-clause-wide
without_quantifiers-returns-in_err-all_without-in-And-clause-wide t c = λ h. wide-And c.args.p.now c.in-And.ps c.in-And.is (rw c.as_slice.ensures at (c.in_err-all_without-in-And.ensures.wide (search rules)))

pub without_quantifiers-returns-in_ok-all_without-in-And-clause-exact : goal.without_quantifiers-returns-in_ok-all_without-in-And-clause-exact
without_quantifiers-returns-in_ok-all_without-in-And-clause-exact t c = without-And c.args.p.now c.in-And.ps c.in_ok-all_without-in-And.field-0 c.in-And.is (rw c.as_slice.ensures at c.in_ok-all_without-in-And.ensures.exact)

pub without_quantifiers-all_without-requires-in-Or : goal.without_quantifiers-all_without-requires-in-Or
without_quantifiers-all_without-requires-in-Or t c = (search (rules, the_lemmas), (subst (All (λ (p : Pure). has_bags p ≡ false)) (sym c.as_slice-in-Or.ensures) (bags-Or c.args.p.now c.in-Or.ps c.in-Or.is c.requires.no_bags), (subst (All IsOrdered) (sym c.as_slice-in-Or.ensures) (ordered-Or c.args.p.now c.in-Or.ps c.in-Or.is c.requires.ordered), c.requires.small)))

pub without_quantifiers-returns-in_err-all_without-in-Or-clause-atoms : goal.without_quantifiers-returns-in_err-all_without-in-Or-clause-atoms
without_quantifiers-returns-in_err-all_without-in-Or-clause-atoms t c = λ h. size-Or c.args.atoms c.args.p.now c.in-Or.ps c.in-Or.is (rw c.as_slice-in-Or.ensures at (c.in_err-all_without-in-Or.ensures.atoms (search rules)))

pub without_quantifiers-returns-in_err-all_without-in-Or-clause-wide : goal.without_quantifiers-returns-in_err-all_without-in-Or-clause-wide
without_quantifiers-returns-in_err-all_without-in-Or-clause-wide t c = λ h. wide-Or c.args.p.now c.in-Or.ps c.in-Or.is (rw c.as_slice-in-Or.ensures at (c.in_err-all_without-in-Or.ensures.wide (search rules)))

pub without_quantifiers-returns-in_ok-all_without-in-Or-clause-exact : goal.without_quantifiers-returns-in_ok-all_without-in-Or-clause-exact
without_quantifiers-returns-in_ok-all_without-in-Or-clause-exact t c = without-Or c.args.p.now c.in-Or.ps c.in_ok-all_without-in-Or.field-0 c.in-Or.is (rw c.as_slice-in-Or.ensures at c.in_ok-all_without-in-Or.ensures.exact)

pub without_quantifiers-without_quantifiers-requires-in-Exists : goal.without_quantifiers-without_quantifiers-requires-in-Exists
without_quantifiers-without_quantifiers-requires-in-Exists t c = (search (rules, the_lemmas), (bags-Exists c.args.p.now c.in-Exists.u c.get-in-Exists.result.now (c.in-Exists.is ∙ ap (pure_of.Exists c.in-Exists.u) (sym c.get-in-Exists.ensures)) c.requires.no_bags, (ordered-Exists c.args.p.now c.in-Exists.u c.get-in-Exists.result.now (c.in-Exists.is ∙ ap (pure_of.Exists c.in-Exists.u) (sym c.get-in-Exists.ensures)) c.requires.ordered, c.requires.small)))

pub without_quantifiers-returns-in_err-inner-in-Exists-clause-atoms : goal.without_quantifiers-returns-in_err-inner-in-Exists-clause-atoms
without_quantifiers-returns-in_err-inner-in-Exists-clause-atoms t c = λ h. size-Exists-inner c.args.p.now c.in-Exists.u c.get-in-Exists.result.now (c.in-Exists.is ∙ ap (pure_of.Exists c.in-Exists.u) (sym c.get-in-Exists.ensures)) c.args.atoms (c.in_err-inner-in-Exists.ensures.atoms (search rules))

pub without_quantifiers-returns-in_err-inner-in-Exists-clause-wide : goal.without_quantifiers-returns-in_err-inner-in-Exists-clause-wide
without_quantifiers-returns-in_err-inner-in-Exists-clause-wide t c = λ h. wide-Exists-inner c.args.p.now c.in-Exists.u c.get-in-Exists.result.now (c.in-Exists.is ∙ ap (pure_of.Exists c.in-Exists.u) (sym c.get-in-Exists.ensures)) (c.in_err-inner-in-Exists.ensures.wide (search rules))

pub without_quantifiers-for_some-requires-clause-simple : goal.without_quantifiers-for_some-requires-clause-simple
without_quantifiers-for_some-requires-clause-simple t c = simple_of c.get-in-Exists.result.now c.in_ok-inner-in-Exists.inner (bags-Exists c.args.p.now c.in-Exists.u c.get-in-Exists.result.now (c.in-Exists.is ∙ ap (pure_of.Exists c.in-Exists.u) (sym c.get-in-Exists.ensures)) c.requires.no_bags) (ordered-Exists c.args.p.now c.in-Exists.u c.get-in-Exists.result.now (c.in-Exists.is ∙ ap (pure_of.Exists c.in-Exists.u) (sym c.get-in-Exists.ensures)) c.requires.ordered) c.in_ok-inner-in-Exists.ensures.exact

pub without_quantifiers-for_some-requires-clause-ordered : goal.without_quantifiers-for_some-requires-clause-ordered
without_quantifiers-for_some-requires-clause-ordered t c = ordered_of c.get-in-Exists.result.now c.in_ok-inner-in-Exists.inner (bags-Exists c.args.p.now c.in-Exists.u c.get-in-Exists.result.now (c.in-Exists.is ∙ ap (pure_of.Exists c.in-Exists.u) (sym c.get-in-Exists.ensures)) c.requires.no_bags) (ordered-Exists c.args.p.now c.in-Exists.u c.get-in-Exists.result.now (c.in-Exists.is ∙ ap (pure_of.Exists c.in-Exists.u) (sym c.get-in-Exists.ensures)) c.requires.ordered) c.in_ok-inner-in-Exists.ensures.exact

pub without_quantifiers-returns-in_ok-inner-in-Exists-clause-exact : goal.without_quantifiers-returns-in_ok-inner-in-Exists-clause-exact
without_quantifiers-returns-in_ok-inner-in-Exists-clause-exact t c = ok_map c.for_some.result (λ s e. result-Exists c.args.p.now c.in-Exists.u c.get-in-Exists.result.now (c.in-Exists.is ∙ ap (pure_of.Exists c.in-Exists.u) (sym c.get-in-Exists.ensures)) c.in_ok-inner-in-Exists.inner c.in_ok-inner-in-Exists.ensures.exact s e) c.for_some.ensures.exact

pub without_quantifiers-returns-in_ok-inner-in-Exists-clause-atoms : goal.without_quantifiers-returns-in_ok-inner-in-Exists-clause-atoms
without_quantifiers-returns-in_ok-inner-in-Exists-clause-atoms t c = λ h. size-Exists c.args.p.now c.in-Exists.u c.get-in-Exists.result.now (c.in-Exists.is ∙ ap (pure_of.Exists c.in-Exists.u) (sym c.get-in-Exists.ensures)) c.in_ok-inner-in-Exists.inner c.in_ok-inner-in-Exists.ensures.exact c.args.atoms (c.for_some.ensures.atoms h)

pub without_quantifiers-returns-in_ok-inner-in-Exists-clause-wide : goal.without_quantifiers-returns-in_ok-inner-in-Exists-clause-wide
without_quantifiers-returns-in_ok-inner-in-Exists-clause-wide t c = λ h. wide-Exists c.args.p.now c.in-Exists.u c.get-in-Exists.result.now (c.in-Exists.is ∙ ap (pure_of.Exists c.in-Exists.u) (sym c.get-in-Exists.ensures)) c.in_ok-inner-in-Exists.inner c.in_ok-inner-in-Exists.ensures.exact (c.for_some.ensures.wide h)

pub without_quantifiers-without_quantifiers-requires-in-Forall : goal.without_quantifiers-without_quantifiers-requires-in-Forall
without_quantifiers-without_quantifiers-requires-in-Forall t c = (search (rules, the_lemmas), (bags-Forall c.args.p.now c.in-Forall.u c.get-in-Forall.result.now (c.in-Forall.is ∙ ap (pure_of.Forall c.in-Forall.u) (sym c.get-in-Forall.ensures)) c.requires.no_bags, (ordered-Forall c.args.p.now c.in-Forall.u c.get-in-Forall.result.now (c.in-Forall.is ∙ ap (pure_of.Forall c.in-Forall.u) (sym c.get-in-Forall.ensures)) c.requires.ordered, c.requires.small)))

pub without_quantifiers-returns-in_err-inner-in-Forall-clause-atoms : goal.without_quantifiers-returns-in_err-inner-in-Forall-clause-atoms
without_quantifiers-returns-in_err-inner-in-Forall-clause-atoms t c = λ h. size-Forall-inner c.args.p.now c.in-Forall.u c.get-in-Forall.result.now (c.in-Forall.is ∙ ap (pure_of.Forall c.in-Forall.u) (sym c.get-in-Forall.ensures)) c.args.atoms (c.in_err-inner-in-Forall.ensures.atoms (search rules))

pub without_quantifiers-returns-in_err-inner-in-Forall-clause-wide : goal.without_quantifiers-returns-in_err-inner-in-Forall-clause-wide
without_quantifiers-returns-in_err-inner-in-Forall-clause-wide t c = λ h. wide-Forall-inner c.args.p.now c.in-Forall.u c.get-in-Forall.result.now (c.in-Forall.is ∙ ap (pure_of.Forall c.in-Forall.u) (sym c.get-in-Forall.ensures)) (c.in_err-inner-in-Forall.ensures.wide (search rules))

pub without_quantifiers-for_each-requires-clause-simple : goal.without_quantifiers-for_each-requires-clause-simple
without_quantifiers-for_each-requires-clause-simple t c = simple_of c.get-in-Forall.result.now c.in_ok-inner-in-Forall.inner (bags-Forall c.args.p.now c.in-Forall.u c.get-in-Forall.result.now (c.in-Forall.is ∙ ap (pure_of.Forall c.in-Forall.u) (sym c.get-in-Forall.ensures)) c.requires.no_bags) (ordered-Forall c.args.p.now c.in-Forall.u c.get-in-Forall.result.now (c.in-Forall.is ∙ ap (pure_of.Forall c.in-Forall.u) (sym c.get-in-Forall.ensures)) c.requires.ordered) c.in_ok-inner-in-Forall.ensures.exact

pub without_quantifiers-for_each-requires-clause-ordered : goal.without_quantifiers-for_each-requires-clause-ordered
without_quantifiers-for_each-requires-clause-ordered t c = ordered_of c.get-in-Forall.result.now c.in_ok-inner-in-Forall.inner (bags-Forall c.args.p.now c.in-Forall.u c.get-in-Forall.result.now (c.in-Forall.is ∙ ap (pure_of.Forall c.in-Forall.u) (sym c.get-in-Forall.ensures)) c.requires.no_bags) (ordered-Forall c.args.p.now c.in-Forall.u c.get-in-Forall.result.now (c.in-Forall.is ∙ ap (pure_of.Forall c.in-Forall.u) (sym c.get-in-Forall.ensures)) c.requires.ordered) c.in_ok-inner-in-Forall.ensures.exact

pub without_quantifiers-returns-in_ok-inner-in-Forall-clause-exact : goal.without_quantifiers-returns-in_ok-inner-in-Forall-clause-exact
without_quantifiers-returns-in_ok-inner-in-Forall-clause-exact t c = ok_map c.for_each.result (λ s e. result-Forall c.args.p.now c.in-Forall.u c.get-in-Forall.result.now (c.in-Forall.is ∙ ap (pure_of.Forall c.in-Forall.u) (sym c.get-in-Forall.ensures)) c.in_ok-inner-in-Forall.inner c.in_ok-inner-in-Forall.ensures.exact s e) c.for_each.ensures.exact

pub without_quantifiers-returns-in_ok-inner-in-Forall-clause-atoms : goal.without_quantifiers-returns-in_ok-inner-in-Forall-clause-atoms
without_quantifiers-returns-in_ok-inner-in-Forall-clause-atoms t c = λ h. size-Forall c.args.p.now c.in-Forall.u c.get-in-Forall.result.now (c.in-Forall.is ∙ ap (pure_of.Forall c.in-Forall.u) (sym c.get-in-Forall.ensures)) c.in_ok-inner-in-Forall.inner c.in_ok-inner-in-Forall.ensures.exact c.args.atoms (c.for_each.ensures.atoms h)

pub without_quantifiers-returns-in_ok-inner-in-Forall-clause-wide : goal.without_quantifiers-returns-in_ok-inner-in-Forall-clause-wide
without_quantifiers-returns-in_ok-inner-in-Forall-clause-wide t c = λ h. wide-Forall c.args.p.now c.in-Forall.u c.get-in-Forall.result.now (c.in-Forall.is ∙ ap (pure_of.Forall c.in-Forall.u) (sym c.get-in-Forall.ensures)) c.in_ok-inner-in-Forall.inner c.in_ok-inner-in-Forall.ensures.exact (c.for_each.ensures.wide h)

pub without_quantifiers-returns-in-Eq-clause-exact : goal.without_quantifiers-returns-in-Eq-clause-exact
without_quantifiers-returns-in-Eq-clause-exact t c = ok_map c.copied.result (λ s e. ap assertion_of e ∙ literal_kept c.args.p.now c.in-Eq.is) c.copied.ensures.same

pub without_quantifiers-returns-in-Eq-clause-atoms : goal.without_quantifiers-returns-in-Eq-clause-atoms
without_quantifiers-returns-in-Eq-clause-atoms t c = λ h. not_atoms c.copied.result c.copied.ensures.memory h

pub without_quantifiers-returns-in-Eq-clause-wide : goal.without_quantifiers-returns-in-Eq-clause-wide
without_quantifiers-returns-in-Eq-clause-wide t c = λ h. not_wide c.copied.result c.copied.ensures.memory h
