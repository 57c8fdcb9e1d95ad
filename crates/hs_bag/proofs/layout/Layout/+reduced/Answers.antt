use Rattle.std.proofs.Common.{◌+◌, ◌≤◌, rules, sym, ap, ◌∙◌, subst}
use Rattle.hs_pure.specs.declared.pure.Pure.{the_lemmas}
use Rattle.hs_pure.specs.declared.pure.Pure.TheVariants as pure_of
use Rattle.hs_cooper_forms.proofs.Changes.{ok_map}
use Rattle.hs_bag.specs.Counting.{layout_of}
use Rattle.hs_bag_parts.specs.Reading.{all_compounds, all_denied}
use Rattle.hs_bag_parts.specs.Substituting.{way_of}
use Rattle.hs_bag_parts.proofs.Together.{denied-And, denied-Or, compounds-And, compounds-Or}
use Rattle.hs_bag.proofs.Reducing.{reduced_BagEq, reduced_Subset, reduced_AllOf, reduced_And, reduced_Or, wide_And, wide_Or}
use Rattle.hs_bag.proofs.layout.Layout.+reduced.Goals as goal

pub reduced-returns-in_ok-compared-in-BagEq-clause-exact : goal.reduced-returns-in_ok-compared-in-BagEq-clause-exact
reduced-returns-in_ok-compared-in-BagEq-clause-exact t c = c.in_ok-compared-in-BagEq.ensures.pure ∙ reduced_BagEq (layout_of c.args.self.now) (way_of c.args.how.way) c.args.how.end c.args.asserted c.args.p.now c.args.new c.args.block c.in-BagEq.a c.in-BagEq.b c.in-BagEq.is

pub reduced-returns-in_ok-compared-in-Subset-clause-exact : goal.reduced-returns-in_ok-compared-in-Subset-clause-exact
reduced-returns-in_ok-compared-in-Subset-clause-exact t c = c.in_ok-compared-in-Subset.ensures.pure ∙ reduced_Subset (layout_of c.args.self.now) (way_of c.args.how.way) c.args.how.end c.args.asserted c.args.p.now c.args.new c.args.block c.in-Subset.a c.in-Subset.b c.in-Subset.is

pub reduced-returns-in-AllOf-clause-exact : goal.reduced-returns-in-AllOf-clause-exact
reduced-returns-in-AllOf-clause-exact t c =
    ok_map c.all_of.result (λ r e. e ∙ reduced_AllOf (layout_of c.args.self.now) (way_of c.args.how.way) c.args.how.end c.args.asserted c.args.p.now c.args.new c.args.block c.in-AllOf.u c.in-AllOf.b c.get.result.now (c.in-AllOf.is ∙ ap (pure_of.AllOf c.in-AllOf.u c.in-AllOf.b) (sym c.get.ensures)))
    c.all_of.ensures.exact

pub reduced-reduced_all-requires : goal.reduced-reduced_all-requires
reduced-reduced_all-requires t c = (
  search (rules, the_lemmas),
  (
    c.requires.fits,
    (
      subst (λ qs. c.args.new + all_denied c.args.asserted qs ≤ c.args.self.now.new) (sym c.as_slice.ensures) (subst (λ n. c.args.new + n ≤ c.args.self.now.new) (sym (denied-And c.args.asserted c.args.p.now c.in-And.ps c.in-And.is)) c.requires.elements),
      subst (λ qs. c.args.block + all_compounds qs ≤ c.args.self.now.blocks) (sym c.as_slice.ensures) (subst (λ n. c.args.block + n ≤ c.args.self.now.blocks) (sym (compounds-And c.args.p.now c.in-And.ps c.in-And.is)) c.requires.room),
    ),
  ),
)

pub reduced-returns-in_err-members-in-And-clause-wide : goal.reduced-returns-in_err-members-in-And-clause-wide
reduced-returns-in_err-members-in-And-clause-wide t c = λ h. wide_And (layout_of c.args.self.now) (way_of c.args.how.way) c.args.how.end c.args.asserted c.args.p.now c.in-And.ps c.args.new c.in-And.is (rw c.as_slice.ensures at (c.in_err-members-in-And.ensures.wide (search rules)))

pub reduced-returns-in_ok-joined-in-And-clause-exact : goal.reduced-returns-in_ok-joined-in-And-clause-exact
reduced-returns-in_ok-joined-in-And-clause-exact t c =
    c.in_ok-joined-in-And.ensures.pure
    ∙ reduced_And (layout_of c.args.self.now) (way_of c.args.how.way) c.args.how.end c.args.asserted c.args.p.now c.in-And.ps c.args.new c.args.block _ (rw c.as_slice.ensures at c.in_ok-members-in-And.ensures.exact) c.in-And.is

pub reduced-returns-in_ok-joined-in-And-clause-new : goal.reduced-returns-in_ok-joined-in-And-clause-new
reduced-returns-in_ok-joined-in-And-clause-new t c =
    c.in_ok-joined-in-And.ensures.new ∙ (rw c.as_slice.ensures at c.in_ok-members-in-And.ensures.new) ∙ ap (λ n. c.args.new + n) (denied-And c.args.asserted c.args.p.now c.in-And.ps c.in-And.is)

pub reduced-returns-in_ok-joined-in-And-clause-block : goal.reduced-returns-in_ok-joined-in-And-clause-block
reduced-returns-in_ok-joined-in-And-clause-block t c =
    c.in_ok-joined-in-And.ensures.block ∙ (rw c.as_slice.ensures at c.in_ok-members-in-And.ensures.block) ∙ ap (λ n. c.args.block + n) (compounds-And c.args.p.now c.in-And.ps c.in-And.is)

pub reduced-reduced_all-requires-in-Or : goal.reduced-reduced_all-requires-in-Or
reduced-reduced_all-requires-in-Or t c = (
  search (rules, the_lemmas),
  (
    c.requires.fits,
    (
      subst (λ qs. c.args.new + all_denied c.args.asserted qs ≤ c.args.self.now.new) (sym c.as_slice-in-Or.ensures) (subst (λ n. c.args.new + n ≤ c.args.self.now.new) (sym (denied-Or c.args.asserted c.args.p.now c.in-Or.ps c.in-Or.is)) c.requires.elements),
      subst (λ qs. c.args.block + all_compounds qs ≤ c.args.self.now.blocks) (sym c.as_slice-in-Or.ensures) (subst (λ n. c.args.block + n ≤ c.args.self.now.blocks) (sym (compounds-Or c.args.p.now c.in-Or.ps c.in-Or.is)) c.requires.room),
    ),
  ),
)

pub reduced-returns-in_err-members-in-Or-clause-wide : goal.reduced-returns-in_err-members-in-Or-clause-wide
reduced-returns-in_err-members-in-Or-clause-wide t c = λ h. wide_Or (layout_of c.args.self.now) (way_of c.args.how.way) c.args.how.end c.args.asserted c.args.p.now c.in-Or.ps c.args.new c.in-Or.is (rw c.as_slice-in-Or.ensures at (c.in_err-members-in-Or.ensures.wide (search rules)))

pub reduced-returns-in_ok-joined-in-Or-clause-exact : goal.reduced-returns-in_ok-joined-in-Or-clause-exact
reduced-returns-in_ok-joined-in-Or-clause-exact t c =
    c.in_ok-joined-in-Or.ensures.pure
    ∙ reduced_Or (layout_of c.args.self.now) (way_of c.args.how.way) c.args.how.end c.args.asserted c.args.p.now c.in-Or.ps c.args.new c.args.block _ (rw c.as_slice-in-Or.ensures at c.in_ok-members-in-Or.ensures.exact) c.in-Or.is

pub reduced-returns-in_ok-joined-in-Or-clause-new : goal.reduced-returns-in_ok-joined-in-Or-clause-new
reduced-returns-in_ok-joined-in-Or-clause-new t c =
    c.in_ok-joined-in-Or.ensures.new ∙ (rw c.as_slice-in-Or.ensures at c.in_ok-members-in-Or.ensures.new) ∙ ap (λ n. c.args.new + n) (denied-Or c.args.asserted c.args.p.now c.in-Or.ps c.in-Or.is)

pub reduced-returns-in_ok-joined-in-Or-clause-block : goal.reduced-returns-in_ok-joined-in-Or-clause-block
reduced-returns-in_ok-joined-in-Or-clause-block t c =
    c.in_ok-joined-in-Or.ensures.block ∙ (rw c.as_slice-in-Or.ensures at c.in_ok-members-in-Or.ensures.block) ∙ ap (λ n. c.args.block + n) (compounds-Or c.args.p.now c.in-Or.ps c.in-Or.is)
