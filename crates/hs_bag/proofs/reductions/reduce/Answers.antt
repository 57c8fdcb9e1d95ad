use Rattle.std.proofs.Common.{◌≡◌, ◌<◌, true, false, rules, sym, ap, ◌∙◌, subst}
use Rattle.hs_pure.specs.Assertion.{assertion_of}
use Rattle.hs_pure.specs.Occurs.{top_of, is_bags_plain}
use Rattle.hs_counts.specs.Counts.{counts_of}
use Rattle.hs_bag.proofs.Stops.{own_reduction, own_end}
use Rattle.hs_bag.proofs.Promised.{is_reduction}
use Rattle.hs_bag.proofs.reductions.reduce.Goals as goal

pub returns-in_err-l-clause-under : goal.returns-in_err-l-clause-under
returns-in_err-l-clause-under c =
    let plain : is_bags_plain c.args.f.now ≡ true = sym c.bags_plain.ensures ∙ c.if-not-bags_plain.false in
    (λ h. absurd (c.in_err-l.ensures.under (search rules)), λ h. absurd (let e : true ≡ false = sym plain ∙ h in cc))

pub returns-clause-reduction : goal.returns-clause-reduction
returns-clause-reduction c =
    let plain : is_bags_plain c.args.f.now ≡ true = sym c.bags_plain.ensures ∙ c.if-not-bags_plain.false in
    is_reduction c.args.f.now c.args.fresh c.in_ok-with_counts.field-0 c.in_ok-pure.ensures.0 c.requires.ordered c.requires.above plain
    (ap assertion_of c.in_ok-with_counts.ensures.pure ∙ own_reduction c.in_ok-l.l c.args.fresh (assertion_of c.args.f.now) c.in_ok-l.ensures.layout c.in_ok-pure.ensures.0 (assertion_of c.in_ok-pure.pure) c.in_ok-pure.ensures.1)
    (c.in_ok-with_counts.ensures.counts ∙ ap counts_of c.in_ok-l.ensures.layout)
    (own_end c.in_ok-l.l c.args.fresh (assertion_of c.args.f.now) c.in_ok-l.ensures.layout c.in_ok-with_counts.field-0.next c.in_ok-l.ensures.blocks c.in_ok-with_counts.ensures.end)
    (subst (λ q. top_of q < c.in_ok-with_counts.field-0.next) (sym c.in_ok-with_counts.ensures.pure) c.in_ok-with_counts.ensures.below)
