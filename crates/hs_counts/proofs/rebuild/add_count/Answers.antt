use Rattle.std.proofs.Common.{◌≡◌, true, rules, sym, ap, ◌∙◌, subst, if◌then◌else◌, to_z, of_z}
use mir.Syntax.{w128}
use mir.Val.{SFits}
use Rattle.std.proofs.lemmas.Int.{to_z-of_z}
use Rattle.hs_pure.specs.Multiset.{set_count}
use Rattle.hs_pure.specs.Stack.{same}
use Rattle.hs_pure.specs.Truth.{value}
use Rattle.hs_pure.specs.Eval.{natural, found, stack_of, multiset_of}
use Rattle.hs_pure.proofs.Lists.{from_not}
use Rattle.hs_counts.specs.Counts.{Rises}
use Rattle.hs_counts.proofs.Placed.{with_count-is, rises-with}
use Rattle.hs_counts.proofs.rebuild.add_count.Goals as goal

pub returns-clause-rise : goal.returns-clause-rise
returns-clause-rise c = subst Rises (sym c.in_ok-set_count.ensures) (rises-with (to_z w128 (of_z w128 c.in-Some.x)) (to_z w128 (of_z w128 c.number.result)) c.args.elements.now.items c.requires.rises)

pub returns-clause-same : goal.returns-clause-same
returns-clause-same c =
    let old = c.args.elements.now.items in
    let fits_x : SFits w128 c.in-Some.x = search rules in
    let fits_n : SFits w128 c.number.result = search rules in
    let x_is : to_z w128 (of_z w128 c.in-Some.x) ≡ value (stack_of c.args.v.now) c.args.c.now.element = to_z-of_z w128 c.in-Some.x fits_x ∙ c.in-Some.ensures.some in
    let n_is : to_z w128 (of_z w128 c.number.result) ≡ found c.args.v.now.numbers c.args.c.now.count = to_z-of_z w128 c.number.result fits_n ∙ c.number.ensures in
    let is : same c.args.c.now.of c.args.u ≡ true = from_not _ (sym c.ne.ensures ∙ c.if-ne.false) in
    ap multiset_of c.in_ok-set_count.ensures ∙ with_count-is (to_z w128 (of_z w128 c.in-Some.x)) (to_z w128 (of_z w128 c.number.result)) old c.requires.rises
    ∙ (λ i. set_count (multiset_of old) (x_is i) (natural (n_is i)))
    ∙ (λ i. if sym is i then set_count (multiset_of old) (value (stack_of c.args.v.now) c.args.c.now.element) (natural (found c.args.v.now.numbers c.args.c.now.count)) else multiset_of old)
