use Rattle.std.proofs.Common.{◌≡◌, ◌+◌, true, false, ◌||◌, drop, get_or, sym, ap, ◌∙◌}
use Rattle.std.proofs.lemmas.List.{at_drop_more, at_drop_all}
use Rattle.hs_elimination.specs.Linear.{same_lin}
use Rattle.hs_elimination.specs.Cases.{has_lin}
use Rattle.hs_cooper.proofs.bounds.has_lin.Goals as goal

pub loop-b-preserved : goal.loop-b-preserved
loop-b-preserved c =
    let bs = c.args.sums.now in
    let isnt : same_lin c.args.a.now (get_or c.args.sums.now c.loop-b.b-index c.b-item.result) ≡ false = ap (same_lin c.args.a.now) (sym c.b-item.is) ∙ sym c.same_lin.ensures ∙ c.if-same_lin.false in
    sym (at_drop_more (has_lin c.args.a.now) bs c.loop-b.b-index c.b-item.result c.loop-b-test.true ∙ (λ j. isnt j || has_lin c.args.a.now (drop (c.loop-b.b-index + 1) bs)))
    ∙ c.loop-b.invariant

pub returns-then-same_lin : goal.returns-then-same_lin
returns-then-same_lin c =
    let bs = c.args.sums.now in
    let is : same_lin c.args.a.now (get_or c.args.sums.now c.loop-b.b-index c.b-item.result) ≡ true = ap (same_lin c.args.a.now) (sym c.b-item.is) ∙ sym c.same_lin.ensures ∙ c.if-same_lin.true in
    sym (at_drop_more (has_lin c.args.a.now) bs c.loop-b.b-index c.b-item.result c.loop-b-test.true ∙ (λ j. is j || has_lin c.args.a.now (drop (c.loop-b.b-index + 1) bs)))
    ∙ c.loop-b.invariant

pub returns : goal.returns
returns c = sym (at_drop_all (has_lin c.args.a.now) c.args.sums.now c.loop-b.b-index c.loop-b-test.false) ∙ c.loop-b.invariant
