use Rattle.std.proofs.Common.{◌+◌, drop, ap, ◌∙◌}
use Rattle.hs_elimination.specs.Cases.{join_distinct}
use Rattle.hs_bag_parts.specs.Reading.{all_terms}
use Rattle.hs_bag_parts.proofs.Members.{on_ok_map}
use Rattle.hs_bag_parts.proofs.Together.{terms-And, terms-Or, terms-BagEq, terms-Subset, more_terms}
use Rattle.hs_bag_parts.proofs.reading.+terms.Goals as goal

pub add_terms-returns-in-And : goal.add_terms-returns-in-And
add_terms-returns-in-And t c = on_ok_map c.add_all_terms.result (λ e. e ∙ ap (join_distinct _) (terms-And c.args.p.now c.in-And.ps c.in-And.is)) (rw c.as_slice.ensures at c.add_all_terms.ensures)

pub add_terms-returns-in-Or : goal.add_terms-returns-in-Or
add_terms-returns-in-Or t c = on_ok_map c.add_all_terms-in-Or.result (λ e. e ∙ ap (join_distinct _) (terms-Or c.args.p.now c.in-Or.ps c.in-Or.is)) (rw c.as_slice-in-Or.ensures at c.add_all_terms-in-Or.ensures)

pub add_all_terms-loop-p-preserved : goal.add_all_terms-loop-p-preserved
add_all_terms-loop-p-preserved t c =
    ap (λ ts. join_distinct ts (all_terms (drop (c.loop-p.p-index + 1) c.args.ps.now))) c.in_ok-add_terms.ensures
    ∙ more_terms c.loop-p.listed c.args.ps.now c.loop-p.p-index c.p-item.result c.loop-p-test.true c.p-item.is
    ∙ c.loop-p.invariant

pub add_terms-returns-in-BagEq : goal.add_terms-returns-in-BagEq
add_terms-returns-in-BagEq t c = on_ok_map c.add_two.result (λ e. e ∙ terms-BagEq c.args.listed.now c.in-BagEq.a c.in-BagEq.b c.args.p.now c.in-BagEq.is) c.add_two.ensures

pub add_terms-returns-in-Subset : goal.add_terms-returns-in-Subset
add_terms-returns-in-Subset t c = on_ok_map c.add_two-in-Subset.result (λ e. e ∙ terms-Subset c.args.listed.now c.in-Subset.a c.in-Subset.b c.args.p.now c.in-Subset.is) c.add_two-in-Subset.ensures
