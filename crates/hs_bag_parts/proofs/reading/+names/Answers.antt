use Rattle.std.proofs.Common.{◌+◌, drop, ap, ◌∙◌}
use Rattle.hs_bag_parts.specs.Reading.{all_names}
use Rattle.hs_bag_parts.proofs.Members.{on_ok_map}
use Rattle.hs_bag_parts.proofs.Together.{names-And, names-Or, more_names}
use Rattle.hs_bag_parts.proofs.reading.+names.Goals as goal

pub add_names-returns-in-And : goal.add_names-returns-in-And
add_names-returns-in-And t c = on_ok_map c.add_all_names.result (λ e. e ∙ names-And c.args.p.now c.in-And.ps _ c.in-And.is) (rw c.as_slice.ensures at c.add_all_names.ensures)

pub add_names-returns-in-Or : goal.add_names-returns-in-Or
add_names-returns-in-Or t c = on_ok_map c.add_all_names-in-Or.result (λ e. e ∙ names-Or c.args.p.now c.in-Or.ps _ c.in-Or.is) (rw c.as_slice-in-Or.ensures at c.add_all_names-in-Or.ensures)

pub add_all_names-loop-p-preserved : goal.add_all_names-loop-p-preserved
add_all_names-loop-p-preserved t c =
    ap (all_names (drop (c.loop-p.p-index + 1) c.args.ps.now)) c.in_ok-add_names.ensures
    ∙ more_names c.loop-p.names.items c.args.ps.now c.loop-p.p-index c.p-item.result c.loop-p-test.true c.p-item.is
    ∙ c.loop-p.invariant
