use Rattle.std.proofs.Common.{◌∙◌, arith, drop, length}
use Rattle.hs_norm_item.specs.Free.{mark_cases}
use Rattle.hs_norm_item.proofs.Freeing.{free_vars_tell}
use Rattle.hs_norm_item.proofs.free.free_vars.Goals as goal

pub returns : goal.returns
returns c = λ v less. free_vars_tell v c.args.count c.args.f.now c.in_ok-free.free.items c.mark_cases.new.free
    (drop (length c.mark_cases.new.free) c.in_ok-free.free.items) c.in_ok-free.free.len c.in_ok-free.ensures
    (omega (arith, c.in_ok-free.free.ok.0)) (c.in_ok-mark_cases.ensures ∙ λ j. mark_cases (c.as_slice.ensures j) (c.deref_mut.ensures.value j)) less
