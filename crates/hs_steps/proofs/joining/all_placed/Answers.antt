use Rattle.std.proofs.Common.{◌≡◌, ◌∷◌, [], ◌++◌, length, sym, ap, ◌∙◌, append_assoc, arith}
use Rattle.std.specs.Vec.Iter.{into_iter_items}
use Rattle.hs_steps.specs.Joined.{placed}
use Rattle.hs_steps.proofs.Pushed.{placed_one, ends_one}
use Rattle.hs_steps.proofs.joining.all_placed.Goals as goal

pub loop-part-preserved : goal.loop-part-preserved
loop-part-preserved c =
    let at = c.loop-part in
    let p = c.in-Some.part in
    let taken : into_iter_items at.part-iterator ≡ p ∷ into_iter_items c.next.new.self = c.in-Some.ensures.steps.0 in
    let steps : c.place.new.steps ≡ placed 0 (at.yielded ++ p ∷ []) = c.in_ok-place.ensures ∙ placed_one at.steps at.yielded p at.invariant.0 in (
      steps,
      c.in_ok-push.ensures.ok ∙ ends_one c.place.new.steps at.ends _ at.yielded p steps c.in_ok-count.ensures at.invariant.1,
      at.invariant.2 ∙ ap (λ rest. at.yielded ++ rest) taken ∙ sym (append_assoc at.yielded (p ∷ []) _),
      let was = at.invariant.3 in
          let gone = c.in-Some.ensures.steps.1 in
          let short = ap length taken in
          omega arith,
    )
