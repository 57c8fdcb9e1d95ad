use Rattle.std.proofs.Common.{◌≡◌, ◌++◌, ◌∷◌, [], suc, ◌+◌, ◌-◌, Some, ap, ◌∙◌, append_assoc, arith}
use Rattle.hs_core_text.specs.Slots.{slot_text, names_from}
use Rattle.hs_core_text.proofs.slots.slot_names.Goals as goal

pub loop-k-preserved : goal.loop-k-preserved
loop-k-preserved c =
    let k = c.loop-k.k in
    let list = c.loop-k.list in
    let left = c.args.count - (k + 1) in
    let more : suc left ≡ c.args.count - k = (let lt = c.loop-k-test.true in omega (arith, lt)) in
    let next : k + 1 ≡ suc k = omega arith in
    ap (λ l. l ++ names_from (suc (k + 1)) left) (c.in_ok-push.ensures.ok ∙ ap (λ name. list ++ Some name ∷ []) c.in_ok-slot_name.ensures)
    ∙ append_assoc list (Some (slot_text (k + 1)) ∷ []) (names_from (suc (k + 1)) left)
    ∙ ap (λ j. list ++ names_from j (suc left)) next
    ∙ ap (λ n. list ++ names_from (suc k) n) more
    ∙ c.loop-k.invariant
