use Rattle.std.proofs.Common.{◌≡◌, ◌∙◌, ◌+◌, ◌++◌, pos, false, [], ◌∷◌, length, take, get_or, rules, sym, ap, arith, SFits}
use Rattle.std.proofs.lemmas.Int.{to_z-of_z}
use Rattle.std.proofs.lemmas.List.{take_more}
use Rattle.std.specs.Int.{w128}
use Rattle.hs_pure.specs.Eval.{stack_of}
use Rattle.hs_machine.specs.Read.{listed_vars}
use Rattle.hs_machine.proofs.Slots.{listed_push, slots_valued, take_length, take_whole}
use Rattle.hs_machine.proofs.frame.Frame.valuation.Goals as goal

pub loop-value-preserved : goal.loop-value-preserved
loop-value-preserved c =
    let i = c.loop-value.value-index in
    let xs = c.as_slice-value-items.result.now in
    let lt = c.loop-value-test.true in
    let x = get_or xs i (pos 0) in
    let fits : SFits w128 (get_or c.as_slice-value-items.result.now c.loop-value.value-index (pos 0)) = search rules in
    let at = c.loop-value.invariant.number in
    let size : length (take c.loop-value.value-index c.as_slice-value-items.result.now) ≡ c.loop-value.value-index = take_length xs i (omega arith) in
    let number : c.loop-value.number + 1 ≡ 1 + length (take c.loop-value.value-index c.as_slice-value-items.result.now) = omega arith in
    record {
      numbers = c.in_ok-push.ensures.ok ∙ (λ j. c.loop-value.invariant.numbers j ++ (record { number = number j; bag = false }, to_z-of_z w128 x fits j) ∷ [])
          ∙ sym (listed_push 1 (take i xs) x) ∙ ap (listed_vars 1) (sym (take_more xs i (pos 0) lt));
      number = omega arith;
    }

pub returns : goal.returns
returns c =
    let i = c.loop-value.value-index in
    let xs = c.as_slice-value-items.result.now in
    let all = c.loop-value.invariant.numbers ∙ ap (listed_vars 1) (take_whole xs i c.loop-value-test.false ∙ c.as_slice-value-items.ensures) in
    (λ j. stack_of (record { numbers = all j; bags = c.new.ensures j })) ∙ slots_valued c.args.self.now.slots
