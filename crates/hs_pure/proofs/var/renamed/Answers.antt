use Rattle.std.proofs.Common.{◌≡◌, ◌+◌, false, true, if◌then◌else◌, drop, get_or, sym, ◌∙◌}
use Rattle.std.proofs.lemmas.List.{at_drop_more, at_drop_all}
use Rattle.hs_pure.specs.declared.var.Var.{Var}
use Rattle.hs_pure.specs.Stack.{same}
use Rattle.hs_pure.specs.Rename.{renaming}
use Rattle.hs_pure.proofs.var.renamed.Goals as goal

abbrev none : Var × Var
none = (record { number = 0; bag = false }, record { number = 0; bag = false })

pub loop-pair-preserved : goal.loop-pair-preserved
loop-pair-preserved c =
    let m = get_or c.args.map.now c.loop-pair.pair-index none in
    let isnt : same (get_or c.args.map.now c.loop-pair.pair-index none).0 c.args.v ≡ false = sym c.eq.ensures ∙ c.if-eq.false in
    c.loop-pair.invariant ∙ at_drop_more (λ ms. renaming ms c.args.v) c.args.map.now c.loop-pair.pair-index none c.loop-pair-test.true
    ∙ (λ j. if isnt j then m.1 else renaming (drop (c.loop-pair.pair-index + 1) c.args.map.now) c.args.v)

pub returns-then-eq : goal.returns-then-eq
returns-then-eq c =
    let m = get_or c.args.map.now c.loop-pair.pair-index none in
    let is : same (get_or c.args.map.now c.loop-pair.pair-index none).0 c.args.v ≡ true = sym c.eq.ensures ∙ c.if-eq.true in
    sym (c.loop-pair.invariant ∙ at_drop_more (λ ms. renaming ms c.args.v) c.args.map.now c.loop-pair.pair-index none c.loop-pair-test.true
    ∙ (λ j. if is j then m.1 else renaming (drop (c.loop-pair.pair-index + 1) c.args.map.now) c.args.v))

pub returns : goal.returns
returns c = sym (c.loop-pair.invariant ∙ at_drop_all (λ ms. renaming ms c.args.v) c.args.map.now c.loop-pair.pair-index c.loop-pair-test.false)
