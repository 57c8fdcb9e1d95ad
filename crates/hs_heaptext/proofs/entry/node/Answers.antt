use Rattle.std.proofs.Common.{◌≡◌, ℕ, suc, ◌+◌, Some, sym, ◌∙◌, ap, length, refl, subst, arith, slice_get}
use Rattle.std.proofs.lemmas.Option.{slice_get_read}
use Rattle.hs_heaptext.specs.Reading.{StatesNode}
use Rattle.hs_heaptext.proofs.Nodes.{none_yet, none_more, no_node, states_of}
use Rattle.hs_heaptext.proofs.entry.node.Goals as goal

pub loop-def-init : goal.loop-def-init
loop-def-init c = record { number = refl; none = none_yet c.args.defs.now c.args.text.now }

pub returns-in-Some : goal.returns-in-Some
returns-in-Some c =
    let i = c.loop-def.def-index in
    let n = c.loop-def.invariant.number in
    let at : slice_get c.args.defs.now.nodes i ≡ Some c.def-item.result =
    ap (λ l. slice_get l i) (sym c.as_slice-def-items.ensures) ∙ slice_get_read c.as_slice-def-items.result.now _ i c.def-item.result refl c.loop-def-test.true c.def-item.is in
    let h = rw c.in-Some.is at c.in_ok-values.ensures in
    let P : ℕ → Type 0 = λ k. StatesNode c.args.defs.now c.args.text.now (record { of = k; values = c.in-Some.values }) in
    let e : suc i ≡ c.loop-def.of + 1 = omega arith in
    subst P e (states_of c.args.defs.now i c.def-item.result c.args.text.now c.in-Some.values at h)

pub loop-def-preserved : goal.loop-def-preserved
loop-def-preserved c =
    let i = c.loop-def.def-index in
    let at : slice_get c.args.defs.now.nodes i ≡ Some c.def-item.result =
    ap (λ l. slice_get l i) (sym c.as_slice-def-items.ensures) ∙ slice_get_read c.as_slice-def-items.result.now _ i c.def-item.result refl c.loop-def-test.true c.def-item.is in
    record {
      number = ap (λ k. k + 1) c.loop-def.invariant.number;
      none = none_more c.args.defs.now c.args.text.now i c.def-item.result c.loop-def.invariant.none at (rw c.in_default.is at c.in_ok-values.ensures);
    }

pub returns : goal.returns
returns c =
    let whole : length c.args.defs.now.nodes ≡ c.loop-def.def-index =
    (let e = ap length c.as_slice-def-items.ensures in let t = c.loop-def-test.false in let u = c.loop-def.auto.def-index-end in omega (arith, e, t, u)) in
    no_node c.args.defs.now c.args.text.now c.loop-def.def-index c.loop-def.invariant.none whole
