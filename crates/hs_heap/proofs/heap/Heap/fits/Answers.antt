use Rattle.std.proofs.Common.{◌≡◌, true, false, sym, ap, ◌∙◌, subst}
use Rattle.std.specs.List.{list_all}
use Rattle.std.specs.Map.{values_of}
use Rattle.hs_heap.specs.Sound.{HeapFits}
use Rattle.hs_heap.specs.Tests.{node_fits}
use Rattle.hs_heap.proofs.Tells.{Tells}
use Rattle.hs_heap.proofs.Fitting.{stops_here, heap_told}
use Rattle.hs_heap.proofs.heap.Heap.fits.Goals as goal

pub returns-then-not-test : goal.returns-then-not-test
returns-then-not-test c =
    let test = node_fits c.args.defs.now in
    let whole : list_all (node_fits c.args.defs.now) (values_of c.args.self.now) ≡ false =
    c.loop-node.invariant ∙ ap (list_all test) c.in-Some.ensures.steps ∙ stops_here test c.in-Some.node.now _ (sym c.test.ensures ∙ c.if-not-test.true) in
    subst (λ b. Tells b (HeapFits c.args.defs.now c.args.self.now)) whole (heap_told c.args.defs.now c.args.self.now)

pub returns : goal.returns
returns c =
    let whole : list_all (node_fits c.args.defs.now) (values_of c.args.self.now) ≡ true =
    c.loop-node.invariant ∙ ap (list_all (node_fits c.args.defs.now)) c.in-None.ensures.steps.0 in
    subst (λ b. Tells b (HeapFits c.args.defs.now c.args.self.now)) whole (heap_told c.args.defs.now c.args.self.now)
