use Rattle.std.proofs.Common.{◌≡◌, false, not, ◌&&◌, ◌==◌, map, length, sym, ap, ◌∙◌}
use Rattle.std.proofs.Math.Bool.{and-false}
use Rattle.std.specs.List.{list_all}
use Rattle.hs_heap.specs.Tests.{formed}
use Rattle.hs_heap.proofs.Tells.{list_all-map_at}
use Rattle.hs_heap.proofs.proper.+forms.Goals as goal

pub all_formed-returns-then-not-formed : goal.all_formed-returns-then-not-formed
all_formed-returns-then-not-formed t c =
    let fails : formed c.p-item.result ≡ false = sym c.formed.ensures ∙ c.if-not-formed.true in
    let none : list_all (λ b. b) (map formed c.args.ps.now) ≡ false =
    list_all-map_at (λ b. b) formed c.args.ps.now c.loop-p.p-index c.p-item.result c.loop-p-test.true (ap formed (sym c.p-item.is) ∙ fails) in
    sym (ap (λ b. not (length (map formed c.args.ps.now) == 1) && b) none ∙ and-false _)
