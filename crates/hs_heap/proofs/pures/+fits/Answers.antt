use Rattle.std.proofs.Common.{◌≡◌, Bool, false, not, ◌&&◌, ◌==◌, map, length, sym, ap, ◌∙◌}
use Rattle.std.proofs.Math.Bool.{and-false}
use Rattle.std.specs.List.{list_all}
use Rattle.hs_pure.specs.declared.var.Var.{Var}
use Rattle.hs_pure.specs.declared.pure.Pure.{Pure}
use Rattle.hs_heap.specs.Tests.{in_scope, pure_fits}
use Rattle.hs_heap.proofs.Tells.{list_all-map_at}
use Rattle.hs_heap.proofs.pures.+fits.Goals as goal

pub both_fit-returns-then-not-pure_fits : goal.both_fit-returns-then-not-pure_fits
both_fit-returns-then-not-pure_fits t c =
    let q : Pure → (Var → Bool) → Bool = pure_fits (in_scope c.args.free.now) c.args.next in
    let fails : q c.p-item.result (in_scope c.args.scope.now) ≡ false = sym c.pure_fits.ensures ∙ c.if-not-pure_fits.true in
    let none : list_all (λ f. f (in_scope c.args.scope.now)) (map q c.args.ps.now) ≡ false =
    list_all-map_at (λ f. f (in_scope c.args.scope.now)) q c.args.ps.now c.loop-p.p-index c.p-item.result c.loop-p-test.true
    (ap (λ p. q p (in_scope c.args.scope.now)) (sym c.p-item.is) ∙ fails) in
    sym (ap (λ b. not (length (map q c.args.ps.now) == 1) && b) none ∙ and-false _)
