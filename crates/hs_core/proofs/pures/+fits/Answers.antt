use Rattle.std.proofs.Common.{◌≡◌, Bool, true, false, not, ◌&&◌, ◌||◌, ◌==◌, map, length, sym, ap, ◌∙◌}
use Rattle.std.proofs.Math.Bool.{and-false}
use Rattle.std.specs.List.{list_all}
use Rattle.hs_pure.specs.declared.var.Var.{Var}
use Rattle.hs_pure.specs.declared.pure.Pure.{Pure}
use Rattle.hs_heap.specs.Tests.{binder_fits, pure_fits}
use Rattle.hs_core.specs.Tests.{in_scope}
use Rattle.hs_heap.proofs.Tells.{list_all-map_at}
use Rattle.hs_pure.specs.Stack.{same}
use Rattle.hs_core.proofs.InScope.{in_scope-With}
use Rattle.hs_core.proofs.pures.+fits.Goals as goal

pub both_fit-returns-then-not-pure_fits : goal.both_fit-returns-then-not-pure_fits
both_fit-returns-then-not-pure_fits t c =
    let q : Pure → (Var → Bool) → Bool = pure_fits (in_scope c.args.free.now) c.args.next in
    let fails : q c.p-item.result (in_scope c.args.scope.now) ≡ false = sym c.pure_fits.ensures ∙ c.if-not-pure_fits.true in
    let none : list_all (λ f. f (in_scope c.args.scope.now)) (map q c.args.ps.now) ≡ false =
    list_all-map_at (λ f. f (in_scope c.args.scope.now)) q c.args.ps.now c.loop-p.p-index c.p-item.result c.loop-p-test.true
    (ap (λ p. q p (in_scope c.args.scope.now)) (sym c.p-item.is) ∙ fails) in
    sym (ap (λ b. not (length (map q c.args.ps.now) == 1) && b) none ∙ and-false _)

pub under_fits-returns-then-binder_fits : goal.under_fits-returns-then-binder_fits
under_fits-returns-then-binder_fits t c =
    let free = in_scope c.args.free.now in
    let there : binder_fits (in_scope c.args.free.now) c.args.next c.args.u ≡ true = sym c.binder_fits.ensures ∙ c.if-binder_fits.true in
    let inner : Var → Bool = λ v. same v c.args.u || in_scope c.args.scope.now v in
    c.pure_fits.ensures
    ∙ ap (λ scope. pure_fits free c.args.next c.args.p.now scope) (in_scope-With c.args.u _)
    ∙ sym (ap (λ b. b && pure_fits free c.args.next c.args.p.now inner) there)
