use Rattle.std.proofs.Common.{rules, tests, refl, pos, ◌<ℤ◌}
use Rattle.hs_equations.proofs.Steps.{below-zero}
use Rattle.hs_equations.proofs.clash.clash_least.Goals as goal

pub returns-in-Some : goal.returns-in-Some
returns-in-Some c = λ t s h k.
    let n : c.in-Some.z <ℤ pos 0 = search (rules, tests) in
    below-zero _ _ _ c.in-Some.z refl ((rw c.in-Some.is at c.in_ok-total.ensures) s) n h k
