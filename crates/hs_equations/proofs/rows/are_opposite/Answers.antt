use Rattle.std.proofs.Common.{refl, rules, ◌≡◌, pos}
use Rattle.hs_pure.specs.Truth.{value}
use Rattle.hs_equations.proofs.Steps.{opposite}
use Rattle.hs_equations.proofs.rows.are_opposite.Goals as goal

pub returns-in-Some : goal.returns-in-Some
returns-in-Some c = λ t s.
    let z : c.in-Some.z ≡ pos 0 = search rules in
    opposite (pos 1) (value s c.args.a.now) (value s c.args.b.now) c.in-Some.z refl ((rw c.in-Some.is at c.in_ok-total.ensures) s) z
