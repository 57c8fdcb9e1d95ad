use Rattle.std.proofs.Common.{refl, rules, ◌≡◌, pos}
use Rattle.hs_equations.proofs.Steps.{one-sum}
use Rattle.hs_equations.proofs.rows.are_same.Goals as goal

pub returns-in-Some : goal.returns-in-Some
returns-in-Some c = λ t s.
    let z : c.in-Some.z ≡ pos 0 = search rules in
    one-sum _ _ _ c.in-Some.z refl ((rw c.in-Some.is at c.in_ok-total.ensures) s) z
