use Rattle.std.proofs.Common.{rules}
use mir.Syntax.{w128}
use Rattle.std.proofs.lemmas.Int.{to_z-of_z}
use Rattle.hs_equations.proofs.Steps.{clash-by}
use Rattle.hs_equations.proofs.clash.clash_by.Goals as goal

pub returns-in-Some : goal.returns-in-Some
returns-in-Some c = λ t s. clash-by c.args.kind _ _ _ c.in-Some.z _ c.says.result (to_z-of_z w128 c.in-Some.z (search rules)) ((rw c.in-Some.is at c.in_ok-total.ensures) s) c.says.ensures t
