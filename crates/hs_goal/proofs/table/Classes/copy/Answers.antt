use Rattle.std.proofs.Common.{nat_eq, ap}
use Rattle.std.specs.Map.{lookup}
use Rattle.std.specs.Option.{unwrap_or}
use Rattle.hs_goal.specs.Keys.{key}
use Rattle.hs_goal.proofs.Flat.{cloned}
use Rattle.hs_goal.proofs.table.Classes.copy.Goals as goal

pub returns : goal.returns
returns c = record { same = λ v. ap (λ es. unwrap_or (lookup (nat_eq (key v)) es) (key v)) (cloned c.args.self.now.table.entries c.in_ok-table.table.entries c.in_ok-table.ensures.cases) }
