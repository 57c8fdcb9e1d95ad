use Rattle.std.proofs.Common.{◌≡◌, IfOk, sym, subst}
use Rattle.hs_lower_scope.specs.View.{shown}
use Rattle.hs_lower_faults.specs.Setting.{value}
use Rattle.hs_lower_faults.specs.View.{set_of}
use Rattle.hs_lower_faults.proofs.reads.value.Goals as goal

pub returns-in-Load : goal.returns-in-Load
returns-in-Load c = subst (λ v. IfOk c.variable.result (λ f. f ≡ value (shown c.args.scope.now) (set_of c.args.set.now) v c.args.found)) (sym c.in-Load.is) c.variable.ensures
