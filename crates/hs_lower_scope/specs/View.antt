-- What a `Scope` of the code shows.
use Rattle.hs_lower_scope.specs.declared.scope.Scope.{Scope as Held}
use Rattle.hs_lower_scope.specs.Scope.{Scope}

abbrev pub shown : Held → Scope
shown s = record { defs = s.defs.now; methods = s.methods.now; variables = s.variables; result = s.result }
