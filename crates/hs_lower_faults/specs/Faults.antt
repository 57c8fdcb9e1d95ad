-- The first fault of a method, apart from its length.
use Rattle.std.specs.Prelude.{ℕ, Bool, true, false, not, ◌&&◌, Option, None, is_some}
use Rattle.hs_tree.specs.declared.method.BlockTree.{out-BlockTree}
use Rattle.hs_norm.specs.declared.resolved.MethodTree.{MethodTree}
use Rattle.hs_lower_scope.specs.Scope.{Scope}
use Rattle.hs_lower_faults.specs.declared.error.LowerError.{LowerError}
use Rattle.hs_lower_faults.specs.declared.error.LowerError.TheVariants.{NoReturn}
use Rattle.hs_lower_faults.specs.First.{Check, both, earlier}
use Rattle.hs_lower_faults.specs.Types as types
use Rattle.hs_lower_faults.specs.Setting as setting
use Rattle.hs_lower_faults.specs.Ends.{block_ends}

-- the end of a method with result, at its closing brace, cannot be reached
abbrev pub returns : Bool → ℕ → Check
returns true at found = found
returns false at found = earlier found (NoReturn at)

abbrev pub has_end : MethodTree → Bool
has_end m = is_some m.result && block_ends m.block

-- types, what is set, and the end
abbrev pub method : Scope → MethodTree → Check
method scope m = both (types.block scope m.block) (both (setting.method_block scope m) (returns (not (has_end m)) (out-BlockTree m.block).end))

-- the first fault of a method
abbrev pub method_fault : Scope → MethodTree → Option LowerError
method_fault scope m = method scope m None
