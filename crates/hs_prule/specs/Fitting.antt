-- Which states are well formed, by tests.
use Rattle.std.specs.Prelude.{ℕ, ◌^◌, nat_le, nat_lt, ◌==◌, not, ◌&&◌, ◌||◌, Bool, true, length, Option, Some, None}
use Rattle.std.specs.List.{list_all}
use Rattle.hs_pure.specs.declared.var.Var.{Var}
use Rattle.hs_core.specs.declared.program.Pair.{Pair}
use Rattle.hs_core.specs.declared.program.Method.{Method}
use Rattle.hs_core.specs.declared.state.At.{At}
use Rattle.hs_core.specs.Tests.{is_slot}

module _ (m : Method) (p : Pair) where
  -- a parameter's variable, or a number variable that the pair does not have
  abbrev pub is_own : Var → Bool
  is_own v = is_slot m.params v || (not v.bag && nat_le p.next v.number)

  abbrev pub slot_fits : ℕ → Option Var → Bool
  slot_fits next None = true
  slot_fits next (Some v) = is_own v && nat_lt v.number next

  abbrev pub counts_fit : At → Bool
  counts_fit at = nat_lt at.point (length m.code) && (length at.state.slots == m.slots && (nat_le p.next at.state.next && nat_le at.state.next (2 ^ 30)))

  abbrev pub numbers_fit : At → Bool
  numbers_fit at = counts_fit at && list_all (slot_fits at.state.next) at.state.slots
