-- The starts of the pairs of one method.
use Rattle.std.specs.Prelude.{ℕ, zero, suc, List, [], ◌∷◌, ◌++◌, length}
use Rattle.hs_core.specs.declared.program.Pair.{Pair}
use Rattle.hs_core.specs.declared.program.Method.{Method}
use Rattle.hs_core.specs.declared.state.At.{At}
use Rattle.hs_node.specs.declared.claim.Claim.{Claim}
use Rattle.hs_node.specs.declared.claim.Claim.TheVariants as claim
use Rattle.hs_program_rules.specs.States.{entry_held, pair_of}

module _ (m : ℕ) (method : Method) where
  -- the precondition of a pair at the first instruction
  abbrev pub entry_by : ℕ → Pair → At
  entry_by i pair = record { method = m; pair = i; point = 0; state = record { slots = entry_held method; formula = pair.pre; next = pair.next } }

  -- those of the first so many pairs
  abbrev pub entries_by : ℕ → List Claim
  entries_by zero = []
  entries_by (suc i) = entries_by i ++ claim.Pair (entry_by (suc i) (pair_of method (suc i))) ∷ []

  abbrev pub all_entries : List Claim
  all_entries = entries_by (length method.pairs)
