-- What a source and its program claim, in order.
use Rattle.std.specs.Prelude.{ℕ, zero, suc, List, [], ◌∷◌, ◌++◌, length, map}
use Rattle.hs_goal.specs.declared.goal.Goal.{Goal}
use Rattle.hs_goal.specs.Goal.{start}
use Rattle.hs_core.specs.declared.program.Program.{Program}
use Rattle.hs_core.specs.Machine.{method_of}
use Rattle.hs_node.specs.declared.claim.Claim.{Claim}
use Rattle.hs_node.specs.declared.claim.Claim.TheVariants.{Invariant, Entails, Pair}
use Rattle.hs_norm.specs.declared.resolved.Resolved.{Resolved}
use Rattle.hs_norm_item.specs.declared.forms.Entailment.{Entailment}
use Rattle.hs_program_rules.specs.States.{entry}

-- the invariants of the first so many predicates
abbrev pub invariants_to : ℕ → List Claim
invariants_to zero = []
invariants_to (suc n) = invariants_to n ++ Invariant (suc n) ∷ []

-- the goal that an entailment asks
abbrev pub goal_of : Entailment → Goal
goal_of e = start e.left e.opens e.right e.next

abbrev pub entailment_claim : Entailment → Claim
entailment_claim e = Entails (goal_of e)

-- the invariants by predicate, then the entailments
abbrev pub sleek_claims : Resolved → List Claim
sleek_claims r = invariants_to (length r.defs.preds) ++ map entailment_claim r.entailments

module _ (program : Program) where
  -- the starts of the first so many pairs of a method
  abbrev pub entries_to : ℕ → ℕ → List Claim
  entries_to m zero = []
  entries_to m (suc i) = entries_to m i ++ Pair (entry program m (suc i)) ∷ []

  -- the starts of all pairs of a method
  abbrev pub entries_of : ℕ → List Claim
  entries_of m = entries_to m (length (method_of program m).pairs)

  -- those of the first so many methods
  abbrev pub pairs_to : ℕ → List Claim
  pairs_to zero = []
  pairs_to (suc m) = pairs_to m ++ entries_of (suc m)

-- the invariants, the entailments, then the pairs by method
abbrev pub claims_of : Resolved → Program → List Claim
claims_of r program = sleek_claims r ++ pairs_to program (length program.methods)
