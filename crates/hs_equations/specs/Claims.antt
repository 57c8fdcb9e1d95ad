-- Claims on formulas, and the stacks at which a state of rows and cases is true.
use Rattle.std.specs.Prelude.{◌≡◌, Bool, true, false, List, Option, None, Some}
use Rattle.std.specs.List.{All, Any}
use Rattle.hs_pure.specs.declared.pure.Pure.{Pure}
use Rattle.hs_pure.specs.Assertion.{assertion_of}
use Rattle.hs_pure.specs.Stack.{Stack}
use Rattle.hs_elimination.specs.Decided.{is_true_at}
use Rattle.hs_equations.specs.declared.claim.Claim.{Claim}
use Rattle.hs_equations.specs.declared.claim.Case.{Case}
use Rattle.hs_equations.specs.declared.claim.State.{State}
use Rattle.hs_equations.specs.Rows.{Holds}

-- whether a formula without bag literals is true
abbrev pub truth_at : Stack → Pure → Bool
truth_at s p = is_true_at s (assertion_of p)

-- the claim is true at the stack
abbrev pub IsClaimed : Stack → Claim → Type 0
IsClaimed s c = truth_at s c.formula.now ≡ c.expected

-- one of the claims of a case is true at the stack
abbrev pub IsCase : Stack → Case → Type 0
IsCase s k = Any (IsClaimed s) k.claims

-- the rows are true at the stack, and each case is
abbrev pub HoldsAll : Stack → State → Type 0
HoldsAll s t = Holds s t.rows × All (IsCase s) t.cases

-- what it says of its members that a conjunction is true or false
abbrev pub IsAnd : Stack → Bool → List Pure → Type 0
IsAnd s true ps = All (λ p. truth_at s p ≡ true) ps
IsAnd s false ps = Any (λ p. truth_at s p ≡ false) ps

-- the same of a disjunction
abbrev pub IsOr : Stack → Bool → List Pure → Type 0
IsOr s true ps = Any (λ p. truth_at s p ≡ true) ps
IsOr s false ps = All (λ p. truth_at s p ≡ false) ps

-- the same of a state that may have met a contradiction
abbrev pub HoldsAllStill : Stack → Option State → Type 0
HoldsAllStill s None = ⊥
HoldsAllStill s (Some t) = HoldsAll s t
