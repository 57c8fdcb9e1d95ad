-- Nodes at the places of a list, and the claims that they conclude.
use Rattle.std.specs.Prelude.{◌≡◌, ℕ, List, length, take, IsSomeAnd, slice_get}
use Rattle.hs_heap.specs.declared.definitions.Defs.{Defs}
use Rattle.hs_core.specs.declared.program.Program.{Program}
use Rattle.hs_node.specs.declared.judgement.Judgement.{Judgement}
use Rattle.hs_node.specs.declared.judgement.Judgement.TheVariants.{Shown, Entails, Runs}
use Rattle.hs_node.specs.declared.derivation.Node.{Node}
use Rattle.hs_node.specs.declared.claim.Claim.{Claim}
use Rattle.hs_node.specs.declared.claim.Claim.TheVariants as claim
use Rattle.hs_norm.specs.declared.resolved.Resolved.{Resolved}
use Rattle.hs_claims.specs.Claims.{claims_of}
use Rattle.hs_check.specs.Listed.{Calculus}
use Rattle.hs_judge.specs.Named.{item_at}
use Rattle.hs_judge.specs.Right.{IsRight, Fails, Stops}

-- the judgement is what is claimed; an entailment may have any residue
abbrev pub Concludes : Claim → Judgement → Type 0
Concludes (claim.Invariant pred) (Shown other) = pred ≡ other
Concludes (claim.Entails goal) (Entails g residue) = goal ≡ g
Concludes (claim.Pair at) (Runs other) = at ≡ other
Concludes c j = ⊥

-- the node at a place from 0 has this, beside those before it
abbrev pub IsAt : (List Node → Node → Type 0) → List Node → ℕ → Type 0
IsAt P nodes i = IsSomeAnd (slice_get nodes i) (P (take i nodes))

-- right nodes over definitions and a program, and the numbers, from 1, of the claims that they conclude
abbrev pub calculus : Defs → Program → List Claim → ℕ → Calculus Node
calculus defs program claims atoms = record {
  is_right = λ nodes i. IsAt (λ before n. IsRight defs program before n.judgement n.rule n.premises) nodes i;
  fails = λ nodes i reason. IsAt (λ before n. Fails defs program before n.judgement n.rule n.premises reason) nodes i;
  is_spent = λ nodes i spent. IsAt (λ before n. Stops defs program before n.judgement n.rule n.premises atoms spent) nodes i;
  concludes = λ k n. IsSomeAnd (item_at claims k) (λ c. Concludes c n.judgement);
}

-- over the definitions and the claims of a source
abbrev pub calculus_of : Resolved → Program → ℕ → Calculus Node
calculus_of r program atoms = calculus r.defs program (claims_of r program) atoms

-- how many claims there are
abbrev pub claim_count : Resolved → Program → ℕ
claim_count r program = length (claims_of r program)
