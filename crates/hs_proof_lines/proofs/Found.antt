-- What a search and the verifier found.
use Rattle.std.proofs.Common.{◌≡◌, ℕ, List, [], ◌∷◌, Some, slice_get, refl, ap, subst}
use Rattle.hs_heap.specs.declared.definitions.Defs.{Defs}
use Rattle.hs_goal.specs.declared.rule.Limits.{Limits}
use Rattle.hs_core.specs.declared.program.Program.{Program}
use Rattle.hs_erule.specs.declared.step.Proof.{Proof}
use Rattle.hs_claims.specs.Claims.{goal_of}
use Rattle.hs_norm_item.specs.declared.forms.Entailment.{Entailment}
use Rattle.hs_node.specs.declared.derivation.Node.{Node}
use Rattle.hs_proof_nodes.specs.Placed.{placed}
use Rattle.hs_search.specs.Answer.{IsSearchAnswer}
use Rattle.hs_search.specs.declared.answer.SleekAnswer.TheVariants as sleek
use Rattle.hs_norm_item.specs.declared.forms.PairTree.{PairTree}
use Rattle.hs_program_rules.specs.States.{entry}
use Rattle.hs_verify.specs.declared.answer.HipAnswer.{HipAnswer}
use Rattle.hs_verify.specs.Answer.{IsAnswer}
use Rattle.hs_proof_lines.specs.declared.written.Outcome.TheVariants as outcome
use Rattle.hs_proof_lines.specs.Growing.{IsFound}
use Rattle.hs_proof_lines.specs.Proved.{Subject, IsProvedBy, IsOpenFor, moved}

pub first_found : (defs : Defs) (program : Program) (limits : Limits) (e : Entailment) (proofs : List Proof) (p : Proof) (n : ℕ)
    → IsSearchAnswer defs limits (goal_of e) (sleek.Valid proofs) → slice_get proofs 0 ≡ Some p → IsProvedBy defs program limits (Subject.entailment e) n (placed n p)
first_found defs program limits e [] p n found at = absurd cc
first_found defs program limits e (q ∷ others) p n found at =
    let same : q ≡ p = some_is at in
    (p, others, subst (λ (r : Proof). IsSearchAnswer defs limits (goal_of e) (sleek.Valid (r ∷ others))) same found, refl)
  where
    some_is : {a b : Proof} → Some a ≡ Some b → a ≡ b
    some_is e = cc

pub pair_proved : (defs : Defs) (program : Program) (limits : Limits) (m i : ℕ) (p : PairTree) (own : List Node) (n : ℕ)
    → IsFound defs program limits m i p (outcome.Proved own) → IsProvedBy defs program limits (Subject.pair m i p) n (moved n own)
pair_proved defs program limits m i p own n f =
    (f.says.0, subst (λ (a : HipAnswer). IsAnswer defs program limits (entry program m i) a) f.says.1 f.right, ap (moved n) f.says.2)

pub pair_open : (defs : Defs) (program : Program) (limits : Limits) (m i : ℕ) (p : PairTree) (cause : List ℕ)
    → IsFound defs program limits m i p (outcome.Open cause) → IsOpenFor defs program limits (Subject.pair m i p) cause
pair_open defs program limits m i p cause f = (f.answer, f.right, f.says.0, f.says.1)
