-- An entailment holds with the residue of each proof of its goal.
use Rattle.std.proofs.Common.{◌≡◌, ℕ, zero, suc, List, [], Some, None, slice_get, refl, sym, ap, ◌∙◌}
use Rattle.std.specs.List.{All}
use Rattle.std.proofs.lemmas.List.Elements.{All-weaker}
use Rattle.hs_heap.specs.declared.definitions.Lemma.{Lemma}
use Rattle.hs_heap.specs.declared.definitions.Defs.{Defs}
use Rattle.hs_heap.specs.Entailment.{Entails}
use Rattle.hs_heap.specs.Instance.{lemma_at}
use Rattle.hs_heap.specs.Sound.{IsSound}
use Rattle.hs_xpure.specs.Invariants.{InvariantsHold}
use Rattle.hs_rules.specs.Laws.{LemmasHold}
use Rattle.hs_erule.specs.declared.step.Proof.{Proof}
use Rattle.hs_steps.specs.Steps.{IsProofOf}
use Rattle.hs_steps.specs.Joined.{residue_shown}
use Rattle.hs_steps.specs.Laws.{ProofsHold}
use Rattle.hs_norm_item.specs.declared.forms.Entailment.{Entailment}
use Rattle.hs_claims.specs.Claims.{goal_of}

none_there : (defs : Defs) → defs.lemmas ≡ [] → (j : ℕ) → lemma_at defs j ≡ None
none_there defs e zero = refl
none_there defs e (suc n) = ap (λ (ls : List Lemma). slice_get ls n) e

-- without lemmas all lemmas hold
no_lemmas : (defs : Defs) → defs.lemmas ≡ [] → LemmasHold defs
no_lemmas defs e size j l at = let never : None ≡ Some l = sym (none_there defs e j) ∙ at in absurd cc

pub held : ProofsHold → (defs : Defs) → IsSound defs → InvariantsHold defs → defs.lemmas ≡ [] → (e : Entailment) (proofs : List Proof)
    → All (λ (p : Proof). IsProofOf defs (goal_of e) (residue_shown p) p) proofs
    → All (λ (p : Proof). Entails defs e.left e.opens e.right (residue_shown p)) proofs
held law defs sound invariants none e proofs right =
    All-weaker (λ (p : Proof). IsProofOf defs (goal_of e) (residue_shown p) p) (λ (p : Proof). Entails defs e.left e.opens e.right (residue_shown p))
    (λ p proof. law defs sound invariants (no_lemmas defs none) (goal_of e) (residue_shown p) p proof) proofs right
