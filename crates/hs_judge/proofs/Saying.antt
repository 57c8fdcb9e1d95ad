-- What listed claims say.
use Rattle.std.proofs.Common.{◌≡◌, ℕ, zero, suc, ◌+◌, ◌<◌, ◌≤◌, List, [], ◌∷◌, length, take, get_or, slice_get, Option, Some, None, IsSomeAnd, refl, sym, ap, ◌∙◌, subst, arith}
use Rattle.std.specs.List.{All, Contains}
use Rattle.std.proofs.lemmas.Option.{slice_get_within, slice_get-get_or}
use Rattle.hs_heap.specs.declared.formula.Formula.{Formula}
use Rattle.hs_heap.specs.declared.definitions.PredDef.{PredDef}
use Rattle.hs_heap.specs.Meaning.{pred_at}
use Rattle.hs_xpure.specs.Invariants.{InvariantFollows, InvariantsHold}
use Rattle.hs_xpure.specs.Laws.{InvariantsAreShown}
use Rattle.hs_goal.specs.declared.goal.Goal.{Goal}
use Rattle.hs_goal.specs.Goal.{Holds}
use Rattle.hs_rules.specs.Laws.{RightStepsKeepMeaning, RightStepsStayFresh}
use Rattle.hs_core.specs.declared.program.Program.{Program}
use Rattle.hs_core.specs.declared.state.At.{At}
use Rattle.hs_core.specs.Sound.{IsSoundProgram}
use Rattle.hs_program_rules.specs.States.{entry}
use Rattle.hs_program_rules.specs.Safe.{IsSafe}
use Rattle.hs_program_rules.specs.Laws.{PairExists, Concluded, ConcludedStatesAreSafe}
use Rattle.hs_node.specs.declared.judgement.Judgement.{Judgement}
use Rattle.hs_node.specs.declared.judgement.Judgement.TheVariants.{Shown, Entails, Runs}
use Rattle.hs_node.specs.declared.judgement.Rule.{Rule}
use Rattle.hs_node.specs.declared.judgement.Rule.TheVariants.{Inv, E, P}
use Rattle.hs_node.specs.declared.derivation.Node.{Node}
use Rattle.hs_node.specs.declared.claim.Claim.{Claim}
use Rattle.hs_node.specs.declared.claim.Claim.TheVariants as claim
use Rattle.hs_norm.specs.declared.resolved.Resolved.{Resolved}
use Rattle.hs_norm_item.specs.declared.forms.Entailment.{Entailment}
use Rattle.hs_claims.specs.Claims.{goal_of, entailment_claim, claims_of}
use Rattle.hs_judge.specs.Right.{IsRight}
use Rattle.hs_judge.specs.Listed.{Concludes}
use Rattle.hs_judge.specs.Laws.{IsShown, Names, entailment_number, ListedEntailmentsHold, ListedPairsAreSafe}
use Rattle.hs_judge.proofs.Placing.{of_place}
use Rattle.hs_judge.proofs.Found.{invariant_claim, entailment_there, pair_there}
use Rattle.hs_judge.proofs.Held.{IsTold, node_is}

-- ---- conclusions

residue_of_claim : (goal : Goal) (j : Judgement) → Concludes (claim.Entails goal) j → (residue : Formula) × (j ≡ Entails goal residue)
residue_of_claim goal (Shown pred) c = absurd c
residue_of_claim goal (Entails g residue) c = (residue, ap (λ (h : Goal). Entails h residue) (sym c))
residue_of_claim goal (Runs at) c = absurd c

state_of_claim : (at : At) (j : Judgement) → Concludes (claim.Pair at) j → j ≡ Runs at
state_of_claim at (Shown pred) c = absurd c
state_of_claim at (Entails g residue) c = absurd c
state_of_claim at (Runs other) c = ap (λ (a : At). Runs a) (sym c)

-- a node that concludes a claim
record Concluding (nodes : List Node) (lines : List (ℕ × ℕ)) (k : ℕ) (c : Claim) : Type 0 where
  place : ℕ
  line : Contains lines (k, suc place)
  node : Node
  there : slice_get nodes place ≡ Some node
  concludes : Concludes c node.judgement

module _ (r : Resolved) (program : Program) (atoms : ℕ) (nodes : List Node) (lines : List (ℕ × ℕ)) (shown : IsShown r program atoms nodes lines) where
  -- each claim has a line with a node that concludes it
  concluding : (i : ℕ) (c : Claim) → slice_get (claims_of r program) i ≡ Some c → Concluding nodes lines (suc i) c
  concluding i c e =
      let less = slice_get_within (claims_of r program) i c e in
      let h = shown.listed.claimed (suc i) (omega arith) (omega (arith, less)) in
      let is = h.4 in
      record {
        place = is.1.0;
        line = subst (Contains lines) (λ j. (is.0 j, sym is.1.1.0 j)) (h.0, h.2, h.3);
        node = is.1.1.1.0;
        there = is.1.1.1.1.0;
        concludes = subst (λ (o : Option Claim). IsSomeAnd o (λ d. Concludes d is.1.1.1.0.judgement)) e is.1.1.1.1.1;
      }

  -- ---- invariants

  follows : (p : ℕ) → p < length r.defs.preds → IsSomeAnd (slice_get r.defs.preds p) (InvariantFollows r.defs)
  follows p less = by h.node.judgement h.node.rule h.concludes
      (of_place (λ before n. IsRight r.defs program before n.judgement n.rule n.premises) nodes h.place h.node h.there
      (shown.listed.right h.place (slice_get_within nodes h.place h.node h.there)))
    where
      h : Concluding nodes lines (suc p) (claim.Invariant (suc p))
      h = concluding p (claim.Invariant (suc p)) (invariant_claim r program p less)

      by : (j : Judgement) (rule : Rule) → Concludes (claim.Invariant (suc p)) j → IsRight r.defs program (take h.place nodes) j rule h.node.premises →
          IsSomeAnd (slice_get r.defs.preds p) (InvariantFollows r.defs)
      by (Shown other) Inv c right = subst (λ (q : ℕ). IsSomeAnd (pred_at r.defs q) (InvariantFollows r.defs)) (sym c) right.answered
      by (Shown other) (E rule) c right = absurd right.passes.applies
      by (Shown other) (P rule) c right = absurd right.passes.applies
      by (Entails g residue) rule c right = absurd c
      by (Runs at) rule c right = absurd c

  module _ (are_shown : InvariantsAreShown) (keep : RightStepsKeepMeaning) (fresh : RightStepsStayFresh) where
    known : InvariantsHold r.defs
    known = are_shown r.defs shown.sound (λ p d less. subst (λ (o : Option PredDef). IsSomeAnd o (InvariantFollows r.defs)) (slice_get-get_or r.defs.preds p d less) (follows p less))

    told : (i : ℕ) (n : Node) → slice_get nodes i ≡ Some n → IsTold r.defs program n.judgement
    told = node_is r.defs program shown.sound shown.no_lemmas known keep fresh nodes shown.listed.right

    -- ---- entailments

    named_by : (e : ℕ) (entailment : Entailment) → slice_get r.entailments e ≡ Some entailment →
        (residue : Formula) × Names nodes lines (entailment_number r e) (goal_of entailment) residue
    named_by e entailment is =
        let h = concluding (length r.defs.preds + e) (entailment_claim entailment) (entailment_there r program e entailment is) in
        let found = residue_of_claim (goal_of entailment) h.node.judgement h.concludes in (
          found.0,
          record {
            place = h.place;
            line = subst (λ (k : ℕ). Contains lines (k, suc h.place)) (behind (length r.defs.preds) e) h.line;
            node = h.node;
            there = h.there;
            concludes = found.1;
          },
        )
      where
        behind : (n e : ℕ) → suc (n + e) ≡ n + suc e
        behind n e = omega arith

    holds_by : (entailment : Entailment) (k : ℕ) (residue : Formula) → Names nodes lines k (goal_of entailment) residue → Holds r.defs (goal_of entailment) residue
    holds_by entailment k residue n = (subst (IsTold r.defs program) n.concludes (told n.place n.node n.there)).holds

    -- ---- pairs

    concluded_by : (m i : ℕ) → PairExists program m i → Concluded r.defs program (entry program m i)
    concluded_by m i exists =
        let at = pair_there r program m i exists in
        let h = concluding at.0 (claim.Pair (entry program m i)) at.1 in
        subst (IsTold r.defs program) (state_of_claim (entry program m i) h.node.judgement h.concludes) (told h.place h.node h.there)

pub listed_entailments_hold : InvariantsAreShown → RightStepsKeepMeaning → RightStepsStayFresh → ListedEntailmentsHold
listed_entailments_hold are_shown keep fresh r program atoms nodes lines shown e entailment is = (
  named_by r program atoms nodes lines shown are_shown keep fresh e entailment is,
  holds_by r program atoms nodes lines shown are_shown keep fresh entailment (entailment_number r e),
)

pub listed_pairs_are_safe : InvariantsAreShown → RightStepsKeepMeaning → RightStepsStayFresh → ConcludedStatesAreSafe → ListedPairsAreSafe
listed_pairs_are_safe are_shown keep fresh safe r program atoms nodes lines shown sound m i exists n =
    let all = concluded_by r program atoms nodes lines shown are_shown keep fresh in
    safe r.defs program sound all (entry program m i) (all m i exists) n
