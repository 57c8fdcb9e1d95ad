-- Right steps of a proof are right nodes behind others.
use Rattle.std.proofs.Common.{◌≡◌, ℕ, zero, suc, ◌+◌, ◌-◌, ◌<◌, ◌≤◌, List, [], ◌∷◌, ◌++◌, map, length, Some, slice_get, refl, sym, ap, ◌∙◌, subst, append_assoc, append-nil, arith}
use Rattle.std.specs.List.{All, AllZip}
use Rattle.std.proofs.lemmas.List.{length-append, length-map, map-append}
use Rattle.std.proofs.lemmas.List.Elements.{All-nil, All-cons}
use Rattle.hs_heap.specs.declared.formula.Formula.{Formula}
use Rattle.hs_heap.specs.declared.definitions.Defs.{Defs}
use Rattle.hs_goal.specs.declared.goal.Goal.{Goal}
use Rattle.hs_core.specs.Sound.{IsUpTo}
use Rattle.hs_core.specs.declared.program.Program.{Program}
use Rattle.hs_rules.specs.Residues.{residue_of}
use Rattle.hs_rules.specs.Rules.{Judgement as Conclusion, IsRightStep}
use Rattle.hs_erule.specs.declared.step.Step.{Step}
use Rattle.hs_erule.specs.declared.step.Proof.{Proof}
use Rattle.hs_erule.specs.Judged.{GoalsAre, ResidueIs, goals_of, residues_of}
use Rattle.hs_steps.specs.Steps.{judgement_of, IsStepOf, IsRightAfter, AreRightAfter, IsProofOf}
use Rattle.hs_node.specs.declared.derivation.Node.{Node}
use Rattle.hs_node.specs.declared.judgement.Judgement.{Judgement}
use Rattle.hs_node.specs.declared.judgement.Judgement.TheVariants.{Entails}
use Rattle.hs_node.specs.declared.judgement.Rule.TheVariants.{E}
use Rattle.hs_judge.specs.Named.{named, item_at, in_front, AreEarlier, IsEntailment, entailments}
use Rattle.hs_judge.specs.Right.{AreStated, HasResidue}
use Rattle.hs_proof_nodes.specs.Placed.{node_behind, placed, Says}
use Rattle.hs_proof_nodes.specs.Right.{IsRightNode, AreRightNodes}
use Rattle.hs_proof_nodes.specs.Laws.{ProofsAreRightNodes}
use Rattle.hs_proof_nodes.proofs.Places.{get_behind, get_map, get_at, got_within, item_there, AreEach, right_more}

-- what a step says
abbrev entails : Step → Judgement
entails s = Entails s.goal s.residue

-- ---- the premises of a step

module _ (front : List Node) (before : List Step) where
  abbrev behind : List Node
  behind = front ++ map (node_behind (length front)) before

  step_there : (k : ℕ) (s : Step) → IsStepOf before k s → slice_get behind (length front + k - 1) ≡ Some (node_behind (length front) s)
  step_there k s h =
      let first : 1 ≤ k = h.0 in
      let f : Step → Node = node_behind (length front) in
      let place : length front + (k - 1) ≡ length front + k - 1 = omega arith in
      subst (λ i. slice_get behind i ≡ Some (f s)) place (get_behind front (map f before) (k - 1) (f s) (get_map f before (k - 1) s h.1))

  steps_named : (ks : List ℕ) (ps : List Step) → AllZip (IsStepOf before) ks ps → named behind (map (λ k. length front + k) ks) ≡ map entails ps
  steps_named [] [] z = refl
  steps_named [] (p ∷ ps) z = absurd z
  steps_named (k ∷ ks) [] z = absurd z
  steps_named (k ∷ ks) (p ∷ ps) z =
      let first : 1 ≤ k = z.0.0 in
      let there : item_at behind (length front + k) ≡ Some (node_behind (length front) p) = item_there behind (length front + k) (node_behind (length front) p) (omega arith) (step_there k p z.0) in
      ap (λ n. in_front n (named behind (map (λ k. length front + k) ks))) there ∙ ap (λ (js : List Judgement). entails p ∷ js) (steps_named ks ps z.1)

  steps_earlier : (ks : List ℕ) (ps : List Step) → AllZip (IsStepOf before) ks ps → AreEarlier behind (map (λ k. length front + k) ks)
  steps_earlier [] [] z = All-nil (IsUpTo (length behind))
  steps_earlier [] (p ∷ ps) z = absurd z
  steps_earlier (k ∷ ks) [] z = absurd z
  steps_earlier (k ∷ ks) (p ∷ ps) z =
      let first : 1 ≤ k = z.0.0 in
      let within : length front + k - 1 < length behind = got_within behind (length front + k - 1) (node_behind (length front) p) (step_there k p z.0) in
      All-cons (IsUpTo (length behind)) (length front + k) (map (λ k. length front + k) ks) (omega arith, omega arith) (steps_earlier ks ps z.1)

-- ---- what they state

all_entailments : (ps : List Step) → All IsEntailment (map entails ps)
all_entailments [] = All-nil IsEntailment
all_entailments (p ∷ ps) = All-cons IsEntailment (entails p) (map entails ps) tt (all_entailments ps)

goals_entailed : (ps : List Step) → goals_of (entailments (map entails ps)) ≡ map (λ (j : Conclusion). j.goal) (map judgement_of ps)
goals_entailed [] = refl
goals_entailed (p ∷ ps) = ap (λ (gs : List Goal). p.goal ∷ gs) (goals_entailed ps)

residues_entailed : (ps : List Step) → residues_of (entailments (map entails ps)) ≡ map (λ (j : Conclusion). j.residue) (map judgement_of ps)
residues_entailed [] = refl
residues_entailed (p ∷ ps) = ap (λ (rs : List Formula). p.residue ∷ rs) (residues_entailed ps)

-- ---- nodes

module _ (defs : Defs) (program : Program) where
  right_step : (front : List Node) (before : List Step) (s : Step) → IsRightAfter defs before s →
      IsRightNode defs program (front ++ map (node_behind (length front)) before) (node_behind (length front) s)
  right_step front before s h =
      let is : named (behind front before) (map (λ k. length front + k) s.premises) ≡ map entails h.premises = steps_named front before s.premises h.premises h.earlier in
      let r = h.right in
      record {
        passes = record {
          shape = r.shape;
          applies = r.applies;
          premises = record {
            earlier = steps_earlier front before s.premises h.premises h.earlier;
            stated = subst (AreStated defs program (entails s) (E s.rule)) (sym is) (all_entailments h.premises, goals_entailed h.premises ∙ r.goals_are);
          };
          residue = subst (HasResidue defs program (entails s) (E s.rule)) (sym is) (r.residue_is ∙ ap (residue_of s.goal s.rule) (sym (residues_entailed h.premises)));
        };
        answered = r.answered;
      }

  right_steps : (front : List Node) (before steps : List Step) → AreRightAfter defs before steps →
      AreEach (IsRightNode defs program) (front ++ map (node_behind (length front)) before) (map (node_behind (length front)) steps)
  right_steps front before [] h = tt
  right_steps front before (s ∷ steps) h =
      (right_step front before s h.0, subst (λ (b : List Node). AreEach (IsRightNode defs program) b (map (node_behind (length front)) steps)) one_more (right_steps front (before ++ s ∷ []) steps h.1))
    where
      one_more : front ++ map (node_behind (length front)) (before ++ s ∷ []) ≡ front ++ map (node_behind (length front)) before ++ node_behind (length front) s ∷ []
      one_more =
          ap (λ (ns : List Node). front ++ ns) (map-append (node_behind (length front)) before (s ∷ []))
          ∙ sym (append_assoc front (map (node_behind (length front)) before) (node_behind (length front) s ∷ []))

-- the last node is that of the last step
last_says : (nodes : List Node) (defs : Defs) (g : Goal) (residue : Formula) (p : Proof) → IsProofOf defs g residue p →
    let all = nodes ++ placed (length nodes) p in Says all (length all) (Entails g residue)
last_says nodes defs g residue p h =
    let f : Step → Node = node_behind (length nodes) in
    let front : List Node = nodes ++ map f h.front in
    let is : nodes ++ placed (length nodes) p ≡ front ++ f h.last ∷ [] =
    ap (λ (ss : List Step). nodes ++ map f ss) h.ends ∙ ap (λ (ns : List Node). nodes ++ ns) (map-append f h.front (h.last ∷ [])) ∙ sym (append_assoc nodes (map f h.front) (f h.last ∷ [])) in
    let long : length (front ++ f h.last ∷ []) ≡ length front + 1 = length-append front (f h.last ∷ []) in
    let place : length front ≡ length (front ++ f h.last ∷ []) - 1 = omega arith in
    subst (λ (all : List Node). Says all (length all) (Entails g residue)) (sym is)
    (record {
      first = omega arith;
      node = f h.last;
      there = subst (λ i. slice_get (front ++ f h.last ∷ []) i ≡ Some (f h.last)) place (get_at front [] (f h.last));
      says = (λ i. Entails (h.goal_is i) (h.residue_is i));
    })

pub proofs_are_right_nodes : ProofsAreRightNodes
proofs_are_right_nodes defs program nodes g residue p h proof = (
  right_more defs program nodes (placed (length nodes) p) h
      (subst (λ (b : List Node). AreEach (IsRightNode defs program) b (placed (length nodes) p)) (append-nil nodes) (right_steps defs program nodes [] p.steps proof.right)),
  last_says nodes defs g residue p proof,
)
