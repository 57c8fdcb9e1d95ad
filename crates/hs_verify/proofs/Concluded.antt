-- A state is a right node behind those that say its goal and its further premises.
use Rattle.std.proofs.Common.{◌≡◌, ℕ, ◌-◌, ◌<◌, ◌≤◌, List, [], ◌∷◌, ◌++◌, map, length, Option, Some, None, refl, sym, ap, ◌∙◌, subst, arith}
use Rattle.std.specs.List.{AllZip}
use Rattle.std.proofs.lemmas.List.Elements.{All-nil, All-cons}
use Rattle.hs_goal.specs.declared.goal.Goal.{Goal}
use Rattle.hs_heap.specs.declared.formula.Formula.{Formula}
use Rattle.hs_heap.specs.declared.definitions.Defs.{Defs}
use Rattle.hs_goal.specs.declared.rule.Limits.{Limits}
use Rattle.hs_core.specs.Sound.{IsUpTo}
use Rattle.hs_core.specs.Set.{optional}
use Rattle.hs_core.specs.declared.program.Program.{Program}
use Rattle.hs_core.specs.declared.state.At.{At}
use Rattle.hs_core.specs.declared.state.PRule.{PRule}
use Rattle.hs_node.specs.declared.derivation.Node.{Node}
use Rattle.hs_node.specs.declared.judgement.Judgement.{Judgement}
use Rattle.hs_node.specs.declared.judgement.Judgement.TheVariants.{Entails, Runs}
use Rattle.hs_node.specs.declared.judgement.Rule.TheVariants.{P}
use Rattle.hs_judge.specs.Named.{named, item_at, in_front, AreEarlier}
use Rattle.hs_judge.specs.Right.{RuleApplies, AreStated}
use Rattle.hs_prule.specs.Judged.{Gives, further}
use Rattle.hs_proof_nodes.specs.Placed.{Says}
use Rattle.hs_proof_nodes.specs.Right.{IsRightNode}
use Rattle.hs_proof_nodes.proofs.Places.{got_within, item_there}
use Rattle.hs_program_rules.specs.Table.{goal_of, premises_of, AreLow}
use Rattle.hs_verify.specs.declared.task.Taken.{Taken}
use Rattle.hs_verify.specs.Tree.{FindsAny}
use Rattle.hs_verify.specs.Visited.{GivesGoal, IsFit, IsTakenTo, node_of}
use Rattle.hs_verify.proofs.Tasks.{Ends}

abbrev runs : List At → List Judgement
runs ats = map (λ p. Runs p) ats

-- the goal with its residue in front of other judgements, where one is asked
abbrev behind_goal : Option Goal → Formula → List Judgement → List Judgement
behind_goal None residue js = js
behind_goal (Some g) residue js = Entails g residue ∷ js

-- ---- what the numbers of the premises name

module _ (nodes : List Node) where
  says_named : (k : ℕ) (j : Judgement) → Says nodes k j → (js : List Judgement) → in_front (item_at nodes k) js ≡ j ∷ js
  says_named k j h js =
      ap (λ n. in_front n js) (item_there nodes k h.node h.first h.there) ∙ ap (λ (i : Judgement). i ∷ js) h.says

  says_earlier : (k : ℕ) (j : Judgement) → Says nodes k j → IsUpTo (length nodes) k
  says_earlier k j h =
      let first : 1 ≤ k = h.first in
      let within : k - 1 < length nodes = got_within nodes (k - 1) h.node h.there in
      (first, omega arith)

  goal_named : (g : Option Goal) (k : Option ℕ) (residue : Formula) → GivesGoal nodes g k residue → (ks : List ℕ) →
      named nodes (optional k ++ ks) ≡ behind_goal g residue (named nodes ks)
  goal_named None None residue h ks = refl
  goal_named None (Some k) residue h ks = absurd h
  goal_named (Some g) None residue h ks = absurd h
  goal_named (Some g) (Some k) residue h ks = says_named k (Entails g residue) h (named nodes ks)

  goal_earlier : (g : Option Goal) (k : Option ℕ) (residue : Formula) → GivesGoal nodes g k residue → (ks : List ℕ) → AreEarlier nodes ks → AreEarlier nodes (optional k ++ ks)
  goal_earlier None None residue h ks e = e
  goal_earlier None (Some k) residue h ks e = absurd h
  goal_earlier (Some g) None residue h ks e = absurd h
  goal_earlier (Some g) (Some k) residue h ks e = All-cons (IsUpTo (length nodes)) k ks (says_earlier k (Entails g residue) h) e

  ends_named : (ks : List ℕ) (ats : List At) → AllZip (Ends nodes) ks ats → named nodes ks ≡ runs ats
  ends_named [] [] z = refl
  ends_named [] (a ∷ ats) z = absurd z
  ends_named (k ∷ ks) [] z = absurd z
  ends_named (k ∷ ks) (a ∷ ats) z = says_named k (Runs a) z.0 (named nodes ks) ∙ ap (λ (js : List Judgement). Runs a ∷ js) (ends_named ks ats z.1)

  ends_earlier : (ks : List ℕ) (ats : List At) → AllZip (Ends nodes) ks ats → AreEarlier nodes ks
  ends_earlier [] [] z = All-nil (IsUpTo (length nodes))
  ends_earlier [] (a ∷ ats) z = absurd z
  ends_earlier (k ∷ ks) [] z = absurd z
  ends_earlier (k ∷ ks) (a ∷ ats) z = All-cons (IsUpTo (length nodes)) k ks (says_earlier k (Runs a) z.0) (ends_earlier ks ats z.1)

-- ---- the residue

module _ (defs : Defs) (program : Program) (limits : Limits) (at : At) (r : PRule) where
  goal_gives : (g : Option Goal) (residue : Formula) (js : List Judgement) → FindsAny defs limits g residue → Gives defs program at r g (behind_goal g residue js) residue
  goal_gives None residue js h = h
  goal_gives (Some g) residue js h = refl

  goal_only : (g : Option Goal) (residue other : Formula) (js : List Judgement) → FindsAny defs limits g residue → Gives defs program at r g (behind_goal g residue js) other → residue ≡ other
  goal_only None residue other js h k = h ∙ sym k
  goal_only (Some g) residue other js h k = cc

  goal_further : (g : Option Goal) (residue : Formula) (js : List Judgement) → further defs program at r g (behind_goal g residue js) ≡ js
  goal_further None residue js = refl
  goal_further (Some g) residue js = refl

-- ---- the node

module _ (defs : Defs) (program : Program) (limits : Limits) where
  pub right_state : (nodes : List Node) (at : At) (taken : Taken) (ends : List ℕ) (ps : List At) → IsFit defs program at →
      IsTakenTo defs program limits at nodes taken ps → AllZip (Ends nodes) ends ps → IsRightNode defs program nodes (node_of at taken ends)
  right_state nodes at taken ends ps fit h z =
      let g : Option Goal = goal_of defs program at taken.rule in
      let js : List Judgement = behind_goal g h.residue (runs ps) in
      let is : named nodes (optional taken.goal ++ ends) ≡ js = goal_named nodes g taken.goal h.residue h.goal ends ∙ ap (behind_goal g h.residue) (ends_named nodes ends ps z) in
      record {
        passes = record {
          shape = fit.fits;
          applies = subst (RuleApplies defs program (Runs at) (P taken.rule)) (sym is)
              (record {
                asks = record { form = h.takes.form; low = h.takes.low };
                low = λ other gives. subst (λ (r : Formula). AreLow (premises_of defs program at taken.rule r)) (goal_only defs program limits at taken.rule g h.residue other (runs ps) h.takes.finds gives) h.takes.all_low;
              });
          premises = record {
            earlier = goal_earlier nodes g taken.goal h.residue h.goal ends (ends_earlier nodes ends ps z);
            stated = subst (AreStated defs program (Runs at) (P taken.rule)) (sym is)
                (record {
                  residue = h.residue;
                  gives = goal_gives defs program limits at taken.rule g h.residue (runs ps) h.takes.finds;
                  others = goal_further defs program limits at taken.rule g h.residue (runs ps) ∙ ap runs h.premises_are;
                });
          };
          residue = tt;
        };
        answered = tt;
      }
