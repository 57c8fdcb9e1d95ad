-- What is found of the goal of a rule, and what taking the rule leaves.
use Rattle.std.proofs.Common.{◌≡◌, ◌↔◌, List, [], ◌∷◌, ◌++◌, length, Option, Some, None, Ok, refl, sym, ap, ◌∙◌, subst, inr, append-nil}
use Rattle.std.specs.List.{All, AllByRecursion}
use Rattle.std.proofs.lemmas.List.Elements.{All-head, All-tail}
use Rattle.hs_goal.specs.declared.goal.Goal.{Goal}
use Rattle.hs_heap.specs.declared.formula.Formula.{Formula}
use Rattle.hs_heap.specs.declared.definitions.Defs.{Defs}
use Rattle.hs_heap.specs.Sound.{IsSound}
use Rattle.hs_goal.specs.declared.rule.Limits.{Limits}
use Rattle.hs_core.specs.declared.program.Program.{Program}
use Rattle.hs_core.specs.declared.state.At.{At}
use Rattle.hs_core.specs.declared.state.PRule.{PRule}
use Rattle.hs_core.specs.Sound.{IsSoundProgram}
use Rattle.hs_erule.specs.declared.step.Proof.{Proof}
use Rattle.hs_steps.specs.Joined.{residue_shown}
use Rattle.hs_steps.specs.Laws.{ProofsAreFresh}
use Rattle.hs_node.specs.declared.derivation.Node.{Node}
use Rattle.hs_prule.specs.Judged.{formula_or_none, IsGiven, GoesOn, AreNext}
use Rattle.hs_program_rules.specs.States.{no_formula}
use Rattle.hs_program_rules.specs.States.{StateFits}
use Rattle.hs_program_rules.specs.Table.{goal_of, premises_of}
use Rattle.hs_program_fits.specs.Prepared.{IsPrepared}
use Rattle.hs_program_fits.specs.Formed.{ResidueIsFormed}
use Rattle.hs_program_fits.specs.Laws.{PremisesFit, PremisesArePrepared}
use Rattle.hs_proofs_fit.specs.Laws.{ProofsAreFormed}
use Rattle.hs_proof_nodes.specs.Right.{AreRightNodes}
use Rattle.hs_proof_nodes.specs.Laws.{ProofsAreRightNodes}
use Rattle.hs_verify.specs.declared.task.Taken.{Taken}
use Rattle.hs_verify.specs.Tree.{FindsAny, Takes, IsCrowded}
use Rattle.hs_verify.specs.Asked.{AreFirst, IsTaken, residue_by}
use Rattle.hs_verify.specs.Visited.{IsFit, GivesGoal, GoesTo, nodes_by, last_by}

-- the residue that a proof shows, and without a proof no disjunct
abbrev pub shown_by : Option Proof → Formula
shown_by None = no_formula
shown_by (Some p) = residue_shown p

-- the laws of states, proofs and nodes
pub record Laws : Type 0 where
  pub fit : PremisesFit
  pub prepared : PremisesArePrepared
  pub formed : ProofsAreFormed
  pub fresh : ProofsAreFresh
  pub nodes : ProofsAreRightNodes

all_both : (defs : Defs) (program : Program) (ps : List At) → All (StateFits defs program) ps → All (IsPrepared program) ps → AllByRecursion (IsFit defs program) ps
all_both defs program [] h k = tt
all_both defs program (p ∷ ps) h k = (
  record { fits = All-head (StateFits defs program) p ps h; prepared = All-head (IsPrepared program) p ps k },
  all_both defs program ps (All-tail (StateFits defs program) p ps h) (All-tail (IsPrepared program) p ps k),
)

module _ (defs : Defs) (limits : Limits) where
  first_finds : (g : Option Goal) (proof : Option Proof) → AreFirst defs limits g proof → FindsAny defs limits g (shown_by proof)
  first_finds None None h = refl
  first_finds None (Some p) h = absurd h
  first_finds (Some g) None h = absurd h
  first_finds (Some g) (Some p) h = record { first = p; others = h.others; derivations = h.derivations; shown = refl }

  first_given : (g : Option Goal) (proof : Option Proof) → AreFirst defs limits g proof → (g ≡ None) ↔ (residue_by proof ≡ None)
  first_given None None h = (λ e. refl, λ e. refl)
  first_given None (Some p) h = absurd h
  first_given (Some g) None h = absurd h
  first_given (Some g) (Some p) h = (λ e. absurd cc, λ e. absurd cc)

  module _ (laws : Laws) (sound : IsSound defs) where
    first_formed : (g : Option Goal) (proof : Option Proof) → AreFirst defs limits g proof → ResidueIsFormed defs g (shown_by proof)
    first_formed None None h = tt
    first_formed None (Some p) h = absurd h
    first_formed (Some g) None h = absurd h
    first_formed (Some g) (Some p) h = (laws.formed defs sound g (residue_shown p) p h.right, laws.fresh defs sound g (residue_shown p) p h.right)

    module _ (program : Program) (nodes : List Node) (right : AreRightNodes defs program nodes) where
      pushed_right : (g : Option Goal) (proof : Option Proof) → AreFirst defs limits g proof → AreRightNodes defs program (nodes ++ nodes_by (length nodes) proof)
      pushed_right None None h = subst (AreRightNodes defs program) (sym (append-nil nodes)) right
      pushed_right None (Some p) h = absurd h
      pushed_right (Some g) None h = absurd h
      pushed_right (Some g) (Some p) h = (laws.nodes defs program nodes g (residue_shown p) p right h.right).0

      pushed_gives : (g : Option Goal) (proof : Option Proof) → AreFirst defs limits g proof →
          let all = nodes ++ nodes_by (length nodes) proof in GivesGoal all g (last_by (length all) proof) (shown_by proof)
      pushed_gives None None h = tt
      pushed_gives None (Some p) h = absurd h
      pushed_gives (Some g) None h = absurd h
      pushed_gives (Some g) (Some p) h = (laws.nodes defs program nodes g (residue_shown p) p right h.right).1

-- ---- the rule is taken

shown_is : (proof : Option Proof) → formula_or_none (residue_by proof) ≡ shown_by proof
shown_is None = refl
shown_is (Some p) = refl

pub shown_from : (f : Option Formula) (proof : Option Proof) → f ≡ residue_by proof → formula_or_none f ≡ shown_by proof
shown_from f proof e = ap formula_or_none e ∙ shown_is proof

module _ (defs : Defs) (limits : Limits) (program : Program) (at : At) (r : PRule) (proof : Option Proof) (h : IsTaken defs limits program at r proof) where
  abbrev shown : Formula
  shown = shown_by proof

  pub given : IsGiven defs program at r (residue_by proof)
  given = first_given defs limits (goal_of defs program at r) proof h.proved.first

  takes : GoesOn defs program at r shown → Takes defs program limits at r shown
  takes on = record {
    form = h.form;
    passes = h.passes;
    low = h.proved.low;
    finds = first_finds defs limits (goal_of defs program at r) proof h.proved.first;
    all_low = on.low;
  }

  -- where a premise has no room the state is crowded
  pub crowded : ¬ (GoesOn defs program at r shown) → IsCrowded defs program limits at
  crowded not = record {
    taken = r;
    form = h.form;
    passes = h.passes;
    over = inr (shown, first_finds defs limits (goal_of defs program at r) proof h.proved.first, λ low. not (record { asks = record { form = h.form; low = h.proved.low }; low = low }));
  }

  -- by the residue as an option
  pub next_crowded : (f : Option Formula) → f ≡ residue_by proof → ¬ (GoesOn defs program at r (formula_or_none f)) → IsCrowded defs program limits at
  next_crowded f e not = crowded (subst (λ (x : Formula). ¬ (GoesOn defs program at r x)) (shown_from f proof e) not)

  pub next_goes : (f : Option Formula) → f ≡ residue_by proof → (premises : List At) → AreNext defs program at r (formula_or_none f) (Ok premises) →
      GoesOn defs program at r shown × (premises ≡ premises_of defs program at r shown)
  next_goes f e premises h = subst (λ (x : Formula). GoesOn defs program at r x × (premises ≡ premises_of defs program at r x)) (shown_from f proof e) h

  -- else it goes on to the premises
  pub goes : Laws → IsSound defs → IsSoundProgram defs program → IsFit defs program at → (nodes new : List Node) → AreRightNodes defs program nodes → (premises : List At) (taken : Taken) →
      GoesOn defs program at r shown → premises ≡ premises_of defs program at r shown → new ≡ nodes ++ nodes_by (length nodes) proof →
      taken.rule ≡ r → taken.goal ≡ last_by (length new) proof → taken.further ≡ length premises → GoesTo defs program limits at nodes new taken premises
  goes laws sound sound_program fit nodes new right premises taken on premises_are new_is rule_is goal_is further_is =
      let g : Option Goal = goal_of defs program at r in
      let all : List Node = nodes ++ nodes_by (length nodes) proof in
      let gives : GivesGoal new g (last_by (length new) proof) shown
      = subst (λ (ns : List Node). GivesGoal ns g (last_by (length ns) proof) shown) (sym new_is) (pushed_gives defs limits laws sound program nodes right g proof h.proved.first) in
      let fits = laws.fit defs program sound_program at r fit.fits h.form shown (first_formed defs limits laws sound g proof h.proved.first) on.low in
      let prepared = laws.prepared defs program sound_program at r fit.fits fit.prepared h.form shown in
      record {
        is_taken = record {
          residue = shown;
          takes = subst (λ q. Takes defs program limits at q shown) (sym rule_is) (takes on);
          goal = subst (λ q. GivesGoal new (goal_of defs program at q) taken.goal shown) (sym rule_is) (subst (λ k. GivesGoal new g k shown) (sym goal_is) gives);
          premises_are = premises_are ∙ ap (λ q. premises_of defs program at q shown) (sym rule_is);
        };
        further = further_is;
        fit = subst (AllByRecursion (IsFit defs program)) (sym premises_are) (all_both defs program (premises_of defs program at r shown) fits prepared);
        more = nodes_by (length nodes) proof;
        kept = new_is;
        right = subst (AreRightNodes defs program) (sym new_is) (pushed_right defs limits laws sound program nodes right g proof h.proved.first);
      }
