-- What the search for the goal of a rule says.
use Rattle.std.proofs.Common.{◌≡◌, ℕ, suc, ◌<◌, List, [], ◌∷◌, length, take, Option, Some, None, Ok, slice_get, refl, sym, ap, ◌∙◌, subst, arith}
use Rattle.std.specs.List.{All}
use Rattle.std.proofs.lemmas.List.Elements.{All-head}
use Rattle.hs_goal.specs.declared.goal.Goal.{Goal}
use Rattle.hs_heap.specs.declared.definitions.Defs.{Defs}
use Rattle.hs_goal.specs.declared.rule.Limits.{Limits}
use Rattle.hs_core.specs.declared.program.Program.{Program}
use Rattle.hs_core.specs.declared.state.At.{At}
use Rattle.hs_core.specs.declared.state.PRule.{PRule}
use Rattle.hs_erule.specs.declared.step.Proof.{Proof}
use Rattle.hs_steps.specs.Steps.{IsProofOf}
use Rattle.hs_steps.specs.Joined.{residue_shown}
use Rattle.hs_search.specs.Answer.{derivations_of, AreProofs}
use Rattle.hs_prule.specs.Judged.{Asks, IsObligation}
use Rattle.hs_program_fits.specs.Laws.{AskedGoalsFit}
use Rattle.hs_core.specs.Sound.{IsSoundProgram}
use Rattle.hs_goal.specs.Shape.{GoalFits}
use Rattle.hs_program_rules.specs.States.{StateFits}
use Rattle.hs_program_rules.specs.Table.{HasForm, goal_of, GoalIsLow}
use Rattle.hs_verify.specs.declared.asking.Asked.{Asked}
use Rattle.hs_verify.specs.declared.asking.Asked.TheVariants as asked
use Rattle.hs_verify.specs.Asked.{IsFirst, AreFirst, IsProved, IsSearched, IsAsked}

-- ---- the search

first_of : {X : Type 0} (n : ℕ) (xs all : List X) (x : X) → xs ≡ take (suc n) all → slice_get xs 0 ≡ Some x → (others : List X) × (all ≡ x ∷ others)
first_of n [] all x e h = absurd cc
first_of n (y ∷ xs) [] x e h = absurd cc
first_of n (y ∷ xs) (z ∷ all) x e h = let same : z ≡ x = cc in (all, ap (λ w. w ∷ all) same)

right_first : (P : Proof → Type 0) (ps : List Proof) (p : Proof) → All P ps → slice_get ps 0 ≡ Some p → P p
right_first P [] p h e = absurd cc
right_first P (q ∷ ps) p h e = let same : q ≡ p = cc in subst P same (All-head P q ps h)

-- there is a first
pub some_first : (ps : List Proof) → ¬ (ps ≡ []) → 0 < length ps
some_first [] h = absurd (h refl)
some_first (p ∷ ps) h = omega arith

module _ (defs : Defs) (limits : Limits) where
  abbrev pub one_of : Limits
  one_of = record limits { residues = 1 }

  pub searched_valid : (g : Goal) (ps : List Proof) (p : Proof) → AreProofs defs one_of g ps → slice_get ps 0 ≡ Some p → IsFirst defs limits g p
  searched_valid g ps p h e =
      let first = first_of 0 ps (derivations_of defs limits g) p h.first e in
      record { others = first.0; derivations = first.1; right = right_first (λ (q : Proof). IsProofOf defs g (residue_shown q) q) ps p h.right e }

  -- ---- the goal of a rule

  module _ (program : Program) (at : At) (r : PRule) where
    pub asked_free : Asks defs program at r → None ≡ goal_of defs program at r → IsProved defs limits program at r None
    asked_free h e = record { low = h.low; first = subst (λ (g : Option Goal). AreFirst defs limits g None) e tt }

    pub asked_some : Asks defs program at r → (g : Goal) → Some g ≡ goal_of defs program at r → (a : Asked) → IsSearched defs limits g a → IsAsked defs limits program at r a
    asked_some h g e (asked.Proved None) s = absurd s
    asked_some h g e (asked.Proved (Some p)) s = record { low = h.low; first = subst (λ (o : Option Goal). AreFirst defs limits o (Some p)) e s }
    asked_some h g e (asked.Missed cause) s = record { form = h.form; goal = g; asks = sym e; low = subst GoalIsLow (sym e) h.low; missed = s }
    asked_some h g e asked.Crowded s = absurd s

    pub asked_not : HasForm program at r → ¬ (Asks defs program at r) → ¬ (GoalIsLow (goal_of defs program at r))
    asked_not form h low = h (record { form = form; low = low })

    pub asked_fits : AskedGoalsFit → IsSoundProgram defs program → StateFits defs program at → HasForm program at r → (o : Option Goal) (g : Goal) → o ≡ Some g → IsObligation defs program at r (Ok o) → GoalFits defs g
    asked_fits law sound fits form o g is h =
        let e : goal_of defs program at r ≡ Some g = sym h.1 ∙ is in
        law defs program sound at r fits form g e (subst GoalIsLow e h.0.low)
