-- What right steps keep is true of what a proof concludes.
use Rattle.std.proofs.Common.{◌≡◌, ℕ, zero, suc, ◌-◌, List, [], ◌∷◌, ◌++◌, map, Some, subst}
use Rattle.std.specs.List.{slice_get, AllByRecursion, AllZip}
use Rattle.hs_heap.specs.declared.formula.Formula.{Formula}
use Rattle.hs_heap.specs.declared.definitions.Defs.{Defs}
use Rattle.hs_heap.specs.Sound.{IsSound}
use Rattle.hs_goal.specs.declared.goal.Goal.{Goal}
use Rattle.hs_goal.specs.Goal.{IsFreshResidue}
use Rattle.hs_rules.specs.Laws.{AllFresh, RightStepsStayFresh}
use Rattle.hs_erule.specs.declared.step.Step.{Step}
use Rattle.hs_erule.specs.declared.step.Proof.{Proof}
use Rattle.hs_steps.specs.Steps.{judgement_of, IsStepOf, IsRightAfter, AreRightAfter, IsProofOf}
use Rattle.hs_program_fits.specs.Formed.{IsFormed, AllFormed}
use Rattle.hs_program_fits.specs.Laws.{RightStepsStayFormed}
use Rattle.hs_proofs_fit.specs.Laws.{ProofsAreFormed}

module _ (defs : Defs) (sound : IsSound defs) (stay_fresh : RightStepsStayFresh) (stay_formed : RightStepsStayFormed) where
  -- the residue keeps numbers apart and is formed
  record IsGood (s : Step) : Type 0 where
    pub fresh : IsFreshResidue s.goal s.residue
    pub formed : IsFormed defs s.residue

  abbrev AreGood : List Step → Type 0
  AreGood steps = AllByRecursion IsGood steps

  at_place : (steps : List Step) (i : ℕ) (s : Step) → slice_get steps i ≡ Some s → AreGood steps → IsGood s
  at_place [] i s e h = absurd cc
  at_place (t ∷ steps) zero s e h = let is : t ≡ s = cc in subst IsGood is h.0
  at_place (t ∷ steps) (suc i) s e h = at_place steps i s e h.1

  of_premises : (before : List Step) → AreGood before → (ns : List ℕ) (ps : List Step) → AllZip (IsStepOf before) ns ps → AreGood ps
  of_premises before h [] [] z = tt
  of_premises before h [] (p ∷ ps) z = absurd z
  of_premises before h (n ∷ ns) [] z = absurd z
  of_premises before h (n ∷ ns) (p ∷ ps) z = (at_place before (n - 1) p z.0.1 h, of_premises before h ns ps z.1)

  all_fresh : (ps : List Step) → AreGood ps → AllFresh (map judgement_of ps)
  all_fresh [] h = tt
  all_fresh (p ∷ ps) h = (h.0.fresh, all_fresh ps h.1)

  all_formed : (ps : List Step) → AreGood ps → AllFormed defs (map judgement_of ps)
  all_formed [] h = tt
  all_formed (p ∷ ps) h = (h.0.formed, all_formed ps h.1)

  of_step : (before : List Step) (s : Step) → AreGood before → IsRightAfter defs before s → IsGood s
  of_step before s h r =
      let good = of_premises before h s.premises r.premises r.earlier in
      let apart = all_fresh r.premises good in
      record {
        fresh = stay_fresh defs sound s.goal s.residue s.rule (map judgement_of r.premises) r.right apart;
        formed = stay_formed defs sound s.goal s.residue s.rule (map judgement_of r.premises) r.right apart (all_formed r.premises good);
      }

  pushed : (before : List Step) (s : Step) → AreGood before → IsGood s → AreGood (before ++ s ∷ [])
  pushed [] s h p = (p, tt)
  pushed (t ∷ before) s h p = (h.0, pushed before s h.1 p)

  of_steps : (before steps : List Step) → AreGood before → AreRightAfter defs before steps → AreGood steps
  of_steps before [] h r = tt
  of_steps before (s ∷ steps) h r =
      let first = of_step before s h r.0 in
      (first, of_steps (before ++ s ∷ []) steps (pushed before s h first) r.1)

  of_last : (front : List Step) (s : Step) → AreGood (front ++ s ∷ []) → IsGood s
  of_last [] s h = h.0
  of_last (t ∷ front) s h = of_last front s h.1

  concluded : (g : Goal) (residue : Formula) (p : Proof) → IsProofOf defs g residue p → IsFormed defs residue
  concluded g residue p h =
      let all = of_steps [] p.steps tt h.right in
      let last = of_last h.front h.last (subst AreGood h.ends all) in
      subst (IsFormed defs) h.residue_is last.formed

pub proofs_formed : RightStepsStayFresh → RightStepsStayFormed → ProofsAreFormed
proofs_formed stay_fresh stay_formed defs sound = concluded defs sound stay_fresh stay_formed
