-- Residues of right steps are formed.
use Rattle.std.proofs.Common.{ℕ, ◌≡◌, ◌+◌, ◌<◌, ◌≤◌, IsTrue, List, [], ◌∷◌, ◌++◌, length, map, sym, subst, arith}
use Rattle.std.specs.List.{All}
use Rattle.std.proofs.lemmas.Bool.{false_from_ne_true}
use Rattle.std.proofs.lemmas.List.Elements.{All-nil, All-cons, All-head, All-tail, All-append}
use Rattle.hs_pure.specs.declared.var.Var.{Var}
use Rattle.hs_heap.specs.declared.formula.Disjunct.{Disjunct}
use Rattle.hs_heap.specs.declared.formula.Formula.{Formula}
use Rattle.hs_heap.specs.declared.definitions.Defs.{Defs}
use Rattle.hs_heap.specs.Meaning.{is_in}
use Rattle.hs_heap.specs.Sound.{AreDistinct}
use Rattle.hs_heap.proofs.Lists.{listed_forth}
use Rattle.hs_goal.specs.declared.goal.Goal.{Goal}
use Rattle.hs_goal.specs.declared.rule.ERule.{ERule}
use Rattle.hs_goal.specs.declared.rule.ERule.TheVariants as rule_of
use Rattle.hs_goal.specs.Shape.{CaseFits, SideFits, GoalFits}
use Rattle.hs_goal.specs.Parts.{ConjunctFits}
use Rattle.hs_goal.specs.Classes.{the_case}
use Rattle.hs_rules.specs.Parts.{left_atoms, left_pure, right_pure, fresh_variables}
use Rattle.hs_rules.specs.Conditions.{HasCondition}
use Rattle.hs_rules.specs.Subgoals.{left_opened, right_opened, subgoals_of}
use Rattle.hs_rules.specs.Residues.{joined, binding, all_binding, the_one, residue_of}
use Rattle.hs_rules.specs.Rules.{Judgement}
use Rattle.hs_rules.specs.Laws.{AllFresh}
use Rattle.hs_rules.proofs.Plain.{only_case}
use Rattle.hs_rules.proofs.Fitting.{distinct-append}
use Rattle.hs_rules.proofs.RenamedFits.{fresh_distinct, fresh_below}
use Rattle.hs_program_fits.specs.Formed.{AllFormed}
use Rattle.hs_program_fits.specs.Laws.{RightStepsStayFormed}
use Rattle.hs_program_fits.proofs.Shapes.{CaseIsShaped, IsShaped, side_shaped, shaped_formed, formed_shaped, plain_shaped, the_case_shaped}

abbrev residues : List Judgement → List Formula
residues ps = map (λ (p : Judgement). p.residue) ps

abbrev goals : List Judgement → List Goal
goals ps = map (λ (p : Judgement). p.goal) ps

-- what is bound has numbers from n on
abbrev pub BindsHigh : ℕ → Formula → Type 0
BindsHigh n f = All (λ (d : Disjunct). All (λ (v : Var). n ≤ v.number) d.bound) f.cases

-- the residue of the one premise is fresh for the one subgoal
one_fresh : (sub : Goal) (ps : List Judgement) → goals ps ≡ sub ∷ [] → AllFresh ps → BindsHigh sub.next (the_one (residues ps))
one_fresh sub [] e all = absurd cc
one_fresh sub (p ∷ ps) e all = let is : p.goal ≡ sub = cc in subst (λ (g : Goal). BindsHigh g.next p.residue) is all.0.bound

module _ (defs : Defs) where
  one_shaped : (ps : List Judgement) → AllFormed defs ps → IsShaped defs (the_one (residues ps))
  one_shaped [] all = All-nil (CaseIsShaped defs)
  one_shaped (p ∷ ps) all = formed_shaped defs p.residue all.0

  joined_shaped : (ps : List Judgement) → AllFormed defs ps → IsShaped defs (joined (residues ps))
  joined_shaped [] all = All-nil (CaseIsShaped defs)
  joined_shaped (p ∷ ps) all = All-append (CaseIsShaped defs) p.residue.cases (joined (residues ps)).cases (formed_shaped defs p.residue all.0) (joined_shaped ps all.1)

  -- bound variables below n before such from n on
  binding_shaped : (vs : List Var) (n : ℕ) → AreDistinct vs → ((v : Var) → IsTrue (is_in v vs) → v.number < n) → (ds : List Disjunct) → All (λ (d : Disjunct). All (λ (v : Var). n ≤ v.number) d.bound) ds →
      All (CaseIsShaped defs) ds → All (CaseIsShaped defs) (map (binding vs) ds)
  binding_shaped vs n distinct low [] high h = All-nil (CaseIsShaped defs)
  binding_shaped vs n distinct low (d ∷ ds) high h =
      let B : Disjunct → Type 0 = λ d. All (λ (v : Var). n ≤ v.number) d.bound in
      let s = All-head (CaseIsShaped defs) d ds h in
      let above = listed_forth (λ (v : Var). n ≤ v.number) d.bound (All-head B d ds high) in
      All-cons (CaseIsShaped defs) (binding vs d) (map (binding vs) ds)
      (record {
        atoms = s.atoms;
        distinct = distinct-append vs d.bound distinct s.distinct (λ v i. false_from_ne_true (is_in v d.bound) (λ k. let a = above v k in let b = low v i in absurd (omega arith)));
        pure = s.pure;
      })
      (binding_shaped vs n distinct low ds (All-tail B d ds high) (All-tail (CaseIsShaped defs) d ds h))

  -- what was opened is bound again
  closed_shaped : (next : ℕ) (f : Formula) → length f.cases ≡ 1 → SideFits defs next f → (ps : List Judgement) → BindsHigh (next + length (the_case f).bound) (the_one (residues ps)) → AllFormed defs ps →
      IsShaped defs (all_binding (fresh_variables (the_case f) next) (the_one (residues ps)))
  closed_shaped next f one side ps high all =
      let d = the_case f in
      let fits = All-head (CaseFits defs next) d [] (subst (λ (k : Formula). SideFits defs next k) (only_case f one) side) in
      binding_shaped (fresh_variables d next) (next + length d.bound) (fresh_distinct defs next d fits) (fresh_below defs next d fits) (the_one (residues ps)).cases high (one_shaped ps all)

  by_rule : (g : Goal) → GoalFits defs g → (rule : ERule) (ps : List Judgement) → HasCondition defs g rule → goals ps ≡ subgoals_of defs g rule → AllFresh ps → AllFormed defs ps →
      IsShaped defs (residue_of g rule (residues ps))
  by_rule g fits rule_of.LeftOr ps can e fresh all = joined_shaped ps all
  by_rule g fits rule_of.LeftExists ps can e fresh all = closed_shaped g.next g.left can.one fits.left ps (one_fresh (left_opened g (the_case g.left)) ps e fresh) all
  by_rule g fits (rule_of.False n) ps can e fresh all = All-nil (CaseIsShaped defs)
  by_rule g fits (rule_of.Split f) ps can e fresh all = joined_shaped ps all
  by_rule g fits (rule_of.RightOr i) ps can e fresh all = one_shaped ps all
  by_rule g fits rule_of.RightExists ps can e fresh all = closed_shaped g.next g.right can.one fits.right ps (one_fresh (right_opened g (the_case g.right)) ps e fresh) all
  by_rule g fits (rule_of.Instantiate c) ps can e fresh all = one_shaped ps all
  by_rule g fits (rule_of.Match r l) ps can e fresh all = one_shaped ps all
  by_rule g fits (rule_of.Unfold l) ps can e fresh all = one_shaped ps all
  by_rule g fits (rule_of.Fold r i) ps can e fresh all = one_shaped ps all
  by_rule g fits (rule_of.Empty n) ps can e fresh all =
      let l = the_case_shaped defs g.left can.left.one (side_shaped defs g.next g.left fits.left) in
      let r = the_case_shaped defs g.right can.right.one (side_shaped defs g.next g.right fits.right) in
      plain_shaped defs (left_atoms g) (left_pure g ++ right_pure g) l.atoms (All-append ConjunctFits (left_pure g) (right_pure g) l.pure r.pure)
  by_rule g fits (rule_of.Lemma j l) ps can e fresh all = one_shaped ps all

pub right_steps_formed : RightStepsStayFormed
right_steps_formed defs sound g residue rule ps step fresh all =
    shaped_formed defs residue (subst (IsShaped defs) (sym step.residue_is) (by_rule defs g step.shape rule ps step.applies.condition step.goals_are fresh all))
