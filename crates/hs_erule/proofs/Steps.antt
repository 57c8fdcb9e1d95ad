-- What the tests of a step say of it.
use Rattle.std.proofs.Common.{◌≡◌, refl, sym, ap, ◌∙◌, ℕ, List, [], ◌∷◌, map, Result, Ok, Err, IfOk}
use Rattle.hs_heap.specs.declared.formula.Formula.{Formula}
use Rattle.hs_heap.specs.declared.definitions.Defs.{Defs}
use Rattle.hs_goal.specs.declared.goal.Goal.{Goal}
use Rattle.hs_goal.specs.declared.rule.ERule.{ERule}
use Rattle.hs_rules.specs.Residues.{residue_of}
use Rattle.hs_rules.specs.Rules.{Judgement}
use Rattle.hs_check.specs.declared.verdict.Reason.TheVariants as reason
use Rattle.hs_check.specs.declared.verdict.NodeAnswer.{NodeAnswer}
use Rattle.hs_check.specs.declared.verdict.NodeAnswer.TheVariants as answer
use Rattle.hs_erule.specs.Judged.{Premises, goals_of, residues_of, judgements_of, Passes, IsAnswerTo, IsJudged}

-- the goals and the residues of judgements
goals_told : (ps : Premises) → map (λ (p : Judgement). p.goal) (judgements_of ps) ≡ goals_of ps
goals_told [] = refl
goals_told (p ∷ ps) = ap (λ (gs : List Goal). p.0 ∷ gs) (goals_told ps)

residues_told : (ps : Premises) → map (λ (p : Judgement). p.residue) (judgements_of ps) ≡ residues_of ps
residues_told [] = refl
residues_told (p ∷ ps) = ap (λ (rs : List Formula). p.1 ∷ rs) (residues_told ps)

-- where all tests but that of the question pass, its answer is that of the step
pub judged : (defs : Defs) (g : Goal) (residue : Formula) (rule : ERule) (ps : Premises) (atoms : ℕ) (a : NodeAnswer) →
    Passes defs g residue rule ps → IsAnswerTo defs g rule atoms a → IsJudged defs g residue rule ps atoms a
judged defs g residue rule ps atoms answer.Right p v = record {
  shape = p.shape;
  applies = p.applies;
  goals_are = goals_told ps ∙ p.goals_are;
  residue_is = p.residue_is ∙ ap (λ (rs : List Formula). residue_of g rule rs) (sym (residues_told ps));
  answered = v;
}
judged defs g residue rule ps atoms (answer.Wrong reason.Shape) p v = absurd v.0
judged defs g residue rule ps atoms (answer.Wrong reason.Rule) p v = absurd v.0
judged defs g residue rule ps atoms (answer.Wrong reason.Premise) p v = absurd v.0
judged defs g residue rule ps atoms (answer.Wrong reason.Residue) p v = absurd v.0
judged defs g residue rule ps atoms (answer.Wrong reason.Question) p v = (p, v.1)
judged defs g residue rule ps atoms answer.Numbers p v = (p, v)
judged defs g residue rule ps atoms answer.Atoms p v = (p, v)
judged defs g residue rule ps atoms answer.Wide p v = (p, v)

-- what follows from what is said of a value
pub if_ok : {A E : Type 0} (P Q : A → Type 0) (r : Result A E) → ((a : A) → P a → Q a) → IfOk r P → IfOk r Q
if_ok P Q (Ok a) f p = f a p
if_ok P Q (Err e) f p = tt
