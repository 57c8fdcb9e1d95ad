-- What the answer to a question says of a rule.
use Rattle.std.proofs.Common.{◌≡◌, refl, sym, subst, ℕ, Some}
use Rattle.hs_pure.specs.Eval.{stack_of}
use Rattle.hs_pure.specs.Truth.{TrueAt}
use Rattle.hs_heap.specs.declared.definitions.Defs.{Defs}
use Rattle.hs_decide.specs.declared.answer.Answer.{Answer}
use Rattle.hs_decide.specs.declared.answer.Answer.TheVariants as decide
use Rattle.hs_decide.specs.Answering.{IfNo}
use Rattle.hs_decide.specs.Span.{IsSpent}
use Rattle.hs_goal.specs.declared.goal.Goal.{Goal}
use Rattle.hs_goal.specs.declared.rule.ERule.{ERule}
use Rattle.hs_goal.specs.declared.rule.Question.{Question}
use Rattle.hs_rules.specs.Questions.{question_of, IsTrueQuestion, IsAnswered}
use Rattle.hs_check.specs.declared.verdict.NodeAnswer.{NodeAnswer}
use Rattle.hs_check.specs.declared.verdict.NodeAnswer.TheVariants as answer
use Rattle.hs_erule.specs.Judged.{asked_of, verdict_of, OfQuestion, TakesMoreAtoms, IsWideQuestion, IsVerdict, IsDecidedVerdict, IsAnswerTo, IsDecidedTo}

-- what the decision procedure answers is a verdict
pub verdict_is : (atoms : ℕ) (q : Question) (a : Answer) → (a ≡ decide.Yes → IsTrueQuestion q) →
    IfNo a (λ v. TrueAt (stack_of v) q.left × (¬ (TrueAt (stack_of v) q.right))) →
    (a ≡ decide.Atoms → TakesMoreAtoms atoms q) → (a ≡ decide.Wide → IsWideQuestion q) → IsVerdict atoms q (verdict_of a)
verdict_is atoms q decide.Yes so values more wide = so refl
verdict_is atoms q (decide.No v) so values more wide = (tt, λ f. values.1 (f (stack_of v) values.0))
verdict_is atoms q decide.Atoms so values more wide = more refl
verdict_is atoms q decide.Wide so values more wide = wide refl

module _ (defs : Defs) (g : Goal) (rule : ERule) (atoms : ℕ) where
  -- a verdict on the question of a rule is its answer
  pub answers : (q : Question) (a : NodeAnswer) → Some q ≡ question_of defs g rule → IsVerdict atoms q a → IsAnswerTo defs g rule atoms a
  answers q answer.Right is v = subst IsAnswered is v
  answers q (answer.Wrong r) is v = (v.0, λ h. v.1 (subst IsAnswered (sym is) h))
  answers q answer.Numbers is v = absurd v
  answers q answer.Atoms is v = subst (OfQuestion (TakesMoreAtoms atoms)) is v
  answers q answer.Wide is v = subst (OfQuestion IsWideQuestion) is v

  pub decides : (q : Question) (a : NodeAnswer) → Some q ≡ question_of defs g rule → IsDecidedVerdict atoms q a → IsDecidedTo defs g rule atoms a
  decides q a is d = λ few unspent. d (λ s. unspent (subst (OfQuestion (λ p. IsSpent atoms (asked_of p))) is s))
