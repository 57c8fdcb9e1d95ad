-- What is said of the predicate that is there is said of each that is there.
use Rattle.std.proofs.Common.{◌≡◌, ℕ, ◌<◌, Some, Result, refl, sym, ◌∙◌, subst}
use Rattle.std.specs.Result.{IfOk}
use Rattle.hs_pure.proofs.Lists.{if_ok_weaker}
use Rattle.hs_pure.specs.declared.pure.Pure.{Pure}
use Rattle.hs_pure.specs.Assertion.{assertion_of}
use Rattle.hs_pure.specs.Eval.{stack_of}
use Rattle.hs_pure.specs.Stack.{Stack}
use Rattle.hs_pure.specs.Truth.{TrueAt}
use Rattle.hs_heap.specs.declared.definitions.PredDef.{PredDef}
use Rattle.hs_heap.specs.declared.definitions.Defs.{Defs}
use Rattle.hs_heap.specs.Meaning.{pred_at}
use Rattle.hs_decide.specs.declared.answer.Answer.{Answer}
use Rattle.hs_decide.specs.declared.answer.Answer.TheVariants as decide
use Rattle.hs_decide.specs.Answering.{IfNo, IsDecided}
use Rattle.hs_decide.specs.Question.{question}
use Rattle.hs_decide.specs.Size.{size_of}
use Rattle.hs_decide.specs.Span.{SpanIsWide, IsSpent}
use Rattle.hs_xpure.specs.Invariants.{invariant_premise}
use Rattle.hs_inv.specs.declared.answer.InvAnswer.{InvAnswer}
use Rattle.hs_inv.specs.Answer.{question_of, inv_answer, IsInvAnswer, IsDecidedInv}

same_pred : (p q : PredDef) → Some p ≡ Some q → p ≡ q
same_pred p q e = cc

pub decided_there : {E : Type 0} (defs : Defs) (pred : ℕ) (q : PredDef) (atoms : ℕ) (r : Result InvAnswer E) → pred_at defs pred ≡ Some q
    → IfOk r (λ a. (¬ (IsSpent atoms (question_of defs q))) → IsDecidedInv a)
    → IfOk r (λ a. (p : PredDef) → pred_at defs pred ≡ Some p → (¬ (IsSpent atoms (question_of defs p))) → IsDecidedInv a)
decided_there defs pred q atoms r there e =
    if_ok_weaker (λ a. (¬ (IsSpent atoms (question_of defs q))) → IsDecidedInv a)
    (λ a. (p : PredDef) → pred_at defs pred ≡ Some p → (¬ (IsSpent atoms (question_of defs p))) → IsDecidedInv a) r
    (λ a f p at unspent. f (subst (λ (x : PredDef). ¬ (IsSpent atoms (question_of defs x))) (same_pred p q (sym at ∙ there)) unspent)) e

-- what is answered of the question is true of the invariant, where q is the premise
module _ (defs : Defs) (p : PredDef) (atoms : ℕ) (q : Pure) (is : q ≡ invariant_premise defs p) where
  pub answered : (r : Answer) → (r ≡ decide.Yes → (s : Stack) → TrueAt s q → TrueAt s p.inv)
      → IfNo r (λ v. TrueAt (stack_of v) q × (¬ (TrueAt (stack_of v) p.inv)))
      → (r ≡ decide.Atoms → atoms < size_of (question (assertion_of q) (assertion_of p.inv)))
      → (r ≡ decide.Wide → SpanIsWide (question (assertion_of q) (assertion_of p.inv)))
      → IsInvAnswer defs p atoms (inv_answer r)
  answered decide.Yes yes' no' few wide = λ s h. yes' refl s (subst (TrueAt s) (sym is) h)
  answered (decide.No v) yes' no' few wide = (subst (TrueAt (stack_of v)) is no'.0, no'.1)
  answered decide.Atoms yes' no' few wide = subst (λ x. atoms < size_of (question (assertion_of x) (assertion_of p.inv))) is (few refl)
  answered decide.Wide yes' no' few wide = subst (λ x. SpanIsWide (question (assertion_of x) (assertion_of p.inv))) is (wide refl)

  pub decided_inv : (r : Answer) → ((¬ (IsSpent atoms (question (assertion_of q) (assertion_of p.inv)))) → IsDecided r) → (¬ (IsSpent atoms (question_of defs p))) → IsDecidedInv (inv_answer r)
  decided_inv decide.Yes told unspent = tt
  decided_inv (decide.No v) told unspent = tt
  decided_inv decide.Atoms told unspent = told (subst (λ x. ¬ (IsSpent atoms (question (assertion_of x) (assertion_of p.inv)))) (sym is) unspent)
  decided_inv decide.Wide told unspent = told (subst (λ x. ¬ (IsSpent atoms (question (assertion_of x) (assertion_of p.inv)))) (sym is) unspent)
