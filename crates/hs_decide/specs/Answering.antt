-- What an answer says.
use Rattle.std.specs.Prelude.{ℕ, ◌<◌}
use Rattle.hs_pure.specs.declared.pure.Pure.{Pure}
use Rattle.hs_pure.specs.declared.valuation.Valuation.{Valuation}
use Rattle.hs_pure.specs.Assertion.{Assertion, assertion_of}
use Rattle.hs_pure.specs.Eval.{stack_of}
use Rattle.hs_pure.specs.Stack.{Stack}
use Rattle.hs_pure.specs.Truth.{TrueAt}
use Rattle.hs_unit.specs.declared.settled.Settled.{Settled}
use Rattle.hs_unit.specs.declared.settled.Settled.TheVariants as settled
use Rattle.hs_decide.specs.Question.{question}
use Rattle.hs_decide.specs.Size.{size_of}
use Rattle.hs_decide.specs.Span.{SpanIsWide}
use Rattle.hs_decide.specs.declared.answer.Answer.{Answer}
use Rattle.hs_decide.specs.declared.answer.Answer.TheVariants.{Yes, No, Atoms, Wide}

-- what holds of the valuation of a No
abbrev pub IfNo : Answer → (Valuation → Type 0) → Type 0
IfNo Yes P = Unit {0}
IfNo (No v) P = P v
IfNo Atoms P = Unit {0}
IfNo Wide P = Unit {0}

-- Yes or No
abbrev pub IsDecided : Answer → Type 0
IsDecided Yes = Unit {0}
IsDecided (No v) = Unit {0}
IsDecided Atoms = ⊥
IsDecided Wide = ⊥

-- the answer is right where P is said of Yes and Q of No, and stops only where the plain decision of q does
abbrev pub IsRight : ℕ → Assertion → Type 0 → (Valuation → Type 0) → Answer → Type 0
IsRight atoms q P Q Yes = P
IsRight atoms q P Q (No v) = Q v
IsRight atoms q P Q Atoms = atoms < size_of q
IsRight atoms q P Q Wide = SpanIsWide q

-- whether q has no solution
abbrev pub IsAnswer : ℕ → Pure → Answer → Type 0
IsAnswer atoms q = IsRight atoms (assertion_of q) ((s : Stack) → ¬ (TrueAt s q)) (λ v. TrueAt (stack_of v) q)

-- whether a implies b
abbrev pub IsVerdict : ℕ → Pure → Pure → Answer → Type 0
IsVerdict atoms a b =
    IsRight atoms (question (assertion_of a) (assertion_of b)) ((s : Stack) → TrueAt s a → TrueAt s b)
    (λ v. TrueAt (stack_of v) a × (¬ (TrueAt (stack_of v) b)))

-- the answer to a unit question
abbrev pub answer_of : Settled → Answer
answer_of settled.Yes = Yes
answer_of (settled.No v) = No v
