-- What is answered to the question of a rule.
use Rattle.std.specs.Prelude.{◌≡◌, ℕ, true, false, Option, Some, None}
use Rattle.hs_pure.specs.declared.valuation.Valuation.{Valuation}
use Rattle.hs_pure.specs.Eval.{stack_of}
use Rattle.hs_pure.specs.Truth.{TrueAt}
use Rattle.hs_heap.specs.declared.definitions.Defs.{Defs}
use Rattle.hs_goal.specs.declared.goal.Goal.{Goal}
use Rattle.hs_goal.specs.declared.rule.ERule.{ERule}
use Rattle.hs_goal.specs.declared.rule.Question.{Question}
use Rattle.hs_goal.specs.declared.rule.Obligation.{Obligation}
use Rattle.hs_goal.specs.declared.rule.Obligation.TheVariants.{NotImplied, NoChoice, OpenRoot, OpenBag}
use Rattle.hs_rules.specs.Questions.{question_of, IsTrueQuestion}
use Rattle.hs_rules.specs.Rules.{TakesTooMany}
use Rattle.hs_erule.specs.Judged.{TakesMoreAtoms, IsWideQuestion}
use Rattle.hs_choices.specs.declared.error.Spent.{Spent}
use Rattle.hs_choices.specs.declared.error.Spent.TheVariants.{Numbers, Atoms, Wide}
use Rattle.hs_choices.specs.declared.error.AskError.{AskError}
use Rattle.hs_choices.specs.declared.error.AskError.TheVariants as error
use Rattle.hs_choices.specs.Tests.{is_answered}

-- the valuation makes the left side of a question true and the right side false
abbrev pub Refutes : Valuation → Question → Type 0
Refutes v q = TrueAt (stack_of v) q.left × (¬ (TrueAt (stack_of v) q.right))

-- the question of a rule, with values at which it is false
abbrev pub IsRefuted : Defs → Goal → ERule → Obligation → Type 0
IsRefuted defs g rule (NotImplied q v) = (question_of defs g rule ≡ Some q) × Refutes v q
IsRefuted defs g rule (NoChoice a) = ⊥
IsRefuted defs g rule (OpenRoot v) = ⊥
IsRefuted defs g rule (OpenBag v) = ⊥

-- what is answered to a question: nothing where it is true, else values at which it is false
abbrev pub IsTold : Question → Option Obligation → Type 0
IsTold q None = IsTrueQuestion q
IsTold q (Some (NotImplied p v)) = (p ≡ q) × Refutes v q
IsTold q (Some (NoChoice a)) = ⊥
IsTold q (Some (OpenRoot v)) = ⊥
IsTold q (Some (OpenBag v)) = ⊥

-- what a question uses up
abbrev pub IsUsedUp : Question → ℕ → Spent → Type 0
IsUsedUp q atoms Numbers = ⊥
IsUsedUp q atoms (Atoms p) = (p ≡ q) × TakesMoreAtoms atoms q
IsUsedUp q atoms (Wide p) = (p ≡ q) × IsWideQuestion q

-- what the question of a rule uses up
abbrev pub UsesUp : Defs → Goal → ERule → ℕ → Spent → Type 0
UsesUp defs g rule atoms Numbers = TakesTooMany defs g rule
UsesUp defs g rule atoms (Atoms q) = (question_of defs g rule ≡ Some q) × TakesMoreAtoms atoms q
UsesUp defs g rule atoms (Wide q) = (question_of defs g rule ≡ Some q) × IsWideQuestion q

-- nothing is said where memory is wanting
abbrev pub IfSpent : (Spent → Type 0) → AskError → Type 0
IfSpent P (error.Spent s) = P s
IfSpent P error.Memory = Unit {0}

-- no obligation where the question is true or there is none, else values at which it is false
abbrev pub IsReply : Defs → Goal → ERule → Option Obligation → Type 0
IsReply defs g rule None = is_answered (question_of defs g rule) ≡ true
IsReply defs g rule (Some o) = (is_answered (question_of defs g rule) ≡ false) × IsRefuted defs g rule o
