-- The test of questions is true exactly of questions that are true.
use Rattle.std.proofs.Common.{IsTrue, ◌↔◌, Option, Some, None, refl}
use Rattle.hs_goal.specs.declared.rule.Question.{Question}
use Rattle.hs_rules.specs.Questions.{question_of, IsAnswered}
use Rattle.hs_question.specs.Asked.{SidesCanBeAsked, QuestionsCanBeAsked}
use Rattle.hs_implication.specs.Implied.{ImplicationsAreTold}
use Rattle.hs_choices.specs.Tests.{is_true_question, is_answered}
use Rattle.hs_choices.specs.Laws.{QuestionsAreTold}

answered_told : ImplicationsAreTold → (o : Option Question) → SidesCanBeAsked o → IsTrue (is_answered o) ↔ IsAnswered o
unfolding is_true_question
answered_told implied None can = (λ e. tt, λ e. refl)
answered_told implied (Some q) can = implied q.left q.right can.0.plain can.1.plain can.0.ordered can.1.ordered

pub questions_told : QuestionsCanBeAsked → ImplicationsAreTold → QuestionsAreTold
questions_told asked implied defs sound g fits rule has = answered_told implied (question_of defs g rule) (asked defs sound g fits rule has)
