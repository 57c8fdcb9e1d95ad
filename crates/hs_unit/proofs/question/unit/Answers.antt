use Rattle.std.proofs.Common.{◌≡◌, [], MatchOption, sym, ◌∙◌, subst}
use Rattle.hs_pure.specs.Assertion.{assertion_of}
use Rattle.hs_pure.specs.Eval.{stack_of}
use Rattle.hs_pure.specs.Truth.{TrueAt}
use Rattle.hs_elimination.proofs.Order.{order_is}
use Rattle.hs_unit.specs.Question.{IsUnitQuestion}
use Rattle.hs_unit.specs.Settling.{IfNo}
use Rattle.hs_unit.proofs.Steps.{ok_map}
use Rattle.hs_unit.proofs.Verdicts.{verdict-told, verdict-yes, verdict-no, verdict-bags}
use Rattle.hs_unit.proofs.question.unit.Goals as goal

pub returns-clause-told : goal.returns-clause-told
returns-clause-told c =
    let a = assertion_of c.args.a.now in
    let b = assertion_of c.args.b.now in
    ok_map c.decided.result (λ o e. subst (λ x. MatchOption x (¬ (IsUnitQuestion a b)) (λ _. IsUnitQuestion a b)) (sym e) (verdict-told a b)) c.decided.ensures

pub returns-clause-yes : goal.returns-clause-yes
returns-clause-yes c = ok_map c.decided.result (λ o e is. verdict-yes (assertion_of c.args.a.now) (assertion_of c.args.b.now) ((order_is c.args.a.now).0 c.requires.left_ordered) ((order_is c.args.b.now).0 c.requires.right_ordered) (sym e ∙ is)) c.decided.ensures

pub returns-clause-no : goal.returns-clause-no
returns-clause-no c =
    ok_map c.decided.result
    (λ o e. subst (λ x. IfNo x (λ v. TrueAt (stack_of v) c.args.a.now × (¬ (TrueAt (stack_of v) c.args.b.now)))) (sym e)
    (verdict-no (assertion_of c.args.a.now) (assertion_of c.args.b.now) ((order_is c.args.a.now).0 c.requires.left_ordered) ((order_is c.args.b.now).0 c.requires.right_ordered)))
    c.decided.ensures

pub returns-clause-bags : goal.returns-clause-bags
returns-clause-bags c = ok_map c.decided.result (λ o e. subst (λ x. IfNo x (λ v. v.bags ≡ [])) (sym e) (verdict-bags (assertion_of c.args.a.now) (assertion_of c.args.b.now))) c.decided.ensures
