use Rattle.std.proofs.Common.{ap, ◌∙◌}
use Rattle.hs_heap.specs.declared.formula.Of.TheVariants.{Pred}
use Rattle.hs_heap.specs.Instance.{body_of}
use Rattle.hs_xpure.specs.declared.formed.Formed.{Formed}
use Rattle.hs_xpure.specs.Approximation.{disjunction, body_next}
use Rattle.hs_xpure.specs.Counts.{body_taken, pred_taken}
use Rattle.hs_xpure.proofs.Capped.{is_many, is_not_many, is_few, body_next_of}
use Rattle.hs_xpure.proofs.calls.body.Goals as goal

pub returns-then-taken-gt-MOST-clause-numbers : goal.returns-then-taken-gt-MOST-clause-numbers
returns-then-taken-gt-MOST-clause-numbers c = λ k. is_many c.in_ok-taken.taken (body_taken (pred_taken c.args.defs.now c.args.level) (body_of c.args.defs.now (Pred c.args.pred))) c.args.fresh
    (body_next c.args.defs.now c.args.level (body_of c.args.defs.now (Pred c.args.pred)) c.args.root c.args.args.now c.args.fresh)
    c.in_ok-taken.ensures c.if-taken-gt-MOST.true (body_next_of c.args.defs.now c.args.level (body_of c.args.defs.now (Pred c.args.pred)) c.args.root c.args.args.now c.args.fresh)

pub body_cases-requires-clause-room : goal.body_cases-requires-clause-room
body_cases-requires-clause-room c = is_not_many c.in_ok-taken.taken (body_taken (pred_taken c.args.defs.now c.args.level) (body_of c.args.defs.now (Pred c.args.pred))) c.args.fresh c.in_ok-taken.ensures c.if-taken-gt-MOST.false c.requires.small

pub returns-clause-exact : goal.returns-clause-exact
returns-clause-exact c = c.disjunction.ensures ∙ ap (λ (f : Formed). disjunction f.pure) c.in_ok-pure.ensures

pub returns-clause-next : goal.returns-clause-next
returns-clause-next c = ap (λ (f : Formed). f.next) c.in_ok-pure.ensures

pub returns-clause-few : goal.returns-clause-few
returns-clause-few c = is_few c.in_ok-taken.taken (body_taken (pred_taken c.args.defs.now c.args.level) (body_of c.args.defs.now (Pred c.args.pred))) c.args.fresh c.in_ok-pure.field-0.next c.in_ok-taken.ensures c.if-taken-gt-MOST.false
    (ap (λ (f : Formed). f.next) c.in_ok-pure.ensures ∙ body_next_of c.args.defs.now c.args.level (body_of c.args.defs.now (Pred c.args.pred)) c.args.root c.args.args.now c.args.fresh)
