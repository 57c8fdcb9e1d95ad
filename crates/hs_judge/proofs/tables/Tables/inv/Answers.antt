use Rattle.std.proofs.Common.{rules, ◌≡◌, length, [], IsSome, ap, arith}
use Rattle.std.proofs.lemmas.Bool.Decides.{nat_tests}
use Rattle.hs_heap.specs.Meaning.{pred_at}
use Rattle.hs_judge.proofs.Naming.{empty_is}
use Rattle.hs_judge.proofs.Judging.{no_premise, invariant_answered}
use Rattle.hs_judge.proofs.tables.Tables.inv.Goals as goal

pub returns-then-not-is_empty : goal.returns-then-not-is_empty
returns-then-not-is_empty c =
    let there : IsSome (pred_at c.args.self.now.defs.now c.args.pred) = search rules in
    let some : ¬ (length c.args.premises.now ≡ 0) = λ e. first_of (search rules, grind (arith, nat_tests, c.is_empty.ensures, c.if-not-is_empty.true, e)) in
    no_premise c.args.self.now.defs.now c.args.self.now.program.now c.args.before.now c.args.pred c.args.premises.now c.args.self.now.atoms there (λ e. some (ap length e))

pub returns : goal.returns
returns c =
    let there : IsSome (pred_at c.args.self.now.defs.now c.args.pred) = search rules in
    let none : length c.args.premises.now ≡ 0 = first_of (search rules, grind (arith, nat_tests, c.is_empty.ensures, c.if-not-is_empty.false)) in
    rw c.of_invariant.ensures
    (invariant_answered c.args.self.now.defs.now c.args.self.now.program.now c.args.before.now c.args.pred c.args.premises.now c.args.self.now.atoms
    c.in_ok-answer.answer there (empty_is c.args.premises.now none) c.in_ok-answer.ensures.answer)
