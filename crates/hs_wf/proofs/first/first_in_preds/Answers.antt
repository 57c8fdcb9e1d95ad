use Rattle.std.specs.List.{All}
use Rattle.hs_wf.specs.Founded.{PredIsFounded, names_of}
use Rattle.hs_wf.specs.Faults.{IsFirstInCases}
use Rattle.hs_wf.proofs.Firsts.{match_none, match_some, all_more, all_of, there_at}
use Rattle.hs_wf.proofs.first.first_in_preds.Goals as goal

pub returns-in-Some : goal.returns-in-Some
returns-in-Some c =
    let p = c.index-preds-n.result in
    record {
      pred = p;
      there = there_at c.args.preds.now c.loop-n.n p c.loop-n-test.true c.index-preds-n.is;
      before = c.loop-n.invariant;
      first = match_some c.in_ok-i.field-0 (c.in-Some.i, c.in-Some.fault) (PredIsFounded p) (λ f. IsFirstInCases (names_of p) p.body.cases f.0 f.1) c.in-Some.is c.in_ok-i.ensures;
    }

pub loop-n-preserved : goal.loop-n-preserved
loop-n-preserved c =
    let p = c.index-preds-n.result in
    all_more PredIsFounded c.args.preds.now c.loop-n.n p c.loop-n-test.true c.index-preds-n.is c.loop-n.invariant
    (match_none c.in_ok-i.field-0 (PredIsFounded p) (λ f. IsFirstInCases (names_of p) p.body.cases f.0 f.1) c.in_default.is c.in_ok-i.ensures)

pub returns : goal.returns
returns c = all_of PredIsFounded c.args.preds.now c.loop-n.n c.loop-n-test.false c.loop-n.invariant
