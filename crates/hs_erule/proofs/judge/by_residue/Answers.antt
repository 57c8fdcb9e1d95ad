use Rattle.std.proofs.Common.{rules}
use Rattle.hs_erule.specs.Judged.{ResidueIs, Passes, IsAnswerTo, IsJudged}
use Rattle.hs_erule.proofs.Steps.{if_ok, judged}
use Rattle.hs_erule.proofs.judge.by_residue.Goals as goal

pub returns-then-same-clause-judged : goal.returns-then-same-clause-judged
returns-then-same-clause-judged c =
    let defs = c.args.defs.now in
    let g = c.args.goal.now in
    let f = c.args.residue.now in
    let rule = c.args.rule.now in
    let ps = c.args.premises.now in
    let atoms = c.args.atoms in
    let is : ResidueIs g f rule ps = search rules in
    let passes : Passes defs g f rule ps = record { shape = c.requires.fits; applies = c.requires.applies; goals_are = c.requires.goals_are; residue_is = is } in
    if_ok (IsAnswerTo defs g rule atoms) (IsJudged defs g f rule ps atoms) c.answer.result (λ a. judged defs g f rule ps atoms a passes) c.answer.ensures.judged
