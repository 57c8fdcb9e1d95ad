use Rattle.std.proofs.Common.{sym, subst}
use Rattle.hs_search.specs.Answer.{IsSearchAnswer}
use Rattle.hs_search.proofs.Answered.{answered}
use Rattle.hs_search.proofs.proving.prove.Goals as goal

pub returns : goal.returns
returns c =
    let defs = c.args.defs.now in
    let limits = c.args.limits.now in
    let g = c.args.goal.now in
    record {
      answer = subst (IsSearchAnswer defs limits g) (sym c.answer_of.ensures)
          (answered
          (record {
            conditions = c.choices_have_conditions.ensures;
            well_formed = c.subgoals_are_well_formed.ensures;
            told = c.questions_are_told.ensures;
            joined = c.joined_proofs_are_proofs.ensures;
            shown = c.residue_is_shown.ensures;
          }) defs limits g
          (record {
            sound = c.requires.sound;
            limits_fit = c.requires.limits;
            fits = c.requires.fits;
          }) c.in_ok-answer.answer (rw c.in_ok-copy.ensures.same at c.in_ok-answer.ensures.answer));
    }
