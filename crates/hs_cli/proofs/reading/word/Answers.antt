use Rattle.std.proofs.Common.{◌≡◌, ◌∙◌, sym, Some, ap}
use Rattle.std.specs.Prelude.{option_map}
use Rattle.std.specs.Result.{result_ok}
use Rattle.clap.specs.Words.{found_of, first_of, rows_of}
use Rattle.clap.proofs.WalkLemmas.{first_value-rows}
use Rattle.hs_cli.proofs.reading.word.Goals as goal

pub returns-in_err-word-clause-words : goal.returns-in_err-word-clause-words
returns-in_err-word-clause-words c is =
    sym (first_value-rows (found_of c.args.matches.now) c.args.id.now) ∙ (sym c.get_str.ensures
    ∙ ap (option_map (λ s. s.now)) (c.ok_or.ensures.ok_part ∙ ap result_ok c.in_err-word.was))

pub returns-clause-word : goal.returns-clause-word
returns-clause-word c =
    let word : first_of c.args.id.now (rows_of (found_of c.args.matches.now)) ≡ Some c.in_ok-word.word.now =
    sym (first_value-rows (found_of c.args.matches.now) c.args.id.now) ∙ (sym c.get_str.ensures ∙ ap (option_map (λ s. s.now)) c.in_ok-word.ensures.ok_part) in
    word ∙ ap Some (sym c.in_ok-from_str.ensures)
