use Rattle.std.proofs.Common.{◌≡◌, ◌≢◌, ◌∙◌, IsErrAnd, ap, map, refl, subst, sym}
use Rattle.std.specs.String.{string_bytes}
use Rattle.std.proofs.lemmas.Result.{IfOk-weaker}
use Rattle.clap.specs.Words.{App, is_simple, is_simple_and_free, kind_of, subcommand_of, subcommand_rows_of, takes}
use Rattle.clap.specs.Faults.{fault_of}
use Rattle.clap.specs.declared.error.ErrorKind.TheVariants.{OutOfMemory}
use Rattle.hs_cli.specs.declared.error.WordsError.TheVariants.{Words}
use Rattle.hs_cli.specs.Command.{hipsleek_app}
use Rattle.hs_cli.specs.Job.{HasNamedNumbers, job_of}
use Rattle.hs_cli.proofs.Taken.{none_lacks, not_taken, taken, taken_without_fault}
use Rattle.hs_cli.proofs.reading.job.Goals as goal

pub named_job-requires : goal.named_job-requires
named_job-requires c =
    let words = map string_bytes c.args.words.now in
    let app = c.in_ok-hipsleek.ensures in
    let met : subcommand_rows_of c.in_ok-matches.matches ≡ subcommand_of hipsleek_app words =
    (c.in_ok-matches.ensures.matches (ap is_simple app)).1 ∙ ap (λ (a : App). subcommand_of a words) app in
    let t = taken words (taken_without_fault words (ap (λ (a : App). fault_of a words) (sym app) ∙ c.in_ok-matches.ensures.kinds (ap is_simple_and_free app))) in
    subst HasNamedNumbers (sym met) t.numbers

pub returns-in_err-matches-clause-words : goal.returns-in_err-matches-clause-words
returns-in_err-matches-clause-words c is =
    let words = map string_bytes c.args.words.now in
    let gives = subst (λ r. IsErrAnd r (λ w. w ≡ Words → kind_of c.in_err-matches.field-0.0 ≢ OutOfMemory)) is c.from_residual-in_err-matches.ensures.1 in
    not_taken (takes hipsleek_app words) (λ e. gives refl (c.in_err-matches.ensures.passes (ap (λ (a : App). takes a words) c.in_ok-hipsleek.ensures ∙ e)))

pub returns-clause-words : goal.returns-clause-words
returns-clause-words c is =
    let words = map string_bytes c.args.words.now in
    let app = c.in_ok-hipsleek.ensures in
    let met : subcommand_rows_of c.in_ok-matches.matches ≡ subcommand_of hipsleek_app words =
    (c.in_ok-matches.ensures.matches (ap is_simple app)).1 ∙ ap (λ (a : App). subcommand_of a words) app in
    not_taken (takes hipsleek_app words) (λ e. none_lacks (job_of (subcommand_of hipsleek_app words)) (ap job_of (sym met) ∙ c.named_job.ensures.words is) (taken words e).named)

pub returns-clause-job : goal.returns-clause-job
returns-clause-job c =
    let words = map string_bytes c.args.words.now in
    let app = c.in_ok-hipsleek.ensures in
    let met : subcommand_rows_of c.in_ok-matches.matches ≡ subcommand_of hipsleek_app words =
    (c.in_ok-matches.ensures.matches (ap is_simple app)).1 ∙ ap (λ (a : App). subcommand_of a words) app in
    let takes_words = taken_without_fault words (ap (λ (a : App). fault_of a words) (sym app) ∙ c.in_ok-matches.ensures.kinds (ap is_simple_and_free app)) in
    IfOk-weaker c.named_job.result _ _ (λ j is. (takes_words, ap job_of (sym met) ∙ is)) c.named_job.ensures.job

pub returns-clause-ranges : goal.returns-clause-ranges
returns-clause-ranges c =
    let words = map string_bytes c.args.words.now in
    let app = c.in_ok-hipsleek.ensures in
    let met : subcommand_rows_of c.in_ok-matches.matches ≡ subcommand_of hipsleek_app words =
    (c.in_ok-matches.ensures.matches (ap is_simple app)).1 ∙ ap (λ (a : App). subcommand_of a words) app in
    let t = taken words (taken_without_fault words (ap (λ (a : App). fault_of a words) (sym app) ∙ c.in_ok-matches.ensures.kinds (ap is_simple_and_free app))) in
    IfOk-weaker c.named_job.result _ _ (λ j is. t.ranges j (ap job_of (sym met) ∙ is)) c.named_job.ensures.job
