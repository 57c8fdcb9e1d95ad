use Rattle.std.proofs.Common.{◌≡◌, ◌∙◌, codes, refl}
use Rattle.std.specs.Str.Parse.{ExplainsUnsignedError, HasUnsignedDigitsIfOk, ParsesUnsigned}
use Rattle.clap.specs.Words.{found_of, one_of, rows_of}
use Rattle.hs_cli.specs.Job.{number_or}
use Rattle.hs_cli.proofs.Numbers.{reads_option}
use Rattle.hs_cli.proofs.reading.run_options.Goals as goal

pub returns : goal.returns
returns c =
    let m = c.args.matches.now in
    let steps : c.unwrap_or.result ≡ number_or 1000 (one_of (codes "steps") (rows_of (found_of m))) = c.unwrap_or.ensures
    ∙ reads_option (λ bs r. ParsesUnsigned 64 10 bs r × ExplainsUnsignedError 10 bs r × HasUnsignedDigitsIfOk bs r) 64 1000 m (codes "steps") c.get_one.result c.get_one.ensures.none c.get_one.ensures.value (λ u x g. g.0) c.requires in
    rw steps refl
