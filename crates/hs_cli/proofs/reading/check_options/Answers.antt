use Rattle.std.proofs.Common.{◌≡◌, ◌∙◌, codes, refl}
use Rattle.std.specs.Str.Parse.{ExplainsUnsignedError, HasUnsignedDigitsIfOk, ParsesUnsigned}
use Rattle.clap.specs.Words.{found_of, one_of, rows_of}
use Rattle.hs_cli.specs.Job.{number_or}
use Rattle.hs_cli.proofs.Numbers.{reads_option}
use Rattle.hs_cli.proofs.reading.check_options.Goals as goal

pub returns : goal.returns
returns c =
    let m = c.args.matches.now in
    let pieces : c.unwrap_or.result ≡ number_or 1 (one_of (codes "pieces") (rows_of (found_of m))) = c.unwrap_or.ensures
    ∙ reads_option (λ bs r. ParsesUnsigned 32 10 bs r × ExplainsUnsignedError 10 bs r × HasUnsignedDigitsIfOk bs r) 32 1 m (codes "pieces") c.get_one.result c.get_one.ensures.none c.get_one.ensures.value (λ u x g. g.0) c.requires.1 in
    rw (c.atoms.ensures, pieces) refl
