use Rattle.std.proofs.Common.{◌≡◌, ◌∙◌, codes, refl}
use Rattle.std.specs.Str.Parse.{ExplainsUnsignedError, HasUnsignedDigitsIfOk, ParsesUnsigned}
use Rattle.clap.specs.Words.{found_of, one_of, rows_of}
use Rattle.hs_cli.specs.Job.{number_or}
use Rattle.hs_cli.proofs.Numbers.{reads_option}
use Rattle.hs_cli.proofs.reading.search_options.Goals as goal

pub returns : goal.returns
returns c =
    let m = c.args.matches.now in
    let rank : c.unwrap_or.result ≡ number_or 12 (one_of (codes "rank") (rows_of (found_of m))) = c.unwrap_or.ensures
    ∙ reads_option (λ bs r. ParsesUnsigned 32 10 bs r × ExplainsUnsignedError 10 bs r × HasUnsignedDigitsIfOk bs r) 32 12 m (codes "rank") c.get_one.result c.get_one.ensures.none c.get_one.ensures.value (λ u x g. g.0) c.requires.0 in
    let goals : c.unwrap_or-2.result ≡ number_or 20000 (one_of (codes "goals") (rows_of (found_of m))) = c.unwrap_or-2.ensures
    ∙ reads_option (λ bs r. ParsesUnsigned 64 10 bs r × ExplainsUnsignedError 10 bs r × HasUnsignedDigitsIfOk bs r) 64 20000 m (codes "goals") c.get_one-2.result c.get_one-2.ensures.none c.get_one-2.ensures.value (λ u x g. g.0) c.requires.1 in
    let level : c.unwrap_or-3.result ≡ number_or 1 (one_of (codes "xpure") (rows_of (found_of m))) = c.unwrap_or-3.ensures
    ∙ reads_option (λ bs r. ParsesUnsigned 32 10 bs r × ExplainsUnsignedError 10 bs r × HasUnsignedDigitsIfOk bs r) 32 1 m (codes "xpure") c.get_one-3.result c.get_one-3.ensures.none c.get_one-3.ensures.value (λ u x g. g.0) c.requires.3 in
    rw (rank, goals, c.atoms.ensures, level) refl
