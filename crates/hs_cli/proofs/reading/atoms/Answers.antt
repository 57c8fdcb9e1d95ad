use Rattle.std.proofs.Common.{◌∙◌, codes}
use Rattle.std.specs.Str.Parse.{ExplainsUnsignedError, HasUnsignedDigitsIfOk, ParsesUnsigned}
use Rattle.hs_cli.proofs.Numbers.{reads_option}
use Rattle.hs_cli.proofs.reading.atoms.Goals as goal

pub returns : goal.returns
returns c =
    c.unwrap_or.ensures
    ∙ reads_option (λ bs r. ParsesUnsigned 64 10 bs r × ExplainsUnsignedError 10 bs r × HasUnsignedDigitsIfOk bs r) 64 200000 c.args.matches.now (codes "atoms") c.get_one.result c.get_one.ensures.none c.get_one.ensures.value (λ u x g. g.0) c.requires
