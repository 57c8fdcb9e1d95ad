use Rattle.std.proofs.Common.{◌≡◌, ◌∙◌, codes, ap}
use Rattle.clap.specs.declared.builder.ValueParser.TheVariants.{Unsigned}
use Rattle.hs_cli.specs.Command.{option_rule}
use Rattle.hs_cli.proofs.Making.{narrows}
use Rattle.hs_cli.proofs.command.steps.Goals as goal

pub returns : goal.returns
returns c =
    let range : c.range.result ≡ Unsigned 0 1000000 =
    narrows _ _ _ _ _ _ _ c.value_parser.ensures c.new.ensures.start c.new.ensures.end c.range.ensures in
    (c.option.ensures.0 ∙ ap (option_rule (codes "steps")) range, c.option.ensures.1)
