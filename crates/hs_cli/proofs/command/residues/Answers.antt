use Rattle.std.proofs.Common.{◌≡◌, ◌∙◌, codes, ap, pos}
use Rattle.clap.specs.declared.builder.ValueParser.TheVariants.{Signed}
use Rattle.hs_cli.specs.Command.{option_rule}
use Rattle.hs_cli.proofs.Making.{narrows}
use Rattle.hs_cli.proofs.command.residues.Goals as goal

pub returns : goal.returns
returns c =
    let range : c.range.result ≡ Signed (pos 1) (pos 16) =
    narrows _ _ _ _ _ _ _ c.value_parser.ensures c.new.ensures.start c.new.ensures.end c.range.ensures in
    (c.option.ensures.0 ∙ ap (option_rule (codes "residues")) range, c.option.ensures.1)
