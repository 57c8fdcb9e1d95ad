use Rattle.std.proofs.Common.{codes, refl, true}
use Rattle.std.proofs.lemmas.Result.{IfOk-weaker}
use Rattle.clap.specs.Words.{new_app}
use Rattle.hs_cli.proofs.Making.{IsMade, added_below, settled}
use Rattle.hs_cli.proofs.command.hipsleek.Goals as goal

pub returns : goal.returns
returns c =
    let start : IsMade c.new.result (new_app (codes "hipsleek")) = (c.new.ensures.app, c.new.ensures.local) in
    let named = settled _ _ _ (λ s. record s { no_binary_name = true }) (λ f. record f { no_binary_name = true }) (λ f. refl) (λ f. refl) start c.no_binary_name.ensures in
    let required = settled _ _ _ (λ s. record s { subcommand_required = true }) (λ f. record f { subcommand_required = true }) (λ f. refl) (λ f. refl) named
    c.subcommand_required.ensures in
    let top = settled _ _ _ (λ s. record s { disable_help_subcommand = true }) (λ f. record f { disable_help_subcommand = true }) (λ f. refl) (λ f. refl) required
    c.disable_help_subcommand.ensures in
    let with_sleek = added_below _ _ _ _ _ top c.in_ok-subcommand.ensures c.in_ok-sleek.ensures.0 c.in_ok-sleek.ensures.1 in
    let with_hip = added_below _ _ _ _ _ with_sleek c.in_ok-subcommand-2.ensures c.in_ok-search.ensures.0 c.in_ok-search.ensures.1 in
    let with_prove = added_below _ _ _ _ _ with_hip c.in_ok-subcommand-3.ensures c.in_ok-search-2.ensures.0 c.in_ok-search-2.ensures.1 in
    let with_check = added_below _ _ _ _ _ with_prove c.in_ok-subcommand-4.ensures c.in_ok-check.ensures.0 c.in_ok-check.ensures.1 in
    let with_core = added_below _ _ _ _ _ with_check c.in_ok-subcommand-5.ensures c.in_ok-core.ensures.0 c.in_ok-core.ensures.1 in
    IfOk-weaker c.subcommand-6.result _ _ (λ m adds. (added_below _ _ _ _ _ with_core adds c.in_ok-run.ensures.0 c.in_ok-run.ensures.1).0) c.subcommand-6.ensures
