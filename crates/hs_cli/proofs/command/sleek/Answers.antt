use Rattle.std.proofs.Common.{ap, codes}
use Rattle.std.proofs.lemmas.Result.{IfOk-weaker}
use Rattle.clap.specs.Words.{App, new_app}
use Rattle.hs_cli.proofs.Making.{IsMade, added}
use Rattle.hs_cli.proofs.command.sleek.Goals as goal

pub returns : goal.returns
returns c =
    let start : IsMade c.new.result (new_app (codes "sleek")) = (c.new.ensures.app, c.new.ensures.local) in
    let with_file = added _ _ _ _ _ start c.in_ok-arg.ensures c.positional.ensures.0 c.positional.ensures.1 in
    let with_rank = added _ _ _ _ _ with_file c.in_ok-arg-2.ensures c.rank.ensures.0 c.rank.ensures.1 in
    let with_goals = added _ _ _ _ _ with_rank c.in_ok-arg-3.ensures c.goals.ensures.0 c.goals.ensures.1 in
    let with_atoms = added _ _ _ _ _ with_goals c.in_ok-arg-4.ensures c.atoms.ensures.0 c.atoms.ensures.1 in
    let with_xpure = added _ _ _ _ _ with_atoms c.in_ok-arg-5.ensures c.xpure.ensures.0 c.xpure.ensures.1 in
    IfOk-weaker c.arg-6.result _ _ (λ m adds.
    let made = added _ _ _ _ _ with_xpure adds c.residues.ensures.0 c.residues.ensures.1 in
    (ap (λ (x : App). x.top) made.0, made.1)) c.arg-6.ensures
