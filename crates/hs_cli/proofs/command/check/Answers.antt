use Rattle.std.proofs.Common.{ap, codes}
use Rattle.std.proofs.lemmas.Result.{IfOk-weaker}
use Rattle.clap.specs.Words.{App, new_app}
use Rattle.hs_cli.proofs.Making.{IsMade, added}
use Rattle.hs_cli.proofs.command.check.Goals as goal

pub returns : goal.returns
returns c =
    let start : IsMade c.new.result (new_app (codes "check")) = (c.new.ensures.app, c.new.ensures.local) in
    let with_file = added _ _ _ _ _ start c.in_ok-arg.ensures c.positional.ensures.0 c.positional.ensures.1 in
    let with_derivation = added _ _ _ _ _ with_file c.in_ok-arg-2.ensures c.positional-2.ensures.0 c.positional-2.ensures.1 in
    let with_atoms = added _ _ _ _ _ with_derivation c.in_ok-arg-3.ensures c.atoms.ensures.0 c.atoms.ensures.1 in
    IfOk-weaker c.arg-4.result _ _ (λ m adds.
    let made = added _ _ _ _ _ with_atoms adds c.pieces.ensures.0 c.pieces.ensures.1 in
    (ap (λ (x : App). x.top) made.0, made.1)) c.arg-4.ensures
