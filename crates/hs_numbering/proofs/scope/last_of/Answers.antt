use Rattle.hs_numbering.proofs.Scopes.{last_is_last}
use Rattle.hs_numbering.proofs.scope.last_of.Goals as goal

pub returns : goal.returns
returns c = let e = last_is_last c.args.vars.now in cc
