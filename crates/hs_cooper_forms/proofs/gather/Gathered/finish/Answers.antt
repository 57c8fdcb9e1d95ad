use Rattle.std.proofs.Common.{arith, rules}
use Rattle.hs_cooper_forms.proofs.Forms.{canonical_whole}
use Rattle.hs_cooper_forms.proofs.gather.Gathered.finish.Goals as goal

pub returns-in_default-clause-canonical : goal.returns-in_default-clause-canonical
returns-in_default-clause-canonical c = canonical_whole c.args.self.connective c.args.self.members (omega arith) (search rules)
