use Rattle.std.proofs.Common.{rules}
use Rattle.std.proofs.lemmas.List.{append_assoc}
use Rattle.hs_print.proofs.why.push_why.Goals as goal

pub returns-in-NotImplied : goal.returns-in-NotImplied
returns-in-NotImplied c = rw c.in-NotImplied.is (search (rules, append_assoc))

pub returns-in-NoChoice : goal.returns-in-NoChoice
returns-in-NoChoice c = rw c.in-NoChoice.is (search rules)

pub returns-in-Invariant : goal.returns-in-Invariant
returns-in-Invariant c = rw c.in-Invariant.is (search rules)
