use Rattle.std.proofs.Common.{rules}
use Rattle.std.proofs.lemmas.List.{append_assoc}
use Rattle.hs_print.proofs.refusal.push_refusal.Goals as goal

pub returns-in_ok-push_case-in-Unreached : goal.returns-in_ok-push_case-in-Unreached
returns-in_ok-push_case-in-Unreached c = rw c.in-Unreached.is (search (rules, append_assoc))

pub returns-in-BadType : goal.returns-in-BadType
returns-in-BadType c = rw c.in-BadType.is (search rules)

pub returns-in-ProofVersion : goal.returns-in-ProofVersion
returns-in-ProofVersion c = rw c.in-ProofVersion.is (search rules)

pub returns-in-UnknownMethod : goal.returns-in-UnknownMethod
returns-in-UnknownMethod c = rw c.in-UnknownMethod.is (search rules)
