use Rattle.std.proofs.Common.{rules, arith}
use Rattle.hs_cooper.proofs.Backs.{back-And, back-Or, back-one, back-wide}
use Rattle.hs_cooper.proofs.back.+back.Goals as goal

pub to_pure-returns-in_err-members-in-Joined-clause-wide : goal.to_pure-returns-in_err-members-in-Joined-clause-wide
to_pure-returns-in_err-members-in-Joined-clause-wide t c = λ h.
    back-wide c.args.f.now c.in-Joined.c c.in-Joined.fs c.in-Joined.is (rw c.as_slice.ensures at (c.in_err-members-in-Joined.ensures.wide (search rules)))

pub to_pure-returns-then-len-eq1-clause-form : goal.to_pure-returns-then-len-eq1-clause-form
to_pure-returns-then-len-eq1-clause-form t c =
    back-one c.args.f.now c.in-Joined.c c.in-Joined.fs c.in_ok-members-in-Joined.members c.remove.result c.in-Joined.is (omega arith) c.remove.ensures.item (rw c.as_slice.ensures at c.in_ok-members-in-Joined.ensures.forms)

pub to_pure-returns-in-And-clause-form : goal.to_pure-returns-in-And-clause-form
to_pure-returns-in-And-clause-form t c = back-And c.args.f.now c.in-Joined.c c.in-Joined.fs c.in_ok-members-in-Joined.members c.in-Joined.is c.in-And.is (rw c.as_slice.ensures at c.in_ok-members-in-Joined.ensures.forms)

pub to_pure-returns-in-Or-clause-form : goal.to_pure-returns-in-Or-clause-form
to_pure-returns-in-Or-clause-form t c = back-Or c.args.f.now c.in-Joined.c c.in-Joined.fs c.in_ok-members-in-Joined.members c.in-Joined.is c.in-Or.is (rw c.as_slice.ensures at c.in_ok-members-in-Joined.ensures.forms)
