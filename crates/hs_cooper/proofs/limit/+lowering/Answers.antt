use Rattle.std.proofs.Common.{◌≡◌, OnOk, subst}
use Rattle.hs_pure.specs.Eval.{stack_of}
use Rattle.hs_elimination.specs.Linear.{place}
use Rattle.hs_cooper.proofs.Searches.{limit-Joined, wide_limit-Joined}
use Rattle.hs_cooper.proofs.limit.+lowering.Goals as goal

pub lower_by-returns-in-Joined-clause-limit : goal.lower_by-returns-in-Joined-clause-limit
lower_by-returns-in-Joined-clause-limit t c =
    subst (λ a. OnOk c.lower_by_all.result (c.lower_by_all.new.least ≡ a)) (limit-Joined (stack_of c.args.v.now) (place c.args.x) c.args.f.now _ c.in-Joined.fs c.args.least.now c.in-Joined.is) (rw c.as_slice.ensures at c.lower_by_all.ensures.limit)

pub lower_by-returns-in-Joined-clause-wide : goal.lower_by-returns-in-Joined-clause-wide
lower_by-returns-in-Joined-clause-wide t c = λ h. wide_limit-Joined (stack_of c.args.v.now) (place c.args.x) c.args.f.now _ c.in-Joined.fs c.in-Joined.is (rw c.as_slice.ensures at (c.lower_by_all.ensures.wide h))
