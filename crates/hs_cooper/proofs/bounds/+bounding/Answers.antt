use Rattle.std.proofs.Common.{subst, rules, ◌≡◌, ◌<◌, length, OnOk, List}
use Rattle.hs_pure.specs.declared.lin.Lin.{Lin}
use Rattle.hs_elimination.specs.Linear.{place}
use Rattle.hs_cooper.proofs.Joining.{join-Joined, join_stops}
use Rattle.hs_cooper.proofs.bounds.+bounding.Goals as goal

pub join_all_bounds-returns-in_err-join_bounds-clause-over : goal.join_all_bounds-returns-in_err-join_bounds-clause-over
join_all_bounds-returns-in_err-join_bounds-clause-over t c = λ h.
    join_stops (place c.args.x) c.loop-f.done _ c.args.fs.now c.loop-f.f-index c.args.limit c.f-item.result c.loop-f-test.true c.f-item.is c.loop-f.invariant (c.in_err-join_bounds.ensures.over (search rules))

pub join_bounds-returns-in-Joined-clause-list : goal.join_bounds-returns-in-Joined-clause-list
join_bounds-returns-in-Joined-clause-list t c =
    subst (λ l. OnOk c.join_all_bounds.result (c.join_all_bounds.new.done ≡ l)) (join-Joined (place c.args.x) c.args.done.now c.args.f.now _ c.in-Joined.fs c.in-Joined.is) (rw c.as_slice.ensures at c.join_all_bounds.ensures.list)

pub join_bounds-returns-in-Joined-clause-over : goal.join_bounds-returns-in-Joined-clause-over
join_bounds-returns-in-Joined-clause-over t c = λ h.
    subst (λ (l : List Lin). c.args.limit < length l) (join-Joined (place c.args.x) c.args.done.now c.args.f.now _ c.in-Joined.fs c.in-Joined.is) ((rw c.as_slice.ensures at c.join_all_bounds.ensures.over) h)
