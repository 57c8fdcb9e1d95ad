use Rattle.std.proofs.Common.{◌≡◌, map}
use Rattle.std.specs.Vec.Iter.{into_iter_items, into_iter_len}
use Rattle.hs_calculus.proofs.Reading.{IsRead}
use Rattle.hs_calculus.proofs.join.join_each.Given as goal

abbrev pub invariant-loop-row : goal.invariant-loop-row
invariant-loop-row g l =
    record {
      found_is : l.found.items ≡ map ((g.C.Calculus.calculus l.c).join l.goal l.rule) (map (λ row. row.items) l.yielded);
      read : IsRead l.fn.rows.items l.yielded (into_iter_items l.row-iterator) (into_iter_len l.row-iterator);
    }
