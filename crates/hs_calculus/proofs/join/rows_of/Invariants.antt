use Rattle.std.proofs.Common.{◌≡◌, map, ◌∷◌, []}
use Rattle.std.specs.Vec.Iter.{into_iter_items, into_iter_len}
use Rattle.hs_calculus.proofs.Reading.{IsRead}
use Rattle.hs_calculus.proofs.join.rows_of.Given as goal

abbrev pub invariant-loop-proof : goal.invariant-loop-proof
invariant-loop-proof g l =
    record {
      rows_are : map (λ row. row.items) l.rows.items ≡ map (λ proof. proof ∷ []) l.yielded;
      read : IsRead l.fn.proofs.items l.yielded (into_iter_items l.proof-iterator) (into_iter_len l.proof-iterator);
    }
