use Rattle.std.proofs.Common.{◌∷◌, [], map, ap, ◌∙◌}
use Rattle.std.specs.Vec.Iter.{into_iter_items, into_iter_len}
use Rattle.hs_calculus.proofs.Reading.{read_turn, read_all, row_pushed}
use Rattle.hs_calculus.proofs.join.rows_of.Goals as goal

pub loop-proof-preserved : goal.loop-proof-preserved
loop-proof-preserved g c =
    record {
      rows_are =
          row_pushed (λ row. row.items) c.loop-proof.rows.items c.push-in-loop-proof.new.self.items c.push.new.self c.loop-proof.yielded c.new-row.result.items c.in-Some.proof
          c.loop-proof.invariant.rows_are c.in_ok-push-2.ensures.items c.in_ok-push.ensures.items c.new-row.ensures.items;
      read = read_turn c.args.proofs.items c.loop-proof.yielded (into_iter_items c.loop-proof.proof-iterator) (into_iter_items c.next.new.self) (into_iter_len c.loop-proof.proof-iterator) (into_iter_len c.next.new.self) c.in-Some.proof c.loop-proof.invariant.read c.in-Some.ensures.steps;
    }

pub returns : goal.returns
returns g c =
    c.loop-proof.invariant.rows_are
    ∙ ap (map (λ proof. proof ∷ [])) (read_all c.args.proofs.items c.loop-proof.yielded (into_iter_items c.loop-proof.proof-iterator) (into_iter_len c.loop-proof.proof-iterator) c.loop-proof.invariant.read c.in-None.ensures.steps.0)
