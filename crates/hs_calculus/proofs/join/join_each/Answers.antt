use Rattle.std.proofs.Common.{◌++◌, ◌∷◌, [], map, refl, ap, ◌∙◌}
use Rattle.std.specs.Vec.Iter.{into_iter_items, into_iter_len}
use Rattle.hs_calculus.specs.Search.{MayJoin}
use Rattle.hs_calculus.proofs.Reading.{read_turn, read_here, read_all, All_at, map_pushed}
use Rattle.hs_calculus.proofs.join.join_each.Goals as goal

pub copy_goal-requires : goal.copy_goal-requires
copy_goal-requires g c =
    (All_at (MayJoin (g.C.Calculus.calculus c.args.c.now) (g.C.Calculus.is_goal c.args.c.now) c.args.goal.now c.args.rule.now) (λ row. row.items) c.args.rows.items c.loop-row.yielded (into_iter_items c.next.new.self) c.in-Some.row
    (read_here c.args.rows.items c.loop-row.yielded (into_iter_items c.loop-row.row-iterator) (into_iter_items c.next.new.self) (into_iter_len c.loop-row.row-iterator) c.in-Some.row c.loop-row.invariant.read c.in-Some.ensures.steps.0) c.requires).goal_is

pub join-requires : goal.join-requires
join-requires g c =
    rw (c.in_ok-copy.ensures, c.in_ok-copy_rule.ensures)
    (All_at (MayJoin (g.C.Calculus.calculus c.args.c.now) (g.C.Calculus.is_goal c.args.c.now) c.args.goal.now c.args.rule.now) (λ row. row.items) c.args.rows.items c.loop-row.yielded (into_iter_items c.next.new.self) c.in-Some.row
    (read_here c.args.rows.items c.loop-row.yielded (into_iter_items c.loop-row.row-iterator) (into_iter_items c.next.new.self) (into_iter_len c.loop-row.row-iterator) c.in-Some.row c.loop-row.invariant.read c.in-Some.ensures.steps.0) c.requires)

pub loop-row-preserved : goal.loop-row-preserved
loop-row-preserved g c =
    let C = g.C.Calculus.calculus c.args.c.now in
    record {
      found_is =
          map_pushed (C.join c.args.goal.now c.args.rule.now) (λ row. row.items) c.loop-row.found.items c.push.new.self.items c.loop-row.yielded (c.loop-row.yielded ++ c.in-Some.row ∷ []) c.in-Some.row c.in_ok-join.field-0
          c.loop-row.invariant.found_is c.in_ok-push.ensures.items
          (c.in_ok-join.ensures ∙ ap (λ x. C.join x c.in_ok-copy_rule.field-0 c.in-Some.row.items) c.in_ok-copy.ensures ∙ ap (λ x. C.join c.args.goal.now x c.in-Some.row.items) c.in_ok-copy_rule.ensures) refl;
      read = read_turn c.args.rows.items c.loop-row.yielded (into_iter_items c.loop-row.row-iterator) (into_iter_items c.next.new.self) (into_iter_len c.loop-row.row-iterator) (into_iter_len c.next.new.self) c.in-Some.row c.loop-row.invariant.read c.in-Some.ensures.steps;
    }

pub returns : goal.returns
returns g c =
    c.loop-row.invariant.found_is
    ∙ ap (λ rows. map ((g.C.Calculus.calculus c.args.c.now).join c.args.goal.now c.args.rule.now) (map (λ row. row.items) rows))
    (read_all c.args.rows.items c.loop-row.yielded (into_iter_items c.loop-row.row-iterator) (into_iter_len c.loop-row.row-iterator) c.loop-row.invariant.read c.in-None.ensures.steps.0)
