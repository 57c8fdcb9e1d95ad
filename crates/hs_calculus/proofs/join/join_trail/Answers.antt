use Rattle.std.proofs.Common.{rules, ◌≡◌, ◌++◌, ◌∷◌, [], map, length, List, ap, sym, subst, ◌∙◌}
use Rattle.hs_calculus.specs.Search.{MayJoinEach}
use Rattle.hs_calculus.specs.Steps.{AreAlong, along}
use Rattle.hs_calculus.proofs.Lists.{no_items}
use Rattle.hs_calculus.proofs.Trails
use Rattle.hs_calculus.proofs.join.join_trail.Goals as goal

pub join_rows-requires : goal.join_rows-requires
join_rows-requires g c =
    let split : c.loop-goal.trail.items ≡ c.pop.new.self.items ++ (c.in-Some.goal, c.in-Some.rule) ∷ [] = search rules in
    subst (λ (rows : List (List g.row.C-Proof.Denot)). MayJoinEach (g.C.Calculus.calculus c.args.c.now) (g.C.Calculus.is_goal c.args.c.now) c.in-Some.goal c.in-Some.rule rows) (sym c.in_ok-rows.ensures)
    (Trails.is_taken (g.C.Calculus.calculus c.args.c.now) (g.met.C.Calculus.falls c.args.c.now) (g.C.Calculus.is_goal c.args.c.now) c.loop-goal.trail.items c.pop.new.self.items (c.in-Some.goal, c.in-Some.rule) c.loop-goal.joined.items c.loop-goal.invariant.are_along split).may

pub loop-goal-preserved : goal.loop-goal-preserved
loop-goal-preserved g c =
    let split : c.loop-goal.trail.items ≡ c.pop.new.self.items ++ (c.in-Some.goal, c.in-Some.rule) ∷ [] = search rules in
    let taken = Trails.is_taken (g.C.Calculus.calculus c.args.c.now) (g.met.C.Calculus.falls c.args.c.now) (g.C.Calculus.is_goal c.args.c.now) c.loop-goal.trail.items c.pop.new.self.items (c.in-Some.goal, c.in-Some.rule) c.loop-goal.joined.items c.loop-goal.invariant.are_along split in
    let e = Trails.joined_ones (g.C.Calculus.calculus c.args.c.now) c.in-Some.goal c.in-Some.rule c.loop-goal.joined.items (map (λ row. row.items) c.in_ok-rows.rows.items) c.in_ok-joined.joined.items c.in_ok-rows.ensures c.in_ok-joined.ensures in
    record {
      are_along = subst (λ (ps : List g.row.C-Proof.Denot). AreAlong (g.C.Calculus.calculus c.args.c.now) (g.C.Calculus.is_goal c.args.c.now) c.pop.new.self.items ps) (sym e) taken.rest;
      same = c.loop-goal.invariant.same ∙ taken.same ∙ ap (map (along (g.C.Calculus.calculus c.args.c.now) c.pop.new.self.items)) (sym e);
    }

pub returns : goal.returns
returns g c =
    let zero : length c.loop-goal.trail.items ≡ 0 = search rules in
    sym (c.loop-goal.invariant.same ∙ Trails.along-none (g.C.Calculus.calculus c.args.c.now) c.loop-goal.trail.items c.loop-goal.joined.items (no_items c.loop-goal.trail.items zero))
