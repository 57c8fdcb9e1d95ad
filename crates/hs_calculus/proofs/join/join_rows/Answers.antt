use Rattle.std.proofs.Common.{rules, ◌≡◌, ◌++◌, ◌∷◌, []}
use Rattle.hs_calculus.specs.Search.{MayJoin}
use Rattle.hs_calculus.proofs.Reading.{All_at, All_before, map_pushed}
use Rattle.hs_calculus.proofs.join.join_rows.Goals as goal

pub join_each-requires : goal.join_each-requires
join_each-requires g c =
    let split : c.args.rows.items ≡ c.pop.new.self.items ++ c.in-Some.last ∷ [] = search rules in
    All_before (MayJoin (g.C.Calculus.calculus c.args.c.now) (g.C.Calculus.is_goal c.args.c.now) c.args.goal c.args.rule) (λ row. row.items) c.args.rows.items c.pop.new.self.items c.in-Some.last split c.requires

pub join-requires : goal.join-requires
join-requires g c =
    let split : c.args.rows.items ≡ c.pop.new.self.items ++ c.in-Some.last ∷ [] = search rules in
    All_at (MayJoin (g.C.Calculus.calculus c.args.c.now) (g.C.Calculus.is_goal c.args.c.now) c.args.goal c.args.rule) (λ row. row.items) c.args.rows.items c.pop.new.self.items [] c.in-Some.last split c.requires

pub returns : goal.returns
returns g c =
    let split : c.args.rows.items ≡ c.pop.new.self.items ++ c.in-Some.last ∷ [] = search rules in
    map_pushed ((g.C.Calculus.calculus c.args.c.now).join c.args.goal c.args.rule) (λ row. row.items) c.in_ok-found.found.items c.push.new.self.items c.pop.new.self.items c.args.rows.items c.in-Some.last c.in_ok-join.field-0
    c.in_ok-found.ensures c.in_ok-push.ensures.items c.in_ok-join.ensures split
