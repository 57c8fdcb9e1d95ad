use Rattle.std.proofs.Common.{rules, ◌≡◌, List, length, map, subst, IfOk, ◌∙◌}
use Rattle.std.proofs.lemmas.List.{length-map}
use Rattle.hs_calculus.proofs.Lists.{one_extended}
use Rattle.hs_calculus.proofs.extend.extend_each.Goals as goal

pub returns-then-len-eq1-2 : goal.returns-then-len-eq1-2
returns-then-len-eq1-2 g c =
    let one : length c.args.rows.items ≡ 1 = search rules in
    let found : length c.args.found.items ≡ 1 = search rules in
    subst (λ (rows : List (List g.row.C-Proof.Denot)). IfOk c.extend_one.result (λ longer. map (λ row. row.items) longer.items ≡ rows))
    (one_extended c.args.wanted (map (λ row. row.items) c.args.rows.items) c.args.found.items (length-map c.args.rows.items (λ row. row.items) ∙ one) found c.requires) c.extend_one.ensures
