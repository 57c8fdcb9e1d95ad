use Rattle.std.proofs.Common.{◌≡◌, [], ◌∷◌, ◌++◌, sym, ap, ◌∙◌, SFits, rules, length}
use Rattle.std.proofs.lemmas.Int.{to_z-of_z}
use Rattle.std.specs.Int.{w128}
use Rattle.std.proofs.lemmas.Bool.{eqb-false}
use Rattle.hs_heaptext.proofs.Words.{read_stops, read_more}
use Rattle.hs_heaptext.proofs.values.values.Goals as goal

pub returns-in_default : goal.returns-in_default
returns-in_default c = read_stops c.args.text.now _ c.loop-rest.rest.now c.loop-rest.invariant (λ none. eqb-false _ 0 (sym c.is_empty.ensures ∙ c.loop-rest-test.true) (ap length none)) c.in_default.ensures

pub loop-rest-preserved : goal.loop-rest-preserved
loop-rest-preserved c =
    let fits : SFits w128 c.in-Some.value = search rules in
    let is : c.push.new.self ≡ c.loop-rest.all ++ c.in-Some.value ∷ [] = c.in_ok-push.ensures.ok ∙ ap (λ x. c.loop-rest.all ++ x ∷ []) (to_z-of_z w128 c.in-Some.value fits) in
    rw is (read_more c.args.text.now c.loop-rest.all c.loop-rest.rest.now c.in-Some.behind.now c.in-Some.value c.loop-rest.invariant c.in-Some.ensures)
