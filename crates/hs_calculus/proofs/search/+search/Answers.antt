use Rattle.std.proofs.Common.{rules, arith, ◌≡◌, ◌<◌, ◌≤◌, ◌+◌, ◌-◌, false, map, [], ◌∷◌, ◌++◌, length, List, refl, sym, ap, subst, ◌∙◌, inl, append_assoc, IfSome, MatchOption, vec_len}
use Rattle.std.specs.Bool.{⊤}
use Rattle.std.specs.List.{flat_map, Contains, AllByRecursion}
use Rattle.std.specs.Vec.Iter.{into_iter_items, into_iter_len}
use Rattle.std.proofs.lemmas.Result.{err_from_is_err_and, MatchResult-weaker}
use Rattle.hs_calculus.specs.Search.{derivations, places, places_by, one_of_each}
use Rattle.hs_calculus.specs.Progress.{Searched, Stops, uncounted}
use Rattle.hs_calculus.specs.Steps.{IsBelow, IsBelowFirst, IsFork, along}
use Rattle.hs_calculus.specs.Blame.{IsBlame, BlamedBy, BlamedAmong}
use Rattle.hs_calculus.specs.Blame.IsBlame.{Stuck}
use Rattle.hs_calculus.specs.declared.budget.Budget.{Budget}
use Rattle.hs_calculus.proofs.Progresses.{Stops-halt}
use Rattle.hs_calculus.proofs.Reading.{read_here, read_turn, read_all, contains_here}
use Rattle.hs_calculus.proofs.Lists
use Rattle.hs_calculus.proofs.Searches
use Rattle.hs_calculus.proofs.Blames
use Rattle.hs_calculus.proofs.Trails
use Rattle.hs_calculus.proofs.search.+search.Goals as goal

pub search-returns-in_err-trail-clause-answer : goal.search-returns-in_err-trail-clause-answer
search-returns-in_err-trail-clause-answer g t c =
    let p = err_from_is_err_and c.from_residual.result c.from_residual.ensures.1 in
    rw (p.1, p.2) c.in_err-trail.ensures

pub search-search_choices-requires : goal.search-search_choices-requires
search-search_choices-requires g t c κs within =
    let d = c.in_ok-trail.ensures in
    let fork = subst (λ f. IsFork (g.C.Calculus.calculus c.args.c.now) (g.C.Calculus.is_goal c.args.c.now) (g.C.Calculus.is_stuck c.args.c.now) (g.C.Calculus.is_refuted c.args.c.now) c.in_ok-trail.field-0.place f) c.in-Choices.is d.fork_is in
    let less : c.descend.new.budget.left < c.args.state.now.budget.left = omega (arith, d.counted) in
    let goal_is = d.goal_is in
    let choices = fork.0 in
    let first = fork.1 in
    search rules

pub search-returns-in_err-first-in-Choices-clause-answer : goal.search-returns-in_err-first-in-Choices-clause-answer
search-returns-in_err-first-in-Choices-clause-answer g t c =
    let p = err_from_is_err_and c.from_residual-in_err-first-in-Choices.result c.from_residual-in_err-first-in-Choices.ensures.1 in
    rw (p.1, p.2)
    (Trails.stops_along (g.C.Calculus.calculus c.args.c.now) (g.met.C.Calculus.falls c.args.c.now) (g.C.Calculus.is_goal c.args.c.now) (g.C.Calculus.is_spent c.args.c.now) c.args.place c.in_ok-trail.field-0.trail.items c.in_ok-trail.field-0.place c.args.state.now.budget.left (c.descend.new.budget.left + 1) _
    c.in_ok-trail.ensures.leads c.in_ok-trail.ensures.counted c.in_err-first-in-Choices.ensures.answer)

pub search-join_trail-requires : goal.search-join_trail-requires
search-join_trail-requires g t c =
    Trails.found_are_along (g.C.Calculus.calculus c.args.c.now) (g.met.C.Calculus.falls c.args.c.now) (g.C.Calculus.is_goal c.args.c.now) c.args.place c.in_ok-trail.field-0.trail.items c.in_ok-trail.field-0.place c.args.wanted c.in_ok-first-in-Choices.field-0.first.items
    c.in_ok-trail.ensures.leads c.in_ok-first-in-Choices.ensures.answer.first

pub search-returns-in_err-first-in-Choices-2-clause-answer : goal.search-returns-in_err-first-in-Choices-2-clause-answer
search-returns-in_err-first-in-Choices-2-clause-answer g t c =
    let p = err_from_is_err_and c.from_residual-in_err-first-in-Choices-2.result c.from_residual-in_err-first-in-Choices-2.ensures.1 in
    rw (p.1, p.2) tt

pub search-returns-in-Stuck-clause-fewer : goal.search-returns-in-Stuck-clause-fewer
search-returns-in-Stuck-clause-fewer g t c =
    omega (arith, c.in_ok-trail.ensures.counted)

pub search-returns-in-Stuck-clause-answer : goal.search-returns-in-Stuck-clause-answer
search-returns-in-Stuck-clause-answer g t c =
    let d = c.in_ok-trail.ensures in
    let stuck = subst (λ f. IsFork (g.C.Calculus.calculus c.args.c.now) (g.C.Calculus.is_goal c.args.c.now) (g.C.Calculus.is_stuck c.args.c.now) (g.C.Calculus.is_refuted c.args.c.now) c.in_ok-trail.field-0.place f) c.in-Stuck.is d.fork_is in
    Trails.searched_along (g.C.Calculus.calculus c.args.c.now) (g.met.C.Calculus.falls c.args.c.now) (g.C.Calculus.is_goal c.args.c.now) c.args.place c.in_ok-trail.field-0.trail.items c.in_ok-trail.field-0.place c.args.wanted c.args.state.now.budget c.descend.new.budget c.descend.new.budget [] c.new.result.items
    d.leads d.counted d.cut
    (Searches.rules_done (g.C.Calculus.calculus c.args.c.now) (g.met.C.Calculus.falls c.args.c.now) c.in_ok-trail.field-0.place c.args.wanted (uncounted c.descend.new.budget) c.descend.new.budget [] [] (sym stuck.0) (Searches.rules_init (g.C.Calculus.calculus c.args.c.now) c.in_ok-trail.field-0.place c.args.wanted c.descend.new.budget))
    c.new.ensures.items

pub search-returns-in-Stuck-clause-blame : goal.search-returns-in-Stuck-clause-blame
search-returns-in-Stuck-clause-blame g t c =
    let d = c.in_ok-trail.ensures in
    let stuck = subst (λ f. IsFork (g.C.Calculus.calculus c.args.c.now) (g.C.Calculus.is_goal c.args.c.now) (g.C.Calculus.is_stuck c.args.c.now) (g.C.Calculus.is_refuted c.args.c.now) c.in_ok-trail.field-0.place f) c.in-Stuck.is d.fork_is in
    λ none uncut.
    Trails.leads_blame (g.C.Calculus.calculus c.args.c.now) (g.met.C.Calculus.falls c.args.c.now) (g.C.Calculus.is_goal c.args.c.now) (g.C.Calculus.is_stuck c.args.c.now) (g.C.Calculus.is_refuted c.args.c.now) c.in-Stuck.obligation c.args.place c.in_ok-trail.field-0.trail.items c.in_ok-trail.field-0.place d.leads
    (Trails.none_at_stuck (g.C.Calculus.calculus c.args.c.now) (g.met.C.Calculus.falls c.args.c.now) c.in_ok-trail.field-0.place.goal stuck.0) (Stuck stuck.0 stuck.1)

pub search-returns-in_ok-first-in-Choices-2-clause-fewer : goal.search-returns-in_ok-first-in-Choices-2-clause-fewer
search-returns-in_ok-first-in-Choices-2-clause-fewer g t c =
    omega (arith, c.in_ok-trail.ensures.counted, c.in_ok-first-in-Choices.ensures.fewer)

pub search-returns-in_ok-first-in-Choices-2-clause-answer : goal.search-returns-in_ok-first-in-Choices-2-clause-answer
search-returns-in_ok-first-in-Choices-2-clause-answer g t c =
    let d = c.in_ok-trail.ensures in
    Trails.searched_along (g.C.Calculus.calculus c.args.c.now) (g.met.C.Calculus.falls c.args.c.now) (g.C.Calculus.is_goal c.args.c.now) c.args.place c.in_ok-trail.field-0.trail.items c.in_ok-trail.field-0.place c.args.wanted c.args.state.now.budget c.descend.new.budget c.search_choices.new.state.budget
    c.in_ok-first-in-Choices.field-0.first.items c.in_ok-first-in-Choices-2.first.items d.leads d.counted d.cut c.in_ok-first-in-Choices.ensures.answer c.in_ok-first-in-Choices-2.ensures

pub search-returns-in_ok-first-in-Choices-2-clause-blame : goal.search-returns-in_ok-first-in-Choices-2-clause-blame
search-returns-in_ok-first-in-Choices-2-clause-blame g t c =
    let d = c.in_ok-trail.ensures in
    λ none uncut.
    let empty = Lists.map_empty (along (g.C.Calculus.calculus c.args.c.now) c.in_ok-trail.field-0.trail.items) c.in_ok-first-in-Choices.field-0.first.items (sym c.in_ok-first-in-Choices-2.ensures ∙ none) in
    Blames.match_weaker (IsBlame (g.C.Calculus.calculus c.args.c.now) (g.C.Calculus.is_stuck c.args.c.now) (g.C.Calculus.is_refuted c.args.c.now) c.in_ok-trail.field-0.place.goal) (IsBlame (g.C.Calculus.calculus c.args.c.now) (g.C.Calculus.is_stuck c.args.c.now) (g.C.Calculus.is_refuted c.args.c.now) c.args.place.goal) c.in_ok-first-in-Choices.field-0.blame
    (λ o blame. Trails.leads_blame (g.C.Calculus.calculus c.args.c.now) (g.met.C.Calculus.falls c.args.c.now) (g.C.Calculus.is_goal c.args.c.now) (g.C.Calculus.is_stuck c.args.c.now) (g.C.Calculus.is_refuted c.args.c.now) o c.args.place c.in_ok-trail.field-0.trail.items c.in_ok-trail.field-0.place d.leads (c.in_ok-first-in-Choices.ensures.answer.empty empty uncut) blame)
    (c.in_ok-first-in-Choices.ensures.blame empty uncut)

pub search_by-returns-in_err-opened-clause-answer : goal.search_by-returns-in_err-opened-clause-answer
search_by-returns-in_err-opened-clause-answer g t c =
    let p = err_from_is_err_and c.from_residual.result c.from_residual.ensures.1 in
    rw (p.1, p.2)
    (Stops-halt (g.C.Calculus.is_spent c.args.c.now) c.args.place.now (places_by (g.C.Calculus.calculus c.args.c.now) c.args.place.now.rank c.args.place.now.goal c.args.rule.now) (c.args.state.now.budget.left + 1) _ c.in_err-opened.ensures.err)

pub search_by-search_each-requires : goal.search_by-search_each-requires
search_by-search_each-requires g t c κs within =
    let b = subst (λ b. IsBelow (g.C.Calculus.calculus c.args.c.now) (g.C.Calculus.is_goal c.args.c.now) (g.C.Calculus.is_refuted c.args.c.now) c.args.place.now c.args.rule.now b) c.in-Goals.is c.in_ok-opened.ensures.ok in
    let goals_are = b.3 in
    search rules

pub search_by-returns-in-Cut-clause-answer : goal.search_by-returns-in-Cut-clause-answer
search_by-returns-in-Cut-clause-answer g t c =
    let b = subst (λ b. IsBelow (g.C.Calculus.calculus c.args.c.now) (g.C.Calculus.is_goal c.args.c.now) (g.C.Calculus.is_refuted c.args.c.now) c.args.place.now c.args.rule.now b) c.in-Cut.is c.in_ok-opened.ensures.ok in
    rw c.new.ensures.items (Searches.by_unpaid (g.C.Calculus.calculus c.args.c.now) c.args.place.now c.args.rule.now c.args.wanted c.args.state.now.budget b c.requires.choice)

pub search_by-returns-in-Refuted-clause-answer : goal.search_by-returns-in-Refuted-clause-answer
search_by-returns-in-Refuted-clause-answer g t c =
    let b = subst (λ b. IsBelow (g.C.Calculus.calculus c.args.c.now) (g.C.Calculus.is_goal c.args.c.now) (g.C.Calculus.is_refuted c.args.c.now) c.args.place.now c.args.rule.now b) c.in-Refuted.is c.in_ok-opened.ensures.ok in
    rw c.new-in-Refuted.ensures.items (Searches.by_false (g.C.Calculus.calculus c.args.c.now) c.args.place.now c.args.rule.now c.args.wanted c.args.state.now.budget b.0)

pub search_by-returns-in-Refuted-clause-blame : goal.search_by-returns-in-Refuted-clause-blame
search_by-returns-in-Refuted-clause-blame g t c =
    let b = subst (λ b. IsBelow (g.C.Calculus.calculus c.args.c.now) (g.C.Calculus.is_goal c.args.c.now) (g.C.Calculus.is_refuted c.args.c.now) c.args.place.now c.args.rule.now b) c.in-Refuted.is c.in_ok-opened.ensures.ok in
    λ none uncut. inl b.1

pub search_by-returns-in-Goals-clause-fewer : goal.search_by-returns-in-Goals-clause-fewer
search_by-returns-in-Goals-clause-fewer g t c =
    c.search_each.ensures.fewer

pub search_by-returns-in-Goals-clause-answer : goal.search_by-returns-in-Goals-clause-answer
search_by-returns-in-Goals-clause-answer g t c =
    let b = subst (λ b. IsBelow (g.C.Calculus.calculus c.args.c.now) (g.C.Calculus.is_goal c.args.c.now) (g.C.Calculus.is_refuted c.args.c.now) c.args.place.now c.args.rule.now b) c.in-Goals.is c.in_ok-opened.ensures.ok in
    MatchResult-weaker c.search_each.result
    {P = λ rows. Searched (g.C.Calculus.calculus c.args.c.now) (flat_map (places (g.C.Calculus.calculus c.args.c.now) c.in-Goals.left) c.in-Goals.goals.items) (λ r. one_of_each (map (derivations (g.C.Calculus.calculus c.args.c.now) r) c.in-Goals.goals.items)) c.in-Goals.left c.args.wanted c.args.state.now.budget c.search_each.new.state.budget (map (λ row. row.items) rows.first.items)}
    {P' = λ rows. Searches.SearchedBy (g.C.Calculus.calculus c.args.c.now) c.args.place.now c.args.rule.now c.args.wanted (uncounted c.args.state.now.budget) c.search_each.new.state.budget (map (λ row. row.items) rows.first.items)}
    {Q = Stops (g.C.Calculus.is_spent c.args.c.now) (flat_map (places (g.C.Calculus.calculus c.args.c.now) c.in-Goals.left) c.in-Goals.goals.items) c.args.state.now.budget.left}
    {Q' = Stops (g.C.Calculus.is_spent c.args.c.now) (c.args.place.now ∷ places_by (g.C.Calculus.calculus c.args.c.now) c.args.place.now.rank c.args.place.now.goal c.args.rule.now) (c.args.state.now.budget.left + 1)}
    c.search_each.ensures.answer
    (λ rows h. Searches.by_rows (g.C.Calculus.calculus c.args.c.now) c.args.place.now c.args.rule.now c.in-Goals.left c.args.wanted c.args.state.now.budget c.search_each.new.state.budget (map (λ row. row.items) rows.first.items) c.in-Goals.goals.items b.0 b.2 b.1 h)
    (λ stop h. Searches.stops_at_each (g.C.Calculus.calculus c.args.c.now) (g.C.Calculus.is_spent c.args.c.now) c.args.place.now c.args.rule.now c.in-Goals.left c.args.state.now.budget.left c.in-Goals.goals.items stop b.0 b.2 h)

pub search_by-returns-in-Goals-clause-blame : goal.search_by-returns-in-Goals-clause-blame
search_by-returns-in-Goals-clause-blame g t c =
    let b = subst (λ b. IsBelow (g.C.Calculus.calculus c.args.c.now) (g.C.Calculus.is_goal c.args.c.now) (g.C.Calculus.is_refuted c.args.c.now) c.args.place.now c.args.rule.now b) c.in-Goals.is c.in_ok-opened.ensures.ok in
    MatchResult-weaker c.search_each.result
    {P = λ rows. rows.first.items ≡ [] → c.search_each.new.state.budget.is_cut ≡ false → MatchOption rows.blame ⊥ (BlamedAmong (g.C.Calculus.calculus c.args.c.now) (g.C.Calculus.is_stuck c.args.c.now) (g.C.Calculus.is_refuted c.args.c.now) c.in-Goals.goals.items)}
    {P' = λ rows. rows.first.items ≡ [] → c.search_each.new.state.budget.is_cut ≡ false → MatchOption rows.blame ⊥ (BlamedBy (g.C.Calculus.calculus c.args.c.now) (g.C.Calculus.is_stuck c.args.c.now) (g.C.Calculus.is_refuted c.args.c.now) c.args.place.now.goal c.args.rule.now)}
    {Q = λ stop. ⊤} {Q' = λ stop. ⊤}
    c.search_each.ensures.blame
    (λ rows h. Blames.by_subgoals (g.C.Calculus.calculus c.args.c.now) (g.C.Calculus.is_stuck c.args.c.now) (g.C.Calculus.is_refuted c.args.c.now) c.args.place.now.goal c.args.rule.now c.in-Goals.goals.items rows.first.items c.search_each.new.state.budget rows.blame b.2 h)
    (λ stop h. h)

pub search_choices-loop-rule-init : goal.search_choices-loop-rule-init
search_choices-loop-rule-init g t c =
    let gives = c.into_iter-rule-iterator.ensures.into_iter_gives in
    let n : length c.new-found.result.items ≡ 0 = ap length c.new-found.ensures.items in
    let m : length (into_iter_items c.into_iter-rule-iterator.result) ≡ length c.args.choices.items = ap length gives.0 in
    let v : vec_len c.args.choices ≡ length c.args.choices.items = search rules in
    record {
      fewer = omega arith;
      read = record { split = sym gives.0; len = gives.1 ∙ v ∙ sym m };
      searched = rw c.new-found.ensures.items (Searches.rules_init (g.C.Calculus.calculus c.args.c.now) c.args.place c.args.wanted c.args.state.now.budget);
      room = omega (arith, n, c.requires.wanted);
      first_is = subst (λ (rules : List g.row.C-Rule.Denot). IsBelowFirst (g.C.Calculus.calculus c.args.c.now) (g.C.Calculus.is_goal c.args.c.now) (g.C.Calculus.is_refuted c.args.c.now) c.args.place rules c.args.below) (sym gives.0) c.requires.below;
      blamed = refl;
    }

pub search_choices-returns-in_err-enter-clause-answer : goal.search_choices-returns-in_err-enter-clause-answer
search_choices-returns-in_err-enter-clause-answer g t c =
    let p = err_from_is_err_and c.from_residual.result c.from_residual.ensures.1 in
    rw (p.1, p.2) tt

pub search_choices-overflow_sub-room : goal.search_choices-overflow_sub-room
search_choices-overflow_sub-room g t c =
    let n : c.len.result ≡ length c.loop-rule.found.items = search rules in
    omega (arith, n, c.loop-rule.invariant.room)

pub search_choices-search_by-requires : goal.search_choices-search_by-requires
search_choices-search_by-requires g t c κs within =
    let n : c.len.result ≡ length c.loop-rule.found.items = search rules in
    let some : 0 < c.args.wanted - c.len.result = omega (arith, n, c.loop-rule.invariant.room) in
    let split = read_here c.args.choices.items c.loop-rule.yielded (into_iter_items c.loop-rule.rule-iterator) (into_iter_items c.next.new.self) (into_iter_len c.loop-rule.rule-iterator) c.in-Some.rule c.loop-rule.invariant.read c.in-Some.ensures.steps.0 in
    let choice : Contains ((g.C.Calculus.calculus c.args.c.now).choices c.args.place.goal) c.in-Some.rule = contains_here c.args.choices.items ((g.C.Calculus.calculus c.args.c.now).choices c.args.place.goal) c.loop-rule.yielded (into_iter_items c.next.new.self) c.in-Some.rule split c.requires.choices in
    let here : IfSome c.loop-rule.below (IsBelow (g.C.Calculus.calculus c.args.c.now) (g.C.Calculus.is_goal c.args.c.now) (g.C.Calculus.is_refuted c.args.c.now) c.args.place c.in-Some.rule) =
    subst (λ (rules : List g.row.C-Rule.Denot). IfSome c.loop-rule.below (λ b. IsBelowFirst (g.C.Calculus.calculus c.args.c.now) (g.C.Calculus.is_goal c.args.c.now) (g.C.Calculus.is_refuted c.args.c.now) c.args.place rules b)) c.in-Some.ensures.steps.0 c.loop-rule.invariant.first_is in
    let first : MatchOption c.take.result ⊤ (IsBelow (g.C.Calculus.calculus c.args.c.now) (g.C.Calculus.is_goal c.args.c.now) (g.C.Calculus.is_refuted c.args.c.now) c.args.place c.in-Some.rule) =
    subst (λ o. IfSome o (IsBelow (g.C.Calculus.calculus c.args.c.now) (g.C.Calculus.is_goal c.args.c.now) (g.C.Calculus.is_refuted c.args.c.now) c.args.place c.in-Some.rule)) (sym c.take.ensures.value) here in
    let less : c.enter.new.self.budget.left ≤ c.args.state.now.budget.left = subst (λ (b : Budget). b.left ≤ c.args.state.now.budget.left) (sym c.enter.ensures) c.loop-rule.invariant.fewer in
    search rules

pub search_choices-returns-in_err-rows-clause-answer : goal.search_choices-returns-in_err-rows-clause-answer
search_choices-returns-in_err-rows-clause-answer g t c =
    let p = err_from_is_err_and c.from_residual-in_err-rows.result c.from_residual-in_err-rows.ensures.1 in
    rw (p.1, p.2)
    (Searches.stops_at_rule (g.C.Calculus.calculus c.args.c.now) (g.C.Calculus.is_spent c.args.c.now) (g.met.C.Calculus.falls c.args.c.now) c.args.place c.args.wanted (uncounted c.args.state.now.budget) c.enter.new.self.budget c.loop-rule.found.items c.args.choices.items c.loop-rule.yielded (into_iter_items c.next.new.self) c.in-Some.rule _
    (subst (λ (b : Budget). Searches.SearchedRules (g.C.Calculus.calculus c.args.c.now) c.args.place c.args.wanted (uncounted c.args.state.now.budget) b c.loop-rule.found.items c.loop-rule.yielded) (sym c.enter.ensures) c.loop-rule.invariant.searched) c.in_err-rows.ensures.answer (read_here c.args.choices.items c.loop-rule.yielded (into_iter_items c.loop-rule.rule-iterator) (into_iter_items c.next.new.self) (into_iter_len c.loop-rule.rule-iterator) c.in-Some.rule c.loop-rule.invariant.read c.in-Some.ensures.steps.0) c.requires.choices)

pub search_choices-join_rows-requires : goal.search_choices-join_rows-requires
search_choices-join_rows-requires g t c =
    let split = read_here c.args.choices.items c.loop-rule.yielded (into_iter_items c.loop-rule.rule-iterator) (into_iter_items c.next.new.self) (into_iter_len c.loop-rule.rule-iterator) c.in-Some.rule c.loop-rule.invariant.read c.in-Some.ensures.steps.0 in
    Trails.rows_may_join (g.C.Calculus.calculus c.args.c.now) (g.C.Calculus.is_goal c.args.c.now) c.args.place.rank (c.args.wanted - c.len.result) c.args.place.goal c.in-Some.rule (map (λ row. row.items) c.in_ok-rows.rows.first.items) c.requires.goal (contains_here c.args.choices.items ((g.C.Calculus.calculus c.args.c.now).choices c.args.place.goal) c.loop-rule.yielded (into_iter_items c.next.new.self) c.in-Some.rule split c.requires.choices) c.in_ok-rows.ensures.answer.first

pub search_choices-join_copies-requires-clause-each : goal.search_choices-join_copies-requires-clause-each
search_choices-join_copies-requires-clause-each g t c =
    let split = read_here c.args.choices.items c.loop-rule.yielded (into_iter_items c.loop-rule.rule-iterator) (into_iter_items c.next.new.self) (into_iter_len c.loop-rule.rule-iterator) c.in-Some.rule c.loop-rule.invariant.read c.in-Some.ensures.steps.0 in
    Trails.rows_may_join (g.C.Calculus.calculus c.args.c.now) (g.C.Calculus.is_goal c.args.c.now) c.args.place.rank (c.args.wanted - c.len.result) c.args.place.goal c.in-Some.rule (map (λ row. row.items) c.in_ok-rows.rows.first.items) c.requires.goal (contains_here c.args.choices.items ((g.C.Calculus.calculus c.args.c.now).choices c.args.place.goal) c.loop-rule.yielded (into_iter_items c.next.new.self) c.in-Some.rule split c.requires.choices) c.in_ok-rows.ensures.answer.first

pub search_choices-returns-in_err-more-clause-answer : goal.search_choices-returns-in_err-more-clause-answer
search_choices-returns-in_err-more-clause-answer g t c =
    let p = err_from_is_err_and c.from_residual-in_err-more.result c.from_residual-in_err-more.ensures.1 in
    rw (p.1, p.2) tt

pub search_choices-returns-in_err-first-clause-answer : goal.search_choices-returns-in_err-first-clause-answer
search_choices-returns-in_err-first-clause-answer g t c =
    let p = err_from_is_err_and c.from_residual-in_err-first.result c.from_residual-in_err-first.ensures.1 in
    rw (p.1, p.2) tt

pub search_choices-returns-in_err-more-2-clause-answer : goal.search_choices-returns-in_err-more-2-clause-answer
search_choices-returns-in_err-more-2-clause-answer g t c =
    let p = err_from_is_err_and c.from_residual-in_err-more-2.result c.from_residual-in_err-more-2.ensures.1 in
    rw (p.1, p.2) tt

pub search_choices-returns-in_err-found-clause-answer : goal.search_choices-returns-in_err-found-clause-answer
search_choices-returns-in_err-found-clause-answer g t c =
    let p = err_from_is_err_and c.from_residual-in_err-found.result c.from_residual-in_err-found.ensures.1 in
    rw (p.1, p.2) tt

pub search_choices-returns-then-len-room-clause-fewer : goal.search_choices-returns-then-len-room-clause-fewer
search_choices-returns-then-len-room-clause-fewer g t c =
    let kept : c.leave.new.self.budget.left ≡ c.search_by.new.state.budget.left = ap (λ (b : Budget). b.left) c.leave.ensures in
    let same : c.enter.new.self.budget.left ≡ c.loop-rule.state.budget.left = ap (λ (b : Budget). b.left) c.enter.ensures in
    omega (arith, kept, same, c.in_ok-rows.ensures.fewer, c.loop-rule.invariant.fewer)

pub search_choices-returns-then-len-room-clause-answer : goal.search_choices-returns-then-len-room-clause-answer
search_choices-returns-then-len-room-clause-answer g t c =
    let n : c.len.result ≡ length c.loop-rule.found.items = search rules in
    let room : c.args.wanted - c.len.result ≤ length c.in_ok-rows.rows.first.items = search rules in
    let full = Lists.enough ((g.C.Calculus.calculus c.args.c.now).join c.args.place.goal c.in-Some.rule) (λ row. row.items) c.args.wanted c.len.result c.loop-rule.found.items c.in_ok-more.more.items c.in_ok-first.first.items c.in_ok-rows.rows.first.items room n c.in_ok-more.ensures c.in_ok-first.ensures in
    Searches.rules_enough (g.C.Calculus.calculus c.args.c.now) (g.met.C.Calculus.falls c.args.c.now) c.args.place c.args.wanted (uncounted c.args.state.now.budget) c.leave.new.self.budget c.in_ok-first.first.items c.args.choices.items c.loop-rule.yielded (into_iter_items c.next.new.self) c.in-Some.rule
    (Searches.rules_more (g.C.Calculus.calculus c.args.c.now) c.args.place c.args.wanted c.len.result (uncounted c.args.state.now.budget) c.enter.new.self.budget c.search_by.new.state.budget c.leave.new.self.budget
    c.loop-rule.found.items c.in_ok-more.more.items c.in_ok-first.first.items (map (λ row. row.items) c.in_ok-rows.rows.first.items) c.loop-rule.yielded c.in-Some.rule
    (subst (λ (b : Budget). Searches.SearchedRules (g.C.Calculus.calculus c.args.c.now) c.args.place c.args.wanted (uncounted c.args.state.now.budget) b c.loop-rule.found.items c.loop-rule.yielded) (sym c.enter.ensures) c.loop-rule.invariant.searched) c.in_ok-rows.ensures.answer n c.in_ok-more.ensures c.in_ok-first.ensures c.leave.ensures)
    (read_here c.args.choices.items c.loop-rule.yielded (into_iter_items c.loop-rule.rule-iterator) (into_iter_items c.next.new.self) (into_iter_len c.loop-rule.rule-iterator) c.in-Some.rule c.loop-rule.invariant.read c.in-Some.ensures.steps.0) c.requires.choices c.requires.wanted full

pub search_choices-returns-then-len-room-clause-blame : goal.search_choices-returns-then-len-room-clause-blame
search_choices-returns-then-len-room-clause-blame g t c =
    let n : c.len.result ≡ length c.loop-rule.found.items = search rules in
    let room : c.args.wanted - c.len.result ≤ length c.in_ok-rows.rows.first.items = search rules in
    let full = Lists.enough ((g.C.Calculus.calculus c.args.c.now).join c.args.place.goal c.in-Some.rule) (λ row. row.items) c.args.wanted c.len.result c.loop-rule.found.items c.in_ok-more.more.items c.in_ok-first.first.items c.in_ok-rows.rows.first.items room n c.in_ok-more.ensures c.in_ok-first.ensures in
    λ none uncut. absurd (Lists.not_none c.args.wanted c.in_ok-first.first.items c.requires.wanted full none)

pub search_choices-loop-rule-preserved : goal.search_choices-loop-rule-preserved
search_choices-loop-rule-preserved g t c =
    let n : c.len.result ≡ length c.loop-rule.found.items = search rules in
    let kept : c.leave.new.self.budget.left ≡ c.search_by.new.state.budget.left = ap (λ (b : Budget). b.left) c.leave.ensures in
    let same : c.enter.new.self.budget.left ≡ c.loop-rule.state.budget.left = ap (λ (b : Budget). b.left) c.enter.ensures in
    let room : length c.in_ok-rows.rows.first.items < c.args.wanted - c.len.result = search rules in
    record {
      fewer = omega (arith, kept, same, c.in_ok-rows.ensures.fewer, c.loop-rule.invariant.fewer);
      read = read_turn c.args.choices.items c.loop-rule.yielded (into_iter_items c.loop-rule.rule-iterator) (into_iter_items c.next.new.self) (into_iter_len c.loop-rule.rule-iterator) (into_iter_len c.next.new.self) c.in-Some.rule c.loop-rule.invariant.read c.in-Some.ensures.steps;
      searched =
          Searches.rules_more (g.C.Calculus.calculus c.args.c.now) c.args.place c.args.wanted c.len.result (uncounted c.args.state.now.budget) c.enter.new.self.budget c.search_by.new.state.budget c.leave.new.self.budget
          c.loop-rule.found.items c.in_ok-more-2.more.items c.in_ok-found.found.items (map (λ row. row.items) c.in_ok-rows.rows.first.items) c.loop-rule.yielded c.in-Some.rule
          (subst (λ (b : Budget). Searches.SearchedRules (g.C.Calculus.calculus c.args.c.now) c.args.place c.args.wanted (uncounted c.args.state.now.budget) b c.loop-rule.found.items c.loop-rule.yielded) (sym c.enter.ensures) c.loop-rule.invariant.searched) c.in_ok-rows.ensures.answer n c.in_ok-more-2.ensures c.in_ok-found.ensures c.leave.ensures;
      room = Lists.not_enough ((g.C.Calculus.calculus c.args.c.now).join c.args.place.goal c.in-Some.rule) (λ row. row.items) c.args.wanted c.len.result c.loop-rule.found.items c.in_ok-more-2.more.items c.in_ok-found.found.items c.in_ok-rows.rows.first.items room n c.in_ok-more-2.ensures c.in_ok-found.ensures;
      first_is = rw c.take.ensures.after tt;
      blamed =
          Blames.first_more (g.C.Calculus.calculus c.args.c.now) (g.C.Calculus.is_stuck c.args.c.now) (g.C.Calculus.is_refuted c.args.c.now) (λ row. row.items) c.args.place.goal c.loop-rule.state.budget c.enter.new.self.budget c.search_by.new.state.budget c.leave.new.self.budget c.loop-rule.found.items c.in_ok-more-2.more.items c.in_ok-found.found.items
          c.in_ok-rows.rows.first.items c.loop-rule.yielded c.in-Some.rule c.loop-rule.blame c.in_ok-rows.rows.blame c.or-blame.result
          c.in_ok-rows.ensures.answer.progress.kept c.loop-rule.invariant.blamed c.enter.ensures c.in_ok-rows.ensures.blame c.in_ok-more-2.ensures c.in_ok-found.ensures c.leave.ensures c.or-blame.ensures;
    }

pub search_choices-returns-clause-answer : goal.search_choices-returns-clause-answer
search_choices-returns-clause-answer g t c =
    let whole = read_all c.args.choices.items c.loop-rule.yielded (into_iter_items c.loop-rule.rule-iterator) (into_iter_len c.loop-rule.rule-iterator) c.loop-rule.invariant.read c.in-None.ensures.steps.0 in
    Searches.rules_done (g.C.Calculus.calculus c.args.c.now) (g.met.C.Calculus.falls c.args.c.now) c.args.place c.args.wanted (uncounted c.args.state.now.budget) c.loop-rule.state.budget c.loop-rule.found.items c.loop-rule.yielded (whole ∙ c.requires.choices) c.loop-rule.invariant.searched

pub search_choices-returns-clause-blame : goal.search_choices-returns-clause-blame
search_choices-returns-clause-blame g t c =
    let whole = read_all c.args.choices.items c.loop-rule.yielded (into_iter_items c.loop-rule.rule-iterator) (into_iter_len c.loop-rule.rule-iterator) c.loop-rule.invariant.read c.in-None.ensures.steps.0 in
    Blames.first_done (g.C.Calculus.calculus c.args.c.now) (g.C.Calculus.is_stuck c.args.c.now) (g.C.Calculus.is_refuted c.args.c.now) c.args.place.goal c.loop-rule.found.items c.loop-rule.state.budget c.loop-rule.yielded c.loop-rule.blame (whole ∙ c.requires.choices)
    (λ none. subst (λ (rules : List g.row.C-Rule.Denot). IsBelowFirst (g.C.Calculus.calculus c.args.c.now) (g.C.Calculus.is_goal c.args.c.now) (g.C.Calculus.is_refuted c.args.c.now) c.args.place rules c.args.below) (sym whole ∙ none) c.requires.below) c.loop-rule.invariant.blamed

pub search_each-returns-in_err-rows-clause-answer : goal.search_each-returns-in_err-rows-clause-answer
search_each-returns-in_err-rows-clause-answer g t c =
    let p = err_from_is_err_and c.from_residual.result c.from_residual.ensures.1 in
    rw (p.1, p.2) tt

pub search_each-loop-goal-init : goal.search_each-loop-goal-init
search_each-loop-goal-init g t c =
    let gives = c.into_iter-goal-iterator.ensures.into_iter_gives in
    let m : length (into_iter_items c.into_iter-goal-iterator.result) ≡ length c.args.goals.items = ap length gives.0 in
    let v : vec_len c.args.goals ≡ length c.args.goals.items = search rules in
    record {
      fewer = omega arith;
      read = record { split = sym gives.0; len = gives.1 ∙ v ∙ sym m };
      goals_are = subst (λ (goals : List g.row.C-Goal.Denot). AllByRecursion (g.C.Calculus.is_goal c.args.c.now) goals) (sym gives.0) c.requires.goals;
      searched = Searches.goals_init (g.C.Calculus.calculus c.args.c.now) c.args.rank c.args.wanted c.args.state.now.budget (map (λ row. row.items) c.in_ok-rows.rows.items) c.requires.wanted c.in_ok-rows.ensures;
      some = λ none. let e = c.in_ok-rows.ensures in cc;
      some_each = tt;
    }

pub search_each-search-requires : goal.search_each-search-requires
search_each-search-requires g t c κs within =
    let goals = subst (λ (goals : List g.row.C-Goal.Denot). AllByRecursion (g.C.Calculus.is_goal c.args.c.now) goals) c.in-Some.ensures.steps.0 c.loop-goal.invariant.goals_are in
    let goal_is = goals.0 in
    let less = c.loop-goal.invariant.fewer in
    search rules

pub search_each-returns-in_err-first-clause-answer : goal.search_each-returns-in_err-first-clause-answer
search_each-returns-in_err-first-clause-answer g t c =
    let p = err_from_is_err_and c.from_residual-in_err-first.result c.from_residual-in_err-first.ensures.1 in
    rw (p.1, p.2)
    (Searches.stops_at_one (g.C.Calculus.calculus c.args.c.now) (g.C.Calculus.is_spent c.args.c.now) c.args.rank c.args.wanted c.args.state.now.budget c.loop-goal.state.budget (map (λ row. row.items) c.loop-goal.rows.items) c.args.goals.items c.loop-goal.yielded (into_iter_items c.next.new.self) c.in-Some.goal _
    c.loop-goal.invariant.searched c.in_err-first.ensures.answer (read_here c.args.goals.items c.loop-goal.yielded (into_iter_items c.loop-goal.goal-iterator) (into_iter_items c.next.new.self) (into_iter_len c.loop-goal.goal-iterator) c.in-Some.goal c.loop-goal.invariant.read c.in-Some.ensures.steps.0))

pub search_each-returns-in_err-rows-2-clause-answer : goal.search_each-returns-in_err-rows-2-clause-answer
search_each-returns-in_err-rows-2-clause-answer g t c =
    let p = err_from_is_err_and c.from_residual-in_err-rows-2.result c.from_residual-in_err-rows-2.ensures.1 in
    rw (p.1, p.2) tt

pub search_each-returns-then-is_empty-clause-fewer : goal.search_each-returns-then-is_empty-clause-fewer
search_each-returns-then-is_empty-clause-fewer g t c =
    omega (arith, c.in_ok-first.ensures.fewer, c.loop-goal.invariant.fewer)

pub search_each-returns-then-is_empty-clause-answer : goal.search_each-returns-then-is_empty-clause-answer
search_each-returns-then-is_empty-clause-answer g t c =
    let zero : length c.in_ok-rows-2.rows.items ≡ 0 = search rules in
    let none : c.in_ok-rows-2.rows.items ≡ [] = Lists.no_items c.in_ok-rows-2.rows.items zero in
    let split = read_here c.args.goals.items c.loop-goal.yielded (into_iter_items c.loop-goal.goal-iterator) (into_iter_items c.next.new.self) (into_iter_len c.loop-goal.goal-iterator) c.in-Some.goal c.loop-goal.invariant.read c.in-Some.ensures.steps.0 in
    subst (λ (goals : List g.row.C-Goal.Denot). Searches.SearchedGoals (g.C.Calculus.calculus c.args.c.now) c.args.rank c.args.wanted c.args.state.now.budget c.search.new.state.budget (map (λ row. row.items) c.in_ok-rows-2.rows.items) goals)
    (append_assoc c.loop-goal.yielded (c.in-Some.goal ∷ []) (into_iter_items c.next.new.self) ∙ sym split)
    (Searches.goals_stop (g.C.Calculus.calculus c.args.c.now) c.args.rank c.args.wanted c.args.state.now.budget c.search.new.state.budget (map (λ row. row.items) c.in_ok-rows-2.rows.items) (c.loop-goal.yielded ++ c.in-Some.goal ∷ []) (into_iter_items c.next.new.self)
    (Searches.goals_step (g.C.Calculus.calculus c.args.c.now) c.args.rank c.args.wanted c.args.state.now.budget c.loop-goal.state.budget c.search.new.state.budget (map (λ row. row.items) c.loop-goal.rows.items) (map (λ row. row.items) c.in_ok-rows-2.rows.items) c.in_ok-first.field-0.first.items c.loop-goal.yielded c.in-Some.goal c.loop-goal.invariant.searched c.loop-goal.invariant.some c.in_ok-first.ensures.answer c.in_ok-rows-2.ensures c.requires.wanted) (ap (map (λ row. row.items)) none) c.requires.wanted)

pub search_each-returns-then-is_empty-clause-blame : goal.search_each-returns-then-is_empty-clause-blame
search_each-returns-then-is_empty-clause-blame g t c =
    let zero : length c.in_ok-rows-2.rows.items ≡ 0 = search rules in
    let none : c.in_ok-rows-2.rows.items ≡ [] = Lists.no_items c.in_ok-rows-2.rows.items zero in
    let empty = Blames.found_none c.args.wanted (map (λ row. row.items) c.loop-goal.rows.items) (map (λ row. row.items) c.in_ok-rows-2.rows.items) c.in_ok-first.field-0.first.items c.in_ok-rows-2.ensures c.requires.wanted c.loop-goal.invariant.some (ap (map (λ row. row.items)) none) in
    λ e uncut.
    Blames.among_here (g.C.Calculus.calculus c.args.c.now) (g.C.Calculus.is_stuck c.args.c.now) (g.C.Calculus.is_refuted c.args.c.now) c.args.goals.items c.loop-goal.yielded (into_iter_items c.next.new.self) c.in-Some.goal c.in_ok-first.field-0.blame (read_here c.args.goals.items c.loop-goal.yielded (into_iter_items c.loop-goal.goal-iterator) (into_iter_items c.next.new.self) (into_iter_len c.loop-goal.goal-iterator) c.in-Some.goal c.loop-goal.invariant.read c.in-Some.ensures.steps.0)
    c.loop-goal.invariant.some_each (c.in_ok-first.ensures.answer.empty empty uncut) (c.in_ok-first.ensures.blame empty uncut)

pub search_each-loop-goal-preserved-else-is_empty : goal.search_each-loop-goal-preserved-else-is_empty
search_each-loop-goal-preserved-else-is_empty g t c =
    let goals = subst (λ (goals : List g.row.C-Goal.Denot). AllByRecursion (g.C.Calculus.is_goal c.args.c.now) goals) c.in-Some.ensures.steps.0 c.loop-goal.invariant.goals_are in
    let some : ¬ (c.in_ok-rows-2.rows.items ≡ []) = search rules in
    record {
      fewer = omega (arith, c.in_ok-first.ensures.fewer, c.loop-goal.invariant.fewer);
      read = read_turn c.args.goals.items c.loop-goal.yielded (into_iter_items c.loop-goal.goal-iterator) (into_iter_items c.next.new.self) (into_iter_len c.loop-goal.goal-iterator) (into_iter_len c.next.new.self) c.in-Some.goal c.loop-goal.invariant.read c.in-Some.ensures.steps;
      goals_are = goals.1;
      searched = Searches.goals_step (g.C.Calculus.calculus c.args.c.now) c.args.rank c.args.wanted c.args.state.now.budget c.loop-goal.state.budget c.search.new.state.budget (map (λ row. row.items) c.loop-goal.rows.items) (map (λ row. row.items) c.in_ok-rows-2.rows.items) c.in_ok-first.field-0.first.items c.loop-goal.yielded c.in-Some.goal c.loop-goal.invariant.searched c.loop-goal.invariant.some c.in_ok-first.ensures.answer c.in_ok-rows-2.ensures c.requires.wanted;
      some = λ none. some (Lists.map_empty (λ row. row.items) c.in_ok-rows-2.rows.items none);
      some_each = Blames.some_more (g.C.Calculus.calculus c.args.c.now) c.loop-goal.yielded c.in-Some.goal c.loop-goal.invariant.some_each
          (Blames.has_derivation (g.C.Calculus.calculus c.args.c.now) c.args.rank c.args.wanted (map (λ row. row.items) c.loop-goal.rows.items) (map (λ row. row.items) c.in_ok-rows-2.rows.items) c.in_ok-first.field-0.first.items c.in-Some.goal
          c.in_ok-first.ensures.answer.first c.in_ok-rows-2.ensures (λ none. some (Lists.map_empty (λ row. row.items) c.in_ok-rows-2.rows.items none)));
    }

pub search_each-loop-goal-preserved : goal.search_each-loop-goal-preserved
search_each-loop-goal-preserved g t c =
    let goals = subst (λ (goals : List g.row.C-Goal.Denot). AllByRecursion (g.C.Calculus.is_goal c.args.c.now) goals) c.in-Some.ensures.steps.0 c.loop-goal.invariant.goals_are in
    let some : ¬ (c.in_ok-rows-2.rows.items ≡ []) = search rules in
    record {
      fewer = omega (arith, c.in_ok-first.ensures.fewer, c.loop-goal.invariant.fewer);
      read = read_turn c.args.goals.items c.loop-goal.yielded (into_iter_items c.loop-goal.goal-iterator) (into_iter_items c.next.new.self) (into_iter_len c.loop-goal.goal-iterator) (into_iter_len c.next.new.self) c.in-Some.goal c.loop-goal.invariant.read c.in-Some.ensures.steps;
      goals_are = goals.1;
      searched = Searches.goals_step (g.C.Calculus.calculus c.args.c.now) c.args.rank c.args.wanted c.args.state.now.budget c.loop-goal.state.budget c.search.new.state.budget (map (λ row. row.items) c.loop-goal.rows.items) (map (λ row. row.items) c.in_ok-rows-2.rows.items) c.in_ok-first.field-0.first.items c.loop-goal.yielded c.in-Some.goal c.loop-goal.invariant.searched c.loop-goal.invariant.some c.in_ok-first.ensures.answer c.in_ok-rows-2.ensures c.requires.wanted;
      some = λ none. some (Lists.map_empty (λ row. row.items) c.in_ok-rows-2.rows.items none);
      some_each = Blames.some_more (g.C.Calculus.calculus c.args.c.now) c.loop-goal.yielded c.in-Some.goal c.loop-goal.invariant.some_each
          (Blames.has_derivation (g.C.Calculus.calculus c.args.c.now) c.args.rank c.args.wanted (map (λ row. row.items) c.loop-goal.rows.items) (map (λ row. row.items) c.in_ok-rows-2.rows.items) c.in_ok-first.field-0.first.items c.in-Some.goal
          c.in_ok-first.ensures.answer.first c.in_ok-rows-2.ensures (λ none. some (Lists.map_empty (λ row. row.items) c.in_ok-rows-2.rows.items none)));
    }

pub search_each-returns-clause-answer : goal.search_each-returns-clause-answer
search_each-returns-clause-answer g t c =
    let whole = read_all c.args.goals.items c.loop-goal.yielded (into_iter_items c.loop-goal.goal-iterator) (into_iter_len c.loop-goal.goal-iterator) c.loop-goal.invariant.read c.in-None.ensures.steps.0 in
    subst (λ (goals : List g.row.C-Goal.Denot). Searches.SearchedGoals (g.C.Calculus.calculus c.args.c.now) c.args.rank c.args.wanted c.args.state.now.budget c.loop-goal.state.budget (map (λ row. row.items) c.loop-goal.rows.items) goals) whole c.loop-goal.invariant.searched

pub search_each-returns-clause-blame : goal.search_each-returns-clause-blame
search_each-returns-clause-blame g t c =
    λ none uncut. absurd (c.loop-goal.invariant.some (ap (map (λ row. row.items)) none))
