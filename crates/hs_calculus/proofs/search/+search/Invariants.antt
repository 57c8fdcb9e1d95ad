use Rattle.std.proofs.Common.{◌≡◌, ◌<◌, ◌+◌, ◌*◌, ◌≤◌, map, [], length, IfSome}
use Rattle.std.specs.List.{AllByRecursion}
use Rattle.std.specs.Vec.Iter.{into_iter_items, into_iter_len}
use Rattle.hs_calculus.specs.Progress.{uncounted}
use Rattle.hs_calculus.specs.Steps.{IsBelowFirst}
use Rattle.hs_calculus.specs.Blame.{HasDerivation}
use Rattle.hs_calculus.proofs.Blames.{BlamedFirst}
use Rattle.hs_calculus.proofs.Reading.{IsRead}
use Rattle.hs_calculus.proofs.Searches.{SearchedRules, SearchedGoals}
use Rattle.hs_calculus.proofs.search.+search.Given as goal

abbrev pub decreases-search : goal.decreases-search
decreases-search g l = 4 * l.state.now.budget.left

abbrev pub decreases-search_choices : goal.decreases-search_choices
decreases-search_choices g l = 4 * l.state.now.budget.left + 3

abbrev pub decreases-search_by : goal.decreases-search_by
decreases-search_by g l = 4 * l.state.now.budget.left + 2

abbrev pub decreases-search_each : goal.decreases-search_each
decreases-search_each g l = 4 * l.state.now.budget.left + 1

abbrev pub invariant-search_choices-loop-rule : goal.invariant-search_choices-loop-rule
invariant-search_choices-loop-rule g l =
    record {
      fewer : l.state.budget.left ≤ l.fn.state.budget.left;
      read : IsRead l.fn.choices.items l.yielded (into_iter_items l.rule-iterator) (into_iter_len l.rule-iterator);
      searched : SearchedRules (g.C.Calculus.calculus l.c) l.place l.wanted (uncounted l.fn.state.budget) l.state.budget l.found.items l.yielded;
      room : length l.found.items < l.wanted;
      first_is : IfSome l.below (λ b. IsBelowFirst (g.C.Calculus.calculus l.c) (g.C.Calculus.is_goal l.c) (g.C.Calculus.is_refuted l.c) l.place (into_iter_items l.rule-iterator) b);
      blamed : BlamedFirst (g.C.Calculus.calculus l.c) (g.C.Calculus.is_stuck l.c) (g.C.Calculus.is_refuted l.c) l.place.goal l.found.items l.state.budget l.yielded l.blame;
    }

abbrev pub invariant-search_each-loop-goal : goal.invariant-search_each-loop-goal
invariant-search_each-loop-goal g l =
    record {
      fewer : l.state.budget.left ≤ l.fn.state.budget.left;
      read : IsRead l.fn.goals.items l.yielded (into_iter_items l.goal-iterator) (into_iter_len l.goal-iterator);
      goals_are : AllByRecursion (g.C.Calculus.is_goal l.c) (into_iter_items l.goal-iterator);
      searched : SearchedGoals (g.C.Calculus.calculus l.c) l.rank l.wanted l.fn.state.budget l.state.budget (map (λ row. row.items) l.rows.items) l.yielded;
      some : ¬ (map (λ row. row.items) l.rows.items ≡ []);
      some_each : AllByRecursion (HasDerivation (g.C.Calculus.calculus l.c)) l.yielded;
    }
