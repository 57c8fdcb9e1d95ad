-- One turn of the loop over tasks.
use Rattle.std.proofs.Common.{◌≡◌, ℕ, suc, ◌+◌, ◌-◌, ◌*◌, ◌<◌, ◌≤◌, List, [], ◌∷◌, ◌++◌, map, reverse, Some, None, refl, sym, ap, ◌∙◌, subst, arith}
use Rattle.std.proofs.lemmas.List.{reverse-append, reverse-reverse, map-append}
use Rattle.hs_heap.specs.declared.definitions.Defs.{Defs}
use Rattle.hs_goal.specs.declared.rule.Limits.{Limits}
use Rattle.hs_core.specs.declared.program.Program.{Program}
use Rattle.hs_core.specs.declared.state.At.{At}
use Rattle.hs_node.specs.declared.derivation.Node.{Node}
use Rattle.hs_proof_nodes.specs.Right.{AreRightNodes}
use Rattle.hs_verify.specs.declared.task.Task.{Task}
use Rattle.hs_verify.specs.declared.task.Taken.{Taken}
use Rattle.hs_verify.specs.declared.answer.HipAnswer.{HipAnswer}
use Rattle.hs_verify.specs.declared.answer.HipAnswer.TheVariants.{Accepted, Unknown, States, Numbers}
use Rattle.hs_verify.specs.Answer.{IsStateOf, IsAnswer}
use Rattle.hs_verify.specs.Visited.{IsFit, IsConcluded, LeavesTasks, IsNext, to_visit, to_conclude}
use Rattle.hs_verify.proofs.Tasks.{waiting, waiting_with, waiting_visits}
use Rattle.hs_verify.proofs.Walking.{IsOn, on_begin, visit_fits, visit_state, on_visit, on_conclude}

reverse-map : {X Y : Type 0} (f : X → Y) (xs : List X) → reverse (map f xs) ≡ map f (reverse xs)
reverse-map f [] = refl
reverse-map f (x ∷ xs) =
    reverse-append (f x ∷ []) (map f xs) ∙ ap (λ ys. ys ++ f x ∷ []) (reverse-map f xs)
    ∙ sym (ap (map f) (reverse-append (x ∷ []) xs) ∙ map-append f (reverse xs) (x ∷ []))

popped : (tasks rest : List Task) (t : Task) → tasks ≡ rest ++ t ∷ [] → reverse tasks ≡ t ∷ reverse rest
popped tasks rest t e = ap reverse e ∙ reverse-append rest (t ∷ [])

pushed : (old new : List Task) (t : Task) (ps : List At) → new ≡ (old ++ t ∷ []) ++ map to_visit (reverse ps) → reverse new ≡ map to_visit ps ++ t ∷ reverse old
pushed old new t ps e =
    ap reverse e ∙ reverse-append (old ++ t ∷ []) (map to_visit (reverse ps))
    ∙ (λ i. (reverse-map to_visit (reverse ps) ∙ ap (map to_visit) (reverse-reverse ps)) i ++ reverse-append old (t ∷ []) i)

module _ (defs : Defs) (program : Program) (limits : Limits) (start : At) where
  pub begun : IsFit defs program start → (nodes : List Node) (ends : List ℕ) (old tasks : List Task) (at : At) → nodes ≡ [] → ends ≡ [] → old ≡ [] → at ≡ start → tasks ≡ old ++ to_visit at ∷ [] →
      IsOn defs program limits start 0 nodes ends (reverse tasks)
  begun fit nodes ends old tasks at no_nodes no_ends no_tasks at_is split =
      let one : reverse tasks ≡ to_visit start ∷ [] = popped tasks old (to_visit at) split ∙ (λ i. to_visit (at_is i) ∷ reverse (no_tasks i)) in
      subst (λ (ns : List Node). IsOn defs program limits start 0 ns ends (reverse tasks)) (sym no_nodes)
      (subst (λ (ks : List ℕ). IsOn defs program limits start 0 [] ks (reverse tasks)) (sym no_ends)
      (subst (IsOn defs program limits start 0 [] []) (sym one) (on_begin defs program limits start fit)))

  module _ (states : ℕ) (nodes : List Node) (ends : List ℕ) (tasks rest : List Task) (t : Task) (on : IsOn defs program limits start states nodes ends (reverse tasks)) (split : tasks ≡ rest ++ t ∷ []) where
    here : IsOn defs program limits start states nodes ends (t ∷ reverse rest)
    here = subst (IsOn defs program limits start states nodes ends) (popped tasks rest t split) on

    -- ---- a state that is concluded

    module _ (taken : Taken) (is : t.taken ≡ Some taken) where
      pub turn_conclude : (new : List Node) (left : List ℕ) → IsConcluded t.at taken nodes ends new left → IsOn defs program limits start states new left (reverse rest)
      turn_conclude new left c = on_conclude defs program limits start states nodes ends t (reverse rest) taken here is new left c

      pub less_conclude : 2 * (limits.goals - states) + waiting (reverse rest) < 2 * (limits.goals - states) + waiting (reverse tasks)
      less_conclude =
          let e : waiting (reverse tasks) ≡ suc (waiting (reverse rest)) = ap waiting (popped tasks rest t split) ∙ ap (λ k. waiting_with k (waiting (reverse rest))) is in
          omega arith

    -- ---- a state that is visited

    module _ (is : t.taken ≡ None) where
      pub turn_fits : IsFit defs program t.at
      turn_fits = visit_fits defs program limits start states nodes ends t (reverse rest) here is

      pub turn_right : AreRightNodes defs program nodes
      turn_right = here.right

      abbrev turn_state : IsStateOf defs program limits start t.at
      turn_state = visit_state defs program limits start states nodes ends t (reverse rest) here is

      pub turn_states : limits.goals ≤ states → IsAnswer defs program limits start (States t.at)
      turn_states many = (turn_state, many)

      pub turn_answer : states < limits.goals → (new : List Node) (old_tasks new_tasks : List Task) (a : HipAnswer) → IsNext defs program limits t.at nodes new old_tasks new_tasks (Some a) → IsAnswer defs program limits start a
      turn_answer less new old_tasks new_tasks (Accepted d) h = absurd h
      turn_answer less new old_tasks new_tasks (Unknown other causes) h =
          subst (λ (a : At). IsAnswer defs program limits start (Unknown a causes)) (sym h.0) (turn_state, less, h.1)
      turn_answer less new old_tasks new_tasks (States other) h = absurd h
      turn_answer less new old_tasks new_tasks (Numbers other) h =
          subst (λ (a : At). IsAnswer defs program limits start (Numbers a)) (sym h.0) (turn_state, h.1)

      module _ (more : ℕ) (one_more : more ≡ states + 1) (less : states < limits.goals) (new : List Node) (new_tasks : List Task) (leaves : LeavesTasks defs program limits t.at nodes new rest new_tasks) where
        left_is : reverse new_tasks ≡ map to_visit leaves.premises ++ to_conclude t.at leaves.taken ∷ reverse rest
        left_is = pushed rest new_tasks (to_conclude t.at leaves.taken) leaves.premises leaves.tasks_are

        pub turn_visit : IsOn defs program limits start more new ends (reverse new_tasks)
        turn_visit =
            let count : suc states ≡ more = omega arith in
            let next = on_visit defs program limits start states nodes ends t (reverse rest) here is new leaves.taken leaves.premises less leaves.goes in
            subst (λ k. IsOn defs program limits start k new ends (reverse new_tasks)) count
            (subst (IsOn defs program limits start (suc states) new ends) (sym left_is) next)

        pub less_visit : 2 * (limits.goals - more) + waiting (reverse new_tasks) < 2 * (limits.goals - states) + waiting (reverse tasks)
        less_visit =
            let now : waiting (reverse tasks) ≡ waiting (reverse rest) = ap waiting (popped tasks rest t split) ∙ ap (λ k. waiting_with k (waiting (reverse rest))) is in
            let then : waiting (reverse new_tasks) ≡ suc (waiting (reverse rest)) = ap waiting left_is ∙ waiting_visits leaves.premises (to_conclude t.at leaves.taken ∷ reverse rest) in
            omega arith
