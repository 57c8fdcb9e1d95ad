-- The walk of the verifier, and what its turns leave.
use Rattle.std.proofs.Common.{◌≡◌, ℕ, suc, ◌+◌, ◌-◌, ◌<◌, ◌≤◌, List, [], ◌∷◌, ◌++◌, map, length, Some, None, slice_get, refl, sym, ap, ◌∙◌, subst, arith}
use Rattle.std.specs.List.{AllZip}
use Rattle.std.proofs.lemmas.List.{length-append}
use Rattle.hs_heap.specs.declared.definitions.Defs.{Defs}
use Rattle.hs_goal.specs.declared.rule.Limits.{Limits}
use Rattle.hs_core.specs.declared.program.Program.{Program}
use Rattle.hs_core.specs.declared.state.At.{At}
use Rattle.hs_node.specs.declared.derivation.Node.{Node}
use Rattle.hs_node.specs.declared.derivation.Derivation.{Derivation}
use Rattle.hs_node.specs.declared.judgement.Judgement.TheVariants.{Runs}
use Rattle.hs_proof_nodes.specs.Right.{IsRightNode, AreRightNodes}
use Rattle.hs_program_rules.specs.Table.{premises_of}
use Rattle.hs_proof_nodes.proofs.Places.{get_at, right_push}
use Rattle.hs_verify.specs.declared.task.Task.{Task}
use Rattle.hs_verify.specs.declared.task.Taken.{Taken}
use Rattle.hs_verify.specs.declared.answer.HipAnswer.TheVariants.{Accepted}
use Rattle.hs_verify.specs.Tree.{Reaches}
use Rattle.hs_verify.specs.Tree.Reaches.{begin, onward}
use Rattle.hs_verify.specs.Answer.{IsStateOf, IsAnswer}
use Rattle.hs_verify.specs.Visited.{IsFit, GoesTo, IsConcluded, node_of, to_visit, to_conclude}
use Rattle.hs_verify.proofs.Tasks.{agenda, agenda_with, agenda_visits, AreTasksFit, IsTaskFit, fit_visits, Ends, ends_more, ends_push, zip_length, ends_split, Gathers, ComesTo, ComesBy, comes_more, comes_visits}
use Rattle.hs_verify.proofs.Concluded.{right_state}

-- the last node says that runs from the start are safe
pub record EndsIn (nodes : List Node) (start : At) : Type 0 where
  pub front : List Node
  pub last : Node
  pub is : nodes ≡ front ++ last ∷ []
  pub says : last.judgement ≡ Runs start

module _ (defs : Defs) (program : Program) (limits : Limits) (start : At) where
  -- with the rules of so many states taken, the tasks that are left, the next first
  pub record IsOn (states : ℕ) (nodes : List Node) (ends : List ℕ) (left : List Task) : Type 0 where
    pub few : states ≤ limits.goals
    pub reached : Reaches defs program limits start states (agenda left)
    pub fit : AreTasksFit defs program left
    pub right : AreRightNodes defs program nodes
    pub done : List At
    pub named : AllZip (Ends nodes) ends done
    pub comes : ComesTo defs program limits start nodes left done
    pub ended : left ≡ [] → EndsIn nodes start

  -- ---- the begin

  pub on_begin : IsFit defs program start → IsOn 0 [] [] (to_visit start ∷ [])
  on_begin fit = record {
    few = omega arith;
    reached = begin;
    fit = (fit, tt);
    right = λ i less. absurd (omega arith);
    done = [];
    named = tt;
    comes = refl;
    ended = λ e. absurd cc;
  }

  -- ---- a state that is visited

  module _ (states : ℕ) (nodes : List Node) (ends : List ℕ) (t : Task) (left : List Task) (h : IsOn states nodes ends (t ∷ left)) (to_visit_it : t.taken ≡ None) where
    pub visit_reached : Reaches defs program limits start states (t.at ∷ agenda left)
    visit_reached = subst (λ k. Reaches defs program limits start states (agenda_with k t.at (agenda left))) to_visit_it h.reached

    pub visit_fits : IsFit defs program t.at
    visit_fits = subst (λ k. IsTaskFit defs program k t.at) to_visit_it h.fit.0

    visit_comes : ComesTo defs program limits start nodes left (h.done ++ t.at ∷ [])
    visit_comes = subst (λ k. ComesBy defs program limits nodes k t.at (ComesTo defs program limits start nodes left) h.done) to_visit_it h.comes

    -- it is a state of the tree, with so many before it
    abbrev pub visit_state : IsStateOf defs program limits start t.at
    visit_state = record { before = states; rest = agenda left; reached = visit_reached }

    pub on_visit : (new : List Node) (taken : Taken) (ps : List At) → states < limits.goals → GoesTo defs program limits t.at nodes new taken ps →
        IsOn (suc states) new ends (map to_visit ps ++ to_conclude t.at taken ∷ left)
    on_visit new taken ps less goes =
        let moved : List Node = nodes ++ goes.more in
        let premises : ps ≡ premises_of defs program t.at taken.rule goes.is_taken.residue = goes.is_taken.premises_are in
        let next : Reaches defs program limits start (suc states) (premises_of defs program t.at taken.rule goes.is_taken.residue ++ agenda left) = onward visit_reached goes.is_taken.takes in
        let gathers : Gathers defs program limits new t.at taken (ComesTo defs program limits start new left) (h.done ++ ps) = record {
          front = h.done;
          further = ps;
          split = refl;
          long = sym goes.further;
          fit = visit_fits;
          is_taken = goes.is_taken;
          after = subst (λ (ns : List Node). ComesTo defs program limits start ns left (h.done ++ t.at ∷ [])) (sym goes.kept) (comes_more defs program limits start nodes goes.more left (h.done ++ t.at ∷ []) visit_comes);
        } in
        record {
          few = omega arith;
          reached = subst (Reaches defs program limits start (suc states)) (ap (λ (ats : List At). ats ++ agenda left) (sym premises) ∙ sym (agenda_visits ps (to_conclude t.at taken ∷ left))) next;
          fit = fit_visits defs program ps (to_conclude t.at taken ∷ left) goes.fit (tt, h.fit.1);
          right = goes.right;
          done = h.done;
          named = subst (λ (ns : List Node). AllZip (Ends ns) ends h.done) (sym goes.kept) (ends_more nodes goes.more ends h.done h.named);
          comes = comes_visits defs program limits start new ps (to_conclude t.at taken ∷ left) h.done gathers;
          ended = λ e. absurd (none ps left e);
        }
      where
        none : (ps : List At) (left : List Task) → map to_visit ps ++ to_conclude t.at taken ∷ left ≡ [] → ⊥
        none [] left e = cc
        none (p ∷ ps) left e = cc

  -- ---- a state that is concluded

  one_left : (front : List At) (at : At) → front ++ at ∷ [] ≡ start ∷ [] → at ≡ start
  one_left [] at e = cc
  one_left (a ∷ front) at e = let long = ap length e in absurd (omega (arith, length-append front (at ∷ [])))

  module _ (states : ℕ) (nodes : List Node) (ends : List ℕ) (t : Task) (left : List Task) (taken : Taken) (h : IsOn states nodes ends (t ∷ left)) (taken_is : t.taken ≡ Some taken) where
    gathered : Gathers defs program limits nodes t.at taken (ComesTo defs program limits start nodes left) h.done
    gathered = subst (λ k. ComesBy defs program limits nodes k t.at (ComesTo defs program limits start nodes left) h.done) taken_is h.comes

    -- its further premises are there
    pub enough : taken.further ≤ length ends
    enough =
        let g = gathered in
        let both = zip_length nodes ends h.done h.named in
        let split = ap length g.split in
        let long = g.long in
        omega (arith, length-append g.front g.further)

    pub on_conclude : (new : List Node) (left_ends : List ℕ) → IsConcluded t.at taken nodes ends new left_ends → IsOn states new left_ends left
    on_conclude new left_ends c =
        let g = gathered in
        let n : Node = node_of t.at taken c.last in
        let zip : AllZip (Ends nodes) (c.front ++ c.last) (g.front ++ g.further) = subst (λ (ks : List ℕ). AllZip (Ends nodes) ks (g.front ++ g.further)) c.split (subst (AllZip (Ends nodes) ends) g.split h.named) in
        let parts = ends_split nodes c.front c.last g.front g.further (c.long ∙ sym g.long) zip in
        let right : IsRightNode defs program nodes n = right_state defs program limits nodes t.at taken c.last g.further g.fit g.is_taken parts.1 in
        let long : length (nodes ++ n ∷ []) ≡ length nodes + 1 = length-append nodes (n ∷ []) in
        let place : length nodes ≡ length (nodes ++ n ∷ []) - 1 = omega arith in
        let says : Ends (nodes ++ n ∷ []) (length (nodes ++ n ∷ [])) t.at = record {
          first = omega arith;
          node = n;
          there = subst (λ i. slice_get (nodes ++ n ∷ []) i ≡ Some n) place (get_at nodes [] n);
          says = refl;
        } in
        let comes : ComesTo defs program limits start (nodes ++ n ∷ []) left (g.front ++ t.at ∷ []) = comes_more defs program limits start nodes (n ∷ []) left (g.front ++ t.at ∷ []) g.after in
        let on : IsOn states (nodes ++ n ∷ []) (c.front ++ length (nodes ++ n ∷ []) ∷ []) left = record {
          few = h.few;
          reached = subst (λ k. Reaches defs program limits start states (agenda_with k t.at (agenda left))) taken_is h.reached;
          fit = h.fit.1;
          right = right_push defs program nodes n h.right right;
          done = g.front ++ t.at ∷ [];
          named = ends_push (nodes ++ n ∷ []) c.front g.front (length (nodes ++ n ∷ [])) t.at (ends_more nodes (n ∷ []) c.front g.front parts.0) says;
          comes = comes;
          ended = λ none. record {
            front = nodes;
            last = n;
            is = refl;
            says = ap (λ (a : At). Runs a) (one_left g.front t.at (subst (λ (ts : List Task). ComesTo defs program limits start (nodes ++ n ∷ []) ts (g.front ++ t.at ∷ [])) none comes));
          };
        } in
        subst (λ (ks : List ℕ). IsOn states new ks left) (sym c.ends_are)
        (subst (λ (ns : List Node). IsOn states ns (c.front ++ length ns ∷ []) left) (sym c.nodes_are) on)

  -- ---- the end

  pub on_end : (states : ℕ) (nodes : List Node) (ends : List ℕ) → IsOn states nodes ends [] → (d : Derivation) → d.nodes ≡ nodes → d.claims ≡ [] → IsAnswer defs program limits start (Accepted d)
  on_end states nodes ends h d nodes_are no_claims =
      let e = h.ended refl in (
        record { states = states; few = h.few; ends = h.reached },
        record {
          right = subst (AreRightNodes defs program) (sym nodes_are) h.right;
          front = e.front;
          last = e.last;
          ends = nodes_are ∙ e.is;
          concludes = e.says;
          no_claims = no_claims;
        },
      )
