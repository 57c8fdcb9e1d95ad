-- What forced steps lead to.
use Rattle.std.proofs.Common.{ℕ, ◌≡◌, ◌<◌, ◌+◌, Bool, true, false, cond, Option, Some, None, List, [], ◌∷◌, ◌++◌, map, take, length, zero, suc, refl, ap, sym, subst, ◌∙◌, arith, append_assoc, length-append}
use Rattle.std.specs.List.{flat_map, AllByRecursion, AllZip, Contains}
use Rattle.std.proofs.lemmas.List.{length-map, get_or-map}
use Rattle.std.proofs.lemmas.List.Elements.{All-contains_itself, recursion_from_All}
use Rattle.hs_calculus.specs.Calculus.{Calculus, Falls}
use Rattle.hs_calculus.specs.Search.{derivations, derivations_by, rows_by, places, places_by, one_of_each, rank_after, IsDerivation, MayJoinEach}
use Rattle.hs_calculus.specs.Progress.{Progress, Searched, Stops, uncounted}
use Rattle.hs_calculus.specs.Steps.{IsForced, Leads, along, AreAlong}
use Rattle.hs_calculus.specs.Steps.Leads.{Here, Then}
use Rattle.hs_calculus.specs.Blame.{HasNone, IsBlame}
use Rattle.hs_calculus.specs.Blame.IsBlame.{Below}
use Rattle.hs_calculus.specs.declared.place.Place.{Place}
use Rattle.hs_calculus.specs.declared.budget.Budget.{Budget}
use Rattle.hs_calculus.specs.declared.calculus.Stop.{Stop}
use Rattle.hs_calculus.proofs.Trees.{derivations_is, places_is, append-nil}
use Rattle.hs_calculus.proofs.Over.{All_weaker}
use Rattle.hs_calculus.proofs.Lists.{take-map, map_empty}
use Rattle.hs_calculus.proofs.Induct.{All_map, rows_by_zip}
use Rattle.hs_calculus.proofs.Progresses.{Progress-some, Stops-front}

map_map : {X Y Z : Type 0} (f : X → Y) (g : Y → Z) (xs : List X) → map g (map f xs) ≡ map (λ x. g (f x)) xs
map_map f g [] = refl
map_map f g (x ∷ xs) = ap (λ ys. g (f x) ∷ ys) (map_map f g xs)

map_same : {X Y : Type 0} (f g : X → Y) (xs : List X) → ((x : X) → f x ≡ g x) → map f xs ≡ map g xs
map_same f g [] h = refl
map_same f g (x ∷ xs) h = let e : map f xs ≡ map g xs = map_same f g xs h in let d : f x ≡ g x = h x in cc

map_itself : {X : Type 0} (xs : List X) → map (λ x. x) xs ≡ xs
map_itself [] = refl
map_itself (x ∷ xs) = ap (λ ys. x ∷ ys) (map_itself xs)

one_list : {A : Type 0} (xs : List A) → one_of_each (xs ∷ []) ≡ map (λ x. x ∷ []) xs
one_list xs = append-nil (map (λ x. x ∷ []) xs)

-- a list with an element pushed is never empty, and tells both
push_some : {X : Type 0} (xs : List X) (x : X) → ¬ ([] ≡ xs ++ x ∷ [])
push_some [] x e = absurd (cc)
push_some (y ∷ xs) x e = absurd (cc)

push_same : {X : Type 0} (xs ys : List X) (x y : X) → xs ++ x ∷ [] ≡ ys ++ y ∷ [] → (xs ≡ ys) × (x ≡ y)
push_same [] [] x y e = (refl, cc)
push_same [] (z ∷ ys) x y e = let d : [] ≡ ys ++ y ∷ [] = cc in absurd (push_some ys y d)
push_same (z ∷ xs) [] x y e = let d : [] ≡ xs ++ x ∷ [] = cc in absurd (push_some xs x d)
push_same (z ∷ xs) (w ∷ ys) x y e =
    let d : xs ++ x ∷ [] ≡ ys ++ y ∷ [] = cc in
    let h = push_same xs ys x y d in
    let a : xs ≡ ys = h.0 in
    let b : z ≡ w = cc in
    (cc, h.1)

Contains-map : {X Y : Type 0} (f : X → Y) (xs : List X) (x : X) → Contains xs x → Contains (map f xs) (f x)
Contains-map f xs x h = (h.0, subst (λ n. h.0 < n) (sym (length-map xs f)) h.1, get_or-map f xs h.0 x (f x) h.1 ∙ ap f h.2)

All_take : {X : Type 0} (P : X → Type 0) (n : ℕ) (xs : List X) → AllByRecursion P xs → AllByRecursion P (take n xs)
All_take P zero xs h = tt
All_take P (suc n) [] h = tt
All_take P (suc n) (x ∷ xs) h = (h.0, All_take P n xs h.1)

each_of : {X : Type 0} (P : X → Type 0) (xs : List X) → ((x : X) → P x) → AllByRecursion P xs
each_of P [] h = tt
each_of P (x ∷ xs) h = (h x, each_of P xs h)

module _ {G R P : Type 0} (c : Calculus G R P) where
  -- what stands in the list of derivations is a derivation
  pub listed : (rank : ℕ) (goal : G) → AllByRecursion (IsDerivation c goal) (derivations c rank goal)
  listed rank goal =
      All_weaker _ _ (derivations c rank goal) (λ p h. (rank, h))
      (recursion_from_All _ (derivations c rank goal) (All-contains_itself (derivations c rank goal)))

  -- rows that were found for a choice may be joined
  pub rows_may_join : (is_goal : G → Type 0) (rank wanted : ℕ) (goal : G) (rule : R) (rows : List (List P))
      → is_goal goal → Contains (c.choices goal) rule → rows ≡ take wanted (rows_by c rank goal rule) → MayJoinEach c is_goal goal rule rows
  rows_may_join is_goal rank wanted goal rule rows is choice e =
      subst (λ (rows : List (List P)). MayJoinEach c is_goal goal rule rows) (sym e)
      (All_take _ wanted (rows_by c rank goal rule)
      (All_weaker _ _ (rows_by c rank goal rule) (λ row h. record { goal_is = is; choice = choice; holds = h.0; parts_are = h.1 })
      (rows_by_zip c (IsDerivation c) rank goal rule (λ left some. each_of _ (c.subgoals goal rule) (λ s. listed left s)))))

  along-push : (trail : List (G × R)) (step : G × R) (p : P) → along c (trail ++ step ∷ []) p ≡ along c trail (c.join step.0 step.1 (p ∷ []))
  along-push [] step p = refl
  along-push (s ∷ trail) step p = ap (λ q. c.join s.0 s.1 (q ∷ [])) (along-push trail step p)

  module _ (is_goal : G → Type 0) where
    -- may be joined by the last step of a trail
    may_join_last : (place : Place G) (rule : R) (next : Place G) (proofs : List P) → IsForced c is_goal place rule next
        → AllByRecursion (IsDerivation c next.goal) proofs → MayJoinEach c is_goal place.goal rule (map (λ p. p ∷ []) proofs)
    may_join_last place rule next proofs f h =
        All_map _ (λ p. p ∷ []) proofs
        (All_weaker _ _ proofs (λ p d.
        record {
          goal_is = f.goal_is;
          choice = subst (λ (rules : List R). Contains rules rule) (sym f.choice) (0, omega arith, refl);
          holds = f.holds;
          parts_are = subst (λ (goals : List G). AllZip (IsDerivation c) goals (p ∷ [])) (sym f.subgoal) (d, tt);
        }) h)

  module _ (falls : Falls c) (is_goal : G → Type 0) where
    module _ (place : Place G) (rule : R) (next : Place G) (f : IsForced c is_goal place rule next) where
      forced_by : (rank left : ℕ) → rank_after (c.is_paid rule) rank ≡ Some left → derivations_by c rank place.goal rule ≡ map (λ d. c.join place.goal rule (d ∷ [])) (derivations c left next.goal)
      forced_by rank left e =
          let parts : map (derivations c left) (c.subgoals place.goal rule) ≡ derivations c left next.goal ∷ [] = ap (map (derivations c left)) f.subgoal in
          ap (λ o. map (c.join place.goal rule) (elim o [ None ↦ [] | Some n ↦ cond (c.holds place.goal rule) (one_of_each (map (derivations c n) (c.subgoals place.goal rule))) [] ])) e
          ∙ ap (λ b. map (c.join place.goal rule) (cond {A = List (List P)} b (one_of_each (map (derivations c left) (c.subgoals place.goal rule))) [])) f.holds
          ∙ ap (λ (lists : List (List P)). map (c.join place.goal rule) (one_of_each lists)) parts
          ∙ ap (map (c.join place.goal rule)) (one_list (derivations c left next.goal))
          ∙ map_map (λ d. d ∷ []) (c.join place.goal rule) (derivations c left next.goal)

      forced_derivations : (rank left : ℕ) → rank_after (c.is_paid rule) rank ≡ Some left → derivations c rank place.goal ≡ map (λ d. c.join place.goal rule (d ∷ [])) (derivations c left next.goal)
      forced_derivations rank left e =
          derivations_is c falls rank place.goal ∙ ap (flat_map (derivations_by c rank place.goal)) f.choice ∙ append-nil (derivations_by c rank place.goal rule) ∙ forced_by rank left e

      forced_places : places c place.rank place.goal ≡ place ∷ places c next.rank next.goal
      forced_places =
          places_is c falls place.rank place.goal
          ∙ ap (λ (ps : List (Place G)). place ∷ ps) (
          ap (flat_map (places_by c place.rank place.goal)) f.choice ∙ append-nil (places_by c place.rank place.goal rule)
          ∙ ap (λ o. elim o [ None ↦ [] | Some n ↦ flat_map (places c n) (c.subgoals place.goal rule) ]) f.rank_is
          ∙ ap (flat_map (places c next.rank)) f.subgoal ∙ append-nil (places c next.rank next.goal)
          )

      forced_none : HasNone c next.goal → HasNone c place.goal
      forced_none none rank = at (rank_after (c.is_paid rule) rank) refl
        where
          at : (o : Option ℕ) → rank_after (c.is_paid rule) rank ≡ o → derivations c rank place.goal ≡ []
          at (Some left) e = forced_derivations rank left e ∙ ap (map (λ d. c.join place.goal rule (d ∷ []))) (none left)
          at None e =
              derivations_is c falls rank place.goal ∙ ap (flat_map (derivations_by c rank place.goal)) f.choice ∙ append-nil (derivations_by c rank place.goal rule)
              ∙ ap (λ o. map (c.join place.goal rule) (elim o [ None ↦ [] | Some n ↦ cond (c.holds place.goal rule) (one_of_each (map (derivations c n) (c.subgoals place.goal rule))) [] ])) e

      forced_blame : {O : Type 0} (is_stuck : G → O → Type 0) (is_refuted : G → R → O → Type 0) (o : O) → HasNone c next.goal → IsBlame c is_stuck is_refuted next.goal o → IsBlame c is_stuck is_refuted place.goal o
      forced_blame is_stuck is_refuted o none blame = Below rule [] [] next.goal [] f.choice f.subgoal tt none blame

      forced_is_derivation : (p : P) → IsDerivation c next.goal p → IsDerivation c place.goal (c.join place.goal rule (p ∷ []))
      forced_is_derivation p h = at (c.is_paid rule) refl
        where
          from : (rank : ℕ) → rank_after (c.is_paid rule) rank ≡ Some h.0 → IsDerivation c place.goal (c.join place.goal rule (p ∷ []))
          from rank e = (
            rank,
            subst (λ (ds : List P). Contains ds (c.join place.goal rule (p ∷ []))) (sym (forced_derivations rank h.0 e))
                (Contains-map (λ d. c.join place.goal rule (d ∷ [])) (derivations c h.0 next.goal) p h.1),
          )

          at : (b : Bool) → c.is_paid rule ≡ b → IsDerivation c place.goal (c.join place.goal rule (p ∷ []))
          at true e = from (suc h.0) (ap (λ b. rank_after b (suc h.0)) e)
          at false e = from h.0 (ap (λ b. rank_after b h.0) e)

    -- ---- along a trail

    pub leads_derivations : (first : Place G) (trail : List (G × R)) (last : Place G) → Leads c is_goal first trail last
        → derivations c first.rank first.goal ≡ map (along c trail) (derivations c last.rank last.goal)
    leads_derivations first trail last (Here e d) =
        ap (λ (p : Place G). derivations c p.rank p.goal) (sym d) ∙ sym (map_itself (derivations c last.rank last.goal))
        ∙ ap (λ (trail : List (G × R)). map (along c trail) (derivations c last.rank last.goal)) (sym e)
    leads_derivations first trail last (Then before place rule l f e) =
        leads_derivations first before place l
        ∙ ap (map (along c before)) (forced_derivations place rule last f place.rank last.rank f.rank_is)
        ∙ map_map (λ d. c.join place.goal rule (d ∷ [])) (along c before) (derivations c last.rank last.goal)
        ∙ map_same _ _ (derivations c last.rank last.goal) (λ d. sym (along-push before (place.goal, rule) d))
        ∙ ap (λ (trail : List (G × R)). map (along c trail) (derivations c last.rank last.goal)) (sym e)

    -- the places that were passed
    abbrev pub Passed : Place G → List (G × R) → Place G → Type 0
    Passed first trail last = (before : List (Place G)) × (length before ≡ length trail) × (places c first.rank first.goal ≡ before ++ places c last.rank last.goal)

    pub leads_places : (first : Place G) (trail : List (G × R)) (last : Place G) → Leads c is_goal first trail last → Passed first trail last
    leads_places first trail last (Here e d) =
        ([], sym (ap length e), ap (λ (p : Place G). places c p.rank p.goal) (sym d))
    leads_places first trail last (Then before place rule l f e) =
        let h = leads_places first before place l in (
          h.0 ++ place ∷ [],
          length-append h.0 (place ∷ []) ∙ ap (λ n. n + 1) h.1 ∙ sym (ap length e ∙ length-append before ((place.goal, rule) ∷ [])),
          h.2 ∙ ap (λ (ps : List (Place G)). h.0 ++ ps) (forced_places place rule last f) ∙ sym (append_assoc h.0 (place ∷ []) (places c last.rank last.goal)),
        )

    pub leads_none : (first : Place G) (trail : List (G × R)) (last : Place G) → Leads c is_goal first trail last → HasNone c last.goal → HasNone c first.goal
    leads_none first trail last (Here e d) none = subst (λ (p : Place G). HasNone c p.goal) d none
    leads_none first trail last (Then before place rule l f e) none = leads_none first before place l (forced_none place rule last f none)

    pub leads_blame : {O : Type 0} (is_stuck : G → O → Type 0) (is_refuted : G → R → O → Type 0) (o : O) (first : Place G) (trail : List (G × R)) (last : Place G) → Leads c is_goal first trail last
        → HasNone c last.goal → IsBlame c is_stuck is_refuted last.goal o → IsBlame c is_stuck is_refuted first.goal o
    leads_blame is_stuck is_refuted o first trail last (Here e d) none blame = subst (λ (p : Place G). IsBlame c is_stuck is_refuted p.goal o) d blame
    leads_blame is_stuck is_refuted o first trail last (Then before place rule l f e) none blame =
        leads_blame is_stuck is_refuted o first before place l (forced_none place rule last f none) (forced_blame place rule last f is_stuck is_refuted o none blame)

    -- a trail is longer by a forced step
    pub leads_push : (first : Place G) (trail longer : List (G × R)) (place : Place G) (rule : R) (next : Place G) → Leads c is_goal first trail place
        → IsForced c is_goal place rule next → longer ≡ trail ++ (place.goal, rule) ∷ [] → Leads c is_goal first longer next
    leads_push first trail longer place rule next l f e = Then trail place rule l f e

    -- ---- joined along a trail

    -- what holds when the last step of a trail was taken off
    pub record IsTaken (trail before : List (G × R)) (goal : G) (rule : R) (proofs : List P) : Type 0 where
      pub may : MayJoinEach c is_goal goal rule (map (λ p. p ∷ []) proofs)
      pub rest : AreAlong c is_goal before (map (λ p. c.join goal rule (p ∷ [])) proofs)
      pub same : map (along c trail) proofs ≡ map (along c before) (map (λ p. c.join goal rule (p ∷ [])) proofs)

    taken_at : (first : Place G) (trail before : List (G × R)) (step : G × R) (last : Place G) (proofs : List P) → Leads c is_goal first trail last
        → AllByRecursion (IsDerivation c last.goal) proofs → trail ≡ before ++ step ∷ [] → IsTaken trail before step.0 step.1 proofs
    taken_at first trail before step last proofs (Here e d) h split = absurd (push_some before step (sym e ∙ split))
    taken_at first trail before step last proofs (Then front place rule l f e) h split =
        let both = push_same front before (place.goal, rule) step (sym e ∙ split) in
        subst (λ (b : List (G × R)). IsTaken trail b step.0 step.1 proofs) both.0
        (subst (λ (s : G × R). IsTaken trail front s.0 s.1 proofs) both.1
        (record {
          may = may_join_last is_goal place rule last proofs f h;
          rest = record {
            first = first;
            last = place;
            leads = l;
            derived = All_map _ (λ p. c.join place.goal rule (p ∷ [])) proofs (All_weaker _ _ proofs (λ p k. forced_is_derivation place rule last f p k) h);
          };
          same =
              ap (λ (trail : List (G × R)). map (along c trail) proofs) e
              ∙ map_same _ _ proofs (λ d. along-push front (place.goal, rule) d)
              ∙ sym (map_map (λ d. c.join place.goal rule (d ∷ [])) (along c front) proofs);
        }))

    pub is_taken : (trail before : List (G × R)) (step : G × R) (proofs : List P) → AreAlong c is_goal trail proofs → trail ≡ before ++ step ∷ [] → IsTaken trail before step.0 step.1 proofs
    is_taken trail before step proofs a split = taken_at a.first trail before step a.last proofs a.leads a.derived split

    -- ---- a search behind a trail

    pub found_are_along : (first : Place G) (trail : List (G × R)) (last : Place G) (wanted : ℕ) (found : List P) → Leads c is_goal first trail last
        → found ≡ take wanted (derivations c last.rank last.goal) → AreAlong c is_goal trail found
    found_are_along first trail last wanted found l e =
        record { first = first; last = last; leads = l; derived = subst (λ (ds : List P). AllByRecursion (IsDerivation c last.goal) ds) (sym e) (All_take _ wanted _ (listed last.rank last.goal)) }

    pub searched_along : (first : Place G) (trail : List (G × R)) (last : Place G) (wanted : ℕ) (old mid new : Budget) (found joined : List P) → Leads c is_goal first trail last
        → old.left ≡ mid.left + 1 + length trail → mid.is_cut ≡ old.is_cut
        → Searched c (places c last.rank last.goal) (λ r. derivations c r last.goal) last.rank wanted (uncounted mid) new found
        → joined ≡ map (along c trail) found
        → Searched c (places c first.rank first.goal) (λ r. derivations c r first.goal) first.rank wanted old new joined
    searched_along first trail last wanted old mid new found joined l counted cut s e =
        let h = leads_places first trail last l in
        record {
          first = e ∙ ap (map (along c trail)) s.first ∙ sym (take-map wanted (along c trail) (derivations c last.rank last.goal)) ∙ ap (take wanted) (sym (leads_derivations first trail last l));
          progress = subst (λ (ps : List (Place G)). Progress c ps old new) (sym h.2) (Progress-some c h.0 (places c last.rank last.goal) old (uncounted mid) new (counted ∙ ap (λ n. mid.left + 1 + n) (sym h.1)) cut s.progress);
          empty = λ none uncut. leads_none first trail last l (s.empty (map_empty (along c trail) found (sym e ∙ none)) uncut);
        }

    pub stops_along : {Q : Type 0} (is_spent : G → Q → Type 0) (first : Place G) (trail : List (G × R)) (last : Place G) (left mid : ℕ) (stop : Stop Q) → Leads c is_goal first trail last
        → left ≡ mid + length trail → Stops is_spent (places c last.rank last.goal) mid stop → Stops is_spent (places c first.rank first.goal) left stop
    stops_along is_spent first trail last left mid stop l counted s =
        let h = leads_places first trail last l in
        subst (λ (ps : List (Place G)). Stops is_spent ps left stop) (sym h.2) (Stops-front is_spent h.0 (places c last.rank last.goal) left mid stop (counted ∙ ap (λ n. mid + n) (sym h.1)) s)

module _ {G R P : Type 0} (c : Calculus G R P) where
  -- derivations joined one by one
  pub joined_ones : (goal : G) (rule : R) (proofs : List P) (rows : List (List P)) (joined : List P) → rows ≡ map (λ p. p ∷ []) proofs → joined ≡ map (c.join goal rule) rows
      → joined ≡ map (λ p. c.join goal rule (p ∷ [])) proofs
  joined_ones goal rule proofs rows joined e d = d ∙ ap (map (c.join goal rule)) e ∙ map_map (λ p. p ∷ []) (c.join goal rule) proofs

  pub along-none : (trail : List (G × R)) (proofs : List P) → trail ≡ [] → map (along c trail) proofs ≡ proofs
  along-none trail proofs e = ap (λ (t : List (G × R)). map (along c t) proofs) e ∙ map_same _ (λ p. p) proofs (λ p. refl) ∙ map_itself proofs

  -- where there is no choice, there is no derivation
  pub none_at_stuck : Falls c → (goal : G) → c.choices goal ≡ [] → HasNone c goal
  none_at_stuck falls goal e rank = derivations_is c falls rank goal ∙ ap (flat_map (derivations_by c rank goal)) e
