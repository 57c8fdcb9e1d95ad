-- What a search holds after each of its steps.
use Rattle.std.proofs.Common.{◌≡◌, ◌<◌, ◌+◌, ◌-◌, ◌≤◌, ℕ, Bool, Option, Some, None, true, false, cond, take, map, zero, suc, [], ◌∷◌, ◌++◌, length, List, refl, ap, sym, subst, ◌∙◌, arith, append_assoc}
use Rattle.std.specs.List.{flat_map, Contains}
use Rattle.std.proofs.lemmas.List.{map-append}
use Rattle.std.proofs.lemmas.List.Concat.{flat_map-append}
use Rattle.hs_calculus.specs.Calculus.{Calculus, Falls}
use Rattle.hs_calculus.specs.Search.{derivations, places, derivations_by, rows_by, places_by, one_of_each, extended, rank_after}
use Rattle.hs_calculus.specs.Progress.{Progress, Searched, Stops, Halts, uncounted}
use Rattle.hs_calculus.specs.declared.place.Place.{Place}
use Rattle.hs_calculus.specs.declared.budget.Budget.{Budget}
use Rattle.hs_calculus.specs.declared.calculus.Stop.{Stop}
use Rattle.hs_calculus.proofs.Trees.{derivations_is, places_is, append-nil}
use Rattle.hs_calculus.proofs.Lists.{take-append_rest, take_full, take-map, take_empty, map_empty, append_empty, append_empty_front, append_empty_rest, take_none, take_extended, one_of_each_more, one_of_each_none, one_of_each_stops, extended_some}
use Rattle.hs_calculus.proofs.Progresses.{Progress-none, Progress-more, Progress-append, Progress-under, Progress-below, Progress-cut, Stops-more, Stops-under, Stops-append, Stops-below, Stops-halt}

pub was_false : (a b : Bool) → (a ≡ true → b ≡ true) → b ≡ false → a ≡ false
was_false false b h e = refl
was_false true b h e = let t : b ≡ true = h refl in cc

both : {X : Type 0} (b : Bool) → cond {A = List X} b [] [] ≡ []
both true = refl
both false = refl

unpaid : (b : Bool) (rank : ℕ) → rank_after b rank ≡ None → (b ≡ true) × (rank ≡ 0)
unpaid false rank e = absurd (cc)
unpaid true zero e = (refl, refl)
unpaid true (suc rank) e = absurd (cc)

module _ {G R P : Type 0} (c : Calculus G R P) where
  -- the same, of what f makes of each
  pub Searched-map : {X Y : Type 0} (f : X → Y) (ps : List (Place G)) (all : ℕ → List X) (rank wanted : ℕ) (a d : Budget) (found : List X)
      → Searched c ps all rank wanted a d found → Searched c ps (λ r. map f (all r)) rank wanted a d (map f found)
  Searched-map f ps all rank wanted a d found s =
      record {
        first = ap (map f) s.first ∙ sym (take-map wanted f (all rank));
        progress = s.progress;
        empty = λ none uncut r. ap (map f) (s.empty (map_empty f found none) uncut r);
      }

  -- ---- the rules of a goal

  -- these rules of a place were tried
  abbrev pub SearchedRules : Place G → ℕ → Budget → Budget → List P → List R → Type 0
  SearchedRules place wanted old new found tried =
      Searched c (place ∷ flat_map (places_by c place.rank place.goal) tried) (λ r. flat_map (derivations_by c r place.goal) tried) place.rank wanted old new found

  pub rules_init : (place : Place G) (wanted : ℕ) (a : Budget) → SearchedRules place wanted (uncounted a) a [] []
  rules_init place wanted a =
      record { first = sym (take_none wanted); progress = Progress-below c place [] a a (Progress-none c [] a); empty = λ n f r. refl }

  pub rules_step : (place : Place G) (wanted len : ℕ) (a b d : Budget) (found more : List P) (tried : List R) (rule : R)
      → SearchedRules place wanted a b found tried
      → Searched c (place ∷ places_by c place.rank place.goal rule) (λ r. derivations_by c r place.goal rule) place.rank (wanted - len) (uncounted b) d more
      → len ≡ length found → SearchedRules place wanted a d (found ++ more) (tried ++ rule ∷ [])
  rules_step place wanted len a b d found more tried rule s t e =
      let n : len ≡ length (take wanted (flat_map (derivations_by c place.rank place.goal) tried)) = e ∙ ap length s.first in
      let all : (r : ℕ) → flat_map (derivations_by c r place.goal) tried ++ derivations_by c r place.goal rule ≡ flat_map (derivations_by c r place.goal) (tried ++ rule ∷ []) =
      λ r. ap (λ ys. flat_map (derivations_by c r place.goal) tried ++ ys) (sym (append-nil (derivations_by c r place.goal rule)))
      ∙ sym (flat_map-append (derivations_by c r place.goal) tried (rule ∷ [])) in
      let tree : flat_map (places_by c place.rank place.goal) tried ++ places_by c place.rank place.goal rule ≡ flat_map (places_by c place.rank place.goal) (tried ++ rule ∷ []) =
      ap (λ ys. flat_map (places_by c place.rank place.goal) tried ++ ys) (sym (append-nil (places_by c place.rank place.goal rule)))
      ∙ sym (flat_map-append (places_by c place.rank place.goal) tried (rule ∷ [])) in
      record {
        first =
            ap (λ ys. ys ++ more) s.first
            ∙ ap (λ ys. take wanted (flat_map (derivations_by c place.rank place.goal) tried) ++ ys) (t.first ∙ ap (λ k. take (wanted - k) (derivations_by c place.rank place.goal rule)) n)
            ∙ take-append_rest wanted (flat_map (derivations_by c place.rank place.goal) tried) (derivations_by c place.rank place.goal rule)
            ∙ ap (take wanted) (all place.rank);
        progress = subst (λ (ps : List (Place G)). Progress c (place ∷ ps) a d) tree (Progress-under c _ _ _ a b d s.progress t.progress);
        empty = λ none uncut r.
            sym (all r)
            ∙ append_empty _ _ (s.empty (append_empty_front found more none) (was_false b.is_cut d.is_cut t.progress.kept uncut) r) (t.empty (append_empty_rest found more none) uncut r);
      }

  -- the same, after the rows of a rule were joined
  pub rules_more : (place : Place G) (wanted len : ℕ) (a b d e : Budget) (found more all : List P) (rows : List (List P)) (tried : List R) (rule : R)
      → SearchedRules place wanted a b found tried
      → Searched c (place ∷ places_by c place.rank place.goal rule) (λ r. rows_by c r place.goal rule) place.rank (wanted - len) (uncounted b) d rows
      → len ≡ length found → more ≡ map (c.join place.goal rule) rows → all ≡ found ++ more → e ≡ d
      → SearchedRules place wanted a e all (tried ++ rule ∷ [])
  rules_more place wanted len a b d e found more all rows tried rule s t n joined both kept =
      subst (λ (e : Budget). SearchedRules place wanted a e all (tried ++ rule ∷ [])) (sym kept)
      (subst (λ (ps : List P). SearchedRules place wanted a d ps (tried ++ rule ∷ [])) (ap (λ ps. found ++ ps) (sym joined) ∙ sym both)
      (rules_step place wanted len a b d found (map (c.join place.goal rule) rows) tried rule s
      (Searched-map (c.join place.goal rule) _ (λ r. rows_by c r place.goal rule) place.rank (wanted - len) (uncounted b) d rows t) n))

  -- where enough was found, the rest adds nothing
  pub rules_full : (place : Place G) (wanted : ℕ) (a b : Budget) (found : List P) (tried rest : List R)
      → SearchedRules place wanted a b found tried → 0 < wanted → wanted ≤ length found → SearchedRules place wanted a b found (tried ++ rest)
  rules_full place wanted a b found tried rest s some full =
      let all : flat_map (derivations_by c place.rank place.goal) tried ++ flat_map (derivations_by c place.rank place.goal) rest ≡ flat_map (derivations_by c place.rank place.goal) (tried ++ rest) =
      sym (flat_map-append (derivations_by c place.rank place.goal) tried rest) in
      let tree : flat_map (places_by c place.rank place.goal) tried ++ flat_map (places_by c place.rank place.goal) rest ≡ flat_map (places_by c place.rank place.goal) (tried ++ rest) =
      sym (flat_map-append (places_by c place.rank place.goal) tried rest) in
      let n : length found ≡ length (take wanted (flat_map (derivations_by c place.rank place.goal) tried)) = ap length s.first in
      record {
        first =
            s.first ∙ sym (take_full wanted (flat_map (derivations_by c place.rank place.goal) tried) (flat_map (derivations_by c place.rank place.goal) rest) (omega arith))
            ∙ ap (take wanted) all;
        progress = subst (λ (ps : List (Place G)). Progress c (place ∷ ps) a b) tree (Progress-more c (place ∷ _) _ a b s.progress);
        empty = λ none uncut r. let z : length found ≡ 0 = ap length none in absurd (omega arith);
      }

  pub rules_done : Falls c → (place : Place G) (wanted : ℕ) (a b : Budget) (found : List P) (rules : List R) → rules ≡ c.choices place.goal
      → SearchedRules place wanted a b found rules
      → Searched c (places c place.rank place.goal) (λ r. derivations c r place.goal) place.rank wanted a b found
  rules_done falls place wanted a b found rules e s =
      let d : (r : ℕ) → flat_map (derivations_by c r place.goal) rules ≡ derivations c r place.goal = λ r. ap (flat_map (derivations_by c r place.goal)) e ∙ sym (derivations_is c falls r place.goal) in
      record {
        first = s.first ∙ ap (take wanted) (d place.rank);
        progress = subst (λ (ps : List (Place G)). Progress c ps a b) (ap (λ (rules : List R). place ∷ flat_map (places_by c place.rank place.goal) rules) e ∙ sym (places_is c falls place.rank place.goal)) s.progress;
        empty = λ none uncut r. sym (d r) ∙ s.empty none uncut r;
      }

  -- the same, where enough was found by the last rule
  pub rules_enough : Falls c → (place : Place G) (wanted : ℕ) (a b : Budget) (found : List P) (rules tried rest : List R) (rule : R)
      → SearchedRules place wanted a b found (tried ++ rule ∷ []) → rules ≡ tried ++ rule ∷ rest → rules ≡ c.choices place.goal → 0 < wanted → wanted ≤ length found
      → Searched c (places c place.rank place.goal) (λ r. derivations c r place.goal) place.rank wanted a b found
  rules_enough falls place wanted a b found rules tried rest rule s split e some full =
      rules_done falls place wanted a b found ((tried ++ rule ∷ []) ++ rest) (append_assoc tried (rule ∷ []) rest ∙ sym split ∙ e)
      (rules_full place wanted a b found (tried ++ rule ∷ []) rest s some full)

  -- ---- a rule

  -- the rows of a rule were searched
  abbrev pub SearchedBy : Place G → R → ℕ → Budget → Budget → List (List P) → Type 0
  SearchedBy place rule wanted old new rows =
      Searched c (place ∷ places_by c place.rank place.goal rule) (λ r. rows_by c r place.goal rule) place.rank wanted old new rows

  pub by_unpaid : (place : Place G) (rule : R) (wanted : ℕ) (a : Budget) → rank_after (c.is_paid rule) place.rank ≡ None → Contains (c.choices place.goal) rule
      → SearchedBy place rule wanted (uncounted a) (record { left = a.left; is_cut = true }) []
  by_unpaid place rule wanted a none choice =
      let here : Option ℕ → List (List P) =
      λ o. elim o [ None ↦ [] | Some left ↦ cond (c.holds place.goal rule) (one_of_each (map (derivations c left) (c.subgoals place.goal rule))) [] ] in
      let paid = unpaid (c.is_paid rule) place.rank none in
      record {
        first = sym (ap (λ o. take wanted (here o)) none ∙ take_none wanted);
        progress = Progress-cut c place (places_by c place.rank place.goal rule) rule a paid.1 choice paid.0;
        empty = λ e uncut r. absurd (cc);
      }

  pub by_false : (place : Place G) (rule : R) (wanted : ℕ) (a : Budget) → c.holds place.goal rule ≡ false
      → SearchedBy place rule wanted (uncounted a) a []
  by_false place rule wanted a denied =
      record {
        first = sym (ap (take wanted) (none place.rank) ∙ take_none wanted);
        progress = Progress-below c _ _ a a (Progress-none c _ a);
        empty = λ e uncut r. none r;
      }
    where
      at : (o : Option ℕ) → ◌≡◌ {A = List (List P)} (elim o [ None ↦ [] | Some left ↦ cond (c.holds place.goal rule) (one_of_each (map (derivations c left) (c.subgoals place.goal rule))) [] ]) []
      at None = refl
      at (Some left) = ap (λ b. cond b (one_of_each (map (derivations c left) (c.subgoals place.goal rule))) []) denied

      none : (r : ℕ) → rows_by c r place.goal rule ≡ []
      none r = at (rank_after (c.is_paid rule) r)

  pub by_rows : (place : Place G) (rule : R) (left wanted : ℕ) (a d : Budget) (rows : List (List P)) (goals : List G)
      → rank_after (c.is_paid rule) place.rank ≡ Some left → goals ≡ c.subgoals place.goal rule → c.holds place.goal rule ≡ true
      → Searched c (flat_map (places c left) goals) (λ r. one_of_each (map (derivations c r) goals)) left wanted a d rows
      → SearchedBy place rule wanted (uncounted a) d rows
  by_rows place rule left wanted a d rows goals some subgoals granted s =
      let joined : ℕ → List (List P) = λ left. one_of_each (map (derivations c left) (c.subgoals place.goal rule)) in
      let here : Option ℕ → List (List P) = λ o. elim o [ None ↦ [] | Some left ↦ cond (c.holds place.goal rule) (joined left) [] ] in
      let below : Option ℕ → List (Place G) = λ o. elim o [ None ↦ [] | Some left ↦ flat_map (places c left) (c.subgoals place.goal rule) ] in
      record {
        first =
            s.first
            ∙ ap (λ (goals : List G). take wanted (one_of_each (map (derivations c left) goals))) subgoals
            ∙ sym (ap (λ o. take wanted (here o)) some ∙ ap (λ b. take wanted (cond b (joined left) [])) granted);
        progress = subst (λ (ps : List (Place G)). Progress c (place ∷ ps) (uncounted a) d)
            (ap (λ (goals : List G). flat_map (places c left) goals) subgoals ∙ sym (ap below some)) (Progress-below c place _ a d s.progress);
        empty = λ none uncut r. at (λ r. ap (λ (goals : List G). one_of_each (map (derivations c r) goals)) (sym subgoals) ∙ s.empty none uncut r) (rank_after (c.is_paid rule) r);
      }
    where
      at : ((r : ℕ) → one_of_each (map (derivations c r) (c.subgoals place.goal rule)) ≡ []) → (o : Option ℕ)
          → ◌≡◌ {A = List (List P)} (elim o [ None ↦ [] | Some left ↦ cond (c.holds place.goal rule) (one_of_each (map (derivations c left) (c.subgoals place.goal rule))) [] ]) []
      at h None = refl
      at h (Some left) = ap (λ (rows : List (List P)). cond (c.holds place.goal rule) rows []) (h left) ∙ both (c.holds place.goal rule)

  -- ---- the subgoals of a rule

  -- these goals were searched
  abbrev pub SearchedGoals : ℕ → ℕ → Budget → Budget → List (List P) → List G → Type 0
  SearchedGoals rank wanted old new rows searched =
      Searched c (flat_map (places c rank) searched) (λ r. one_of_each (map (derivations c r) searched)) rank wanted old new rows

  pub goals_init : (rank wanted : ℕ) (a : Budget) (rows : List (List P)) → 0 < wanted → rows ≡ [] ∷ [] → SearchedGoals rank wanted a a rows []
  goals_init rank zero a rows h e = absurd (omega arith)
  goals_init rank (suc wanted) a rows h e =
      record {
        first = e ∙ ap (λ (ys : List (List P)). [] ∷ ys) (sym (take_none wanted));
        progress = Progress-none c [] a;
        empty = λ none uncut r. absurd (cc);
      }

  pub goals_step : (rank wanted : ℕ) (a b d : Budget) (rows longer : List (List P)) (found : List P) (searched : List G) (goal : G)
      → SearchedGoals rank wanted a b rows searched → ¬ (rows ≡ [])
      → Searched c (places c rank goal) (λ r. derivations c r goal) rank wanted b d found
      → longer ≡ take wanted (extended rows found) → 0 < wanted
      → SearchedGoals rank wanted a d longer (searched ++ goal ∷ [])
  goals_step rank wanted a b d rows longer found searched goal s some t e h =
      let lists : (r : ℕ) → map (derivations c r) (searched ++ goal ∷ []) ≡ map (derivations c r) searched ++ derivations c r goal ∷ [] =
      λ r. map-append (derivations c r) searched (goal ∷ []) in
      let tree : flat_map (places c rank) searched ++ places c rank goal ≡ flat_map (places c rank) (searched ++ goal ∷ []) =
      ap (λ ys. flat_map (places c rank) searched ++ ys) (sym (append-nil (places c rank goal)))
      ∙ sym (flat_map-append (places c rank) searched (goal ∷ [])) in
      record {
        first =
            e ∙ ap (λ (rows : List (List P)). take wanted (extended rows found)) s.first
            ∙ ap (λ (xs : List P). take wanted (extended (take wanted (one_of_each (map (derivations c rank) searched))) xs)) t.first
            ∙ take_extended wanted (one_of_each (map (derivations c rank) searched)) (derivations c rank goal)
            ∙ ap (take wanted) (sym (one_of_each_more (map (derivations c rank) searched) (derivations c rank goal)) ∙ ap one_of_each (sym (lists rank)));
        progress = subst (λ (ps : List (Place G)). Progress c ps a d) tree (Progress-append c _ _ a b d s.progress t.progress);
        empty = λ none uncut r.
            ap one_of_each (lists r ∙ ap (λ (xs : List P). map (derivations c r) searched ++ xs ∷ []) (t.empty (extended_some wanted rows found h (sym e ∙ none) some) uncut r))
            ∙ one_of_each_none (map (derivations c r) searched) [];
      }

  -- where no row is left, the rest adds nothing
  pub goals_stop : (rank wanted : ℕ) (a b : Budget) (rows : List (List P)) (searched rest : List G)
      → SearchedGoals rank wanted a b rows searched → rows ≡ [] → 0 < wanted → SearchedGoals rank wanted a b rows (searched ++ rest)
  goals_stop rank wanted a b rows searched rest s none h =
      let lists : (r : ℕ) → one_of_each (map (derivations c r) searched) ≡ [] → one_of_each (map (derivations c r) (searched ++ rest)) ≡ [] =
      λ r e. ap one_of_each (map-append (derivations c r) searched rest)
      ∙ one_of_each_stops (map (derivations c r) searched) (map (derivations c r) rest) e in
      record {
        first = none ∙ sym (ap (take wanted) (lists rank (take_empty wanted _ h (sym s.first ∙ none))) ∙ take_none wanted);
        progress = subst (λ (ps : List (Place G)). Progress c ps a b) (sym (flat_map-append (places c rank) searched rest)) (Progress-more c _ _ a b s.progress);
        empty = λ e uncut r. lists r (s.empty e uncut r);
      }

  -- ---- where it stops

  -- at the goal that is one too many
  pub stops_at_none : Falls c → (place : Place G) (left : ℕ) → left ≡ 0 → left < length (places c place.rank place.goal)
  stops_at_none falls place left e = rw (places_is c falls place.rank place.goal) (omega arith)

  module _ {Q : Type 0} (is_spent : G → Q → Type 0) where
    pub stops_at_goal : Falls c → (place : Place G) (left : ℕ) (stop : Stop Q) → Halts is_spent place.goal stop → Stops is_spent (places c place.rank place.goal) left stop
    stops_at_goal falls place left stop h =
        subst (λ (ps : List (Place G)). Stops is_spent ps left stop) (sym (places_is c falls place.rank place.goal)) (Stops-halt is_spent place _ left stop h)

    pub stops_at_rule : Falls c → (place : Place G) (wanted : ℕ) (a b : Budget) (found : List P) (rules tried rest : List R) (rule : R) (stop : Stop Q)
        → SearchedRules place wanted a b found tried
        → Stops is_spent (place ∷ places_by c place.rank place.goal rule) (b.left + 1) stop
        → rules ≡ tried ++ rule ∷ rest → rules ≡ c.choices place.goal
        → Stops is_spent (places c place.rank place.goal) a.left stop
    stops_at_rule falls place wanted a b found rules tried rest rule stop s h split e =
        let tree : (flat_map (places_by c place.rank place.goal) tried ++ places_by c place.rank place.goal rule) ++ flat_map (places_by c place.rank place.goal) rest ≡ flat_map (places_by c place.rank place.goal) (c.choices place.goal) =
        append_assoc (flat_map (places_by c place.rank place.goal) tried) (places_by c place.rank place.goal rule) (flat_map (places_by c place.rank place.goal) rest)
        ∙ sym (flat_map-append (places_by c place.rank place.goal) tried (rule ∷ rest))
        ∙ ap (flat_map (places_by c place.rank place.goal)) (sym split ∙ e) in
        subst (λ (ps : List (Place G)). Stops is_spent ps a.left stop) (ap (λ (ps : List (Place G)). place ∷ ps) tree ∙ sym (places_is c falls place.rank place.goal))
        (Stops-more is_spent (place ∷ (flat_map (places_by c place.rank place.goal) tried ++ places_by c place.rank place.goal rule)) _ a.left stop
        (Stops-under is_spent c place _ _ a b stop s.progress h))

    pub stops_at_each : (place : Place G) (rule : R) (left spare : ℕ) (goals : List G) (stop : Stop Q)
        → rank_after (c.is_paid rule) place.rank ≡ Some left → goals ≡ c.subgoals place.goal rule
        → Stops is_spent (flat_map (places c left) goals) spare stop
        → Stops is_spent (place ∷ places_by c place.rank place.goal rule) (spare + 1) stop
    stops_at_each place rule left spare goals stop some subgoals h =
        let below : Option ℕ → List (Place G) = λ o. elim o [ None ↦ [] | Some left ↦ flat_map (places c left) (c.subgoals place.goal rule) ] in
        Stops-below is_spent place (places_by c place.rank place.goal rule) spare stop
        (subst (λ (ps : List (Place G)). Stops is_spent ps spare stop) (ap (λ (goals : List G). flat_map (places c left) goals) subgoals ∙ sym (ap below some)) h)

    pub stops_at_one : (rank wanted : ℕ) (a b : Budget) (rows : List (List P)) (goals searched rest : List G) (goal : G) (stop : Stop Q)
        → SearchedGoals rank wanted a b rows searched → Stops is_spent (places c rank goal) b.left stop
        → goals ≡ searched ++ goal ∷ rest
        → Stops is_spent (flat_map (places c rank) goals) a.left stop
    stops_at_one rank wanted a b rows goals searched rest goal stop s h split =
        let tree : (flat_map (places c rank) searched ++ places c rank goal) ++ flat_map (places c rank) rest ≡ flat_map (places c rank) goals =
        append_assoc (flat_map (places c rank) searched) (places c rank goal) (flat_map (places c rank) rest)
        ∙ sym (flat_map-append (places c rank) searched (goal ∷ rest))
        ∙ ap (flat_map (places c rank)) (sym split) in
        subst (λ (ps : List (Place G)). Stops is_spent ps a.left stop) tree
        (Stops-more is_spent (flat_map (places c rank) searched ++ places c rank goal) _ a.left stop (Stops-append is_spent c _ _ a b stop s.progress h))
