-- What is to blame where nothing is found.
use Rattle.std.proofs.Common.{◌≡◌, ◌<◌, ℕ, Option, Some, None, true, false, take, map, [], ◌∷◌, ◌++◌, List, refl, ap, sym, subst, ◌∙◌, inl, inr, MatchOption}
use Rattle.std.specs.Option.{option_or}
use Rattle.std.specs.List.{AllByRecursion}
use Rattle.hs_calculus.specs.Calculus.{Calculus}
use Rattle.hs_calculus.specs.Search.{derivations, extended}
use Rattle.hs_calculus.specs.Blame.{HasDerivation, HasNone, IsBlame, BlamedAmong, BlamedBy}
use Rattle.hs_calculus.specs.Blame.IsBlame.{Refuted, Below}
use Rattle.hs_calculus.specs.declared.budget.Budget.{Budget}
use Rattle.hs_calculus.proofs.Lists.{append_empty_front, append_empty_rest, map_empty, extended_none, extended_some, take_none}
use Rattle.hs_calculus.proofs.Searches.{was_false}
use Rattle.hs_calculus.proofs.Induct.{All_append}

or_keeps : {O : Type 0} (Q : O → Type 0) (o p : Option O) → MatchOption o ⊥ Q → MatchOption (option_or o p) ⊥ Q
or_keeps Q None p h = absurd h
or_keeps Q (Some o) p h = h

pub match_weaker : {O : Type 0} (Q S : O → Type 0) (o : Option O) → ((x : O) → Q x → S x) → MatchOption o ⊥ Q → MatchOption o ⊥ S
match_weaker Q S None f h = h
match_weaker Q S (Some o) f h = f o h

module _ {G R P O : Type 0} (c : Calculus G R P) (is_stuck : G → O → Type 0) (is_refuted : G → R → O → Type 0) where
  -- what is to blame for the first rule that was tried
  abbrev pub BlamedFirst : G → List P → Budget → List R → Option O → Type 0
  BlamedFirst goal found new [] blame = blame ≡ None
  BlamedFirst goal found new (rule ∷ tried) blame = found ≡ [] → new.is_cut ≡ false → MatchOption blame ⊥ (BlamedBy c is_stuck is_refuted goal rule)

  pub first_step : (goal : G) (b d : Budget) (found more : List P) (tried : List R) (rule : R) (blame next : Option O)
      → (b.is_cut ≡ true → d.is_cut ≡ true) → BlamedFirst goal found b tried blame
      → (more ≡ [] → d.is_cut ≡ false → MatchOption next ⊥ (BlamedBy c is_stuck is_refuted goal rule))
      → BlamedFirst goal (found ++ more) d (tried ++ rule ∷ []) (option_or blame next)
  first_step goal b d found more [] rule blame next kept s t =
      λ none uncut.
      subst (λ (o : Option O). MatchOption (option_or o next) ⊥ (BlamedBy c is_stuck is_refuted goal rule)) (sym s)
      (t (append_empty_rest found more none) uncut)
  first_step goal b d found more (r ∷ tried) rule blame next kept s t =
      λ none uncut. or_keeps _ blame next (s (append_empty_front found more none) (was_false b.is_cut d.is_cut kept uncut))

  -- the same, after the rows of a rule were joined
  pub first_more : {V : Type 0} (items : V → List P) (goal : G) (a b d e : Budget) (found more all : List P) (rows : List V) (tried : List R) (rule : R) (blame next both : Option O)
      → (b.is_cut ≡ true → d.is_cut ≡ true) → BlamedFirst goal found a tried blame → b ≡ a
      → (rows ≡ [] → d.is_cut ≡ false → MatchOption next ⊥ (BlamedBy c is_stuck is_refuted goal rule))
      → more ≡ map (c.join goal rule) (map items rows) → all ≡ found ++ more → e ≡ d → both ≡ option_or blame next
      → BlamedFirst goal all e (tried ++ rule ∷ []) both
  first_more items goal a b d e found more all rows tried rule blame next both kept s same t joined longer left or =
      subst (λ (o : Option O). BlamedFirst goal all e (tried ++ rule ∷ []) o) (sym or)
      (subst (λ (x : Budget). BlamedFirst goal all x (tried ++ rule ∷ []) (option_or blame next)) (sym left)
      (subst (λ (ps : List P). BlamedFirst goal ps d (tried ++ rule ∷ []) (option_or blame next)) (sym longer)
      (first_step goal b d found more tried rule blame next kept (subst (λ (x : Budget). BlamedFirst goal found x tried blame) (sym same) s)
      (λ none uncut. t (map_empty items rows (map_empty (c.join goal rule) (map items rows) (sym joined ∙ none))) uncut))))

  by_rule : (goal : G) (rule : R) (rest : List R) (o : O) → c.choices goal ≡ rule ∷ rest → BlamedBy c is_stuck is_refuted goal rule o → IsBlame c is_stuck is_refuted goal o
  by_rule goal rule rest o e (inl h) = Refuted rule rest e h
  by_rule goal rule rest o e (inr h) = Below rule rest h.before h.goal h.after e h.split h.some h.none h.blame

  pub first_done : (goal : G) (found : List P) (b : Budget) (rules : List R) (blame : Option O) → rules ≡ c.choices goal → ¬ (rules ≡ [])
      → BlamedFirst goal found b rules blame → found ≡ [] → b.is_cut ≡ false → MatchOption blame ⊥ (IsBlame c is_stuck is_refuted goal)
  first_done goal found b [] blame e some s none uncut = absurd (some refl)
  first_done goal found b (rule ∷ rest) blame e some s none uncut = match_weaker _ _ blame (λ o h. by_rule goal rule rest o (sym e) h) (s none uncut)

  pub by_subgoals : {X : Type 0} (goal : G) (rule : R) (goals : List G) (rows : List X) (b : Budget) (blame : Option O)
      → goals ≡ c.subgoals goal rule
      → (rows ≡ [] → b.is_cut ≡ false → MatchOption blame ⊥ (BlamedAmong c is_stuck is_refuted goals))
      → rows ≡ [] → b.is_cut ≡ false → MatchOption blame ⊥ (BlamedBy c is_stuck is_refuted goal rule)
  by_subgoals goal rule goals rows b blame e s none uncut =
      match_weaker _ _ blame (λ o h. inr (subst (λ (goals : List G). BlamedAmong c is_stuck is_refuted goals o) e h)) (s none uncut)

  pub among_here : (goals before after : List G) (goal : G) (blame : Option O) → goals ≡ before ++ goal ∷ after
      → AllByRecursion (HasDerivation c) before → HasNone c goal
      → MatchOption blame ⊥ (IsBlame c is_stuck is_refuted goal) → MatchOption blame ⊥ (BlamedAmong c is_stuck is_refuted goals)
  among_here goals before after goal blame split some none h =
      match_weaker _ _ blame (λ o k. record { before = before; goal = goal; after = after; split = split; some = some; none = none; blame = k }) h

pub found_none : {X : Type 0} (wanted : ℕ) (rows longer : List (List X)) (found : List X)
    → longer ≡ take wanted (extended rows found) → 0 < wanted → ¬ (rows ≡ []) → longer ≡ [] → found ≡ []
found_none wanted rows longer found e h some none = extended_some wanted rows found h (sym e ∙ none) some

module _ {G R P : Type 0} (c : Calculus G R P) where
  pub some_more : (before : List G) (goal : G) → AllByRecursion (HasDerivation c) before → HasDerivation c goal → AllByRecursion (HasDerivation c) (before ++ goal ∷ [])
  some_more before goal some h = All_append (HasDerivation c) before (goal ∷ []) some (h, tt)

  -- where a longer row is there, the last goal has a derivation
  pub has_derivation : (rank wanted : ℕ) (rows longer : List (List P)) (found : List P) (goal : G)
      → found ≡ take wanted (derivations c rank goal)
      → longer ≡ take wanted (extended rows found) → ¬ (longer ≡ []) → HasDerivation c goal
  has_derivation rank wanted rows longer found goal s e some =
      (rank, λ none. some (e ∙ ap (λ (xs : List P). take wanted (extended rows xs)) (s ∙ ap (take wanted) none ∙ take_none wanted) ∙ ap (take wanted) (extended_none rows) ∙ take_none wanted))
