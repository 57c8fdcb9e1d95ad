-- What the rows hold where a command takes the words: each value passed the parser of its argument.
use Rattle.std.proofs.Common.{◌≡◌, ◌∙◌, ◌&&◌, ◌||◌, ◌⊎◌, ◌<◌, ◌≤◌, ◌++◌, ℕ, Bool, cond, true, false, not, zero, suc, refl, sym, ap, subst, inl, inr, arith, List, [], ◌∷◌, length, drop, nat_le, is_some, Option, Some, None, leb-true, length-append}
use Rattle.std.specs.Prelude.{encode_utf8, option_and_then, option_map, slice_get, unwrap_or}
use Rattle.std.specs.Option.{option_map_or}
use Rattle.std.specs.List.{AllByRecursion, find, fold, list_all, list_any}
use Rattle.std.specs.Str.{bytes_eq, chars}
use Rattle.std.proofs.lemmas.List.Folds.{list_all-append}
use Rattle.std.proofs.lemmas.Slice.Eq.{bytes_eq-Decides}
use Rattle.clap.specs.Lexer.{long_of, short_of}
use Rattle.clap.specs.Facts.{explicit_source, unwrap_or_range}
use Rattle.clap.specs.Values.{read_as}
use Rattle.clap.specs.Walk.{Held, Names, Outcome, Row, Rule, Step, Text, Waiting, Walk, action_of, after_flag, after_step, arg_by_id, arg_by_index, arg_by_long, arg_by_short, at_row, attached_value, bundle_met, bundle_step, default_rows, done, first_of, flag_met, has_row, idle, is_pending, long_met, long_or_other, more_values, next, nothing_held, one_of, option, option_met, option_word, plain, plain_word, positional, positional_held, reacted, reading_by, refused, row_text, rows_after, settled, settled_rows, short_met, short_or_plain, subcommand, subcommand_met, subcommand_or_other, takes_several, takes_values, to_positional, trailing, used, used_as, used_by_id, value, waits, walk, walk_from, walked, walked_from, with_default, with_values, without, word_met}
use Rattle.clap.specs.Simple.{Shape}
use Rattle.clap.specs.Takes.{action_passes, bundle_step_passes, default_passes, flag_word_passes, flags_pass, is_given, is_valid, level_passes, long_passes, option_passes, other_passes, positional_passes, react_passes, settle_passes, short_passes, step_passes, turn_passes, use_passes, value_passes, values_pass, walk_passes, word_passes}
use Rattle.clap.specs.declared.builder.ArgAction.{ArgAction}
use Rattle.clap.specs.declared.builder.ArgAction.TheVariants.{Set}
use Rattle.clap.specs.declared.parser.ValueSource.{ValueSource}
use Rattle.clap.specs.declared.parser.ValueSource.TheVariants.{CommandLine}
use Rattle.clap.proofs.WalkLemmas.{both}

-- ---- rows

-- the row of an argument has values that passed its parser, one or more, and is read as the parser says
abbrev pub RowFits : List Rule → Row → Type 0
RowFits c r = (a : Rule) → arg_by_id c r.id ≡ Some a
    → (values_pass a r.values ≡ true) × (0 < length r.values) × (r.reading ≡ reading_by a)

abbrev pub RowsFit : List Rule → List Row → Type 0
RowsFit c = AllByRecursion (RowFits c)

-- the argument is the first of its id, and a use gives it one value or more, or is refused
abbrev pub IsOwn : List Rule → Rule → Type 0
IsOwn c a = (arg_by_id c a.id ≡ Some a)
    × (((action_of a ≡ Set) × (1 ≤ (unwrap_or_range a.range).start_inclusive))
    ⊎ ((again : Bool) (values : List Text) (rows : List Row) → use_passes again a values rows ≡ true → ⊥))

joined : (P : Row → Type 0) (xs ys : List Row) → AllByRecursion P xs → AllByRecursion P ys → AllByRecursion P (xs ++ ys)
joined P [] ys hx hy = hy
joined P (x ∷ xs) ys hx hy = (hx.0, joined P xs ys hx.1 hy)

at_row-fits : (P : Row → Type 0) (id : Text) (change : Row → List Row) (missing rows : List Row)
    → ((r : Row) → r.id ≡ id → P r → AllByRecursion P (change r)) → AllByRecursion P missing → AllByRecursion P rows
    → AllByRecursion P (at_row id change missing rows)
at_row-fits P id change missing [] changed new h = new
at_row-fits P id change missing (r ∷ rs) changed new h = go (bytes_eq r.id id) refl (at_row-fits P id change missing rs changed new h.1)
  where
    go : (b : Bool) → bytes_eq r.id id ≡ b → AllByRecursion P (at_row id change missing rs)
        → AllByRecursion P (cond b (change r ++ rs) (r ∷ at_row id change missing rs))
    go true same rest = joined P (change r) rs (changed r ((bytes_eq-Decides r.id id).0 same) h.0) h.1
    go false other rest = (h.0, rest)

module _ (c : List Rule) where
  only : (a b : Rule) (id : Text) → arg_by_id c a.id ≡ Some a → id ≡ a.id → arg_by_id c id ≡ Some b → a ≡ b
  only a b id first same found =
      ap (λ o. unwrap_or o a) (sym first ∙ (ap (arg_by_id c) (sym same) ∙ found))

  set_fits : (a : Rule) (values : List Text) (s : ValueSource) (rows : List Row) → arg_by_id c a.id ≡ Some a → values_pass a values ≡ true → 0 < length values
      → RowsFit c rows → RowsFit c (with_values a.id (reading_by a) s values (without a.id rows))
  set_fits a values s rows first pass some h =
      at_row-fits (RowFits c) a.id (more_values s values) _ (without a.id rows)
      (λ r same fits. (
        λ b found.
            let one = only a b r.id first same found in
            let old = fits b found in (
              list_all-append _ r.values values ∙ both_pass _ _ old.0 (subst (λ (x : Rule). values_pass x values ≡ true) one pass),
              rw (length-append r.values values) (omega (arith, old.1)),
              old.2,
            ),
        tt,
      )) (
        λ b found. let one = only a b a.id first refl found in (
          subst (λ (x : Rule). values_pass x values ≡ true) one pass,
          some,
          ap reading_by one,
        ),
        tt,
      )
      (at_row-fits (RowFits c) a.id (λ _. []) [] rows (λ r same fits. tt) tt h)
    where
      both_pass : (x y : Bool) → x ≡ true → y ≡ true → (x && y) ≡ true
      both_pass true y ex ey = ey
      both_pass false y ex ey = cc

  zero-lt : (n : ℕ) → 0 < suc n
  zero-lt n = omega arith

  used_set : (again : Bool) (a : Rule) (values : List Text) (rows : List Row) → arg_by_id c a.id ≡ Some a → action_of a ≡ Set
      → 1 ≤ (unwrap_or_range a.range).start_inclusive → use_passes again a values rows ≡ true → RowsFit c rows → RowsFit c (used a values rows)
  used_set again a [] rows first set least e h =
      let none = leb-true (unwrap_or_range a.range).start_inclusive 0 (both _ _ e).0 in
      absurd (omega arith)
  used_set again a (v ∷ vs) rows first set least e h =
      let act = (both _ _ (both (nat_le (unwrap_or_range a.range).start_inclusive (length (v ∷ vs))) _ e).1).1 in
      let as_set = subst (λ (x : ArgAction). action_passes x again a (v ∷ vs) rows ≡ true) set act in
      subst (λ (x : ArgAction). RowsFit c (used_as x a.id (reading_by a) (v ∷ vs) rows)) (sym set)
      (set_fits a (v ∷ vs) CommandLine rows first (both (not (has_row a.id rows) || again) _ as_set).1 (zero-lt (length vs)) h)

  used_fits : (again : Bool) (a : Rule) (values : List Text) (rows : List Row) → IsOwn c a → use_passes again a values rows ≡ true → RowsFit c rows
      → RowsFit c (used a values rows)
  used_fits again a values rows own e h = elim own.1 [
    | inl set ↦ used_set again a values rows own.0 set.0 set.1 e h
    | inr refuses ↦ absurd (refuses again values rows e)
  ]

found_own : (P : Rule → Type 0) (p : Rule → Bool) (xs : List Rule) (a : Rule) → AllByRecursion P xs → find p xs ≡ Some a → P a
found_own P p [] a h e = cc
found_own P p (x ∷ xs) a h e = go (p x) e (found_own P p xs a h.1)
  where
    go : (b : Bool) → cond b (Some x) (find p xs) ≡ Some a → (find p xs ≡ Some a → P a) → P a
    go true e later = let same : x ≡ a = ap (λ o. unwrap_or o x) e in subst P same h.0
    go false e later = later e

-- ---- the walk

module _ (c : List Rule) (again : Bool) (own : AllByRecursion (IsOwn c) c) where
  pending_fits : (p : Option (Text × List Text)) (rows : List Row)
      → option_map_or (λ q. option_map_or (λ a. use_passes again a q.1 rows) (arg_by_id c q.0) true) p true ≡ true
      → RowsFit c rows → RowsFit c (settled_rows c p rows)
  pending_fits None rows e h = h
  pending_fits (Some q) rows e h = go (arg_by_id c q.0) refl e
    where
      go : (o : Option Rule) → arg_by_id c q.0 ≡ o → option_map_or (λ a. use_passes again a q.1 rows) o true ≡ true → RowsFit c (used_by_id o q.1 rows)
      go None found e = h
      go (Some a) found e = used_fits c again a q.1 rows (found_own (IsOwn c) _ c a own found) e h

  settled_fits : (h : Held) → settle_passes c again h ≡ true → RowsFit c h.rows → RowsFit c (settled c h).rows
  settled_fits h e fits = pending_fits h.pending h.rows e fits

  reacted_fits : (a : Rule) (values : List Text) (h : Held) → IsOwn c a → react_passes c again a values h ≡ true → RowsFit c h.rows
      → RowsFit c (reacted c a values h).rows
  reacted_fits a values h own_a e fits =
      let p = both (settle_passes c again h) _ e in
      used_fits c again a values (settled c h).rows own_a p.1 (settled_fits h p.0 fits)

  option_fits : (a : Rule) (v : Option Text) (h : Held) → IsOwn c a → option_passes c again a v h ≡ true → RowsFit c h.rows
      → RowsFit c (option_met c a v h).0.rows
  option_fits a (Some v) h own_a e fits = reacted_fits a (v ∷ []) h own_a e fits
  option_fits a None h own_a e fits = settled_fits h e fits

  flag_fits : (a : Rule) (v : Option Text) (h : Held) → IsOwn c a → (not (is_some v) && react_passes c again a [] h) ≡ true → RowsFit c h.rows
      → RowsFit c (flag_met c a v h).0.rows
  flag_fits a (Some v) h own_a e fits = fits
  flag_fits a None h own_a e fits = reacted_fits a [] h own_a e fits

  long_fits : (o : Option Rule) (v : Option Text) (h : Held) → ((a : Rule) → o ≡ Some a → IsOwn c a) → long_passes c again o v h ≡ true → RowsFit c h.rows
      → RowsFit c (long_met c o v h).0.rows
  long_fits None v h own_a e fits = fits
  long_fits (Some a) v h own_a e fits = go (takes_values a) e
    where
      go : (b : Bool) → cond b (option_passes c again a v h) (not (is_some v) && react_passes c again a [] h) ≡ true
          → RowsFit c (cond b (option_met c a v h) (flag_met c a v h)).0.rows
      go true e = option_fits a v h (own_a a refl) e fits
      go false e = flag_fits a v h (own_a a refl) e fits

  short_fits : (o : Option Rule) (rest : Text) (h : Held) (passes : Held → Bool) (met : Held → Held × Outcome) → ((a : Rule) → o ≡ Some a → IsOwn c a)
      → ((g : Held) → passes g ≡ true → RowsFit c g.rows → RowsFit c (met g).0.rows)
      → short_passes c again o rest h passes ≡ true → RowsFit c h.rows → RowsFit c (short_met c o rest h met).0.rows
  short_fits None rest h passes met own_a then e fits = fits
  short_fits (Some a) rest h passes met own_a then e fits = go (takes_values a) e
    where
      go : (b : Bool) → cond b (option_passes c again a (attached_value rest) h) (react_passes c again a [] h && passes (reacted c a [] h)) ≡ true
          → RowsFit c (cond b (option_met c a (attached_value rest) h) (met (reacted c a [] h))).0.rows
      go true e = option_fits a (attached_value rest) h (own_a a refl) e fits
      go false e =
          let p = both (react_passes c again a [] h) _ e in
          then (reacted c a [] h) p.1 (reacted_fits a [] h (own_a a refl) p.0 fits)

  bundle_step_fits : (x : Option ℕ) (flags : Text) (skip : ℕ) (so_far : Outcome) (h : Held) (passes : Text → ℕ → Held → Bool)
      (met : Text → ℕ → Outcome → Held → Held × Outcome)
      → ((t : Text) (n : ℕ) (o : Outcome) (g : Held) → passes t n g ≡ true → RowsFit c g.rows → RowsFit c (met t n o g).0.rows)
      → bundle_step_passes c again x flags skip h passes ≡ true → RowsFit c h.rows → RowsFit c (bundle_step c x flags skip so_far h met).0.rows
  bundle_step_fits None flags skip so_far h passes met then e fits = fits
  bundle_step_fits (Some x) flags zero so_far h passes met then e fits =
      let rest = drop (length (encode_utf8 x)) flags in
      short_fits (arg_by_short c x) rest h (passes rest 0) (met rest 0 done) (λ a found. found_own (IsOwn c) _ c a own found) (then rest 0 done) e fits
  bundle_step_fits (Some x) flags (suc skip) so_far h passes met then e fits = then _ _ _ _ e fits

  flags_fit : (k : ℕ) (flags : Text) (skip : ℕ) (so_far : Outcome) (h : Held) → flags_pass c again k flags skip h ≡ true → RowsFit c h.rows
      → RowsFit c (bundle_met c k flags skip so_far h).0.rows
  unfolding flags_pass bundle_met
  flags_fit zero flags skip so_far h e fits = fits
  flags_fit (suc k) flags skip so_far h e fits =
      bundle_step_fits (slice_get (chars flags) 0) flags skip so_far h (flags_pass c again k) (bundle_met c k) (flags_fit k) e fits

  plain_rows : (waiting : Waiting) (word : Text) (h : Held) → (plain_word c waiting word h).0.rows ≡ h.rows
  plain_rows idle word h = refl
  plain_rows positional word h = refl
  plain_rows (option id) word h = go (arg_by_id c id)
    where
      go : (o : Option Rule) → (option_word o id word h).0.rows ≡ h.rows
      go None = refl
      go (Some a) = refl

  flag_rows : (waiting : Waiting) (word : Text) (h : Held) (o : Outcome) → (after_flag c waiting word h o).0.rows ≡ h.rows
  flag_rows waiting word h done = refl
  flag_rows waiting word h (waits id) = refl
  flag_rows waiting word h plain = plain_rows waiting word h
  flag_rows waiting word h refused = plain_rows waiting word h

  flag_word_fits : (waiting : Waiting) (o : Option (Text × Option Text)) (word : Text) (h : Held) → flag_word_passes c again o word h ≡ true → RowsFit c h.rows
      → RowsFit c (long_or_other c waiting word o h).0.rows
  flag_word_fits waiting (Some p) word h e fits =
      let met = long_met c (arg_by_long c p.0) p.1 h in
      subst (RowsFit c) (sym (flag_rows waiting word met.0 met.1))
      (long_fits (arg_by_long c p.0) p.1 h (λ a found. found_own (IsOwn c) _ c a own found) e fits)
  flag_word_fits waiting None word h e fits = go (short_of word) e
    where
      go : (o : Option Text) → option_map_or (λ flags. flags_pass c again (length flags) flags h.skip (record h { skip = 0 })) o true ≡ true
          → RowsFit c (short_or_plain c waiting word o h).0.rows
      go None e = subst (RowsFit c) (sym (plain_rows waiting word h)) fits
      go (Some flags) e =
          let met = bundle_met c (length flags) flags h.skip plain (record h { skip = 0 }) in
          subst (RowsFit c) (sym (flag_rows waiting word met.0 met.1))
          (flags_fit (length flags) flags h.skip plain (record h { skip = 0 }) e fits)

  positional_fits : (a : Rule) (word : Text) (h : Held) → positional_passes c again a h ≡ true → RowsFit c h.rows → RowsFit c (positional_held c a word h).rows
  positional_fits a word h e fits = go (is_pending a h.pending && takes_several a) e
    where
      go : (b : Bool) → (b || settle_passes c again h) ≡ true → RowsFit c (cond b h (settled c h)).rows
      go true e = fits
      go false e = settled_fits h e fits

module _ (s : Shape) (names : Names) (own : AllByRecursion (IsOwn s.rules) s.rules) where
  other_fits : (o : Option Text) (waiting : Waiting) (position : ℕ) (word : Text) (h : Held) → other_passes s o word h ≡ true → RowsFit s.rules h.rows
      → RowsFit s.rules (subcommand_or_other s.rules o waiting position word h).0.rows
  other_fits (Some name) waiting position word h e fits = fits
  other_fits None waiting position word h e fits = go (bytes_eq word (45 ∷ 45 ∷ [])) e
    where
      go : (b : Bool) → (b || flag_word_passes s.rules s.args_override_self (long_of word) word h) ≡ true
          → RowsFit s.rules (cond b (h, trailing position) (long_or_other s.rules waiting word (long_of word) h)).0.rows
      go true e = fits
      go false e = flag_word_fits s.rules s.args_override_self own waiting (long_of word) word h e fits

  word_fits : (is_trailing : Bool) (waiting : Waiting) (position : ℕ) (word : Text) (h : Held) → word_passes s names is_trailing waiting word h ≡ true
      → RowsFit s.rules h.rows → RowsFit s.rules (word_met s.rules names is_trailing waiting position word h).0.rows
  word_fits true waiting position word h e fits = fits
  word_fits false waiting position word h e fits = other_fits (subcommand_met names waiting word) waiting position word h e fits

  step_fits : (word : Text) (w : Walk) (h : Held) (step : Step) → step_passes s w.position h step ≡ true → RowsFit s.rules h.rows
      → RowsFit s.rules (after_step s.rules word w h step).held.rows
  step_fits word w h (next waiting) e fits = fits
  step_fits word w h (trailing position) e fits = fits
  step_fits word w h (subcommand name) e fits = fits
  step_fits word w h value e fits = go (arg_by_index s.rules w.position) e
    where
      go : (o : Option Rule) → option_map_or (λ a. positional_passes s.rules s.args_override_self a h) o false ≡ true
          → RowsFit s.rules (to_positional s.rules o word w h).held.rows
      go None e = fits
      go (Some a) e = positional_fits s.rules s.args_override_self own a word h e fits

  turn_fits : (w : Walk) (word : Text) → turn_passes s names w word ≡ true → RowsFit s.rules w.held.rows → RowsFit s.rules (walked s.rules names w word).held.rows
  unfolding walked
  turn_fits w word e fits = go w.stopped e
    where
      go : (o : Option (Text × List Text))
          → (is_some o || (word_passes s names w.is_trailing w.waiting word w.held
          && step_passes s w.position (word_met s.rules names w.is_trailing w.waiting w.position word w.held).0 (word_met s.rules names w.is_trailing w.waiting w.position word w.held).1)) ≡ true
          → RowsFit s.rules (walked_from s.rules names o w word).held.rows
      go (Some p) e = fits
      go None e =
          let met = word_met s.rules names w.is_trailing w.waiting w.position word w.held in
          let p = both (word_passes s names w.is_trailing w.waiting word w.held) _ e in
          step_fits word w met.0 met.1 p.1 (word_fits w.is_trailing w.waiting w.position word w.held p.0 fits)

  walk_fits : (w : Walk) (words : List Text) → walk_passes s names w words ≡ true → RowsFit s.rules w.held.rows
      → RowsFit s.rules (fold (walked s.rules names) w words).held.rows
  unfolding walk_passes
  walk_fits w [] e fits = fits
  walk_fits w (word ∷ rest) e fits =
      let p = both (turn_passes s names w word) _ e in
      walk_fits (walked s.rules names w word) rest p.1 (turn_fits w word p.0 fits)

-- ---- after the walk

abbrev pub HasNoDefaults : List Rule → Type 0
HasNoDefaults = AllByRecursion (λ a. a.defaults ≡ [])

no_defaults : (rows : List Row) (xs : List Rule) → HasNoDefaults xs → fold with_default rows xs ≡ rows
no_defaults rows [] h = refl
no_defaults rows (a ∷ rest) h = ap (λ r. fold with_default r rest) (go (has_row a.id rows)) ∙ no_defaults rows rest h.1
  where
    go : (b : Bool) → cond b rows (default_rows a.id (reading_by a) a.defaults rows) ≡ rows
    go true = refl
    go false = ap (λ d. default_rows a.id (reading_by a) d rows) h.0

-- the rows of a level that passes fit
pub level_fits : (s : Shape) (names : Names) (words : List Text) (sub : Bool) → AllByRecursion (IsOwn s.rules) s.rules → HasNoDefaults s.rules
    → level_passes s names nothing_held words sub ≡ true → RowsFit s.rules (rows_after s.rules names words)
level_fits s names words sub own none e =
    let end = (walk s.rules names nothing_held words).held in
    let p = both (walk_passes s names (walk_from nothing_held) words) _ e in
    let q = both (settle_passes s.rules s.args_override_self end) _ p.1 in
    subst (RowsFit s.rules) (sym (no_defaults (settled s.rules end).rows s.rules none))
    (settled_fits s.rules s.args_override_self own end q.0 (walk_fits s names own (walk_from nothing_held) words p.0 tt))

-- a row of an argument
pub row_fits : (c : List Rule) (rows : List Row) (id : Text) (a : Rule) (r : Row) → RowsFit c rows → arg_by_id c id ≡ Some a
    → find (λ x. bytes_eq x.id id) rows ≡ Some r → (values_pass a r.values ≡ true) × (0 < length r.values) × (r.reading ≡ reading_by a)
row_fits c [] id a r fits arg found = cc
row_fits c (x ∷ xs) id a r fits arg found = go (bytes_eq x.id id) refl found (row_fits c xs id a r fits.1 arg)
  where
    go : (b : Bool) → bytes_eq x.id id ≡ b → cond b (Some x) (find (λ y. bytes_eq y.id id) xs) ≡ Some r
        → (find (λ y. bytes_eq y.id id) xs ≡ Some r → (values_pass a r.values ≡ true) × (0 < length r.values) × (r.reading ≡ reading_by a))
        → (values_pass a r.values ≡ true) × (0 < length r.values) × (r.reading ≡ reading_by a)
    go true same found later =
        let is : x ≡ r = ap (λ o. unwrap_or o x) found in
        subst (λ (y : Row). (values_pass a y.values ≡ true) × (0 < length y.values) × (y.reading ≡ reading_by a)) is
        (fits.0 a (ap (arg_by_id c) ((bytes_eq-Decides x.id id).0 same) ∙ arg))
    go false other found later = later found

-- what the typed getters read of an argument is a value that passed
pub one_passed : (c : List Rule) (rows : List Row) (id : Text) (a : Rule) (text : Text) → RowsFit c rows → arg_by_id c id ≡ Some a → one_of id rows ≡ Some text
    → (v : Text) × (text ≡ read_as (reading_by a) v) × (value_passes a v ≡ true)
one_passed c rows id a text fits arg e = go (find (λ x. bytes_eq x.id id) rows) refl e
  where
    first : (r : Row) (values : List Text) → values_pass a values ≡ true → r.reading ≡ reading_by a → option_map (read_as r.reading) (slice_get values 0) ≡ Some text
        → (v : Text) × (text ≡ read_as (reading_by a) v) × (value_passes a v ≡ true)
    first r [] pass reads e = cc
    first r (v ∷ vs) pass reads e = (v, sym (ap (λ o. unwrap_or o text) e) ∙ ap (λ how. read_as how v) reads, (both (value_passes a v) _ pass).0)

    go : (o : Option Row) → find (λ x. bytes_eq x.id id) rows ≡ o → option_and_then row_text o ≡ Some text
        → (v : Text) × (text ≡ read_as (reading_by a) v) × (value_passes a v ≡ true)
    go None found e = cc
    go (Some r) found e = let h = row_fits c rows id a r fits arg found in first r r.values h.0 h.2 e

-- an argument that was given has a value
pub given_has_value : (c : List Rule) (rows : List Row) (id : Text) (a : Rule) → RowsFit c rows → arg_by_id c id ≡ Some a → is_given id rows ≡ true
    → is_some (first_of id rows) ≡ true
given_has_value c rows id a fits arg e = go (find (λ x. bytes_eq x.id id) rows) refl e
  where
    first : (values : List Text) → 0 < length values → is_some (slice_get values 0) ≡ true
    first [] some = absurd (omega arith)
    first (v ∷ vs) some = refl

    go : (o : Option Row) → find (λ x. bytes_eq x.id id) rows ≡ o → option_map_or (λ r. explicit_source r.source) o false ≡ true
        → is_some (option_and_then (λ r. slice_get r.values 0) o) ≡ true
    go None found e = cc
    go (Some r) found e = first r.values (row_fits c rows id a r fits arg found).1

-- ---- what is checked at the end of a level

pub level_valid : (s : Shape) (names : Names) (words : List Text) (sub : Bool) → level_passes s names nothing_held words sub ≡ true
    → is_valid s (rows_after s.rules names words) sub ≡ true
level_valid s names words sub e =
    let end = (walk s.rules names nothing_held words).held in
    let p = both (walk_passes s names (walk_from nothing_held) words) _ e in
    let q = both (settle_passes s.rules s.args_override_self end) _ p.1 in
    (both (list_all default_passes s.rules) _ q.1).1

-- a subcommand was met where one must be
pub subcommand_given : (s : Shape) (rows : List Row) (sub : Bool) → s.subcommand_required ≡ true → is_valid s rows sub ≡ true → sub ≡ true
subcommand_given s rows sub required e =
    let p = both (not s.arg_required_else_help || (sub || list_any (λ (r : Row). explicit_source r.source) rows)) _ e in
    go s.subcommand_required sub required (both (not s.subcommand_required || sub) _ p.1).0
  where
    go : (needs given : Bool) → needs ≡ true → (not needs || given) ≡ true → given ≡ true
    go true given needs e = e
    go false given needs e = cc

-- each required argument of a leaf was given
pub arguments_given : (s : Shape) (rows : List Row) → is_valid s rows false ≡ true → list_all (λ a. not a.required || is_given a.id rows) s.rules ≡ true
arguments_given s rows e =
    let p = both (not s.arg_required_else_help || (false || list_any (λ (r : Row). explicit_source r.source) rows)) _ e in
    let q = both (not s.subcommand_required || false) _ p.1 in
    go s.subcommand_negates_reqs (both (list_all (λ (a : Rule). a.is_free) s.rules) _ q.1).1
  where
    go : (negates : Bool) → ((negates && false) || list_all (λ a. not a.required || is_given a.id rows) s.rules) ≡ true
        → list_all (λ a. not a.required || is_given a.id rows) s.rules ≡ true
    go true e = e
    go false e = e
