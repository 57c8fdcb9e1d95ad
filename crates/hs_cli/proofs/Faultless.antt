-- A command takes the words on which it has no fault.
use Rattle.std.proofs.Common.{◌≡◌, ◌&&◌, ◌||◌, ◌==◌, ℕ, Bool, codes, cond, true, false, not, zero, suc, refl, ap, arith, List, [], ◌∷◌, length, drop, nat_le, nat_lt, is_some, Option, Some, None, unwrap_or, ltb-false, le-leb, eqb-true}
use Rattle.std.specs.Prelude.{encode_utf8, slice_get}
use Rattle.std.specs.Option.{option_map_or}
use Rattle.std.specs.List.{find, list_all, list_any}
use Rattle.std.specs.Str.{bytes_eq, chars}
use Rattle.clap.specs.Lexer.{long_of, short_of}
use Rattle.clap.specs.Facts.{explicit_source, unwrap_or_range}
use Rattle.clap.specs.Walk.{Held, Names, Row, Rule, Step, Text, Waiting, Walk, action_of, answers_to, arg_by_id, arg_by_index, arg_by_long, arg_by_short, attached_value, finished, has_row, is_pending, most_values, next, nothing_held, reacted, settled, subcommand, subcommand_met, takes_several, takes_values, trailing, value, values_or_missing, walk, walk_from, walked, word_met}
use Rattle.clap.specs.Simple.{App, Shape, argument_words, built, entered, is_simple, label_of, names_of}
use Rattle.clap.specs.Takes.{action_passes, bundle_step_passes, count_passes, default_passes, entered_passes, flag_word_passes, flags_pass, is_given, is_valid, level_passes, long_passes, option_passes, other_passes, positional_passes, react_passes, settle_passes, short_passes, step_passes, takes, turn_passes, use_passes, values_pass, walk_passes, word_passes}
use Rattle.clap.specs.Kinds.{Kinds, or_else, range_kinds}
use Rattle.clap.specs.Faults.{action_fault, bundle_step_fault, check_fault, count_fault, defaults_fault, entered_fault, fault_of, flag_word_fault, flags_fault, level_fault, long_fault, option_fault, other_fault, positional_fault, react_fault, repeat_fault, settle_fault, short_fault, step_fault, stray_fault, turn_fault, use_fault, values_fault, walk_fault, word_fault}
use Rattle.clap.specs.declared.builder.ArgAction.{ArgAction}
use Rattle.clap.specs.declared.builder.ArgAction.TheVariants as action
use Rattle.clap.specs.declared.error.ErrorKind.{ErrorKind}

-- ---- lists of kinds, and tests

both_empty : (a b : Kinds) → or_else a b ≡ [] → (a ≡ []) × (b ≡ [])
both_empty [] b e = (refl, e)
both_empty (k ∷ ks) b e = cc

each_true : (a b : Bool) → a ≡ true → b ≡ true → (a && b) ≡ true
each_true true b ea eb = eb
each_true false b ea eb = cc

passed : (b : Bool) (k : ErrorKind) → cond b [] (k ∷ []) ≡ [] → b ≡ true
passed true k e = refl
passed false k e = cc

unmet : (b : Bool) (k : ErrorKind) (rest : Kinds) → cond b (k ∷ []) rest ≡ [] → (b ≡ false) × (rest ≡ [])
unmet true k rest e = cc
unmet false k rest e = (refl, e)

again_or_first : (has again : Bool) → (has && not again) ≡ false → (not has || again) ≡ true
again_or_first true true e = refl
again_or_first true false e = cc
again_or_first false again e = refl

is_in_range : (least most n : ℕ) → range_kinds least most n ≡ [] → (nat_le least n ≡ true) × (nat_le n most ≡ true)
is_in_range least most n e = go (least == most) _ _ _ refl (unmet (nat_lt 0 least && n == 0) _ _ e).1
  where
    go : (b : Bool) (k l m : ErrorKind) → (least == most) ≡ b
        → cond b (cond (least == n) [] (k ∷ [])) (cond (nat_lt n least) (l ∷ []) (cond (nat_lt most n) (m ∷ []) [])) ≡ []
        → (nat_le least n ≡ true) × (nat_le n most ≡ true)
    go true k l m same e =
        let a = eqb-true least most same in
        let b = eqb-true least n (passed _ _ e) in
        (le-leb least n (omega arith), le-leb n most (omega arith))
    go false k l m differ e =
        let p = unmet (nat_lt n least) _ _ e in
        let q = unmet (nat_lt most n) _ _ p.1 in
        (le-leb least n (ltb-false _ _ p.0), le-leb n most (ltb-false _ _ q.0))

-- ---- one use of an argument

values_faultless : (a : Rule) (vs : List Text) → values_fault a vs ≡ [] → values_pass a vs ≡ true
values_faultless a [] e = refl
values_faultless a (v ∷ vs) e =
    let p = both_empty _ _ e in
    each_true _ _ (passed _ _ p.0) (values_faultless a vs p.1)

count_faultless : (a : Rule) (values : List Text) (rows : List Row) → count_fault a values rows ≡ [] → count_passes a values rows ≡ true
count_faultless a [] rows e = passed _ _ e
count_faultless a (v ∷ vs) rows e = values_faultless a (v ∷ vs) e

set_faultless : (again : Bool) (a : Rule) (values : List Text) (rows : List Row)
    → or_else (repeat_fault again a.id rows) (values_fault a values) ≡ [] → ((not (has_row a.id rows) || again) && values_pass a values) ≡ true
set_faultless again a values rows e =
    let p = both_empty (repeat_fault again a.id rows) _ e in
    each_true _ _ (again_or_first (has_row a.id rows) again (unmet (has_row a.id rows && not again) _ _ p.0).0) (values_faultless a values p.1)

action_faultless : (x : ArgAction) (again : Bool) (a : Rule) (values : List Text) (rows : List Row)
    → action_fault x again a values rows ≡ [] → action_passes x again a values rows ≡ true
action_faultless action.Set again a values rows e = set_faultless again a values rows e
action_faultless action.SetTrue again a values rows e = set_faultless again a values rows e
action_faultless action.SetFalse again a values rows e = set_faultless again a values rows e
action_faultless action.Append again a values rows e = values_faultless a values e
action_faultless action.Count again a values rows e = count_faultless a values rows e
action_faultless action.Help again a values rows e = cc
action_faultless action.HelpShort again a values rows e = cc
action_faultless action.HelpLong again a values rows e = cc
action_faultless action.Version again a values rows e = cc

use_faultless : (again : Bool) (a : Rule) (values : List Text) (rows : List Row) → use_fault again a values rows ≡ [] → use_passes again a values rows ≡ true
use_faultless again a values rows e =
    let p = both_empty (range_kinds (unwrap_or_range a.range).start_inclusive (most_values a) (length values)) _ e in
    let r = is_in_range (unwrap_or_range a.range).start_inclusive (most_values a) (length values) p.0 in
    each_true _ _ r.0 (each_true _ _ r.1 (action_faultless (action_of a) again a (values_or_missing a values) rows p.1))

-- ---- the walk

module _ (c : List Rule) (again : Bool) where
  pending_faultless : (p : Option (Text × List Text)) (rows : List Row)
      → option_map_or (λ q. option_map_or (λ a. use_fault again a q.1 rows) (arg_by_id c q.0) []) p [] ≡ []
      → option_map_or (λ q. option_map_or (λ a. use_passes again a q.1 rows) (arg_by_id c q.0) true) p true ≡ true
  pending_faultless None rows e = refl
  pending_faultless (Some q) rows e = go (arg_by_id c q.0) e
    where
      go : (o : Option Rule) → option_map_or (λ a. use_fault again a q.1 rows) o [] ≡ [] → option_map_or (λ a. use_passes again a q.1 rows) o true ≡ true
      go None e = refl
      go (Some a) e = use_faultless again a q.1 rows e

  settle_faultless : (h : Held) → settle_fault c again h ≡ [] → settle_passes c again h ≡ true
  settle_faultless h e = pending_faultless h.pending h.rows e

  react_faultless : (a : Rule) (values : List Text) (h : Held) → react_fault c again a values h ≡ [] → react_passes c again a values h ≡ true
  react_faultless a values h e =
      let p = both_empty (settle_fault c again h) _ e in
      each_true _ _ (settle_faultless h p.0) (use_faultless again a values (settled c h).rows p.1)

  option_faultless : (a : Rule) (v : Option Text) (h : Held) → option_fault c again a v h ≡ [] → option_passes c again a v h ≡ true
  option_faultless a (Some v) h e = react_faultless a (v ∷ []) h e
  option_faultless a None h e = settle_faultless h e

  flag_faultless : (a : Rule) (v : Option Text) (k : ErrorKind) (h : Held) → cond (is_some v) (k ∷ []) (react_fault c again a [] h) ≡ []
      → (not (is_some v) && react_passes c again a [] h) ≡ true
  flag_faultless a (Some v) k h e = cc
  flag_faultless a None k h e = react_faultless a [] h e

  long_faultless : (o : Option Rule) (v : Option Text) (h : Held) → long_fault c again o v h ≡ [] → long_passes c again o v h ≡ true
  long_faultless None v h e = cc
  long_faultless (Some a) v h e = go (takes_values a) _ e
    where
      go : (b : Bool) (k : ErrorKind) → cond b (option_fault c again a v h) (cond (is_some v) (k ∷ []) (react_fault c again a [] h)) ≡ []
          → cond b (option_passes c again a v h) (not (is_some v) && react_passes c again a [] h) ≡ true
      go true k e = option_faultless a v h e
      go false k e = flag_faultless a v k h e

  short_faultless : (o : Option Rule) (rest : Text) (h : Held) (fault : Held → Kinds) (passes : Held → Bool)
      → ((g : Held) → fault g ≡ [] → passes g ≡ true) → short_fault c again o rest h fault ≡ [] → short_passes c again o rest h passes ≡ true
  short_faultless None rest h fault passes then e = cc
  short_faultless (Some a) rest h fault passes then e = go (takes_values a) e
    where
      go : (b : Bool) → cond b (option_fault c again a (attached_value rest) h) (or_else (react_fault c again a [] h) (fault (reacted c a [] h))) ≡ []
          → cond b (option_passes c again a (attached_value rest) h) (react_passes c again a [] h && passes (reacted c a [] h)) ≡ true
      go true e = option_faultless a (attached_value rest) h e
      go false e =
          let p = both_empty (react_fault c again a [] h) _ e in
          each_true _ _ (react_faultless a [] h p.0) (then _ p.1)

  bundle_step_faultless : (x : Option ℕ) (flags : Text) (skip : ℕ) (h : Held) (fault : Text → ℕ → Held → Kinds) (passes : Text → ℕ → Held → Bool)
      → ((t : Text) (n : ℕ) (g : Held) → fault t n g ≡ [] → passes t n g ≡ true)
      → bundle_step_fault c again x flags skip h fault ≡ [] → bundle_step_passes c again x flags skip h passes ≡ true
  bundle_step_faultless None flags skip h fault passes then e = refl
  bundle_step_faultless (Some x) flags zero h fault passes then e =
      let rest = drop (length (encode_utf8 x)) flags in
      short_faultless (arg_by_short c x) rest h (fault rest 0) (passes rest 0) (then rest 0) e
  bundle_step_faultless (Some x) flags (suc skip) h fault passes then e = then _ _ _ e

  flags_faultless : (k : ℕ) (flags : Text) (skip : ℕ) (h : Held) → flags_fault c again k flags skip h ≡ [] → flags_pass c again k flags skip h ≡ true
  unfolding flags_fault flags_pass
  flags_faultless zero flags skip h e = refl
  flags_faultless (suc k) flags skip h e =
      bundle_step_faultless (slice_get (chars flags) 0) flags skip h (flags_fault c again k) (flags_pass c again k) (flags_faultless k) e

  flag_word_faultless : (o : Option (Text × Option Text)) (word : Text) (h : Held) → flag_word_fault c again o word h ≡ [] → flag_word_passes c again o word h ≡ true
  flag_word_faultless (Some p) word h e = long_faultless (arg_by_long c p.0) p.1 h e
  flag_word_faultless None word h e = go (short_of word) e
    where
      go : (o : Option Text) → option_map_or (λ flags. flags_fault c again (length flags) flags h.skip (record h { skip = 0 })) o [] ≡ []
          → option_map_or (λ flags. flags_pass c again (length flags) flags h.skip (record h { skip = 0 })) o true ≡ true
      go None e = refl
      go (Some flags) e = flags_faultless (length flags) flags h.skip (record h { skip = 0 }) e

  positional_faultless : (a : Rule) (h : Held) → positional_fault c again a h ≡ [] → positional_passes c again a h ≡ true
  positional_faultless a h e = go (is_pending a h.pending && takes_several a) e
    where
      go : (b : Bool) → cond b [] (settle_fault c again h) ≡ [] → (b || settle_passes c again h) ≡ true
      go true e = refl
      go false e = settle_faultless h e

module _ (s : Shape) (names : Names) where
  other_faultless : (o : Option Text) (word : Text) (h : Held) → other_fault s o word h ≡ [] → other_passes s o word h ≡ true
  other_faultless (Some name) word h e = go (bytes_eq name (codes "help")) s.disable_help_subcommand _ _ e
    where
      go : (b d : Bool) (k l : ErrorKind) → cond (b && not d) (k ∷ l ∷ []) [] ≡ [] → (not b || d) ≡ true
      go true true k l e = refl
      go true false k l e = cc
      go false d k l e = refl
  other_faultless None word h e = go (bytes_eq word (45 ∷ 45 ∷ [])) e
    where
      go : (b : Bool) → cond b [] (flag_word_fault s.rules s.args_override_self (long_of word) word h) ≡ []
          → (b || flag_word_passes s.rules s.args_override_self (long_of word) word h) ≡ true
      go true e = refl
      go false e = flag_word_faultless s.rules s.args_override_self (long_of word) word h e

  word_faultless : (is_trailing : Bool) (waiting : Waiting) (word : Text) (h : Held) → word_fault s names is_trailing waiting word h ≡ [] → word_passes s names is_trailing waiting word h ≡ true
  word_faultless true waiting word h e = refl
  word_faultless false waiting word h e = other_faultless (subcommand_met names waiting word) word h e

  step_faultless : (position : ℕ) (h : Held) (step : Step) → step_fault s position h step ≡ [] → step_passes s position h step ≡ true
  step_faultless position h value e = go (arg_by_index s.rules position) e
    where
      stray : (b : Bool) (k l m : ErrorKind) → cond b (k ∷ []) (l ∷ m ∷ []) ≡ [] → false ≡ true
      stray true k l m e = cc
      stray false k l m e = cc

      go : (o : Option Rule) → option_map_or (λ a. positional_fault s.rules s.args_override_self a h) o (stray_fault s) ≡ []
          → option_map_or (λ a. positional_passes s.rules s.args_override_self a h) o false ≡ true
      go None e = stray s.is_leaf _ _ _ e
      go (Some a) e = positional_faultless s.rules s.args_override_self a h e
  step_faultless position h (next waiting) e = refl
  step_faultless position h (trailing p) e = refl
  step_faultless position h (subcommand name) e = refl

  turn_faultless : (w : Walk) (word : Text) → turn_fault s names w word ≡ [] → turn_passes s names w word ≡ true
  turn_faultless w word e = go (is_some w.stopped) e
    where
      go : (b : Bool)
          → cond b [] (or_else (word_fault s names w.is_trailing w.waiting word w.held)
          (step_fault s w.position (word_met s.rules names w.is_trailing w.waiting w.position word w.held).0 (word_met s.rules names w.is_trailing w.waiting w.position word w.held).1)) ≡ []
          → (b || (word_passes s names w.is_trailing w.waiting word w.held
          && step_passes s w.position (word_met s.rules names w.is_trailing w.waiting w.position word w.held).0 (word_met s.rules names w.is_trailing w.waiting w.position word w.held).1)) ≡ true
      go true e = refl
      go false e =
          let met = word_met s.rules names w.is_trailing w.waiting w.position word w.held in
          let p = both_empty (word_fault s names w.is_trailing w.waiting word w.held) _ e in
          each_true _ _ (word_faultless w.is_trailing w.waiting word w.held p.0) (step_faultless w.position met.0 met.1 p.1)

  walk_faultless : (w : Walk) (words : List Text) → walk_fault s names w words ≡ [] → walk_passes s names w words ≡ true
  unfolding walk_fault walk_passes
  walk_faultless w [] e = refl
  walk_faultless w (word ∷ rest) e =
      let p = both_empty (turn_fault s names w word) _ e in
      each_true _ _ (turn_faultless w word p.0) (walk_faultless (walked s.rules names w word) rest p.1)

-- ---- after the walk

none_lacks : (needs has : Rule → Bool) (xs : List Rule) → list_any (λ a. needs a && not (has a)) xs ≡ false → list_all (λ a. not (needs a) || has a) xs ≡ true
none_lacks needs has [] e = refl
none_lacks needs has (a ∷ rest) e = go (needs a) (has a) (none_lacks needs has rest) e
  where
    go : (n h : Bool) → (list_any (λ x. needs x && not (has x)) rest ≡ false → list_all (λ x. not (needs x) || has x) rest ≡ true)
        → ((n && not h) || list_any (λ x. needs x && not (has x)) rest) ≡ false → ((not n || h) && list_all (λ x. not (needs x) || has x) rest) ≡ true
    go true true rec e = rec e
    go true false rec e = cc
    go false h rec e = rec e

-- the checks at the end of a level, by their tests
checks_pass : (sub else_help used needs_sub free negates lacks all : Bool) (k l m : ErrorKind) → free ≡ true → (lacks ≡ false → all ≡ true)
    → cond (not sub && (else_help && not used)) (k ∷ []) (cond (not sub && needs_sub) (l ∷ []) (cond (not (negates && sub) && lacks) (m ∷ []) [])) ≡ []
    → ((not else_help || (sub || used)) && ((not needs_sub || sub) && (free && ((negates && sub) || all)))) ≡ true
checks_pass sub else_help used needs_sub free negates lacks all k l m is_free none e =
    let p = unmet (not sub && (else_help && not used)) _ _ e in
    let q = unmet (not sub && needs_sub) _ _ p.1 in
    let r = unmet (not (negates && sub) && lacks) _ _ q.1 in
    each_true _ _ (helped sub else_help used p.0) (each_true _ _ (met sub needs_sub q.0) (each_true _ _ is_free (filled (negates && sub) lacks r.0 none)))
  where
    helped : (s h u : Bool) → (not s && (h && not u)) ≡ false → (not h || (s || u)) ≡ true
    helped true true u e = refl
    helped true false u e = refl
    helped false true true e = refl
    helped false true false e = cc
    helped false false u e = refl

    met : (s n : Bool) → (not s && n) ≡ false → (not n || s) ≡ true
    met true true e = refl
    met true false e = refl
    met false true e = cc
    met false false e = refl

    filled : (n l : Bool) → (not n && l) ≡ false → (l ≡ false → all ≡ true) → (n || all) ≡ true
    filled true l e h = refl
    filled false l e h = h e

-- the defaults of the arguments pass, and none has a rule on another
abbrev pub IsSound : Shape → Type 0
IsSound s = (list_all default_passes s.rules ≡ true) × (list_all (λ a. a.is_free) s.rules ≡ true)

valid_faultless : (s : Shape) (rows : List Row) (sub : Bool) → IsSound s → check_fault s rows sub ≡ [] → is_valid s rows sub ≡ true
valid_faultless s rows sub sound e =
    checks_pass sub s.arg_required_else_help (list_any (λ r. explicit_source r.source) rows) s.subcommand_required (list_all (λ a. a.is_free) s.rules)
    s.subcommand_negates_reqs (list_any (λ a. a.required && not (is_given a.id rows)) s.rules)
    (list_all (λ a. not a.required || is_given a.id rows) s.rules) _ _ _ sound.1
    (none_lacks (λ a. a.required) (λ a. is_given a.id rows) s.rules) e

level_faultless : (s : Shape) (names : Names) (h : Held) (words : List Text) (sub : Bool) (below : Kinds) → IsSound s
    → level_fault s names h words sub below ≡ [] → (below ≡ []) × (level_passes s names h words sub ≡ true)
level_faultless s names h words sub below sound e =
    let end = (walk s.rules names h words).held in
    let p = both_empty (walk_fault s names (walk_from h) words) _ e in
    let q = both_empty below _ p.1 in
    let r = both_empty (settle_fault s.rules s.args_override_self end) _ q.1 in
    let t = both_empty (defaults_fault (settled s.rules end).rows s.rules) _ r.1 in (
      q.0,
      each_true _ _ (walk_faultless s names (walk_from h) words p.0)
          (each_true _ _ (settle_faultless s.rules s.args_override_self end r.0)
          (each_true _ _ sound.0 (valid_faultless s (finished s.rules end) sub sound t.1))),
    )

-- each of the commands is sound
abbrev pub AreSound : List Shape → Type 0
AreSound [] = Unit {0}
AreSound (s ∷ rest) = IsSound s × AreSound rest

found_sound : (p : Shape → Bool) (xs : List Shape) → AreSound xs → (s : Shape) → find p xs ≡ Some s → IsSound s
found_sound p [] h s e = cc
found_sound p (x ∷ xs) h s e = go (p x) e (found_sound p xs h.1 s)
  where
    go : (b : Bool) → cond b (Some x) (find p xs) ≡ Some s → (find p xs ≡ Some s → IsSound s) → IsSound s
    go true e rec = let same : x ≡ s = ap (λ o. unwrap_or o x) e in rw (← same) h.0
    go false e rec = rec e

entered_faultless : (a : App) (stop : Option (Text × List Text)) → AreSound a.subs → entered_fault a stop ≡ [] → entered_passes a stop ≡ true
entered_faultless a None sound e = refl
entered_faultless a (Some p) sound e = go (find (λ s. answers_to p.0 (label_of s)) a.subs) refl e
  where
    go : (o : Option Shape) → find (λ s. answers_to p.0 (label_of s)) a.subs ≡ o
        → option_map_or (λ s. level_fault s [] nothing_held p.1 false []) o [] ≡ [] → option_map_or (λ s. level_passes s [] nothing_held p.1 false) o true ≡ true
    go None found e = refl
    go (Some s) found e = (level_faultless s [] nothing_held p.1 false [] (found_sound _ a.subs sound s found) e).1

pub faultless-takes : (a : App) (words : List Text) → is_simple a ≡ true → IsSound (built a).top → AreSound (built a).subs
    → fault_of a words ≡ [] → takes a words ≡ true
faultless-takes a words simple top subs e =
    let b = built a in
    let ws = argument_words a words in
    let stop = (walk b.top.rules (names_of b) nothing_held ws).stopped in
    let p = level_faultless b.top (names_of b) nothing_held ws (is_some (entered b stop)) (entered_fault b stop) top e in
    each_true _ _ simple (each_true _ _ (entered_faultless b stop subs p.0) p.1)
