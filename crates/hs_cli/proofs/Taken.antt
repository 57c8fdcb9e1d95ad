-- What the matches of the command are where it takes the words.
use Rattle.std.proofs.Common.{◌≡◌, ◌∙◌, ◌&&◌, Bool, cond, true, false, refl, ap, sym, subst, inl, inr, arith, List, [], codes, is_some, Option, Some, None, length, lit<, lit≤, nat_le, option_map, option_and_then, unwrap_or}
use Rattle.std.specs.List.{AllByRecursion}
use Rattle.std.specs.Option.{option_map_or}
use Rattle.clap.specs.Walk.{Row, Text, answers_to, first_of, nothing_held, rows_after, walk}
use Rattle.clap.specs.Simple.{Shape, argument_words, built, built_leaf, entered, inherited, is_simple, label_of, names_of, rows_at, subcommand_of}
use Rattle.clap.specs.Takes.{entered_passes, is_given, level_passes, takes}
use Rattle.clap.specs.Faults.{fault_of}
use Rattle.clap.proofs.WalkLemmas.{both}
use Rattle.std.specs.Str.{bytes_eq}
use Rattle.std.proofs.lemmas.Slice.Eq.{bytes_eq-Decides}
use Rattle.hs_cli.specs.Command.{check_shape, core_shape, hipsleek_app, run_shape, search_shape, sleek_shape}
use Rattle.hs_cli.specs.Job.{AreInRange, HasCheckNumbers, HasNamedNumbers, HasNumbers, HasSearchNumbers, IsInRange, check_options_of, job_of, options_of, run_options_of, search_options_of}
use Rattle.hs_cli.specs.declared.jobs.Job.{Job}
use Rattle.hs_cli.specs.declared.jobs.Job.TheVariants.{Core, Hip, Prove, Sleek}
use Rattle.hs_cli.proofs.Faultless.{faultless-takes}
use Rattle.hs_cli.proofs.Fits.{HasNoDefaults, IsOwn, RowsFit, arguments_given, given_has_value, level_fits, level_valid, one_passed, subcommand_given}
use Rattle.hs_cli.proofs.Numbers.{IsOptionBetween, option_fits, option_within, signed_between_is, unsigned_between_is}

-- the subcommands as building leaves them
abbrev sleek_built : Shape
sleek_built = built_leaf (inherited (built hipsleek_app).top sleek_shape)

abbrev search_built : Text → Shape
search_built name = built_leaf (inherited (built hipsleek_app).top (search_shape name))

abbrev check_built : Shape
check_built = built_leaf (inherited (built hipsleek_app).top check_shape)

abbrev core_built : Shape
core_built = built_leaf (inherited (built hipsleek_app).top core_shape)

abbrev run_built : Shape
run_built = built_leaf (inherited (built hipsleek_app).top run_shape)

-- a command without a fault takes the words
pub taken_without_fault : (words : List Text) → fault_of hipsleek_app words ≡ [] → takes hipsleek_app words ≡ true
taken_without_fault words e = faultless-takes hipsleek_app words refl (refl, refl) ((refl, refl), ((refl, refl), ((refl, refl), ((refl, refl), ((refl, refl), ((refl, refl), tt)))))) e

never : (x y : Bool) → (x && (y && false)) ≡ true → ⊥
never true true e = cc
never true false e = cc
never false y e = cc

abbrev OwnsRules : Shape → Type 0
OwnsRules s = AllByRecursion (IsOwn s.rules) s.rules

sleek_owned : OwnsRules sleek_built
sleek_owned = ((refl, inl (refl, omega arith)), ((refl, inl (refl, omega arith)), ((refl, inl (refl, omega arith)), ((refl, inl (refl, omega arith)), ((refl, inl (refl, omega arith)), ((refl, inl (refl, omega arith)), ((refl, inr (λ again values rows e. never (nat_le 0 (length values)) (nat_le (length values) 0) e)), tt)))))))

search_owned : (name : Text) → OwnsRules (search_built name)
search_owned name = ((refl, inl (refl, omega arith)), ((refl, inl (refl, omega arith)), ((refl, inl (refl, omega arith)), ((refl, inl (refl, omega arith)), ((refl, inl (refl, omega arith)), ((refl, inr (λ again values rows e. never (nat_le 0 (length values)) (nat_le (length values) 0) e)), tt))))))

check_owned : OwnsRules check_built
check_owned = ((refl, inl (refl, omega arith)), ((refl, inl (refl, omega arith)), ((refl, inl (refl, omega arith)), ((refl, inl (refl, omega arith)), ((refl, inr (λ again values rows e. never (nat_le 0 (length values)) (nat_le (length values) 0) e)), tt)))))

core_owned : OwnsRules core_built
core_owned = ((refl, inl (refl, omega arith)), ((refl, inr (λ again values rows e. never (nat_le 0 (length values)) (nat_le (length values) 0) e)), tt))

run_owned : OwnsRules run_built
run_owned = ((refl, inl (refl, omega arith)), ((refl, inl (refl, omega arith)), ((refl, inl (refl, omega arith)), ((refl, inl (refl, omega arith)), ((refl, inr (λ again values rows e. never (nat_le 0 (length values)) (nat_le (length values) 0) e)), tt)))))

sleek_defaults : HasNoDefaults sleek_built.rules
sleek_defaults = (refl, (refl, (refl, (refl, (refl, (refl, (refl, tt)))))))

search_defaults : (name : Text) → HasNoDefaults (search_built name).rules
search_defaults name = (refl, (refl, (refl, (refl, (refl, (refl, tt))))))

check_defaults : HasNoDefaults check_built.rules
check_defaults = (refl, (refl, (refl, (refl, (refl, tt)))))

core_defaults : HasNoDefaults core_built.rules
core_defaults = (refl, (refl, tt))

run_defaults : HasNoDefaults run_built.rules
run_defaults = (refl, (refl, (refl, (refl, (refl, tt)))))

-- the matches of a subcommand name a job, whose numbers are in their ranges
pub record IsTaken (matches : Option (Text × List Row)) : Type 0 where
  pub numbers : HasNamedNumbers matches
  pub named : is_some (job_of matches) ≡ true
  pub ranges : (j : Job) → job_of matches ≡ Some j → IsInRange j

-- ---- the values of options

-- the values of the options of a search lie in their ranges
pub record HasSearchRanges (rows : List Row) : Type 0 where
  pub rank : IsOptionBetween 0 64 (codes "rank") rows
  pub goals : IsOptionBetween 1 200000 (codes "goals") rows
  pub atoms : IsOptionBetween 1 2000000 (codes "atoms") rows
  pub xpure : IsOptionBetween 0 3 (codes "xpure") rows

search_ranges_of : (rows : List Row) → RowsFit (search_built []).rules rows → HasSearchRanges rows
search_ranges_of rows fits = record {
  rank = λ text e. let p = one_passed (search_built []).rules rows (codes "rank") _ text fits refl e in signed_between_is 0 64 p.0 text p.1 p.2;
  goals = λ text e. let p = one_passed (search_built []).rules rows (codes "goals") _ text fits refl e in unsigned_between_is 1 200000 p.0 text p.1 p.2;
  atoms = λ text e. let p = one_passed (search_built []).rules rows (codes "atoms") _ text fits refl e in unsigned_between_is 1 2000000 p.0 text p.1 p.2;
  xpure = λ text e. let p = one_passed (search_built []).rules rows (codes "xpure") _ text fits refl e in signed_between_is 0 3 p.0 text p.1 p.2;
}

search_numbers_of : (rows : List Row) → HasSearchRanges rows → HasSearchNumbers rows
search_numbers_of rows h = (
  option_fits 32 0 64 (codes "rank") rows (lit< tt) h.rank,
  option_fits 64 1 200000 (codes "goals") rows (lit< tt) h.goals,
  option_fits 64 1 2000000 (codes "atoms") rows (lit< tt) h.atoms,
  option_fits 32 0 3 (codes "xpure") rows (lit< tt) h.xpure,
)

search_in_range : (rows : List Row) → HasSearchRanges rows → AreInRange (search_options_of rows)
search_in_range rows h = record {
  rank = option_within 0 64 12 (codes "rank") rows (lit≤ tt) (lit≤ tt) h.rank;
  goals = option_within 1 200000 20000 (codes "goals") rows (lit≤ tt) (lit≤ tt) h.goals;
  atoms = option_within 1 2000000 200000 (codes "atoms") rows (lit≤ tt) (lit≤ tt) h.atoms;
  level = option_within 0 3 1 (codes "xpure") rows (lit≤ tt) (lit≤ tt) h.xpure;
  residues = (lit≤ tt, lit≤ tt);
  pieces = (lit≤ tt, lit≤ tt);
  steps = (lit≤ tt, lit≤ tt);
}

-- those of `sleek` do
abbrev HasRanges : List Row → Type 0
HasRanges rows = HasSearchRanges rows × IsOptionBetween 1 16 (codes "residues") rows

ranges_of : (rows : List Row) → RowsFit sleek_built.rules rows → HasRanges rows
ranges_of rows fits = (
  record {
    rank = λ text e. let p = one_passed sleek_built.rules rows (codes "rank") _ text fits refl e in signed_between_is 0 64 p.0 text p.1 p.2;
    goals = λ text e. let p = one_passed sleek_built.rules rows (codes "goals") _ text fits refl e in unsigned_between_is 1 200000 p.0 text p.1 p.2;
    atoms = λ text e. let p = one_passed sleek_built.rules rows (codes "atoms") _ text fits refl e in unsigned_between_is 1 2000000 p.0 text p.1 p.2;
    xpure = λ text e. let p = one_passed sleek_built.rules rows (codes "xpure") _ text fits refl e in signed_between_is 0 3 p.0 text p.1 p.2;
  },
  λ text e. let p = one_passed sleek_built.rules rows (codes "residues") _ text fits refl e in signed_between_is 1 16 p.0 text p.1 p.2,
)

numbers_of : (rows : List Row) → HasRanges rows → HasNumbers rows
numbers_of rows h = (search_numbers_of rows h.0, option_fits 32 1 16 (codes "residues") rows (lit< tt) h.1)

options_in_range : (rows : List Row) → HasRanges rows → AreInRange (options_of rows)
options_in_range rows h = let most = search_in_range rows h.0 in record {
  rank = most.rank;
  goals = most.goals;
  atoms = most.atoms;
  level = most.level;
  residues = option_within 1 16 4 (codes "residues") rows (lit≤ tt) (lit≤ tt) h.1;
  pieces = most.pieces;
  steps = most.steps;
}

-- and those of `check`
abbrev HasCheckRanges : List Row → Type 0
HasCheckRanges rows = IsOptionBetween 1 2000000 (codes "atoms") rows × IsOptionBetween 1 64 (codes "pieces") rows

check_ranges_of : (rows : List Row) → RowsFit check_built.rules rows → HasCheckRanges rows
check_ranges_of rows fits = (
  λ text e. let p = one_passed check_built.rules rows (codes "atoms") _ text fits refl e in unsigned_between_is 1 2000000 p.0 text p.1 p.2,
  λ text e. let p = one_passed check_built.rules rows (codes "pieces") _ text fits refl e in signed_between_is 1 64 p.0 text p.1 p.2,
)

check_numbers_of : (rows : List Row) → HasCheckRanges rows → HasCheckNumbers rows
check_numbers_of rows h =
    (option_fits 64 1 2000000 (codes "atoms") rows (lit< tt) h.0, option_fits 32 1 64 (codes "pieces") rows (lit< tt) h.1)

check_in_range : (rows : List Row) → HasCheckRanges rows → AreInRange (check_options_of rows)
check_in_range rows h = record {
  rank = (lit≤ tt, lit≤ tt);
  goals = (lit≤ tt, lit≤ tt);
  atoms = option_within 1 2000000 200000 (codes "atoms") rows (lit≤ tt) (lit≤ tt) h.0;
  level = (lit≤ tt, lit≤ tt);
  residues = (lit≤ tt, lit≤ tt);
  pieces = option_within 1 64 1 (codes "pieces") rows (lit≤ tt) (lit≤ tt) h.1;
  steps = (lit≤ tt, lit≤ tt);
}

-- the steps of `run` lie in their range
abbrev HasSteps : List Row → Type 0
HasSteps rows = IsOptionBetween 0 1000000 (codes "steps") rows

steps_of : (rows : List Row) → RowsFit run_built.rules rows → HasSteps rows
steps_of rows fits text e =
    let p = one_passed run_built.rules rows (codes "steps") _ text fits refl e in
    unsigned_between_is 0 1000000 p.0 text p.1 p.2

run_in_range : (rows : List Row) → HasSteps rows → AreInRange (run_options_of rows)
run_in_range rows h = record {
  rank = (lit≤ tt, lit≤ tt);
  goals = (lit≤ tt, lit≤ tt);
  atoms = (lit≤ tt, lit≤ tt);
  level = (lit≤ tt, lit≤ tt);
  residues = (lit≤ tt, lit≤ tt);
  pieces = (lit≤ tt, lit≤ tt);
  steps = option_within 0 1000000 1000 (codes "steps") rows (lit≤ tt) (lit≤ tt) h;
}

-- ---- the jobs of the subcommands

-- texts that differ byte by byte are not equal
apart : (a b : Text) → bytes_eq a b ≡ false → a ≡ b → ⊥
apart a b told e = let wrong : true ≡ false = sym ((bytes_eq-Decides a b).1 e) ∙ told in absurd (cc)

-- a word that is there makes what is made of it
made : {A B : Type 0} (f : A → Option B) (o : Option A) → is_some o ≡ true → ((a : A) → is_some (f a) ≡ true) → is_some (option_and_then f o) ≡ true
made f None given each = cc
made f (Some a) given each = each a

mapped : {A B : Type 0} (f : A → B) (o : Option A) → is_some o ≡ true → is_some (option_map f o) ≡ true
mapped f None given = cc
mapped f (Some a) given = refl

-- what one word makes
from_one : (P : Job → Type 0) (f : Text → Job) → ((t : Text) → P (f t)) → (o : Option Text) (j : Job) → option_map f o ≡ Some j → P j
from_one P f each None j is = cc
from_one P f each (Some t) j is = let one : f t ≡ j = ap (λ o. unwrap_or o j) is in subst P one (each t)

from_more : (P : Job → Type 0) (f : Text → Option Job) → ((t : Text) (j : Job) → f t ≡ Some j → P j) → (o : Option Text) (j : Job) → option_and_then f o ≡ Some j → P j
from_more P f each None j is = cc
from_more P f each (Some t) j is = each t j is

sleek_taken : (words : List Text) → level_passes sleek_built [] nothing_held words false ≡ true → IsTaken (Some (rows_at sleek_built words))
sleek_taken words e =
    let rows = rows_after sleek_built.rules [] words in
    let fits = level_fits sleek_built [] words false sleek_owned sleek_defaults e in
    let ranges = ranges_of rows fits in
    let given = arguments_given sleek_built rows (level_valid sleek_built [] words false e) in
    let file = given_has_value sleek_built.rules rows (codes "file") _ fits refl (both (is_given (codes "file") rows) _ given).0 in
    record {
      numbers = (λ is. numbers_of rows ranges, λ is. absurd (apart _ _ refl is), λ is. absurd (apart _ _ refl is), λ is. absurd (apart _ _ refl is), λ is. absurd (apart _ _ refl is));
      named = mapped (λ file. Sleek file (options_of rows)) (first_of (codes "file") rows) file;
      ranges = from_one IsInRange (λ file. Sleek file (options_of rows)) (λ t. options_in_range rows ranges) (first_of (codes "file") rows);
    }

-- the rows of a search have its file, and numbers in their ranges
searched : (name : Text) (words : List Text) → level_passes (search_built name) [] nothing_held words false ≡ true
    → HasSearchRanges (rows_after (search_built []).rules [] words) × (is_some (first_of (codes "file") (rows_after (search_built []).rules [] words)) ≡ true)
searched name words e =
    let rows = rows_after (search_built []).rules [] words in
    let fits = level_fits (search_built name) [] words false (search_owned name) (search_defaults name) e in
    let given = arguments_given (search_built name) rows (level_valid (search_built name) [] words false e) in
    (search_ranges_of rows fits, given_has_value (search_built []).rules rows (codes "file") _ fits refl (both (is_given (codes "file") rows) _ given).0)

hip_taken : (words : List Text) → level_passes (search_built (codes "hip")) [] nothing_held words false ≡ true → IsTaken (Some (rows_at (search_built (codes "hip")) words))
hip_taken words e =
    let rows = rows_after (search_built []).rules [] words in
    let h = searched (codes "hip") words e in
    record {
      numbers = (λ is. absurd (apart _ _ refl is), λ is. search_numbers_of rows h.0, λ is. absurd (apart _ _ refl is), λ is. absurd (apart _ _ refl is), λ is. absurd (apart _ _ refl is));
      named = mapped (λ file. Hip file (search_options_of rows)) (first_of (codes "file") rows) h.1;
      ranges = from_one IsInRange (λ file. Hip file (search_options_of rows)) (λ t. search_in_range rows h.0) (first_of (codes "file") rows);
    }

prove_taken : (words : List Text) → level_passes (search_built (codes "prove")) [] nothing_held words false ≡ true → IsTaken (Some (rows_at (search_built (codes "prove")) words))
prove_taken words e =
    let rows = rows_after (search_built []).rules [] words in
    let h = searched (codes "prove") words e in
    record {
      numbers = (λ is. absurd (apart _ _ refl is), λ is. absurd (apart _ _ refl is), λ is. search_numbers_of rows h.0, λ is. absurd (apart _ _ refl is), λ is. absurd (apart _ _ refl is));
      named = mapped (λ file. Prove file (search_options_of rows)) (first_of (codes "file") rows) h.1;
      ranges = from_one IsInRange (λ file. Prove file (search_options_of rows)) (λ t. search_in_range rows h.0) (first_of (codes "file") rows);
    }

check_taken : (words : List Text) → level_passes check_built [] nothing_held words false ≡ true → IsTaken (Some (rows_at check_built words))
check_taken words e =
    let rows = rows_after check_built.rules [] words in
    let fits = level_fits check_built [] words false check_owned check_defaults e in
    let ranges = check_ranges_of rows fits in
    let given = both (is_given (codes "file") rows) _ (arguments_given check_built rows (level_valid check_built [] words false e)) in
    let source = given_has_value check_built.rules rows (codes "file") _ fits refl given.0 in
    let derivation = given_has_value check_built.rules rows (codes "derivation") _ fits refl (both (is_given (codes "derivation") rows) _ given.1).0 in
    record {
      numbers = (λ is. absurd (apart _ _ refl is), λ is. absurd (apart _ _ refl is), λ is. absurd (apart _ _ refl is), λ is. check_numbers_of rows ranges, λ is. absurd (apart _ _ refl is));
      named = made _ (first_of (codes "file") rows) source (λ f. mapped _ (first_of (codes "derivation") rows) derivation);
      ranges = from_more IsInRange _ (λ f. from_one IsInRange _ (λ d. check_in_range rows ranges) (first_of (codes "derivation") rows)) (first_of (codes "file") rows);
    }

core_taken : (words : List Text) → level_passes core_built [] nothing_held words false ≡ true → IsTaken (Some (rows_at core_built words))
core_taken words e =
    let rows = rows_after core_built.rules [] words in
    let fits = level_fits core_built [] words false core_owned core_defaults e in
    let given = arguments_given core_built rows (level_valid core_built [] words false e) in
    let file = given_has_value core_built.rules rows (codes "file") _ fits refl (both (is_given (codes "file") rows) _ given).0 in
    record {
      numbers = (λ is. absurd (apart _ _ refl is), λ is. absurd (apart _ _ refl is), λ is. absurd (apart _ _ refl is), λ is. absurd (apart _ _ refl is), λ is. absurd (apart _ _ refl is));
      named = mapped Core (first_of (codes "file") rows) file;
      ranges = from_one IsInRange Core (λ t. tt) (first_of (codes "file") rows);
    }

run_taken : (words : List Text) → level_passes run_built [] nothing_held words false ≡ true → IsTaken (Some (rows_at run_built words))
run_taken words e =
    let rows = rows_after run_built.rules [] words in
    let fits = level_fits run_built [] words false run_owned run_defaults e in
    let steps = steps_of rows fits in
    let given = both (is_given (codes "file") rows) _ (arguments_given run_built rows (level_valid run_built [] words false e)) in
    let more = both (is_given (codes "method") rows) _ given.1 in
    let file = given_has_value run_built.rules rows (codes "file") _ fits refl given.0 in
    let method = given_has_value run_built.rules rows (codes "method") _ fits refl more.0 in
    let heap = given_has_value run_built.rules rows (codes "heap") _ fits refl (both (is_given (codes "heap") rows) _ more.1).0 in
    record {
      numbers = (λ is. absurd (apart _ _ refl is), λ is. absurd (apart _ _ refl is), λ is. absurd (apart _ _ refl is), λ is. absurd (apart _ _ refl is), λ is. option_fits 64 0 1000000 (codes "steps") rows (lit< tt) steps);
      named = made _ (first_of (codes "file") rows) file (λ f. made _ (first_of (codes "method") rows) method (λ m. mapped _ (first_of (codes "heap") rows) heap));
      ranges = from_more IsInRange _ (λ f. from_more IsInRange _ (λ m. from_one IsInRange _ (λ h. run_in_range rows steps) (first_of (codes "heap") rows))
          (first_of (codes "method") rows)) (first_of (codes "file") rows);
    }

pub taken : (words : List Text) → takes hipsleek_app words ≡ true → IsTaken (subcommand_of hipsleek_app words)
taken words e =
    let b = built hipsleek_app in
    let ws = argument_words hipsleek_app words in
    let stop = (walk b.top.rules (names_of b) nothing_held ws).stopped in
    let p = both (entered_passes b stop) _ (both (is_simple hipsleek_app) _ e).1 in
    let met = subcommand_given b.top (rows_after b.top.rules (names_of b) ws) (is_some (entered b stop)) refl
    (level_valid b.top (names_of b) ws (is_some (entered b stop)) p.1) in
    go stop p.0 met
  where
    -- the first of the subcommands that answers to the word, or none
    first : (sleek hip prove check core run : Bool) → Option Shape
    first sleek hip prove check core run = cond sleek (Some sleek_built) (cond hip (Some (search_built (codes "hip"))) (cond prove (Some (search_built (codes "prove"))) (cond check (Some check_built) (cond core (Some core_built) (cond run (Some run_built) None)))))

    at : (sleek hip prove check core run : Bool) (ws : List Text)
        → option_map_or (λ s. level_passes s [] nothing_held ws false) (first sleek hip prove check core run) true ≡ true
        → is_some (option_map (λ s. rows_at s ws) (first sleek hip prove check core run)) ≡ true → IsTaken (option_map (λ s. rows_at s ws) (first sleek hip prove check core run))
    at true hip prove check core run ws passes met = sleek_taken ws passes
    at false true prove check core run ws passes met = hip_taken ws passes
    at false false true check core run ws passes met = prove_taken ws passes
    at false false false true core run ws passes met = check_taken ws passes
    at false false false false true run ws passes met = core_taken ws passes
    at false false false false false true ws passes met = run_taken ws passes
    at false false false false false false ws passes met = cc

    go : (stop : Option (Text × List Text)) → entered_passes (built hipsleek_app) stop ≡ true
        → is_some (entered (built hipsleek_app) stop) ≡ true → IsTaken (entered (built hipsleek_app) stop)
    go None passes met = cc
    go (Some p) passes met =
        at (answers_to p.0 (label_of sleek_built)) (answers_to p.0 (label_of (search_built (codes "hip")))) (answers_to p.0 (label_of (search_built (codes "prove")))) (answers_to p.0 (label_of check_built)) (answers_to p.0 (label_of core_built)) (answers_to p.0 (label_of run_built)) p.1 passes met

-- ---- words that the command does not take

pub not_taken : (b : Bool) → (b ≡ true → ⊥) → b ≡ false
not_taken true refuted = absurd (refuted refl)
not_taken false refuted = refl

pub none_lacks : (o : Option Job) → o ≡ None → is_some o ≡ true → ⊥
none_lacks None none named = cc
none_lacks (Some j) none named = cc
