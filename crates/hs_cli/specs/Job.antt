-- The job that the matches of the command name.
use Rattle.std.specs.Prelude.{◌≡◌, ◌<◌, ◌≤◌, ◌^◌, ℕ, List, Option, Some, None, if◌then◌else◌, codes}
use Rattle.std.specs.Prelude.{option_and_then, option_map}
use Rattle.std.specs.Option.{option_map_or}
use Rattle.std.specs.Str.{bytes_eq}
use Rattle.std.specs.Str.Parse.{IsNumeral, digits_value, without_leading_plus}
use Rattle.clap.specs.Words.{Row, Text, first_of, one_of}
use Rattle.hs_cli.specs.declared.jobs.Job.{Job}
use Rattle.hs_cli.specs.declared.jobs.Job.TheVariants.{Check, Core, Hip, Prove, Run, Sleek}
use Rattle.hs_cli.specs.declared.jobs.Options.{Options}

-- the number that the digits of a text write, where a plus may stand first
abbrev pub number_in : Text → ℕ
number_in text = digits_value 10 (without_leading_plus text)

-- the number in the value of an option, or the default where the option is not used
abbrev pub number_or : ℕ → Option Text → ℕ
number_or default value = option_map_or number_in value default

-- the options that the rows of `sleek` give
abbrev pub options_of : List Row → Options
options_of rows = record {
  rank = number_or 12 (one_of (codes "rank") rows);
  goals = number_or 20000 (one_of (codes "goals") rows);
  atoms = number_or 200000 (one_of (codes "atoms") rows);
  level = number_or 1 (one_of (codes "xpure") rows);
  residues = number_or 4 (one_of (codes "residues") rows);
  pieces = 1;
  steps = 1000;
}

-- the options that the rows of `hip` and of `prove` give, which want one derivation
abbrev pub search_options_of : List Row → Options
search_options_of rows = record {
  rank = number_or 12 (one_of (codes "rank") rows);
  goals = number_or 20000 (one_of (codes "goals") rows);
  atoms = number_or 200000 (one_of (codes "atoms") rows);
  level = number_or 1 (one_of (codes "xpure") rows);
  residues = 1;
  pieces = 1;
  steps = 1000;
}

-- the options that the rows of `check` give
abbrev pub check_options_of : List Row → Options
check_options_of rows = record {
  rank = 12;
  goals = 20000;
  atoms = number_or 200000 (one_of (codes "atoms") rows);
  level = 1;
  residues = 4;
  pieces = number_or 1 (one_of (codes "pieces") rows);
  steps = 1000;
}

-- the options that the rows of `run` give
abbrev pub run_options_of : List Row → Options
run_options_of rows = record {
  rank = 12;
  goals = 20000;
  atoms = 200000;
  level = 1;
  residues = 4;
  pieces = 1;
  steps = number_or 1000 (one_of (codes "steps") rows);
}

-- the job that the rows of `sleek` name
abbrev pub sleek_job_of : List Row → Option Job
sleek_job_of rows =
    option_map (λ file. Sleek file (options_of rows)) (first_of (codes "file") rows)

-- the job that the rows of `hip` name
abbrev pub hip_job_of : List Row → Option Job
hip_job_of rows =
    option_map (λ file. Hip file (search_options_of rows)) (first_of (codes "file") rows)

-- the job that the rows of `prove` name
abbrev pub prove_job_of : List Row → Option Job
prove_job_of rows =
    option_map (λ file. Prove file (search_options_of rows)) (first_of (codes "file") rows)

-- the job that the rows of `check` name
abbrev pub check_job_of : List Row → Option Job
check_job_of rows = option_and_then (λ source.
    option_map (λ derivation. Check source derivation (check_options_of rows))
    (first_of (codes "derivation") rows)) (first_of (codes "file") rows)

-- the job that the rows of `core` name
abbrev pub core_job_of : List Row → Option Job
core_job_of rows = option_map Core (first_of (codes "file") rows)

-- the job that the rows of `run` name
abbrev pub run_job_of : List Row → Option Job
run_job_of rows = option_and_then (λ file. option_and_then (λ method.
    option_map (λ heap. Run file method heap (run_options_of rows))
    (first_of (codes "heap") rows)) (first_of (codes "method") rows)) (first_of (codes "file") rows)

-- the job that the rows of a subcommand name
abbrev pub named_job : Text × List Row → Option Job
named_job p = if bytes_eq p.0 (codes "sleek") then sleek_job_of p.1
    else if bytes_eq p.0 (codes "hip") then hip_job_of p.1
    else if bytes_eq p.0 (codes "prove") then prove_job_of p.1
    else if bytes_eq p.0 (codes "check") then check_job_of p.1
    else if bytes_eq p.0 (codes "core") then core_job_of p.1
    else if bytes_eq p.0 (codes "run") then run_job_of p.1 else None

-- the job that the matches of the subcommand name
abbrev pub job_of : Option (Text × List Row) → Option Job
job_of = option_and_then named_job

-- the number is from low to high
abbrev pub IsWithin : ℕ → ℕ → ℕ → Type 0
IsWithin low high n = (low ≤ n) × (n ≤ high)

-- each limit lies in its range
pub record AreInRange (o : Options) : Type 0 where
  pub rank : IsWithin 0 64 o.rank
  pub goals : IsWithin 1 200000 o.goals
  pub atoms : IsWithin 1 2000000 o.atoms
  pub level : IsWithin 0 3 o.level
  pub residues : IsWithin 1 16 o.residues
  pub pieces : IsWithin 1 64 o.pieces
  pub steps : IsWithin 0 1000000 o.steps

-- each limit of the job lies in its range
abbrev pub IsInRange : Job → Type 0
IsInRange (Sleek file options) = AreInRange options
IsInRange (Hip file options) = AreInRange options
IsInRange (Prove file options) = AreInRange options
IsInRange (Check source derivation options) = AreInRange options
IsInRange (Core file) = Unit {0}
IsInRange (Run file method heap options) = AreInRange options

-- the value of an option, where it is used, is a number of so many bits
abbrev pub HasNumber : ℕ → Text → List Row → Type 0
HasNumber bits id rows = (text : Text) → one_of id rows ≡ Some text
    → IsNumeral 10 (without_leading_plus text) × (number_in text < 2 ^ bits)

-- the values of the options of a search are numbers of their types
abbrev pub HasSearchNumbers : List Row → Type 0
HasSearchNumbers rows = HasNumber 32 (codes "rank") rows × HasNumber 64 (codes "goals") rows
    × HasNumber 64 (codes "atoms") rows × HasNumber 32 (codes "xpure") rows

-- the values of the options of `sleek` are numbers of their types
abbrev pub HasNumbers : List Row → Type 0
HasNumbers rows = HasSearchNumbers rows × HasNumber 32 (codes "residues") rows

-- the values of the options of `check` are numbers of their types
abbrev pub HasCheckNumbers : List Row → Type 0
HasCheckNumbers rows = HasNumber 64 (codes "atoms") rows × HasNumber 32 (codes "pieces") rows

-- the values of the options of the subcommand are numbers of their types
abbrev pub HasNamedNumbers : Option (Text × List Row) → Type 0
HasNamedNumbers None = Unit {0}
HasNamedNumbers (Some p) = (p.0 ≡ codes "sleek" → HasNumbers p.1)
    × (p.0 ≡ codes "hip" → HasSearchNumbers p.1)
    × (p.0 ≡ codes "prove" → HasSearchNumbers p.1)
    × (p.0 ≡ codes "check" → HasCheckNumbers p.1)
    × (p.0 ≡ codes "run" → HasNumber 64 (codes "steps") p.1)
