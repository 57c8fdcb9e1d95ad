-- The command at words that are written out.
use Rattle.std.proofs.Common.{◌≡◌, true, false, refl, codes, List, [], ◌∷◌, Some}
use Rattle.std.specs.List.{list_all, list_any}
use Rattle.clap.specs.Words.{Text, subcommand_of, takes}
use Rattle.clap.proofs.OnLiterals.{clap_on_literals}
use Rattle.hs_cli.specs.Command.{hipsleek_app}
use Rattle.hs_cli.specs.Job.{job_of}
use Rattle.hs_cli.specs.declared.jobs.Job.TheVariants.{Check, Core, Hip, Prove, Run, Sleek}

-- each of these names a job
abbrev job_words : List (List Text)
job_words = (codes "sleek" ∷ codes "a" ∷ [])
    ∷ (codes "sleek" ∷ [] ∷ [])
    ∷ (codes "sleek" ∷ codes "help" ∷ [])
    ∷ (codes "sleek" ∷ codes "--" ∷ codes "--rank" ∷ [])
    ∷ (codes "sleek" ∷ codes "a" ∷ codes "--rank" ∷ codes "0" ∷ [])
    ∷ (codes "sleek" ∷ codes "a" ∷ codes "--rank" ∷ codes "64" ∷ [])
    ∷ (codes "sleek" ∷ codes "a" ∷ codes "--rank" ∷ codes "+7" ∷ [])
    ∷ (codes "sleek" ∷ codes "a" ∷ codes "--rank" ∷ codes "07" ∷ [])
    ∷ (codes "sleek" ∷ codes "--rank=7" ∷ codes "a" ∷ [])
    ∷ (codes "sleek" ∷ codes "a" ∷ codes "--goals=1" ∷ codes "--atoms=1" ∷ codes "--xpure=0" ∷ codes "--residues=1" ∷ [])
    ∷ (codes "sleek" ∷ codes "a" ∷ codes "--goals=200000" ∷ codes "--atoms=2000000" ∷ codes "--xpure=3" ∷ codes "--residues=16" ∷ [])
    ∷ (codes "hip" ∷ codes "a" ∷ codes "--rank=64" ∷ codes "--goals=1" ∷ codes "--atoms=1" ∷ codes "--xpure=3" ∷ [])
    ∷ (codes "prove" ∷ codes "--xpure=0" ∷ codes "a" ∷ [])
    ∷ (codes "check" ∷ codes "a" ∷ codes "d" ∷ [])
    ∷ (codes "check" ∷ codes "--pieces=64" ∷ codes "a" ∷ codes "d" ∷ codes "--atoms=2000000" ∷ [])
    ∷ (codes "core" ∷ codes "a" ∷ [])
    ∷ (codes "run" ∷ codes "a" ∷ codes "f" ∷ codes "h" ∷ [])
    ∷ (codes "run" ∷ codes "a" ∷ codes "run" ∷ codes "a" ∷ codes "--steps" ∷ codes "0" ∷ [])
    ∷ (codes "run" ∷ codes "--steps=1000000" ∷ codes "a" ∷ codes "f" ∷ codes "h" ∷ [])
    ∷ []

-- and none of these
abbrev other_words : List (List Text)
other_words = []
    ∷ (codes "sleek" ∷ [])
    ∷ (codes "hip" ∷ [])
    ∷ (codes "hip" ∷ codes "a" ∷ codes "--residues=1" ∷ [])
    ∷ (codes "prove" ∷ codes "a" ∷ codes "--pieces=1" ∷ [])
    ∷ (codes "check" ∷ codes "a" ∷ [])
    ∷ (codes "check" ∷ codes "a" ∷ codes "d" ∷ codes "--pieces=65" ∷ [])
    ∷ (codes "check" ∷ codes "a" ∷ codes "d" ∷ codes "--pieces=0" ∷ [])
    ∷ (codes "check" ∷ codes "a" ∷ codes "d" ∷ codes "--rank=1" ∷ [])
    ∷ (codes "help" ∷ [])
    ∷ (codes "--help" ∷ [])
    ∷ (codes "--version" ∷ [])
    ∷ (codes "sleek" ∷ codes "-h" ∷ [])
    ∷ (codes "sleek" ∷ codes "a" ∷ codes "--help" ∷ [])
    ∷ (codes "sleek" ∷ codes "a" ∷ codes "--version" ∷ [])
    ∷ (codes "sleek" ∷ codes "a" ∷ codes "b" ∷ [])
    ∷ (codes "--rank" ∷ codes "7" ∷ codes "sleek" ∷ codes "a" ∷ [])
    ∷ (codes "sleek" ∷ codes "a" ∷ codes "--rank" ∷ [])
    ∷ (codes "sleek" ∷ codes "a" ∷ codes "--rank" ∷ codes "seven" ∷ [])
    ∷ (codes "sleek" ∷ codes "a" ∷ codes "--rank" ∷ codes "65" ∷ [])
    ∷ (codes "sleek" ∷ codes "a" ∷ codes "--rank=7" ∷ codes "--rank=7" ∷ [])
    ∷ (codes "sleek" ∷ codes "a" ∷ codes "--goals" ∷ codes "0" ∷ [])
    ∷ (codes "sleek" ∷ codes "a" ∷ codes "--goals" ∷ codes "200001" ∷ [])
    ∷ (codes "sleek" ∷ codes "a" ∷ codes "--atoms" ∷ codes "0" ∷ [])
    ∷ (codes "sleek" ∷ codes "a" ∷ codes "--atoms" ∷ codes "2000001" ∷ [])
    ∷ (codes "sleek" ∷ codes "a" ∷ codes "--xpure" ∷ codes "4" ∷ [])
    ∷ (codes "sleek" ∷ codes "a" ∷ codes "--residues" ∷ codes "0" ∷ [])
    ∷ (codes "sleek" ∷ codes "a" ∷ codes "--residues" ∷ codes "17" ∷ [])
    ∷ (codes "sleek" ∷ codes "a" ∷ codes "--level" ∷ codes "1" ∷ [])
    ∷ (codes "core" ∷ [])
    ∷ (codes "core" ∷ codes "a" ∷ codes "b" ∷ [])
    ∷ (codes "core" ∷ codes "a" ∷ codes "--steps=1" ∷ [])
    ∷ (codes "run" ∷ codes "a" ∷ [])
    ∷ (codes "run" ∷ codes "a" ∷ codes "f" ∷ [])
    ∷ (codes "run" ∷ codes "a" ∷ codes "f" ∷ codes "h" ∷ codes "b" ∷ [])
    ∷ (codes "run" ∷ codes "a" ∷ codes "f" ∷ codes "h" ∷ codes "--steps" ∷ codes "1000001" ∷ [])
    ∷ (codes "run" ∷ codes "a" ∷ codes "f" ∷ codes "h" ∷ codes "--rank" ∷ codes "1" ∷ [])
    ∷ (codes "sleek" ∷ codes "a" ∷ codes "--steps" ∷ codes "1" ∷ [])
    ∷ []

pub takes-job_words : list_all (takes hipsleek_app) job_words ≡ true
unfolding clap_on_literals
takes-job_words = refl

pub takes-other_words : list_any (takes hipsleek_app) other_words ≡ false
unfolding clap_on_literals
takes-other_words = refl

-- an option has its value, or its default
pub job_of-example : job_of (subcommand_of hipsleek_app (codes "sleek" ∷ codes "a" ∷ codes "--rank" ∷ codes "+07" ∷ codes "--goals=9" ∷ []))
    ≡ Some (Sleek (codes "a") (record {
      rank = 7;
      goals = 9;
      atoms = 200000;
      level = 1;
      residues = 4;
      pieces = 1;
      steps = 1000;
    }))
unfolding clap_on_literals
job_of-example = refl

pub job_of-hip : job_of (subcommand_of hipsleek_app (codes "hip" ∷ codes "a" ∷ codes "--goals=9" ∷ []))
    ≡ Some (Hip (codes "a") (record {
      rank = 12;
      goals = 9;
      atoms = 200000;
      level = 1;
      residues = 1;
      pieces = 1;
      steps = 1000;
    }))
unfolding clap_on_literals
job_of-hip = refl

pub job_of-prove : job_of (subcommand_of hipsleek_app (codes "prove" ∷ codes "a" ∷ codes "--goals=9" ∷ []))
    ≡ Some (Prove (codes "a") (record {
      rank = 12;
      goals = 9;
      atoms = 200000;
      level = 1;
      residues = 1;
      pieces = 1;
      steps = 1000;
    }))
unfolding clap_on_literals
job_of-prove = refl

pub job_of-check : job_of (subcommand_of hipsleek_app (codes "check" ∷ codes "a" ∷ codes "d" ∷ codes "--pieces=3" ∷ []))
    ≡ Some (Check (codes "a") (codes "d") (record {
      rank = 12;
      goals = 20000;
      atoms = 200000;
      level = 1;
      residues = 4;
      pieces = 3;
      steps = 1000;
    }))
unfolding clap_on_literals
job_of-check = refl

pub job_of-core : job_of (subcommand_of hipsleek_app (codes "core" ∷ codes "a" ∷ [])) ≡ Some (Core (codes "a"))
unfolding clap_on_literals
job_of-core = refl

pub job_of-run : job_of (subcommand_of hipsleek_app (codes "run" ∷ codes "a" ∷ codes "f" ∷ codes "--steps=5" ∷ codes "h" ∷ []))
    ≡ Some (Run (codes "a") (codes "f") (codes "h") (record {
      rank = 12;
      goals = 20000;
      atoms = 200000;
      level = 1;
      residues = 4;
      pieces = 1;
      steps = 5;
    }))
unfolding clap_on_literals
job_of-run = refl
