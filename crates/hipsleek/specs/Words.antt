-- The words of the command line.
use Rattle.std.specs.Prelude.{[], Result, Ok, Err, Option, Vec, map}
use Rattle.std.specs.String.{string_bytes}
use Rattle.std.specs.declared.alloc.Global.{Global}
use Rattle.std.specs.declared.string.String.{String}
use Rattle.std.specs.declared.io.ErrorKind.{ErrorKind}
use Rattle.std.specs.declared.io.ErrorKind.TheVariants as kind
use Rattle.hs_cli.specs.declared.jobs.Job.{Job}
use Rattle.hs_cli.specs.declared.error.WordsError.{WordsError}
use Rattle.hs_cli.specs.declared.error.WordsError.TheVariants.{Words, Memory}
use Rattle.hs_tool.specs.Run.{job_named}

-- why words could not be read: memory ran out, or one is no text
abbrev pub fault_of : ErrorKind → WordsError
fault_of kind.OutOfMemory = Memory
fault_of _ = Words

-- the job that the words name; those that could not be read stand for none
abbrev pub job_read : Result (Vec (String Global) Global) WordsError → Option Job
job_read (Ok words) = job_named (map string_bytes words.items)
job_read (Err fault) = job_named []
