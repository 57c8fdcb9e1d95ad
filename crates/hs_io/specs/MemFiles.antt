-- Files in memory: what they hold, and when they fail.
use Rattle.std.specs.Prelude.{◌≡◌, ◌⊎◌, ℕ, List, None}
use Rattle.std.specs.List.{Contains}
use Rattle.hs_io.specs.declared.files.MemFiles.{MemFiles}
use Rattle.hs_io.specs.Faults.{next_call}
use Rattle.hs_io.specs.Files.{held, texts_of}

-- their names and bytes
abbrev pub texts : MemFiles → List (List ℕ × List ℕ)
texts files = texts_of files.files.items

-- how many fetches failed
abbrev pub faults : MemFiles → ℕ
faults files = files.faults

-- how many fetches there were
abbrev pub fetches : MemFiles → ℕ
fetches files = files.calls

-- the numbers of those that fail
abbrev pub failing : MemFiles → List ℕ
failing files = files.fails.items

-- the next fetch of that name fails: its number is listed, or no file has the name
abbrev pub FailsFetch : MemFiles → List ℕ → Type 0
FailsFetch files name = Contains (failing files) (next_call (fetches files)) ⊎ (held (texts files) name ≡ None)
