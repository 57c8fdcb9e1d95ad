-- A sink in memory: what it holds, when it fails, and how much it takes.
use Rattle.std.specs.Prelude.{ℕ, List}
use Rattle.std.specs.List.{Contains}
use Rattle.hs_io.specs.declared.sink.MemSink.{MemSink}
use Rattle.hs_io.specs.Faults.{next_call}

-- all that was taken
abbrev pub written : MemSink → List ℕ
written sink = sink.bytes.items

-- how many puts failed
abbrev pub faults : MemSink → ℕ
faults sink = sink.faults

-- how many pieces were put that are not empty
abbrev pub puts : MemSink → ℕ
puts sink = sink.calls

-- the numbers of those that fail
abbrev pub failing : MemSink → List ℕ
failing sink = sink.fails.items

-- how many bytes a put takes at most
abbrev pub most : MemSink → ℕ
most sink = sink.most

-- the next put of a piece that is not empty fails: its number is listed
abbrev pub FailsPut : MemSink → Type 0
FailsPut sink = Contains (failing sink) (next_call (puts sink))
