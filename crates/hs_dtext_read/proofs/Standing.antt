-- Where a reading of lines stands.
use Rattle.std.proofs.Common.{◌≡◌, ℕ, ◌+◌, ◌<◌, ◌≤◌, ◌^◌, List, length}
use Rattle.hs_heap.specs.declared.definitions.Defs.{Defs}
use Rattle.hs_line.specs.Pieces.{AreShort}
use Rattle.hs_dtext.specs.declared.reading.Reading.{Reading}
use Rattle.hs_dtext.specs.Lines.{begun, lines_from}

-- the lines from the n-th on are left of all, and each before gave a node at most
pub record HaveRead (defs : Defs) (all : List (List ℕ)) (n : ℕ) (r : Reading) (lines : List (List ℕ)) : Type 0 where
  pub same : lines_from defs 2 begun all ≡ lines_from defs n r lines
  pub short : AreShort lines
  pub few : length all + 2 < 2 ^ 32
  pub below : n + length lines ≤ length all + 2
  pub nodes : length r.nodes + 2 ≤ n
