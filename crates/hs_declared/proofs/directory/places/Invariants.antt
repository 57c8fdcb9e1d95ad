use Rattle.std.proofs.Common.{◌≡◌, ℕ, List, take}
use Rattle.indexmap.specs.IndexMap.{get_by_text}
use Rattle.hs_declared.specs.Names.{place}
use Rattle.hs_declared.proofs.directory.places.Given as goal

abbrev pub invariant-loop-i : goal.invariant-loop-i
invariant-loop-i l = (q : List ℕ) → get_by_text l.places q ≡ place q (take l.i l.names)
