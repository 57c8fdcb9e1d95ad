-- What is written is read again.
use Rattle.std.specs.Prelude.{◌≡◌, ℕ, ◌<◌, ◌^◌, List, [], Ok}
use Rattle.std.specs.List.{AllByRecursion}
use Rattle.hs_heap.specs.declared.definitions.Defs.{Defs}
use Rattle.hs_node.specs.declared.derivation.Node.{Node}
use Rattle.hs_node.specs.declared.derivation.Derivation.{Derivation}
use Rattle.hs_written.specs.Writable.{DefsAreWritable}
use Rattle.hs_dtext.specs.declared.claims.ClaimLine.{ClaimLine}
use Rattle.hs_dtext.specs.Parts.{node}
use Rattle.hs_line.specs.Pieces.{cut_at}
use Rattle.hs_dtext.specs.Lines.{derivation_of}
use Rattle.hs_dtext.specs.Text.{node_text, derivation_text, proved, proved_text}
use Rattle.hs_dtext_laws.specs.Writable.{CauseIsWritable, NodeIsWritable, DerivationIsWritable}

-- the line of a writable node gives that node
abbrev pub NodesComeBack : Type 0
NodesComeBack = (defs : Defs) (n : ℕ) (x : Node) → DefsAreWritable defs → n < 2 ^ 32 → NodeIsWritable defs n x
    → node defs n (cut_at 59 (node_text defs n x)) ≡ Ok (x, [])

-- the text of a writable derivation gives that derivation
abbrev pub DerivationsComeBack : Type 0
DerivationsComeBack = (defs : Defs) (d : Derivation) → DerivationIsWritable defs d → derivation_of defs (derivation_text defs d) ≡ Ok d

-- the text of writable nodes and claims gives the nodes and the claims that are shown
abbrev pub ProvedComesBack : Type 0
ProvedComesBack = (defs : Defs) (nodes : List Node) (claims : List ClaimLine) → DerivationIsWritable defs (proved nodes claims)
    → AllByRecursion CauseIsWritable claims → derivation_of defs (proved_text defs nodes claims) ≡ Ok (proved nodes claims)
