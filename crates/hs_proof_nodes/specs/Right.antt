-- Lists of right nodes.
use Rattle.std.specs.Prelude.{ℕ, ◌<◌, List, length, take, slice_get, IsSomeAnd}
use Rattle.hs_heap.specs.declared.definitions.Defs.{Defs}
use Rattle.hs_core.specs.declared.program.Program.{Program}
use Rattle.hs_node.specs.declared.derivation.Node.{Node}
use Rattle.hs_judge.specs.Right.{IsRight}

-- the node is right behind others
abbrev pub IsRightNode : Defs → Program → List Node → Node → Type 0
IsRightNode defs program before n = IsRight defs program before n.judgement n.rule n.premises

-- each node is right behind those before it
abbrev pub AreRightNodes : Defs → Program → List Node → Type 0
AreRightNodes defs program nodes = (i : ℕ) → i < length nodes → IsSomeAnd (slice_get nodes i) (IsRightNode defs program (take i nodes))
