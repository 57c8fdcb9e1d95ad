-- Which blocks reach their ends.
use Rattle.std.specs.Prelude.{Bool, true, false, ◌||◌, Option, Some, None}
use Rattle.std.specs.List.{list_all}
use Rattle.hs_tree.specs.declared.method.BlockTree.{BlockTree, fold-BlockTree}
use Rattle.hs_tree.specs.declared.method.StatementTree.{StatementTree, fold-StatementTree}
use Rattle.hs_tree.specs.declared.method.StatementKind.TheOpen.{StatementKind-F}

-- an absent else reaches its end
abbrev pub other_ends : Option Bool → Bool
other_ends None = true
other_ends (Some b) = b

abbrev pub kind_ends : StatementKind-F Bool Bool Bool → Bool
kind_ends (StatementKind-F.Local kind x v) = true
kind_ends (StatementKind-F.Assign x v) = true
kind_ends (StatementKind-F.Store x f e) = true
kind_ends (StatementKind-F.Call c) = true
kind_ends (StatementKind-F.Branch c body other) = body || other_ends other
kind_ends (StatementKind-F.Return e) = false

-- whether what stands after a statement can be reached: not after a return or an `if` both of whose branches do not
-- reach their ends
abbrev pub statement_ends : StatementTree → Bool
statement_ends = fold-StatementTree Bool Bool Bool kind_ends (λ b. list_all (λ s. s) b.statements) (λ s. s.kind)

-- whether the end of a block can be reached
abbrev pub block_ends : BlockTree → Bool
block_ends = fold-BlockTree Bool Bool Bool kind_ends (λ b. list_all (λ s. s) b.statements) (λ s. s.kind)
