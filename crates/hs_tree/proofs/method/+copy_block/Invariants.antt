use Rattle.std.proofs.Common.{◌≡◌, take}
use Rattle.hs_tree.proofs.method.+copy_block.Given as goal

abbrev pub invariant-copy_statements-loop-statement : goal.invariant-copy_statements-loop-statement
invariant-copy_statements-loop-statement l = l.all ≡ take l.statement-index l.statements
