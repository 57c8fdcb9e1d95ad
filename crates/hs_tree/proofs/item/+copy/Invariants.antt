use Rattle.std.proofs.Common.{◌≡◌, take}
use Rattle.hs_tree.proofs.item.+copy.Given as goal

abbrev pub invariant-copy_cases-loop-case : goal.invariant-copy_cases-loop-case
invariant-copy_cases-loop-case l = l.all ≡ take l.case-index l.cases

abbrev pub invariant-copy_cases-loop-item : goal.invariant-copy_cases-loop-item
invariant-copy_cases-loop-item l = l.items ≡ take l.item-index l.members
