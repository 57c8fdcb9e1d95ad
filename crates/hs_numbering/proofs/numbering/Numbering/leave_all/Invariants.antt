use Rattle.std.proofs.Common.{◌≡◌, take}
use Rattle.std.specs.List.{fold}
use Rattle.hs_numbering.specs.Numbering.{leave}
use Rattle.hs_numbering.proofs.numbering.Numbering.leave_all.Given as goal

abbrev pub invariant-loop-name : goal.invariant-loop-name
invariant-loop-name l = l.self ≡ fold (λ n x. (leave n).1) l.fn.self (take l._name-index l.names)
