use Rattle.hs_heaptext.proofs.Numbers.{Reads}
use Rattle.hs_heaptext.proofs.number.natural.Given as goal

abbrev pub invariant-loop-digit : goal.invariant-loop-digit
invariant-loop-digit l = Reads l.digits l.digit-index l.number
