use Rattle.hs_heaptext.proofs.Once.{read_back}
use Rattle.hs_heaptext.proofs.reading.read_heap.Goals as goal

pub returns-clause-back : goal.returns-clause-back
returns-clause-back c = read_back c.args.defs.now c.args.bytes.now _ c.parts.ensures.found c.parts.ensures.cause
