use Rattle.hs_heaptext.proofs.Once.{heap_texts_have_no_bad_line}
use Rattle.hs_heaptext.proofs.laws.heap_texts_have_no_bad_line.Goals as goal

pub returns : goal.returns
returns c = heap_texts_have_no_bad_line
