use Rattle.hs_core.specs.Machine.{IsFree}
use Rattle.hs_heap.specs.Heap.{IsFreePlace}
use Rattle.hs_lower_meaning.proofs.Methods.{blocks_run}
use Rattle.hs_lower_meaning.proofs.laws.blocks_are_run.Goals as goal

pub returns-clause-any : goal.returns-clause-any
returns-clause-any c = blocks_run IsFree

pub returns-clause-least : goal.returns-clause-least
returns-clause-least c = blocks_run IsFreePlace
