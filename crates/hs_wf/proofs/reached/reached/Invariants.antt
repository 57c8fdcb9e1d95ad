use Rattle.std.proofs.Common.{length}
use Rattle.hs_heap.specs.Meaning.{is_in}
use Rattle.hs_wf.specs.Links.{case_links}
use Rattle.hs_wf.specs.Marked.{is_marked}
use Rattle.hs_wf.proofs.Following.{Spread}
use Rattle.hs_wf.proofs.reached.reached.Given as goal

abbrev pub invariant-following : goal.invariant-following
invariant-following l = Spread (λ v. is_in v l.fn.names) (case_links l.fn.case) (is_marked l.marks) l.links.items

abbrev pub decreases-following : goal.decreases-following
decreases-following l = length l.links.items
