use Rattle.std.proofs.Common.{take}
use Rattle.hs_wf.specs.Links.{Followed}
use Rattle.hs_wf.specs.Marked.{is_marked}
use Rattle.hs_wf.proofs.reached.follow.Given as goal

abbrev pub invariant-loop-link : goal.invariant-loop-link
invariant-loop-link l = Followed (is_marked l.fn.marks) (is_marked l.marks) (take l.link-index l.links) l.waiting.items
