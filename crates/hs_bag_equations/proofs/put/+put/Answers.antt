use Rattle.hs_bag_equations.proofs.Members.{put-And, put-Or}
use Rattle.hs_bag_equations.proofs.put.+put.Goals as goal

pub put-returns-in_ok-put_all-in-And : goal.put-returns-in_ok-put_all-in-And
put-returns-in_ok-put_all-in-And t c = put-And c.args.es.now c.args.p.now c.in-And.ps c.in_ok-put_all-in-And.field-0 c.in-And.is (rw c.as_slice.ensures at c.in_ok-put_all-in-And.ensures)

pub put-returns-in_ok-put_all-in-Or : goal.put-returns-in_ok-put_all-in-Or
put-returns-in_ok-put_all-in-Or t c = put-Or c.args.es.now c.args.p.now c.in-Or.ps c.in_ok-put_all-in-Or.field-0 c.in-Or.is (rw c.as_slice-in-Or.ensures at c.in_ok-put_all-in-Or.ensures)
