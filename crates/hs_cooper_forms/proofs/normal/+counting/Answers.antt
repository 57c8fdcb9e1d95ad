use Rattle.std.proofs.Common.{ap, ◌∙◌, ◌+◌, min}
use Rattle.hs_cooper_forms.proofs.Normals.{atoms-Not, atoms-And, atoms-Or}
use Rattle.hs_cooper_forms.proofs.normal.+counting.Goals as goal

pub count_normal-returns-in-Not : goal.count_normal-returns-in-Not
count_normal-returns-in-Not t c = (rw c.get.ensures at c.count_normal.ensures) ∙ ap (λ n. min n (c.args.budget + 1)) (atoms-Not c.args.p.now c.in-Not.p c.in-Not.is)

pub count_normal-returns-in-And : goal.count_normal-returns-in-And
count_normal-returns-in-And t c = (rw c.as_slice.ensures at c.count_all_normal.ensures) ∙ ap (λ n. min n (c.args.budget + 1)) (atoms-And c.args.p.now c.in-And.ps c.in-And.is)

pub count_normal-returns-in-Or : goal.count_normal-returns-in-Or
count_normal-returns-in-Or t c = (rw c.as_slice-in-Or.ensures at c.count_all_normal-in-Or.ensures) ∙ ap (λ n. min n (c.args.budget + 1)) (atoms-Or c.args.p.now c.in-Or.ps c.in-Or.is)
