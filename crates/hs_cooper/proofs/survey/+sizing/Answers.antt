use Rattle.std.proofs.Common.{ap, ◌∙◌, ◌+◌, min}
use Rattle.hs_cooper.proofs.Surveys.{atoms-Joined}
use Rattle.hs_cooper.proofs.survey.+sizing.Goals as goal

pub count_atoms-returns-in-Joined : goal.count_atoms-returns-in-Joined
count_atoms-returns-in-Joined t c = (rw c.as_slice.ensures at c.count_all_atoms.ensures) ∙ ap (λ n. min n (c.args.budget + 1)) (atoms-Joined c.args.f.now _ c.in-Joined.fs c.in-Joined.is)
