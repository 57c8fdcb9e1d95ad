use Rattle.std.proofs.Common.{ap, ◌∙◌, ◌+◌, min}
use Rattle.hs_elimination.specs.Linear.{place}
use Rattle.hs_cooper.proofs.Surveys.{low-Joined}
use Rattle.hs_cooper.proofs.survey.+lower_sizing.Goals as goal

pub count_low-returns-in-Joined : goal.count_low-returns-in-Joined
count_low-returns-in-Joined t c = (rw c.as_slice.ensures at c.count_all_low.ensures) ∙ ap (λ n. min n (c.args.budget + 1)) (low-Joined (place c.args.x) c.args.f.now _ c.in-Joined.fs c.in-Joined.is)
