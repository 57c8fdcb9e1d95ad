use Rattle.std.proofs.Common.{◌≡◌, ◌+◌, map, take, min, sum}
use Rattle.hs_elimination.specs.Linear.{place}
use Rattle.hs_cooper_forms.specs.Reading.{form_of}
use Rattle.hs_cooper.specs.Surveying.{low_atoms}
use Rattle.hs_cooper.proofs.survey.+lower_sizing.Given as goal

abbrev pub invariant-count_all_low-loop-f : goal.invariant-count_all_low-loop-f
invariant-count_all_low-loop-f l = l.count ≡ min (sum (map (λ f. low_atoms (place l.x) (form_of f)) (take l.f-index l.fs))) (l.budget + 1)
