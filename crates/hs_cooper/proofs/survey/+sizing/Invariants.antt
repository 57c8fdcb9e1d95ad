use Rattle.std.proofs.Common.{◌≡◌, ◌+◌, map, take, min, sum}
use Rattle.hs_elimination.specs.Form.{atoms}
use Rattle.hs_cooper_forms.specs.Reading.{form_of}
use Rattle.hs_cooper.proofs.survey.+sizing.Given as goal

abbrev pub invariant-count_all_atoms-loop-f : goal.invariant-count_all_atoms-loop-f
invariant-count_all_atoms-loop-f l = l.count ≡ min (sum (map (λ f. atoms (form_of f)) (take l.f-index l.fs))) (l.budget + 1)
