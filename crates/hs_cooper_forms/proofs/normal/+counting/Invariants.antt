use Rattle.std.proofs.Common.{◌≡◌, ◌+◌, true, map, take, min, sum}
use Rattle.hs_elimination.specs.Form.{atoms}
use Rattle.hs_cooper_forms.specs.Normalizing.{first_stage}
use Rattle.hs_cooper_forms.proofs.normal.+counting.Given as goal

abbrev pub invariant-count_all_normal-loop-p : goal.invariant-count_all_normal-loop-p
invariant-count_all_normal-loop-p l = l.count ≡ min (sum (map (λ p. atoms (first_stage true p)) (take l.p-index l.ps))) (l.budget + 1)
