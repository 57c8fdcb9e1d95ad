use Rattle.std.proofs.Common.{◌≡◌, map, take}
use Rattle.hs_pure.specs.Assertion.{assertion_of}
use Rattle.hs_elimination.specs.Form.{assertion}
use Rattle.hs_cooper_forms.specs.Reading.{form_of}
use Rattle.hs_cooper.proofs.back.+back.Given as goal

abbrev pub invariant-to_pures-loop-f : goal.invariant-to_pures-loop-f
invariant-to_pures-loop-f l = map assertion_of l.members ≡ map (λ f. assertion (form_of f)) (take l.f-index l.fs)
