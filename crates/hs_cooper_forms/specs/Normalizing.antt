-- Parts of the first stage.
use Rattle.std.specs.Prelude.{Bool, true, false}
use Rattle.hs_pure.specs.declared.pure.Pure.{Pure}
use Rattle.hs_pure.specs.Assertion.{assertion_of}
use Rattle.hs_elimination.specs.Form.{Form}
use Rattle.hs_elimination.specs.Normal.{normal}
use Rattle.hs_cooper_forms.specs.declared.nnf.Connective.{Connective}
use Rattle.hs_cooper_forms.specs.declared.nnf.Connective.TheVariants.{And, Or}

-- the connective, or that of the denial
abbrev pub side : Bool → Connective → Connective
side true c = c
side false And = Or
side false Or = And

-- the first stage of a formula
abbrev pub first_stage : Bool → Pure → Form
first_stage b p = normal b (assertion_of p)
