-- The stop that a refusal is.
use Rattle.hs_cooper_forms.specs.declared.refusal.Refusal.{Refusal}
use Rattle.hs_cooper_forms.specs.declared.refusal.Refusal.TheVariants as refusal
use Rattle.hs_cooper.specs.declared.stop.Stop.{Stop}
use Rattle.hs_cooper.specs.declared.stop.Stop.TheVariants.{Wide, Memory}

abbrev pub stop_of : Refusal → Stop
stop_of refusal.Wide = Wide
stop_of refusal.Memory = Memory
