-- What the layers above use of such refusals.
use Rattle.std.specs.Prelude.{◌≡◌}
use Rattle.hs_wf.specs.Founded.{IsFounded}
use Rattle.hs_norm.specs.declared.resolved.Resolved.{Resolved}
use Rattle.hs_print.specs.declared.refusal.Refusal.{Refusal}
use Rattle.hs_founding.specs.Fault.{HasFoundingFault}

-- founded definitions have none
abbrev pub FoundedHaveNoFault : Type 0
FoundedHaveNoFault = (r : Resolved) → IsFounded r.defs → (cause : Refusal) → HasFoundingFault r cause → ⊥

-- others have one
abbrev pub FaultsAreUnique : Type 0
FaultsAreUnique = (r : Resolved) (cause other : Refusal) → HasFoundingFault r cause → HasFoundingFault r other → cause ≡ other
