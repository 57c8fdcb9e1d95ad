-- What an examination finds.
use Rattle.hs_pure.specs.declared.pure.Pure.{Pure}
use Rattle.hs_pure.specs.declared.valuation.Valuation.{Valuation}
use Rattle.hs_pure.specs.Eval.{stack_of}
use Rattle.hs_pure.specs.Truth.{TrueAt}
use Rattle.hs_equations.specs.declared.finding.Finding.{Finding}
use Rattle.hs_equations.specs.declared.finding.Finding.TheVariants.{Implied, Refuted, Open}

-- P of the values of a refutation
abbrev pub IfRefuted : Finding → (Valuation → Type 0) → Type 0
IfRefuted Implied P = Unit {0}
IfRefuted (Refuted v) P = P v
IfRefuted Open P = Unit {0}

-- the values make the first formula true and the second false
abbrev pub IsCounter : Pure → Pure → Valuation → Type 0
IsCounter a b v = TrueAt (stack_of v) a × (¬ (TrueAt (stack_of v) b))
