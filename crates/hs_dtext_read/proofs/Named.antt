-- What stops the normal form of a formula.
use Rattle.std.proofs.Common.{Result, Ok, Err, sym, ap, inl, inr}
use Rattle.hs_norm_formula.specs.declared.by_number.NormError.{NormError}
use Rattle.hs_norm_formula.specs.declared.by_number.NormError.TheVariants.{Unknown, Twice, Kind, Arity, TooMany, Shape, Memory}
use Rattle.hs_norm_formula.specs.Numbered.{Gives as IsBuilt}
use Rattle.hs_line.specs.Steps.{Gives}
use Rattle.hs_dtext.specs.Formulas.{named, norm_stop}

pub named_found : {A : Type 0} (o : Result A NormError) (a : A) → IsBuilt o (Ok a) → Gives (named o) (Ok a)
named_found o a (inl h) = ap named (sym h)
named_found o a (inr h) = absurd cc

pub named_stop : {A : Type 0} (o : Result A NormError) (e : NormError) → IsBuilt o (Err e) → Gives (named o) (Err (norm_stop e))
named_stop o (Unknown x) (inl h) = ap named (sym h)
named_stop o (Unknown x) (inr h) = absurd cc
named_stop o (Twice x) (inl h) = ap named (sym h)
named_stop o (Twice x) (inr h) = absurd cc
named_stop o (Kind at) (inl h) = ap named (sym h)
named_stop o (Kind at) (inr h) = absurd cc
named_stop o (Arity at) (inl h) = ap named (sym h)
named_stop o (Arity at) (inr h) = absurd cc
named_stop o (TooMany at l) (inl h) = ap named (sym h)
named_stop o (TooMany at l) (inr h) = absurd cc
named_stop o (Shape at) (inl h) = ap named (sym h)
named_stop o (Shape at) (inr h) = absurd cc
named_stop o Memory h = tt
