-- What is left of an elimination has no quantifiers.
use Rattle.std.proofs.Common.{◌≡◌, true, false, sym, subst}
use Rattle.hs_pure.specs.declared.var.Var.{Var}
use Rattle.hs_pure.specs.declared.pure.Pure.{Pure}
use Rattle.hs_pure.specs.Assertion.{assertion_of}
use Rattle.hs_pure.specs.Eval.{has_quantifiers}
use Rattle.hs_elimination.specs.Elimination.{eliminated, without_variable}
use Rattle.hs_elimination.specs.Normal.{is_simple}
use Rattle.hs_elimination.proofs.Order.{simple-assertion}
use Rattle.hs_elimination.proofs.Simple.{no_quantifiers}

pub flat_result : (x : Var) (p r : Pure) → assertion_of r ≡ without_variable x (assertion_of p) → has_quantifiers r ≡ false
flat_result x p r e = no_quantifiers r (subst (λ a. is_simple a ≡ true) (sym e) (simple-assertion (eliminated x (assertion_of p))))
