-- Parameters that are added one by one.
use Rattle.std.proofs.Common.{◌≡◌, ℕ, ◌+◌, ◌<◌, List, [], ◌∷◌, ◌++◌, length, map, take, get_or, sym, ap, ◌∙◌}
use Rattle.std.proofs.lemmas.List.{map_more, append_assoc}
use Rattle.hs_norm.specs.declared.resolved.Param.{Param}
use Rattle.hs_lower_scope.specs.declared.variable.Variable.{Variable}
use Rattle.hs_lower_scope.specs.Scope.{param_variable}

pub pushed : (ps : List Param) (i : ℕ) (d p : Param) (before old new : List Variable) → i < length ps → old ≡ before ++ map param_variable (take i ps) → p ≡ get_or ps i d →
    new ≡ old ++ param_variable p ∷ [] → new ≡ before ++ map param_variable (take (i + 1) ps)
pushed ps i d p before old new lt e is h =
    h ∙ ap (λ o. o ++ param_variable p ∷ []) e ∙ append_assoc before (map param_variable (take i ps)) (param_variable p ∷ [])
    ∙ ap (λ q. before ++ (map param_variable (take i ps) ++ param_variable q ∷ [])) is ∙ ap (λ q. before ++ q) (sym (map_more param_variable ps i d lt))
