-- What a scope has.
use Rattle.std.proofs.Common.{◌≡◌, ℕ, Bool, ◌&&◌, ◌||◌, List, Bor, sym, ap, ◌∙◌}
use Rattle.hs_pure.specs.declared.var.Var.{Var}
use Rattle.hs_pure.specs.Stack.{same}
use Rattle.hs_heap.specs.declared.scope.Scope.{Scope, fold-roll-Scope}
use Rattle.hs_heap.specs.declared.scope.Scope.TheOpen.{Scope-F}
use Rattle.hs_heap.specs.declared.scope.Scope.TheVariants as scope_of
use Rattle.hs_heap.specs.Meaning.{is_in, self_var}
use Rattle.hs_heap.specs.Tests.{number_fits, in_scope, in_scope_level, is_head}

in_scope-Listed : (vs : Bor (List Var)) → in_scope (scope_of.Listed vs) ≡ (λ v. is_in v vs.now)
in_scope-Listed vs = ap in_scope (sym (scope_of.rolls-Listed vs)) ∙ fold-roll-Scope (Var → Bool) in_scope_level (Scope-F.Listed vs)

pub in_scope-Numbered : (vs : Bor (List Var)) (next : ℕ) → in_scope (scope_of.Numbered vs next) ≡ (λ v. number_fits next v && is_in v vs.now)
in_scope-Numbered vs next = ap in_scope (sym (scope_of.rolls-Numbered vs next)) ∙ fold-roll-Scope (Var → Bool) in_scope_level (Scope-F.Numbered vs next)

in_scope-With : (u : Var) (outer : Bor Scope) → in_scope (scope_of.With u outer) ≡ (λ v. same v u || in_scope outer.now v)
in_scope-With u outer = ap in_scope (sym (scope_of.rolls-With u outer)) ∙ fold-roll-Scope (Var → Bool) in_scope_level (Scope-F.With u outer)

-- `self` and the parameters
pub in_scope-head : (params : Bor (List Var)) (outer : Bor Scope) → outer.now ≡ scope_of.Listed params → in_scope (scope_of.With self_var outer) ≡ is_head params.now
in_scope-head params outer e = in_scope-With self_var outer ∙ (λ i v. same v self_var || in_scope (e i) v) ∙ (λ i v. same v self_var || in_scope-Listed params i v)
