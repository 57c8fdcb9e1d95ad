-- What a scope has.
use Rattle.std.proofs.Common.{◌≡◌, ℕ, Bool, ◌||◌, List, Bor, sym, ap, ◌∙◌}
use Rattle.hs_pure.specs.declared.var.Var.{Var}
use Rattle.hs_pure.specs.Stack.{same}
use Rattle.hs_heap.specs.Meaning.{is_in}
use Rattle.hs_heap.specs.declared.definitions.Defs.{Defs}
use Rattle.hs_core.specs.declared.program.Pair.{Pair}
use Rattle.hs_core.specs.declared.scope.Scope.{Scope, fold-roll-Scope}
use Rattle.hs_core.specs.declared.scope.Scope.TheOpen.{Scope-F}
use Rattle.hs_core.specs.declared.scope.Scope.TheVariants as scope_of
use Rattle.hs_core.specs.Tests.{is_slot, is_given, in_scope, in_scope_level, parts_fit}

pub in_scope-UpTo : (n : ℕ) → in_scope (scope_of.UpTo n) ≡ is_slot n
in_scope-UpTo n = ap in_scope (sym (scope_of.rolls-UpTo n)) ∙ fold-roll-Scope (Var → Bool) in_scope_level (Scope-F.UpTo n)

pub in_scope-With : (u : Var) (outer : Bor Scope) → in_scope (scope_of.With u outer) ≡ (λ v. same v u || in_scope outer.now v)
in_scope-With u outer = ap in_scope (sym (scope_of.rolls-With u outer)) ∙ fold-roll-Scope (Var → Bool) in_scope_level (Scope-F.With u outer)

in_scope-WithAll : (vs : Bor (List Var)) (outer : Bor Scope) → in_scope (scope_of.WithAll vs outer) ≡ (λ v. is_in v vs.now || in_scope outer.now v)
in_scope-WithAll vs outer = ap in_scope (sym (scope_of.rolls-WithAll vs outer)) ∙ fold-roll-Scope (Var → Bool) in_scope_level (Scope-F.WithAll vs outer)

-- number variables from 1 on and those listed
pub in_scope-given : (n : ℕ) (vs : Bor (List Var)) (outer : Bor Scope) → outer.now ≡ scope_of.UpTo n → in_scope (scope_of.WithAll vs outer) ≡ is_given n vs.now
in_scope-given n vs outer e = in_scope-WithAll vs outer ∙ (λ i v. is_in v vs.now || in_scope (e i) v) ∙ (λ i v. is_in v vs.now || in_scope-UpTo n i v)

pub both_scopes : (defs : Defs) (p : Pair) (a b c d : Var → Bool) → a ≡ b → c ≡ d → parts_fit defs p a c ≡ parts_fit defs p b d
both_scopes defs p a b c d e f = λ i. parts_fit defs p (e i) (f i)
