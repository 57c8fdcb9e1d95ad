-- A lowered program is set.
use Rattle.std.proofs.Common.{◌≡◌, ℕ, suc, Bool, true, false, not, List, [], ◌∷◌, ◌++◌, length, map, Option, Some, None, Ok, slice_get, refl, sym, subst, arith, leb-true, append-nil}
use Rattle.std.specs.List.{fold, AllByRecursion}
use Rattle.std.proofs.lemmas.List.Elements.{All-map, All-nil, All-from_recursion}
use Rattle.hs_tree.specs.declared.method.BlockTree.{out-BlockTree}
use Rattle.hs_norm.specs.declared.resolved.MethodTree.{MethodTree}
use Rattle.hs_norm.specs.declared.resolved.Resolved.{Resolved}
use Rattle.hs_core.specs.declared.instr.Instr.{Instr}
use Rattle.hs_core.specs.declared.instr.Instr.TheVariants.{Return}
use Rattle.hs_core.specs.declared.program.Program.{Program}
use Rattle.hs_core.specs.Set.{MethodIsSet, IsSet}
use Rattle.hs_lower_scope.specs.Scope.{Scope, scope_of}
use Rattle.hs_lower_faults.specs.declared.error.LowerError.{LowerError}
use Rattle.hs_lower_faults.specs.declared.error.LowerError.TheVariants.{NoReturn}
use Rattle.hs_lower_faults.specs.First.{or_earlier}
use Rattle.hs_lower_faults.specs.Faults.{returns, has_end, method_fault}
use Rattle.hs_lower_faults.specs.Setting.{params_set, state, at_end}
use Rattle.hs_lower_faults.specs.Setting as setting
use Rattle.hs_lower_faults.specs.Types as types
use Rattle.hs_lower.specs.declared.made.Made.{Made}
use Rattle.hs_lower.specs.Code as lower
use Rattle.hs_lower.specs.Lowering.{last_return, method_of, program_of, or_long, fault_of, first_fault, or_fault, lowered}
use Rattle.hs_lower_set.proofs.Safe.{Slots, Safe, here, full, method_is_set}
use Rattle.hs_lower_set.proofs.Segments.{split_code, whole, Segment}
use Rattle.hs_lower_set.proofs.Telling.{Clears, fault_stays}
use Rattle.hs_lower_set.proofs.Parts.{Fits, Good}
use Rattle.hs_lower_set.proofs.Statements.{stops}
use Rattle.hs_lower_set.proofs.Blocks.{block_good}

-- ---- the end

none_there : (code : List Instr) (instr : Instr) → slice_get code (length code) ≡ Some instr → ⊥
none_there [] instr e = cc
none_there (i ∷ code) instr e = none_there code instr e

-- past the end nothing is read
past : (code : List Instr) (s : Slots) → Safe code (length code) s
past code s = here (length code) s (λ instr e. absurd (none_there code instr e)) (λ instr e j goes. absurd (none_there code instr e))

-- a block and the return after it, where there is one
closed : (body : List Instr) (b : Bool) (s t : Slots) → Segment body 0 s t → Safe (body ++ last_return b) 0 s
closed body true s t segment =
    let code = body ++ Return None ∷ [] in
    let parts = split_code code 0 (length body) body (Return None ∷ []) (omega arith) (whole code) in
    segment code (length body) (omega arith) parts.0
    (stops None (length body) t (λ k. true) (All-nil (λ k. t k ≡ true)) code (suc (length body)) (omega arith) parts.1 (full (suc (length body)) (λ k. true) (λ k. refl)))
closed body false s t segment =
    subst (λ code. Safe code 0 s) (sym (append-nil body)) (segment body (length body) (omega arith) (whole body) (past body t))

-- ---- methods

returns_clear : (b : Bool) (at : ℕ) → Clears (returns b at)
returns_clear true at = λ found e. (e, tt)
returns_clear false at = λ found e. absurd (fault_stays found (NoReturn at) e)

method_set : (r : Resolved) (m : MethodTree) → method_fault (scope_of r m) m ≡ None → MethodIsSet (method_of r m)
method_set r m none = method_is_set (method_of r m) s (closed made.code _ s (at_end after) fit.1) (λ k e. leb-true k (length m.params) e)
  where
    scope : Scope
    scope = scope_of r m

    good : Good (lower.block scope m.block) (setting.block scope m.block) (types.block scope m.block)
    good = block_good scope m.block

    s : Slots
    s = params_set (length m.params)

    made : Made
    made = lower.block scope m.block 0 (length scope.variables)

    typed : Option LowerError
    typed = types.block scope m.block None

    after : setting.State
    after = setting.block scope m.block (state typed s true)

    set : after.found ≡ None
    set = (returns_clear (not (has_end m)) (out-BlockTree m.block).end after.found none).0

    fit : Fits made 0 s after
    fit = good.fits typed s set (None, good.keeps (state typed s true) set) 0 (length scope.variables)

-- ---- programs

-- no fault of several, and none before
all_none : (fs : List (Option LowerError)) (found : Option LowerError) → fold or_earlier found fs ≡ None → (found ≡ None) × AllByRecursion (λ f. f ≡ None) fs
all_none [] found e = (e, tt)
all_none (None ∷ fs) found e = let rest = all_none fs found e in (rest.0, (refl, rest.1))
all_none (Some f ∷ fs) found e = absurd (fault_stays found f (all_none fs (or_earlier found (Some f)) e).0)

not_long : (at : ℕ) (code : List Instr) (o : Option LowerError) → or_long at code o ≡ None → o ≡ None
not_long at code None e = refl
not_long at code (Some f) e = e

methods_set : (r : Resolved) (ms : List MethodTree) → AllByRecursion (λ f. f ≡ None) (map (fault_of r) ms) → AllByRecursion (λ m. MethodIsSet (method_of r m)) ms
methods_set r [] h = tt
methods_set r (m ∷ ms) h = (method_set r m (not_long (out-BlockTree m.block).end (method_of r m).code (method_fault (scope_of r m) m) h.0), methods_set r ms h.1)

program_set : (r : Resolved) → first_fault r ≡ None → IsSet (program_of r)
program_set r none = record {
  methods = All-map MethodIsSet (method_of r) r.methods (All-from_recursion (λ m. MethodIsSet (method_of r m)) r.methods (methods_set r r.methods (all_none (map (fault_of r) r.methods) None none).1));
}

pub lowered_set : (r : Resolved) (p : Program) → lowered r ≡ Ok p → IsSet p
lowered_set r p e = of (first_fault r) refl e
  where
    of : (o : Option LowerError) → first_fault r ≡ o → or_fault (program_of r) o ≡ Ok p → IsSet p
    of None none h = subst IsSet (let same : program_of r ≡ p = cc in same) (program_set r none)
    of (Some f) none h = cc
