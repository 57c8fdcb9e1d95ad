-- The pairs of a method that is called, one after another.
use Rattle.std.proofs.Common.{◌≡◌, ◌⊎◌, ℕ, zero, suc, ◌+◌, ◌≤◌, List, [], ◌∷◌, ◌++◌, length, Option, Some, None, slice_get, slice_index_or, refl, sym, ap, ◌∙◌, subst, inl, inr, arith}
use Rattle.hs_heap.specs.declared.definitions.Defs.{Defs}
use Rattle.hs_goal.specs.declared.rule.Limits.{Limits}
use Rattle.hs_goal.specs.declared.rule.Cause.{Cause}
use Rattle.hs_core.specs.declared.program.Method.{Method}
use Rattle.hs_core.specs.declared.program.Program.{Program}
use Rattle.hs_core.specs.declared.state.At.{At}
use Rattle.hs_core.specs.declared.state.PRule.{PRule}
use Rattle.hs_core.specs.declared.state.PRule.TheVariants as rule
use Rattle.hs_core.specs.Machine.{method_of, no_method}
use Rattle.hs_erule.specs.declared.step.Proof.{Proof}
use Rattle.hs_program_rules.specs.Table.{HasForm, goal_of, GoalIsLow}
use Rattle.hs_verify.specs.Tree.{IsNoCall, Misses, PairsMiss, PassesOver, IsStuck, IsCrowded}
use Rattle.hs_verify.specs.Asked.{Calls, IsProved, IsTaken}

-- ---- how many there are

index_none : {A : Type 0} (xs : List A) (i : ℕ) (d : A) → slice_get xs i ≡ None → slice_index_or xs i d ≡ d
index_none [] i d h = refl
index_none (x ∷ xs) zero d h = absurd cc
index_none (x ∷ xs) (suc i) d h = index_none xs i d h

index_some : {A : Type 0} (xs : List A) (i : ℕ) (d x : A) → slice_get xs i ≡ Some x → slice_index_or xs i d ≡ x
index_some [] i d x h = absurd cc
index_some (y ∷ xs) zero d x h = cc
index_some (y ∷ xs) (suc i) d x h = index_some xs i d x h

pub pairs_none : (program : Program) (k i : ℕ) → i + 1 ≡ k → slice_get program.methods i ≡ None → 0 ≡ length (method_of program k).pairs
pairs_none program zero i e h = absurd (omega arith)
pairs_none program (suc k) i e h =
    let same : i ≡ k = omega arith in
    sym (ap (λ (m : Method). length m.pairs) (index_none program.methods k no_method (subst (λ j. slice_get program.methods j ≡ None) same h)))

pub pairs_some : (program : Program) (k i : ℕ) (m : Method) → i + 1 ≡ k → slice_get program.methods i ≡ Some m → length m.pairs ≡ length (method_of program k).pairs
pairs_some program zero i m e h = absurd (omega arith)
pairs_some program (suc k) i m e h =
    let same : i ≡ k = omega arith in
    sym (ap (λ (m : Method). length m.pairs) (index_some program.methods k no_method m (subst (λ j. slice_get program.methods j ≡ Some m) same h)))

-- ---- one after another

got_push : {X : Type 0} (xs : List X) (y : X) (i : ℕ) (x : X) → slice_get (xs ++ y ∷ []) i ≡ Some x → (slice_get xs i ≡ Some x) ⊎ ((i ≡ length xs) × (y ≡ x))
got_push [] y zero x h = inr (refl, cc)
got_push [] y (suc i) x h = absurd cc
got_push (z ∷ xs) y zero x h = inl h
got_push (z ∷ xs) y (suc i) x h = elim (got_push xs y i x h) [ inl p ↦ inl p | inr p ↦ inr (ap suc p.0, p.1) ]

module _ (defs : Defs) (program : Program) (limits : Limits) (at : At) where
  pub pairs_more : (causes : List Cause) (k : ℕ) (cause : Cause) → PairsMiss defs program limits at causes → suc (length causes) ≡ k → Misses defs program limits at (rule.Call k) cause →
      PairsMiss defs program limits at (causes ++ cause ∷ [])
  pairs_more causes k cause h e m = λ i c there.
      elim (got_push causes cause i c there) [
        | inl p ↦ h i c p
        | inr p ↦
            let place : k ≡ suc i = sym e ∙ ap suc (sym p.0) in
            subst (λ (d : Cause). Misses defs program limits at (rule.Call (suc i)) d) p.1 (subst (λ j. Misses defs program limits at (rule.Call j) cause) place m)
      ]

  module _ (pairs : ℕ) (calls : Calls program at pairs) (causes : List Cause) (missed : PairsMiss defs program limits at causes) where
    pub pair_form : (k : ℕ) → suc (length causes) ≡ k → k ≤ pairs → HasForm program at (rule.Call k)
    pair_form k e few = calls.forms k (omega arith) few

    pub pair_taken : (k : ℕ) (proof : Option Proof) → suc (length causes) ≡ k → k ≤ pairs → IsProved defs limits program at (rule.Call k) proof → IsTaken defs limits program at (rule.Call k) proof
    pair_taken k proof e few h = record { form = pair_form k e few; passes = (causes, e, missed); proved = h }

    pub pair_crowded : (k : ℕ) → suc (length causes) ≡ k → k ≤ pairs → ¬ (GoalIsLow (goal_of defs program at (rule.Call k))) → IsCrowded defs program limits at
    pair_crowded k e few high = record { taken = rule.Call k; form = pair_form k e few; passes = (causes, e, missed); over = inl high }

    pub pairs_stuck : length causes ≡ pairs → IsStuck defs program limits at causes
    pairs_stuck e = inl (record { simple = calls.simple; to = calls.to; method = calls.method; args = calls.args; is = calls.is; each = e ∙ calls.each; missed = missed })

  -- ---- a rule of its own

  passes_alone : (r : PRule) → IsNoCall r → PassesOver defs program limits at r
  passes_alone rule.Or h = tt
  passes_alone rule.Assign h = tt
  passes_alone rule.New h = tt
  passes_alone rule.Get h = tt
  passes_alone rule.Set h = tt
  passes_alone rule.Branch h = tt
  passes_alone rule.Jump h = tt
  passes_alone (rule.Call i) h = absurd h
  passes_alone rule.Return h = tt

  module _ (r : PRule) (form : HasForm program at r) (alone : IsNoCall r) where
    pub one_taken : (proof : Option Proof) → IsProved defs limits program at r proof → IsTaken defs limits program at r proof
    one_taken proof h = record { form = form; passes = passes_alone r alone; proved = h }

    pub one_crowded : ¬ (GoalIsLow (goal_of defs program at r)) → IsCrowded defs program limits at
    one_crowded high = record { taken = r; form = form; passes = passes_alone r alone; over = inl high }

    pub one_stuck : (causes : List Cause) (cause : Cause) → causes ≡ cause ∷ [] → Misses defs program limits at r cause → IsStuck defs program limits at causes
    one_stuck causes cause e h = inr (r, alone, (cause, e, h))
