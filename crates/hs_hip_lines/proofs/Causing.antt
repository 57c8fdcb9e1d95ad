-- Causes at a state, one more at the end.
use Rattle.std.proofs.Common.{◌≡◌, ℕ, zero, suc, ◌+◌, ◌<◌, List, [], ◌∷◌, ◌++◌, length, map, take, get_or, Option, None, slice_get, slice_index_or, refl, sym, ap, ◌∙◌, subst, arith}
use Rattle.std.proofs.lemmas.List.{take_more, length-take-le, length-map, map-append}
use Rattle.hs_goal.specs.declared.rule.Cause.{Cause}
use Rattle.hs_core.specs.declared.instr.Instr.{Instr}
use Rattle.hs_core.specs.declared.program.Method.{Method}
use Rattle.hs_core.specs.declared.program.Program.{Program}
use Rattle.hs_core.specs.Machine.{method_of, no_method}
use Rattle.hs_print.specs.declared.why.Why.{Why}
use Rattle.hs_print.specs.declared.why.Tried.{Tried}
use Rattle.hs_hip_lines.specs.Causes.{tried_by, tried_from}

-- ---- the instruction

index_none : {A : Type 0} (xs : List A) (i : ℕ) (d : A) → slice_get xs i ≡ None → slice_index_or xs i d ≡ d
index_none [] i d h = refl
index_none (x ∷ xs) zero d h = absurd cc
index_none (x ∷ xs) (suc i) d h = index_none xs i d h

pub no_instruction : (program : Program) (m point i : ℕ) → i + 1 ≡ m → slice_get program.methods i ≡ None → None ≡ slice_get (method_of program m).code point
no_instruction program zero point i e h = absurd (omega arith)
no_instruction program (suc k) point i e h =
    let same : i ≡ k = omega arith in
    sym (ap (λ (m : Method). slice_get m.code point) (index_none program.methods k no_method (subst (λ j. slice_get program.methods j ≡ None) same h)))

-- ---- one more

tried_push : (o : Option Instr) (i : ℕ) (ws : List Why) (w : Why) → tried_from o i (ws ++ w ∷ []) ≡ tried_from o i ws ++ tried_by o (i + length ws) w ∷ []
tried_push o i [] w = ap (λ n. tried_by o n w ∷ []) (omega arith)
tried_push o i (v ∷ ws) w =
    ap (λ (ts : List Tried). tried_by o i v ∷ ts) (tried_push o (suc i) ws w ∙ ap (λ n. tried_from o (suc i) ws ++ tried_by o n w ∷ []) (omega arith))

pub tried_more : (o : Option Instr) (why_of : Cause → Why) (causes : List Cause) (all more : List Tried) (index number : ℕ) (c : Cause) (w : Why)
    → all ≡ tried_from o 1 (map why_of (take index causes)) → number ≡ index → index < length causes → c ≡ get_or causes index c → w ≡ why_of c
    → more ≡ all ++ tried_by o (number + 1) w ∷ [] → more ≡ tried_from o 1 (map why_of (take (index + 1) causes))
tried_more o why_of causes all more index number c w told is below at shown pushed =
    let ws : List Why = map why_of (take index causes) in
    let size : length ws ≡ index = length-map (take index causes) why_of ∙ length-take-le _ _ (omega arith) in
    let longer : take (index + 1) causes ≡ take index causes ++ c ∷ [] = take_more causes index c below ∙ ap (λ (d : Cause). take index causes ++ d ∷ []) (sym at) in
    let shown_all : map why_of (take (index + 1) causes) ≡ ws ++ w ∷ [] =
    ap (map why_of) longer ∙ map-append why_of (take index causes) (c ∷ []) ∙ ap (λ (v : Why). ws ++ v ∷ []) (sym shown) in
    let here : number + 1 ≡ 1 + length ws = omega (arith, is, size) in
    pushed ∙ ap (λ (ts : List Tried). ts ++ tried_by o (number + 1) w ∷ []) told
    ∙ ap (λ n. tried_from o 1 ws ++ tried_by o n w ∷ []) here
    ∙ sym (tried_push o 1 ws w) ∙ sym (ap (tried_from o 1) shown_all)
