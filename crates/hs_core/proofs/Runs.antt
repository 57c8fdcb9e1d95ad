-- Runs of the runner: they are runs, there is one, and a run goes on by one step.
use Rattle.std.proofs.Common.{ℕ, zero, suc, ℤ, ◌≡◌, inl, inr, List, [], ◌∷◌, Option, Some, None, IsSome, refl, sym, ◌∙◌, ap, subst}
use Rattle.hs_heap.specs.Heap.{Heap, find_node, IsFreePlace}
use Rattle.hs_heap.proofs.Places.{before, same, after, stands}
use Rattle.hs_heap.specs.declared.node.HeapNode.{HeapNode}
use Rattle.hs_core.specs.declared.instr.Instr.{Instr}
use Rattle.hs_core.specs.declared.instr.Instr.TheVariants.{Assign, New, Get, Set, Branch, Jump, Call, Return}
use Rattle.hs_core.specs.declared.program.Program.{Program}
use Rattle.hs_core.specs.Machine.{Frame, Returned, Slots, IsFree, HasNode, Effect, TakesResult, Resumes, instruction, StepsBy, Step, Stepping, Run, RunnerStep}

-- ---- the least free place is a free one

weaker : (i : Instr) (f : Frame) (h : Heap) (g : Frame) (k : Heap) → Effect IsFreePlace i f h g k → Effect IsFree i f h g k
weaker (Assign to term) f h g k e = e
weaker (New to kind args) f h g k (q, place, a, b) = (q, record { positive = place.positive; free = place.free }, a, b)
weaker (Get to at kind field) f h g k e = e
weaker (Set at kind field from) f h g k e = e
weaker (Branch condition other) f h g k e = e
weaker (Jump target) f h g k e = e
weaker (Call to method args) f h g k e = e
weaker (Return from) f h g k e = e

by_weaker : (program : Program) (i : Option Instr) (f : Frame) (fs : List Frame) (h : Heap) (gs : List Frame) (k : Heap) → StepsBy IsFreePlace program i f fs h gs k → StepsBy IsFree program i f fs h gs k
by_weaker program None f fs h gs k s = s
by_weaker program (Some (Call to method args)) f fs h gs k s = s
by_weaker program (Some (Return from)) f [] h gs k s = s
by_weaker program (Some (Return from)) f (caller ∷ fs) h gs k s = s
by_weaker program (Some (Assign to term)) f fs h gs k (g, e, is) = (g, weaker (Assign to term) f h g k e, is)
by_weaker program (Some (New to kind args)) f fs h gs k (g, e, is) = (g, weaker (New to kind args) f h g k e, is)
by_weaker program (Some (Get to at kind field)) f fs h gs k (g, e, is) = (g, weaker (Get to at kind field) f h g k e, is)
by_weaker program (Some (Set at kind field from)) f fs h gs k (g, e, is) = (g, weaker (Set at kind field from) f h g k e, is)
by_weaker program (Some (Branch condition other)) f fs h gs k (g, e, is) = (g, weaker (Branch condition other) f h g k e, is)
by_weaker program (Some (Jump target)) f fs h gs k (g, e, is) = (g, weaker (Jump target) f h g k e, is)

step_weaker : (program : Program) (fs : List Frame) (h : Heap) (gs : List Frame) (k : Heap) → RunnerStep program fs h gs k → Step program fs h gs k
step_weaker program [] h gs k s = s.step
step_weaker program (f ∷ fs) h gs k s = by_weaker program (instruction program f) f fs h gs k s.step

pub runner_runs_are_runs : (program : Program) (n : ℕ) (fs : List Frame) (h : Heap) (gs : List Frame) (k : Heap) → Run (RunnerStep program) n fs h gs k → Run (Step program) n fs h gs k
runner_runs_are_runs program zero fs h gs k run = run
runner_runs_are_runs program (suc n) fs h gs k (js, j, step, run) = (js, j, step_weaker program fs h js j step, runner_runs_are_runs program n js j gs k run)

-- ---- there is one

some_none : (o : Option HeapNode) → IsSome o → o ≡ None → ⊥
some_none None a b = cc
some_none (Some n) a b = cc

same_place : (h : Heap) (p q : ℤ) → IsFreePlace h p → IsFreePlace h q → p ≡ q
same_place h p q a b = elim (stands p q) [
  | before o less ↦ let there : IsSome (find_node h p) = b.least p a.positive less in let free = a.free in absurd (some_none (find_node h p) there free)
  | same o is ↦ is
  | after o less ↦ let there : IsSome (find_node h q) = a.least q b.positive less in let free = b.free in absurd (some_none (find_node h q) there free)
]

same_node : (h : Heap) (q : ℤ) (kind : ℕ) (a b : HasNode h q kind) → a.node ≡ b.node
same_node h q kind a b = let e = a.found in let f = b.found in cc

agree : (i : Instr) (f : Frame) (h : Heap) (g : Frame) (k : Heap) (j : Frame) (l : Heap) → Effect IsFreePlace i f h g k → Effect IsFreePlace i f h j l → (g ≡ j) × (k ≡ l)
agree (Assign to term) f h g k j l (a, b) (c, d) = (a ∙ sym c, b ∙ sym d)
agree (New to kind args) f h g k j l (q, place, a, b) (p, other, c, d) = let e = same_place h q p place other in (cc, cc)
agree (Get to at kind field) f h g k j l (has, a, b) (also, c, d) = let e = same_node h (f.slots at) kind has also in (cc, cc)
agree (Set at kind field from) f h g k j l (has, a, b) (also, c, d) = let e = same_node h (f.slots at) kind has also in (cc, cc)
agree (Branch condition other) f h g k j l (inl (t, a), b) (inl (u, c), d) = (a ∙ sym c, b ∙ sym d)
agree (Branch condition other) f h g k j l (inl (t, a), b) (inr (u, c), d) = absurd (u t)
agree (Branch condition other) f h g k j l (inr (t, a), b) (inl (u, c), d) = absurd (t u)
agree (Branch condition other) f h g k j l (inr (t, a), b) (inr (u, c), d) = (a ∙ sym c, b ∙ sym d)
agree (Jump target) f h g k j l (a, b) (c, d) = (a ∙ sym c, b ∙ sym d)
agree (Call to method args) f h g k j l e d = absurd e
agree (Return from) f h g k j l e d = absurd e

taken : (to : Option ℕ) (result : Option ℤ) (f g j : Slots) → TakesResult to result f g → TakesResult to result f j → g ≡ j
taken None result f g j a b = a ∙ sym b
taken (Some k) None f g j a b = absurd a
taken (Some k) (Some n) f g j a b = a ∙ sym b

resumed : (program : Program) (i : Option Instr) (f : Frame) (v : Returned) (g j : Frame) → Resumes program i f v g → Resumes program i f v j → g ≡ j
resumed program None f v g j a b = absurd a
resumed program (Some (Call to method args)) f v g j (s, a, is) (t, b, also) = let e = taken to v.result _ s t a b in cc
resumed program (Some (Return from)) f v g j a b = absurd a
resumed program (Some (Assign to term)) f v g j a b = absurd a
resumed program (Some (New to kind args)) f v g j a b = absurd a
resumed program (Some (Get to at kind field)) f v g j a b = absurd a
resumed program (Some (Set at kind field from)) f v g j a b = absurd a
resumed program (Some (Branch condition other)) f v g j a b = absurd a
resumed program (Some (Jump target)) f v g j a b = absurd a

stays : (i : Instr) (f : Frame) (fs : List Frame) (h : Heap) (gs : List Frame) (k : Heap) (js : List Frame) (l : Heap) →
    ((g : Frame) × Effect IsFreePlace i f h g k × (gs ≡ g ∷ fs)) → ((g : Frame) × Effect IsFreePlace i f h g l × (js ≡ g ∷ fs)) → (gs ≡ js) × (k ≡ l)
stays i f fs h gs k js l (g, a, is) (j, b, also) = let e = agree i f h g k j l a b in (is ∙ ap (λ x. x ∷ fs) e.0 ∙ sym also, e.1)

by_agree : (program : Program) (i : Option Instr) (f : Frame) (fs : List Frame) (h : Heap) (gs : List Frame) (k : Heap) (js : List Frame) (l : Heap) →
    StepsBy IsFreePlace program i f fs h gs k → StepsBy IsFreePlace program i f fs h js l → (gs ≡ js) × (k ≡ l)
by_agree program None f fs h gs k js l a b = absurd a
by_agree program (Some (Call to method args)) f fs h gs k js l (a, b) (c, d) = (a ∙ sym c, b ∙ sym d)
by_agree program (Some (Return from)) f [] h gs k js l a b = absurd a
by_agree program (Some (Return from)) f (caller ∷ fs) h gs k js l (g, a, is, b) (j, c, also, d) =
    let e = resumed program (instruction program caller) caller _ g j a c in (is ∙ ap (λ x. x ∷ fs) e ∙ sym also, b ∙ sym d)
by_agree program (Some (Assign to term)) f fs h gs k js l a b = stays (Assign to term) f fs h gs k js l a b
by_agree program (Some (New to kind args)) f fs h gs k js l a b = stays (New to kind args) f fs h gs k js l a b
by_agree program (Some (Get to at kind field)) f fs h gs k js l a b = stays (Get to at kind field) f fs h gs k js l a b
by_agree program (Some (Set at kind field from)) f fs h gs k js l a b = stays (Set at kind field from) f fs h gs k js l a b
by_agree program (Some (Branch condition other)) f fs h gs k js l a b = stays (Branch condition other) f fs h gs k js l a b
by_agree program (Some (Jump target)) f fs h gs k js l a b = stays (Jump target) f fs h gs k js l a b

step_agree : (program : Program) (fs : List Frame) (h : Heap) (gs : List Frame) (k : Heap) (js : List Frame) (l : Heap) →
    RunnerStep program fs h gs k → RunnerStep program fs h js l → (gs ≡ js) × (k ≡ l)
step_agree program [] h gs k js l a b = absurd a.step
step_agree program (f ∷ fs) h gs k js l a b = by_agree program (instruction program f) f fs h gs k js l a.step b.step

pub runner_runs_agree : (program : Program) (n : ℕ) (fs : List Frame) (h : Heap) (gs : List Frame) (k : Heap) (js : List Frame) (l : Heap) →
    Run (RunnerStep program) n fs h gs k → Run (RunnerStep program) n fs h js l → (gs ≡ js) × (k ≡ l)
runner_runs_agree program zero fs h gs k js l (a, b) (c, d) = (a ∙ sym c, b ∙ sym d)
runner_runs_agree program (suc n) fs h gs k js l (is, i, first, run) (os, o, also, other) =
    let e = step_agree program fs h is i os o first also in
    let P : List Frame → Type 0 = λ xs. Run (RunnerStep program) n xs i gs k in
    let Q : Heap → Type 0 = λ x. Run (RunnerStep program) n os x gs k in
    runner_runs_agree program n os o gs k js l (subst Q e.1 (subst P e.0 run)) other

-- ---- it goes on by one step

pub run_more : (S : Stepping) (n : ℕ) (fs : List Frame) (h : Heap) (gs : List Frame) (k : Heap) (js : List Frame) (l : Heap) → Run S n fs h gs k → S gs k js l → Run S (suc n) fs h js l
run_more S zero fs h gs k js l (is, also) step =
    let P : List Frame → Type 0 = λ xs. S xs k js l in
    let Q : Heap → Type 0 = λ x. S fs x js l in
    (js, l, subst Q also (subst P is step), (refl, refl))
run_more S (suc n) fs h gs k js l (os, o, first, run) step = (os, o, first, run_more S n os o gs k js l run step)
