-- A run above a caller is a run of the upper frames alone, and then one of the caller.
use Rattle.std.proofs.Common.{ℕ, zero, suc, ◌≡◌, ◌⊎◌, ◌≤◌, ℤ, inl, inr, List, [], ◌∷◌, ◌++◌, Option, Some, None, refl, sym, subst, arith}
use Rattle.hs_heap.specs.Heap.{Heap}
use Rattle.hs_core.specs.declared.instr.Instr.{Instr}
use Rattle.hs_core.specs.declared.instr.Instr.TheVariants.{Assign, New, Get, Set, Branch, Jump, Call, Return}
use Rattle.hs_core.specs.declared.program.Program.{Program}
use Rattle.hs_core.specs.Machine.{Frame, Returned, returned, instruction, Resumes, IsFree, StepsBy, Step, EndsBy, Ends, Run, Ending, Faulted, Finished}
use Rattle.hs_program_rules.specs.Safe.{EndsWithin}

module _ (program : Program) where
  -- the next instruction ends the run, at this heap
  abbrev pub EndsHere : List Frame → Heap → Ending → Heap → Type 0
  EndsHere fs h e now = Ends program fs h e × (now ≡ h)

  -- within n steps a run ends so
  abbrev pub EndsIn : ℕ → List Frame → Heap → Ending → Heap → Type 0
  EndsIn zero fs h e now = ⊥
  EndsIn (suc n) fs h e now = EndsHere fs h e now ⊎ ((gs : List Frame) × (k : Heap) × Step program fs h gs k × EndsIn n gs k e now)

  pub ends_later : (n : ℕ) (fs : List Frame) (h : Heap) (e : Ending) (now : Heap) → EndsIn n fs h e now → EndsIn (suc n) fs h e now
  ends_later zero fs h e now p = absurd p
  ends_later (suc n) fs h e now (inl here) = inl here
  ends_later (suc n) fs h e now (inr (gs, k, step, p)) = inr (gs, k, step, ends_later n gs k e now p)

  -- a run followed by an end
  ends_after : (n : ℕ) (fs : List Frame) (h : Heap) (gs : List Frame) (k : Heap) (e : Ending) → Run (Step program) n fs h gs k → Ends program gs k e → EndsIn (suc n) fs h e k
  ends_after zero fs h gs k e (same, also) here =
      let P : List Frame → Type 0 = λ js. Ends program js k e in
      let Q : Heap → Type 0 = λ j. Ends program fs j e in
      inl (subst Q also (subst P same here), also)
  ends_after (suc n) fs h gs k e (fs', h', step, run) here = inr (fs', h', step, ends_after n fs' h' gs k e run here)

  ends_within : (n : ℕ) (j : ℕ) (fs : List Frame) (h : Heap) (e : Ending) (now : Heap) → j ≤ n → EndsIn j fs h e now → EndsIn n fs h e now
  ends_within zero j fs h e now le p = let is : j ≡ 0 = omega arith in let P : ℕ → Type 0 = λ i. EndsIn i fs h e now in subst P is p
  ends_within (suc n) zero fs h e now le p = absurd p
  ends_within (suc n) (suc j) fs h e now le (inl here) = inl here
  ends_within (suc n) (suc j) fs h e now le (inr (gs, k, step, p)) = inr (gs, k, step, ends_within n j gs k e now (omega arith) p)

  pub in_of_within : (n : ℕ) (fs : List Frame) (h : Heap) (e : Ending) (now : Heap) → EndsWithin program n fs h e now → EndsIn n fs h e now
  in_of_within n fs h e now r = ends_within n (suc r.steps) fs h e now (let less = r.few in omega arith) (ends_after r.steps fs h r.frames now e r.run r.ends)

  pub within_of_in : (n : ℕ) (fs : List Frame) (h : Heap) (e : Ending) (now : Heap) → EndsIn n fs h e now → EndsWithin program n fs h e now
  within_of_in zero fs h e now p = absurd p
  within_of_in (suc n) fs h e now (inl (here, is)) = record { steps = 0; few = omega arith; frames = fs; run = (refl, is); ends = let P : Heap → Type 0 = λ j. Ends program fs j e in subst P (sym is) here }
  within_of_in (suc n) fs h e now (inr (gs, k, step, p)) =
      let r = within_of_in n gs k e now p in
      record { steps = suc r.steps; few = let less = r.few in omega arith; frames = r.frames; run = (gs, k, step, r.run); ends = r.ends }

  -- the upper frames finish, and the caller goes on
  pub record GoesOn (n : ℕ) (gs : List Frame) (f : Frame) (fs : List Frame) (h : Heap) (e : Ending) (now : Heap) : Type 0 where
    pub value : Returned
    pub heap : Heap
    pub finished : EndsIn n gs h (Finished value) heap
    pub caller : Frame
    pub resumes : Resumes program (instruction program f) f value caller
    pub later : EndsIn n (caller ∷ fs) heap e now

  -- the upper frames fault
  pub record Faults (n : ℕ) (gs : List Frame) (h : Heap) (e : Ending) (now : Heap) : Type 0 where
    pub place : ℤ
    pub ends : EndsIn n gs h (Faulted place) now

  abbrev pub Through : ℕ → List Frame → Frame → List Frame → Heap → Ending → Heap → Type 0
  Through n gs f fs h e now = Faults n gs h e now ⊎ GoesOn n gs f fs h e now

  pub record FaultsHere (i : Option Instr) (g : Frame) (gs : List Frame) (h : Heap) (e : Ending) : Type 0 where
    pub place : ℤ
    pub ends : EndsBy program i g gs h (Faulted place)

  fault_above : (i : Option Instr) (g : Frame) (gs : List Frame) (f : Frame) (fs : List Frame) (h : Heap) (e : Ending) →
      EndsBy program i g (gs ++ (f ∷ fs)) h e → FaultsHere i g gs h e
  fault_above (Some (Get to at kind field)) g gs f fs h e (missing, is) = record { place = g.slots at; ends = (missing, refl) }
  fault_above (Some (Set at kind field from)) g gs f fs h e (missing, is) = record { place = g.slots at; ends = (missing, refl) }
  fault_above (Some (Return from)) g [] f fs h e p = absurd p
  fault_above (Some (Return from)) g (a ∷ gs) f fs h e p = absurd p
  fault_above None g gs f fs h e p = absurd p
  fault_above (Some (Assign to from)) g gs f fs h e p = absurd p
  fault_above (Some (New to kind args)) g gs f fs h e p = absurd p
  fault_above (Some (Branch condition otherwise)) g gs f fs h e p = absurd p
  fault_above (Some (Jump target)) g gs f fs h e p = absurd p
  fault_above (Some (Call to method args)) g gs f fs h e p = absurd p

  pub record StaysAbove (i : Option Instr) (g : Frame) (gs : List Frame) (f : Frame) (fs : List Frame) (h : Heap) (js : List Frame) (k : Heap) : Type 0 where
    pub top : Frame
    pub others : List Frame
    pub frames_are : js ≡ top ∷ (others ++ (f ∷ fs))
    pub step : StepsBy IsFree program i g gs h (top ∷ others) k

  pub record GivesBack (i : Option Instr) (g : Frame) (gs : List Frame) (f : Frame) (fs : List Frame) (h : Heap) (js : List Frame) (k : Heap) : Type 0 where
    pub value : Returned
    pub alone : EndsBy program i g gs h (Finished value)
    pub caller : Frame
    pub resumes : Resumes program (instruction program f) f value caller
    pub frames_are : js ≡ caller ∷ fs
    pub heap_is : k ≡ h

  pub step_above : (i : Option Instr) (g : Frame) (gs : List Frame) (f : Frame) (fs : List Frame) (h : Heap) (js : List Frame) (k : Heap) →
      StepsBy IsFree program i g (gs ++ (f ∷ fs)) h js k → StaysAbove i g gs f fs h js k ⊎ GivesBack i g gs f fs h js k
  step_above None g gs f fs h js k p = absurd p
  step_above (Some (Return from)) g [] f fs h js k (caller, resumes, is, same) = inr (record { value = returned program g from; alone = refl; caller = caller; resumes = resumes; frames_are = is; heap_is = same })
  step_above (Some (Return from)) g (a ∷ gs) f fs h js k (caller, resumes, is, same) = inl (record { top = caller; others = gs; frames_are = is; step = (caller, resumes, refl, same) })
  step_above (Some (Call to method args)) g gs f fs h js k (is, same) = inl (record { top = _; others = g ∷ gs; frames_are = is; step = (refl, same) })
  step_above (Some (Assign to from)) g gs f fs h js k (top, effect, is) = inl (record { top = top; others = gs; frames_are = is; step = (top, effect, refl) })
  step_above (Some (New to kind args)) g gs f fs h js k (top, effect, is) = inl (record { top = top; others = gs; frames_are = is; step = (top, effect, refl) })
  step_above (Some (Get to at kind field)) g gs f fs h js k (top, effect, is) = inl (record { top = top; others = gs; frames_are = is; step = (top, effect, refl) })
  step_above (Some (Set at kind field from)) g gs f fs h js k (top, effect, is) = inl (record { top = top; others = gs; frames_are = is; step = (top, effect, refl) })
  step_above (Some (Branch condition otherwise)) g gs f fs h js k (top, effect, is) = inl (record { top = top; others = gs; frames_are = is; step = (top, effect, refl) })
  step_above (Some (Jump target)) g gs f fs h js k (top, effect, is) = inl (record { top = top; others = gs; frames_are = is; step = (top, effect, refl) })

  pub through : (n : ℕ) (g : Frame) (gs : List Frame) (f : Frame) (fs : List Frame) (h : Heap) (e : Ending) (now : Heap) → EndsIn n (g ∷ (gs ++ (f ∷ fs))) h e now → Through n (g ∷ gs) f fs h e now
  through zero g gs f fs h e now p = absurd p
  through (suc n) g gs f fs h e now (inl (here, is)) =
      let a = fault_above (instruction program g) g gs f fs h e here in
      inl (record { place = a.place; ends = inl (a.ends, is) })
  through (suc n) g gs f fs h e now (inr (js, k, step, later)) = elim (step_above (instruction program g) g gs f fs h js k step) [
    | inl stays ↦
        let P : List Frame → Type 0 = λ ks. EndsIn n ks k e now in
        elim (through n stays.top stays.others f fs k e now (subst P stays.frames_are later)) [
          | inl a ↦ inl (record { place = a.place; ends = inr (stays.top ∷ stays.others, k, stays.step, a.ends) })
          | inr on ↦ inr (record {
            value = on.value;
            heap = on.heap;
            finished = inr (stays.top ∷ stays.others, k, stays.step, on.finished);
            caller = on.caller;
            resumes = on.resumes;
            later = ends_later n (on.caller ∷ fs) on.heap e now on.later;
          })
        ]
    | inr back ↦
        let P : List Frame → Type 0 = λ ks. EndsIn n ks k e now in
        let Q : Heap → Type 0 = λ l. EndsIn n (back.caller ∷ fs) l e now in
        inr (record {
          value = back.value;
          heap = h;
          finished = inl (back.alone, refl);
          caller = back.caller;
          resumes = back.resumes;
          later = ends_later n (back.caller ∷ fs) h e now (subst Q back.heap_is (subst P back.frames_are later));
        })
  ]
