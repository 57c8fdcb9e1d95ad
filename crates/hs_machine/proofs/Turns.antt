-- What an instruction did is a turn of the machine.
use Rattle.std.proofs.Common.{◌≡◌, ◌-◌, ◌<◌, ◌≤◌, ◌^◌, inl, inr, ℕ, zero, suc, ℤ, Bool, true, List, [], ◌∷◌, ◌++◌, length, map, reverse, Option, Some, None, slice_set, refl, sym, ◌∙◌, ap, subst, arith}
use Rattle.std.specs.List.{All}
use Rattle.std.proofs.lemmas.List.{reverse-append}
use Rattle.std.proofs.lemmas.List.Elements.{All-nil, All-cons, All-head, All-tail}
use Rattle.hs_heap.specs.declared.node.HeapNode.{HeapNode}
use Rattle.hs_heap.specs.declared.definitions.Defs.{Defs}
use Rattle.hs_heap.specs.Heap.{Heap, find_node, put_node, IsFreePlace}
use Rattle.hs_heap.proofs.Places.{before, same, after, stands}
use Rattle.hs_core.specs.declared.instr.Instr.{Instr}
use Rattle.hs_core.specs.declared.instr.Instr.TheVariants.{Assign, New, Get, Set, Branch, Jump, Call, Return}
use Rattle.hs_core.specs.declared.program.Method.{Method}
use Rattle.hs_core.specs.declared.program.Program.{Program}
use Rattle.hs_core.specs.Machine.{Frame, Returned, Slots, method_of, Resumes, returned, Ends, Effect, StepsBy, StepsFrom, NumbersOfFit, EndsBy, Faulted, Finished, instruction, called, returned_value}
use Rattle.hs_core.specs.Sound.{IsUpTo, HasFields, HasField, GivesFit, AreRising, InstrFits, IsSoundProgram}
use Rattle.hs_heap.specs.Sound.{NodeFits, HeapFits}
use Rattle.hs_machine.specs.declared.frame.Frame.{Frame as Waiting}
use Rattle.hs_machine.specs.declared.machine.Machine.{Machine}
use Rattle.hs_machine.specs.declared.simple.Turn.{Turn}
use Rattle.hs_machine.specs.declared.simple.Turn.TheVariants as turn
use Rattle.hs_machine.specs.Read.{slots_of, frame_of, frames_of, HasRoom, HasSlot, NodesHave, CanDo, Misses, Did, FrameIn, Calls, AreWaiting, IsShort, IsReady, CanBegin, CanGive, TakesBackBy, TakesBack, IsResumed, IsTurn}

-- ---- heaps that fit

-- a node that is found fits
pub found_fits : (defs : Defs) (h : Heap) (q : ℤ) (n : HeapNode) → HeapFits defs h → find_node h q ≡ Some n → NodeFits defs n
found_fits defs [] q n fit e = absurd (cc)
found_fits defs (f ∷ h) q n fit e = elim (stands q f.0) [
  | before o i ↦ found_fits defs h q n (All-tail (λ x. NodeFits defs x.1) f h fit) (rw o at e)
  | same o i ↦
      let there : NodeFits defs f.1 = All-head (λ x. NodeFits defs x.1) f h fit in
      let is : Some f.1 ≡ Some n = rw o at e in
      let same : f.1 ≡ n = cc in
      subst (NodeFits defs) same there
  | after o i ↦ found_fits defs h q n (All-tail (λ x. NodeFits defs x.1) f h fit) (rw o at e)
]

-- a heap with a node that fits
pub put_fits : (defs : Defs) (h : Heap) (q : ℤ) (n : HeapNode) → HeapFits defs h → NodeFits defs n → HeapFits defs (put_node h q n)
put_fits defs [] q n fit new = All-cons (λ x. NodeFits defs x.1) (q, n) [] new fit
put_fits defs (f ∷ h) q n fit new =
    let P : ℤ × HeapNode → Type 0 = λ x. NodeFits defs x.1 in
    let first : P f = All-head P f h fit in
    let rest : All P h = All-tail P f h fit in
    elim (stands q f.0) [
      | before o i ↦ rw o (All-cons P (q, n) (f ∷ h) new fit)
      | same o i ↦ rw o (All-cons P (f.0, n) h new rest)
      | after o i ↦ rw o (All-cons P f (put_node h q n) first (put_fits defs h q n rest new))
    ]

fields_agree : (defs : Defs) (kind field n : ℕ) → HasField defs kind field → HasFields defs kind n → IsUpTo n field
fields_agree defs kind field n (m, there, (low, high)) is =
    let some' : Some m ≡ Some n = sym there ∙ is in
    let same' : m ≡ n = cc in
    (low, omega arith)

pub nodes_have : (defs : Defs) (h : Heap) (kind field : ℕ) → HeapFits defs h → HasField defs kind field → NodesHave h kind field
nodes_have defs h kind field fit has q n finds =
    let there = found_fits defs h q n fit finds.found in
    fields_agree defs kind field (length n.values) has (subst (λ k. HasFields defs k (length n.values)) finds.kind_is there)

-- ---- instructions that stay in their frame

-- neither a call nor a return
abbrev pub Stays : Instr → Type 0
Stays (Call to method args) = ⊥
Stays (Return from) = ⊥
Stays i = Unit {0}

pub can_do : (defs : Defs) (program : Program) (m : Method) (p : ℕ) (i : Instr) (h : Heap) → InstrFits defs program m p i → HeapFits defs h → Stays i → CanDo i m.slots h
can_do defs program m p (Assign to term) h (a, t, on) fit stays = (a, t.slots)
can_do defs program m p (New to kind args) h (a, b, c, on) fit stays = (a, b)
can_do defs program m p (Get to at kind field) h (a, b, has, on) fit stays = ((a, b), nodes_have defs h kind field fit has)
can_do defs program m p (Set at kind field from) h (a, b, has, on) fit stays = ((a, b), nodes_have defs h kind field fit has)
can_do defs program m p (Branch condition other) h (c, on, there) fit stays = c.no_quantifiers
can_do defs program m p (Jump target) h there fit stays = tt
can_do defs program m p (Call to method args) h f fit stays = absurd stays
can_do defs program m p (Return from) h f fit stays = absurd stays

length-mapped : {A B : Type 0} (f : A → B) (xs : List A) → length (map f xs) ≡ length xs
length-mapped f [] = refl
length-mapped f (x ∷ xs) = ap suc (length-mapped f xs)

length-set_item : (xs : List ℤ) (i : ℕ) (x : ℤ) → length (slice_set xs i x) ≡ length xs
length-set_item [] i x = refl
length-set_item (y ∷ ys) zero x = refl
length-set_item (y ∷ ys) (suc i) x = ap suc (length-set_item ys i x)

has_fields : (defs : Defs) (kind m n : ℕ) → m ≡ n → HasFields defs kind m → HasFields defs kind n
has_fields defs kind m n e f = subst (HasFields defs kind) e f

-- the heap still fits
pub heap_kept : (defs : Defs) (program : Program) (m : Method) (p : ℕ) (i : Instr) (f : Frame) (h : Heap) (g : Frame) (k : Heap) →
    InstrFits defs program m p i → HeapFits defs h → Effect IsFreePlace i f h g k → HeapFits defs k
heap_kept defs program m p (Assign to term) f h g k fits fit (a, e) = subst (HeapFits defs) (sym e) fit
heap_kept defs program m p (New to kind args) f h g k (a, b, c, on) fit (q, place, d, e) =
    subst (HeapFits defs) (sym e) (put_fits defs h q (record { of = kind; values = map f.slots args }) fit (has_fields defs kind (length args) (length (map f.slots args)) (sym (length-mapped f.slots args)) c))
heap_kept defs program m p (Get to at kind field) f h g k fits fit (has, a, e) = subst (HeapFits defs) (sym e) fit
heap_kept defs program m p (Set at kind field from) f h g k fits fit (has, a, e) =
    let there = found_fits defs h (f.slots at) has.node fit has.found in
    let now = subst (λ n. HasFields defs n (length has.node.values)) has.kind_is there in
    let x = f.slots from in
    let sized = has_fields defs kind (length has.node.values) (length (slice_set has.node.values (field - 1) x)) (sym (length-set_item has.node.values (field - 1) x)) now in
    subst (HeapFits defs) (sym e) (put_fits defs h (f.slots at) (record { of = kind; values = slice_set has.node.values (field - 1) x }) fit sized)
heap_kept defs program m p (Branch condition other) f h g k fits fit (a, e) = subst (HeapFits defs) (sym e) fit
heap_kept defs program m p (Jump target) f h g k fits fit (a, e) = subst (HeapFits defs) (sym e) fit
heap_kept defs program m p (Call to method args) f h g k fits fit e = absurd e
heap_kept defs program m p (Return from) f h g k fits fit e = absurd e

-- the frame is at an instruction of its method
pub record StaysIn (m : Method) (f g : Frame) : Type 0 where
  pub method : g.method ≡ f.method
  pub point : g.point < length m.code

pub stays_in : (defs : Defs) (program : Program) (m : Method) (i : Instr) (f : Frame) (h : Heap) (g : Frame) (k : Heap) →
    InstrFits defs program m f.point i → Effect IsFreePlace i f h g k → StaysIn m f g
stays_in defs program m (Assign to term) f h g k (a, b, on) (is, e) = record { method = ap (λ x. x.method) is; point = subst (λ p. p < length m.code) (sym (ap (λ x. x.point) is)) on }
stays_in defs program m (New to kind args) f h g k (a, b, c, on) (q, place, is, e) = record { method = ap (λ x. x.method) is; point = subst (λ p. p < length m.code) (sym (ap (λ x. x.point) is)) on }
stays_in defs program m (Get to at kind field) f h g k (a, b, c, on) (has, is, e) = record { method = ap (λ x. x.method) is; point = subst (λ p. p < length m.code) (sym (ap (λ x. x.point) is)) on }
stays_in defs program m (Set at kind field from) f h g k (a, b, c, on) (has, is, e) = record { method = ap (λ x. x.method) is; point = subst (λ p. p < length m.code) (sym (ap (λ x. x.point) is)) on }
stays_in defs program m (Branch condition other) f h g k (c, on, (ahead, there)) (inl (t, is), e) = record { method = ap (λ x. x.method) is; point = subst (λ p. p < length m.code) (sym (ap (λ x. x.point) is)) on }
stays_in defs program m (Branch condition other) f h g k (c, on, (ahead, there)) (inr (t, is), e) = record { method = ap (λ x. x.method) is; point = subst (λ p. p < length m.code) (sym (ap (λ x. x.point) is)) there }
stays_in defs program m (Jump target) f h g k (ahead, there) (is, e) = record { method = ap (λ x. x.method) is; point = subst (λ p. p < length m.code) (sym (ap (λ x. x.point) is)) there }
stays_in defs program m (Call to method args) f h g k fits e = absurd e
stays_in defs program m (Return from) f h g k fits e = absurd e

-- it is a step
pub effect_steps : (program : Program) (i : Instr) (f : Frame) (fs : List Frame) (h : Heap) (g : Frame) (k : Heap) → Effect IsFreePlace i f h g k → StepsBy IsFreePlace program (Some i) f fs h (g ∷ fs) k
effect_steps program (Assign to term) f fs h g k e = (g, e, refl)
effect_steps program (New to kind args) f fs h g k e = (g, e, refl)
effect_steps program (Get to at kind field) f fs h g k e = (g, e, refl)
effect_steps program (Set at kind field from) f fs h g k e = (g, e, refl)
effect_steps program (Branch condition other) f fs h g k e = (g, e, refl)
effect_steps program (Jump target) f fs h g k e = (g, e, refl)
effect_steps program (Call to method args) f fs h g k e = absurd e
effect_steps program (Return from) f fs h g k e = absurd e

-- ---- turns

-- a machine from its parts
same_machine : (m n : Machine) → n.frame ≡ m.frame → n.callers ≡ m.callers → n.heap ≡ m.heap → n ≡ m
same_machine m n a b c = λ i. record { frame = a i; callers = b i; heap = c i }

misses_end : (program : Program) (i : Instr) (f : Frame) (fs : List Frame) (h : Heap) (q : ℤ) → Misses i f.slots h q → EndsBy program (Some i) f fs h (Faulted q)
misses_end program (Get to at kind field) f fs h q (missing, is) = (missing, ap Faulted is)
misses_end program (Set at kind field from) f fs h q (missing, is) = (missing, ap Faulted is)
misses_end program (Assign to term) f fs h q e = absurd e
misses_end program (New to kind args) f fs h q e = absurd e
misses_end program (Branch condition other) f fs h q e = absurd e
misses_end program (Jump target) f fs h q e = absurd e
misses_end program (Call to method args) f fs h q e = absurd e
misses_end program (Return from) f fs h q e = absurd e

-- what is known of the instruction of a frame
pub instr_fits : (program : Program) (m : Machine) (ready : IsReady program m) (i : Instr) → instruction program (frame_of m.frame) ≡ Some i →
    InstrFits ready.defs program (method_of program m.frame.method) m.frame.point i
instr_fits program m ready i e = (ready.sound.methods m.frame.method ready.frame.method).code m.frame.point i e

pub turn_simple : (program : Program) (m n : Machine) (i : Instr) (turn : Turn) → IsReady program m → instruction program (frame_of m.frame) ≡ Some i → n.callers ≡ m.callers →
    Did i m.frame m.heap turn n.frame n.heap → IsTurn program m turn n
turn_simple program m n i turn.Done ready e callers (effect, fits, size) =
    let p = method_of program m.frame.method in
    let f = frame_of m.frame in
    let g = frame_of n.frame in
    let fs = map frame_of (reverse m.callers) in
    let code = instr_fits program m ready i e in
    let stays = stays_in ready.defs program p i f m.heap g n.heap code effect in
    let S : Option Instr → Type 0 = λ o. StepsBy IsFreePlace program o f fs m.heap (g ∷ fs) n.heap in
    let N : Option Instr → Type 0 = λ o. NumbersOfFit o f.slots in
    let C : List Waiting → Type 0 = λ cs. StepsFrom IsFreePlace program (frames_of m) m.heap (g ∷ map frame_of (reverse cs)) n.heap in
    let M : ℕ → Type 0 = λ k. IsUpTo (length program.methods) k in
    let L : ℕ → Type 0 = λ k. n.frame.point < length (method_of program k).code in
    let Z : ℕ → Type 0 = λ k. length n.frame.slots ≡ (method_of program k).slots in
    let U : ℕ → Type 0 = λ k. k < 2 ^ 32 in
    let W : ℕ → Type 0 = λ k. AreWaiting program k (reverse m.callers) in
    let V : List Waiting → Type 0 = λ cs. AreWaiting program n.frame.method (reverse cs) in
    let back = sym stays.method in (
      record { step = subst C (sym callers) (subst S (sym e) (effect_steps program i f fs m.heap g n.heap effect)); fits = subst N (sym e) fits },
      record {
        defs = ready.defs;
        sound = ready.sound;
        short = ready.short;
        frame = record { method = subst M back ready.frame.method; point = subst L back stays.point; slots = subst Z back (size ∙ ready.frame.slots); few = subst U (sym size) ready.frame.few };
        waiting = subst V (sym callers) (subst W back ready.waiting);
        heap = heap_kept ready.defs program p m.frame.point i f m.heap g n.heap code ready.heap effect;
      },
    )
turn_simple program m n i (turn.Fault q) ready e callers (misses, frame, heap) =
    let f = frame_of m.frame in
    let fs = map frame_of (reverse m.callers) in
    let E : Option Instr → Type 0 = λ o. EndsBy program o f fs m.heap (Faulted q) in
    (subst E (sym e) (misses_end program i f fs m.heap q misses), same_machine m n frame callers heap)
turn_simple program m n i turn.Wide ready e callers (wide, frame, heap) =
    let f = frame_of m.frame in
    let N : Option Instr → Type 0 = λ o. ¬ (NumbersOfFit o f.slots) in
    (subst N (sym e) wide, same_machine m n frame callers heap)
turn_simple program m n i (turn.Returned result refs) ready e callers did = absurd did

-- ---- calls

reverse_push : (fs : List Waiting) (f : Waiting) → reverse (fs ++ f ∷ []) ≡ f ∷ reverse fs
reverse_push fs f = reverse-append fs (f ∷ [])

pub turn_call : (program : Program) (m n : Machine) (to : Option ℕ) (method : ℕ) (args : List ℕ) → IsReady program m → instruction program (frame_of m.frame) ≡ Some (Call to method args) →
    frame_of n.frame ≡ called method (map (slots_of m.frame.slots) args) → length n.frame.slots ≡ (method_of program method).slots → length n.frame.slots < 2 ^ 32 → n.callers ≡ m.callers ++ m.frame ∷ [] → n.heap ≡ m.heap →
    IsTurn program m turn.Done n
turn_call program m n to method args ready e frame size few callers heap =
    let f = frame_of m.frame in
    let g = called method (map f.slots args) in
    let fs = map frame_of (reverse m.callers) in
    let (there, all, count, takes, apart, on) = instr_fits program m ready (Call to method args) e in
    let begun = (ready.sound.methods method there).begins in
    let waits : reverse n.callers ≡ m.frame ∷ reverse m.callers = ap reverse callers ∙ reverse_push m.callers m.frame in
    let name : n.frame.method ≡ method = ap (λ x. x.method) frame in
    let at : n.frame.point ≡ 0 = ap (λ x. x.point) frame in
    let back = sym name in
    let S : Option Instr → Type 0 = λ o. StepsBy IsFreePlace program o f fs m.heap (frames_of n) n.heap in
    let N : Option Instr → Type 0 = λ o. NumbersOfFit o f.slots in
    let J : Option Instr → Type 0 = λ o. Calls o n.frame.method in
    let M : ℕ → Type 0 = λ k. IsUpTo (length program.methods) k in
    let L : ℕ → Type 0 = λ k. n.frame.point < length (method_of program k).code in
    let P : ℕ → Type 0 = λ k. k < length (method_of program method).code in
    let Z : ℕ → Type 0 = λ k. length n.frame.slots ≡ (method_of program k).slots in
    let W : List Waiting → Type 0 = λ cs. AreWaiting program n.frame.method cs in
    let H : Heap → Type 0 = λ h. HeapFits ready.defs h in (
      record { step = subst S (sym e) ((λ i. frame i ∷ map frame_of (waits i)), heap); fits = subst N (sym e) tt },
      record {
        defs = ready.defs;
        sound = ready.sound;
        short = ready.short;
        frame = record { method = subst M back there; point = subst L back (subst P (sym at) begun); slots = subst Z back size; few = few };
        waiting = subst W (sym waits) (ready.frame, subst J (sym e) (sym name), ready.waiting);
        heap = subst H (sym heap) ready.heap;
      },
    )

-- ---- returns

rising_up_to : (n low : ℕ) (ks : List ℕ) → AreRising n low ks → All (IsUpTo n) ks
rising_up_to n low [] r = All-nil (IsUpTo n)
rising_up_to n low (k ∷ ks) (less, high, r) = All-cons (IsUpTo n) k ks (omega arith, high) (rising_up_to n k ks r)

-- a method with a result gives one
abbrev pub GivesResult : Program → ℕ → Option ℤ → Type 0
GivesResult program m given = (method_of program m).result ≡ true → (x : ℤ) × (given ≡ Some x)

takes_by : (defs : Defs) (program : Program) (sound : IsSoundProgram defs program) (callee : ℕ) (f : Waiting) (given : Option ℤ) (o : Option Instr) → FrameIn program f → instruction program (frame_of f) ≡ o →
    Calls o callee → GivesResult program callee given → TakesBackBy program o (length f.slots) given
takes_by defs program sound callee f given None there e calls gives = absurd calls
takes_by defs program sound callee f given (Some (Call to method args)) there e calls gives = by_target to method args e calls
  where
    by_target : (to : Option ℕ) (method : ℕ) (args : List ℕ) → instruction program (frame_of f) ≡ Some (Call to method args) → method ≡ callee → TakesBackBy program (Some (Call to method args)) (length f.slots) given
    by_target None method args e calls =
        let (there_too, all, count, takes, apart, on) = (sound.methods f.method there.method).code f.point (Call None method args) e in
        let refs = rising_up_to (method_of program method).params 0 (method_of program method).refs (sound.methods method there_too).refs in
        let P : ℕ → Type 0 = λ n. All (IsUpTo n) args in
        let Q : ℕ → Type 0 = λ n. All (IsUpTo n) (method_of program method).refs in
        (subst P (sym there.slots) all, there_too, subst Q (sym count) refs)
    by_target (Some to) method args e calls =
        let (there_too, all, count, takes, apart, on) = (sound.methods f.method there.method).code f.point (Call (Some to) method args) e in
        let refs = rising_up_to (method_of program method).params 0 (method_of program method).refs (sound.methods method there_too).refs in
        let P : ℕ → Type 0 = λ n. All (IsUpTo n) args in
        let Q : ℕ → Type 0 = λ n. All (IsUpTo n) (method_of program method).refs in
        let R : ℕ → Type 0 = λ n. IsUpTo n to in
        let C : ℕ → Type 0 = λ n. (method_of program n).result ≡ true in
        (subst P (sym there.slots) all, there_too, subst Q (sym count) refs, subst R (sym there.slots) takes.0, gives (subst C calls takes.1))
takes_by defs program sound callee f given (Some (Return from)) there e calls gives = absurd calls
takes_by defs program sound callee f given (Some (Assign to term)) there e calls gives = absurd calls
takes_by defs program sound callee f given (Some (New to kind args)) there e calls gives = absurd calls
takes_by defs program sound callee f given (Some (Get to at kind field)) there e calls gives = absurd calls
takes_by defs program sound callee f given (Some (Set at kind field from)) there e calls gives = absurd calls
takes_by defs program sound callee f given (Some (Branch condition other)) there e calls gives = absurd calls
takes_by defs program sound callee f given (Some (Jump target)) there e calls gives = absurd calls

pub takes_back : (defs : Defs) (program : Program) → IsSoundProgram defs program → (callee : ℕ) (f : Waiting) (given : Option ℤ) → FrameIn program f →
    Calls (instruction program (frame_of f)) callee → GivesResult program callee given → TakesBack program f given
takes_back defs program sound callee f given there calls gives = takes_by defs program sound callee f given (instruction program (frame_of f)) there refl calls gives

-- a return gives the result of its method
pub gives_result : (slots : Slots) (n : ℕ) (result : Bool) (from : Option ℕ) → GivesFit n result from → result ≡ true → (x : ℤ) × (returned_value from slots ≡ Some x)
gives_result slots n result None fits is = absurd (let e = fits in cc)
gives_result slots n result (Some k) fits is = (slots k, refl)

-- ---- a return's parts

-- the frame has room for one point more
pub room : (program : Program) (f : Waiting) → IsShort program → FrameIn program f → HasRoom f
room program f short there = let high = short f.method in let point = there.point in (omega arith, there.few)

up_to_all : (m n : ℕ) (ks : List ℕ) → m ≤ n → All (IsUpTo m) ks → All (IsUpTo n) ks
up_to_all m n [] le all = All-nil (IsUpTo n)
up_to_all m n (k ∷ ks) le all =
    let first = All-head (IsUpTo m) k ks all in
    let low = first.0 in
    let high = first.1 in
    All-cons (IsUpTo n) k ks (low, omega arith) (up_to_all m n ks le (All-tail (IsUpTo m) k ks all))

gives_fit : (program : Program) (m : Machine) (from : Option ℕ) → CanGive program m from → GivesFit (method_of program m.frame.method).slots (method_of program m.frame.method).result from
gives_fit program m from can = instr_fits program m can.ready (Return from) can.is

-- the slot of the result is there
pub give_slot : (program : Program) (m : Machine) (from : Option ℕ) → CanGive program m from → HasSlot (length m.frame.slots) from
give_slot program m None can = tt
give_slot program m (Some k) can =
    let fits : IsUpTo (method_of program m.frame.method).slots k × ((method_of program m.frame.method).result ≡ true) = gives_fit program m (Some k) can in
    let P : ℕ → Type 0 = λ n. IsUpTo n k in
    subst P (sym can.ready.frame.slots) fits.0

-- so are those of the reference parameters
pub give_refs : (program : Program) (m : Machine) (from : Option ℕ) → CanGive program m from → All (IsUpTo (length m.frame.slots)) (method_of program m.frame.method).refs
give_refs program m from can =
    let fits = can.ready.sound.methods m.frame.method can.ready.frame.method in
    let few = fits.params in
    let size = can.ready.frame.slots in
    up_to_all (method_of program m.frame.method).params (length m.frame.slots) (method_of program m.frame.method).refs (omega arith)
    (rising_up_to (method_of program m.frame.method).params 0 (method_of program m.frame.method).refs fits.refs)

-- the last caller
pub record Caller (program : Program) (m : Machine) (fs : List Waiting) (f : Waiting) : Type 0 where
  pub there : FrameIn program f
  pub calls : Calls (instruction program (frame_of f)) m.frame.method
  pub others : AreWaiting program f.method (reverse fs)
  pub stack : reverse m.callers ≡ f ∷ reverse fs

pub last_caller : (program : Program) (m : Machine) (fs : List Waiting) (f : Waiting) → IsReady program m → m.callers ≡ fs ++ f ∷ [] → Caller program m fs f
last_caller program m fs f ready e =
    let waits : reverse m.callers ≡ f ∷ reverse fs = ap reverse e ∙ reverse_push fs f in
    let W : List Waiting → Type 0 = λ cs. AreWaiting program m.frame.method cs in
    let (there, calls, others) = subst W waits ready.waiting in
    record { there = there; calls = calls; others = others; stack = waits }

-- a caller takes the result back
pub caller_takes : (program : Program) (m : Machine) (from : Option ℕ) (fs : List Waiting) (f : Waiting) (given : Option ℤ) → CanGive program m from → m.callers ≡ fs ++ f ∷ [] →
    given ≡ returned_value from (slots_of m.frame.slots) → TakesBack program f given
caller_takes program m from fs f given can e is =
    let caller = last_caller program m fs f can.ready e in
    let gives : GivesResult program m.frame.method given = λ has.
    let (x, some) = gives_result (slots_of m.frame.slots) (method_of program m.frame.method).slots (method_of program m.frame.method).result from (gives_fit program m from can) has in
    (x, is ∙ some) in
    takes_back can.ready.defs program can.ready.sound m.frame.method f given caller.there caller.calls gives

-- the return of the first frame
pub give_end : (program : Program) (m n : Machine) (from : Option ℕ) (given : Option ℤ) (values : List ℤ) → CanGive program m from → m.callers ≡ [] →
    given ≡ returned_value from (slots_of m.frame.slots) → values ≡ map (slots_of m.frame.slots) (method_of program m.frame.method).refs → n.heap ≡ m.heap → IsTurn program m (turn.Returned given values) n
give_end program m n from given values can none is are heap =
    let f = frame_of m.frame in
    let E : Option Instr → Type 0 = λ o. EndsBy program o f [] m.heap (Finished (record { result = given; refs = values })) in
    let C : List Waiting → Type 0 = λ cs. Ends program (f ∷ map frame_of (reverse cs)) m.heap (Finished (record { result = given; refs = values })) in
    let got : Returned = record { result = given; refs = values } in
    let back : Finished got ≡ Finished (returned program f from) = λ i. Finished (record { result = is i; refs = are i }) in
    (subst C (sym none) (subst E (sym can.is) back), heap)

resumes_at : (program : Program) (o : Option Instr) (f : Frame) (v : Returned) (g : Frame) → Resumes program o f v g → (g.method ≡ f.method) × (g.point ≡ suc f.point)
resumes_at program None f v g r = absurd r
resumes_at program (Some (Call to method args)) f v g (slots, takes, is) = (ap (λ x. x.method) is, ap (λ x. x.point) is)
resumes_at program (Some (Return from)) f v g r = absurd r
resumes_at program (Some (Assign to term)) f v g r = absurd r
resumes_at program (Some (New to kind args)) f v g r = absurd r
resumes_at program (Some (Get to at kind field)) f v g r = absurd r
resumes_at program (Some (Set at kind field from)) f v g r = absurd r
resumes_at program (Some (Branch condition other)) f v g r = absurd r
resumes_at program (Some (Jump target)) f v g r = absurd r

-- a caller's instruction goes on
goes_on : (defs : Defs) (program : Program) (sound : IsSoundProgram defs program) (f : Waiting) (callee : ℕ) (o : Option Instr) → FrameIn program f → instruction program (frame_of f) ≡ o → Calls o callee →
    suc f.point < length (method_of program f.method).code
goes_on defs program sound f callee None there e calls = absurd calls
goes_on defs program sound f callee (Some (Call to method args)) there e calls = let (a, b, c, d, g, on) = (sound.methods f.method there.method).code f.point (Call to method args) e in on
goes_on defs program sound f callee (Some (Return from)) there e calls = absurd calls
goes_on defs program sound f callee (Some (Assign to term)) there e calls = absurd calls
goes_on defs program sound f callee (Some (New to kind args)) there e calls = absurd calls
goes_on defs program sound f callee (Some (Get to at kind field)) there e calls = absurd calls
goes_on defs program sound f callee (Some (Set at kind field from)) there e calls = absurd calls
goes_on defs program sound f callee (Some (Branch condition other)) there e calls = absurd calls
goes_on defs program sound f callee (Some (Jump target)) there e calls = absurd calls

-- a return to the last caller
pub give_turn : (program : Program) (m n : Machine) (from : Option ℕ) (fs : List Waiting) (f : Waiting) (given : Option ℤ) (values : List ℤ) → CanGive program m from → m.callers ≡ fs ++ f ∷ [] →
    given ≡ returned_value from (slots_of m.frame.slots) → values ≡ map (slots_of m.frame.slots) (method_of program m.frame.method).refs → IsResumed program f given values n.frame → n.callers ≡ fs → n.heap ≡ m.heap →
    IsTurn program m turn.Done n
give_turn program m n from fs f given values can e is are resumed callers heap =
    let caller = last_caller program m fs f can.ready e in
    let top = frame_of m.frame in
    let v = returned program top from in
    let got : Returned = record { result = given; refs = values } in
    let same : got ≡ v = λ i. record { result = is i; refs = are i } in
    let V : Returned → Type 0 = λ x. Resumes program (instruction program (frame_of f)) (frame_of f) x (frame_of n.frame) in
    let back = subst V same resumed.resumes in
    let (method, point) = resumes_at program (instruction program (frame_of f)) (frame_of f) v (frame_of n.frame) back in
    let on = goes_on can.ready.defs program can.ready.sound f m.frame.method (instruction program (frame_of f)) caller.there refl caller.calls in
    let S : Option Instr → Type 0 = λ o. StepsBy IsFreePlace program o top (frame_of f ∷ map frame_of (reverse fs)) m.heap (frame_of n.frame ∷ map frame_of (reverse n.callers)) n.heap in
    let T : List Waiting → Type 0 = λ cs. StepsFrom IsFreePlace program (top ∷ map frame_of cs) m.heap (frames_of n) n.heap in
    let N : Option Instr → Type 0 = λ o. NumbersOfFit o top.slots in
    let M : ℕ → Type 0 = λ k. IsUpTo (length program.methods) k in
    let L : ℕ → Type 0 = λ k. n.frame.point < length (method_of program k).code in
    let P : ℕ → Type 0 = λ k. k < length (method_of program f.method).code in
    let Z : ℕ → Type 0 = λ k. length n.frame.slots ≡ (method_of program k).slots in
    let U : ℕ → Type 0 = λ k. k < 2 ^ 32 in
    let W : ℕ → Type 0 = λ k. AreWaiting program k (reverse fs) in
    let X : List Waiting → Type 0 = λ cs. AreWaiting program n.frame.method (reverse cs) in
    let H : Heap → Type 0 = λ h. HeapFits can.ready.defs h in (
      record { step = subst T (sym caller.stack) (subst S (sym can.is) (frame_of n.frame, back, ap (λ cs. frame_of n.frame ∷ map frame_of (reverse cs)) callers, heap)); fits = subst N (sym can.is) tt },
      record {
        defs = can.ready.defs;
        sound = can.ready.sound;
        short = can.ready.short;
        frame = record {
          method = subst M (sym method) caller.there.method;
          point = subst L (sym method) (subst P (sym point) on);
          slots = subst Z (sym method) (resumed.slots ∙ caller.there.slots);
          few = subst U (sym resumed.slots) caller.there.few;
        };
        waiting = subst X (sym callers) (subst W (sym method) caller.others);
        heap = subst H (sym heap) can.ready.heap;
      },
    )

-- ---- the start

pub begins_ready : (program : Program) (method : ℕ) (args : List ℤ) (h : Heap) (f : Waiting) → CanBegin program method args h → frame_of f ≡ called method args → length f.slots ≡ (method_of program method).slots →
    length f.slots < 2 ^ 32 → IsReady program (record { frame = f; callers = []; heap = h })
begins_ready program method args h f can frame size few =
    let name : f.method ≡ method = ap (λ x. x.method) frame in
    let at : f.point ≡ 0 = ap (λ x. x.point) frame in
    let begun = (can.sound.methods method can.there).begins in
    let M : ℕ → Type 0 = λ k. IsUpTo (length program.methods) k in
    let L : ℕ → Type 0 = λ k. f.point < length (method_of program k).code in
    let P : ℕ → Type 0 = λ k. k < length (method_of program method).code in
    let Z : ℕ → Type 0 = λ k. length f.slots ≡ (method_of program k).slots in
    record {
      defs = can.defs;
      sound = can.sound;
      short = can.short;
      frame = record { method = subst M (sym name) can.there; point = subst L (sym name) (subst P (sym at) begun); slots = subst Z (sym name) size; few = few };
      waiting = tt;
      heap = can.heap;
    }

-- the arguments have slots
pub args_have_slots : (program : Program) (method : ℕ) (args : List ℤ) (h : Heap) → CanBegin program method args h → length args ≤ (method_of program method).slots
args_have_slots program method args h can = let count = can.count in let few = (can.sound.methods method can.there).params in omega arith

-- ---- a call's parts

pub call_there : (program : Program) (m : Machine) (to : Option ℕ) (method : ℕ) (args : List ℕ) → IsReady program m → instruction program (frame_of m.frame) ≡ Some (Call to method args) → IsUpTo (length program.methods) method
call_there program m to method args ready e = let (there, all, count, takes, apart, on) = instr_fits program m ready (Call to method args) e in there

pub call_args : (program : Program) (m : Machine) (to : Option ℕ) (method : ℕ) (args : List ℕ) → IsReady program m → instruction program (frame_of m.frame) ≡ Some (Call to method args) →
    All (IsUpTo (length m.frame.slots)) args × (length args ≤ (method_of program method).slots)
call_args program m to method args ready e =
    let (there, all, count, takes, apart, on) = instr_fits program m ready (Call to method args) e in
    let few = (ready.sound.methods method there).params in
    let P : ℕ → Type 0 = λ n. All (IsUpTo n) args in
    (subst P (sym ready.frame.slots) all, omega arith)

-- ---- an instruction that stays in its frame

pub stays_if : (i : Instr) → ((to : Option ℕ) (method : ℕ) (args : List ℕ) → i ≡ Call to method args → ⊥) → ((from : Option ℕ) → i ≡ Return from → ⊥) → Stays i
stays_if (Assign to term) a b = tt
stays_if (New to kind args) a b = tt
stays_if (Get to at kind field) a b = tt
stays_if (Set at kind field from) a b = tt
stays_if (Branch condition other) a b = tt
stays_if (Jump target) a b = tt
stays_if (Call to method args) a b = absurd (a to method args refl)
stays_if (Return from) a b = absurd (b from refl)

pub can_do_here : (program : Program) (m : Machine) (i : Instr) → IsReady program m → instruction program (frame_of m.frame) ≡ Some i → Stays i → CanDo i (length m.frame.slots) m.heap
can_do_here program m i ready e stays =
    let P : ℕ → Type 0 = λ n. CanDo i n m.heap in
    subst P (sym ready.frame.slots) (can_do ready.defs program (method_of program m.frame.method) m.frame.point i m.heap (instr_fits program m ready i e) ready.heap stays)
