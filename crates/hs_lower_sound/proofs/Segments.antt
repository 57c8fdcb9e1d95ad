-- Instructions that fit at their points, and segments of code one after another.
use Rattle.std.proofs.Common.{◌≡◌, ℕ, zero, suc, ◌+◌, ◌<◌, ◌≤◌, Bool, true, false, ◌||◌, List, [], ◌∷◌, ◌++◌, length, Some, if◌then◌else◌, slice_get, refl, sym, ◌∙◌, subst, arith, length-append, le_refl, true≢false}
use Rattle.std.specs.List.{All}
use Rattle.std.proofs.lemmas.List.Elements.{All-push}
use Rattle.hs_pure.specs.declared.pure.Pure.{Pure}
use Rattle.hs_heap.specs.declared.definitions.Defs.{Defs}
use Rattle.hs_core.specs.declared.instr.Instr.{Instr}
use Rattle.hs_core.specs.declared.instr.Instr.TheVariants.{Assign, New, Get, Set, Branch, Jump, Call, Return}
use Rattle.hs_core.specs.declared.program.Method.{Method}
use Rattle.hs_core.specs.declared.program.Program.{Program}
use Rattle.hs_core.specs.Machine.{method_of}
use Rattle.hs_core.specs.Sound.{IsUpTo, TermFits, ConditionFits, HasFields, HasField, TakesFit, GivesFit, AreApart, InstrFits}
use Rattle.hs_norm_sound.proofs.Found.{some_eq}
use Rattle.hs_lower_scope.specs.Scope.{Scope}
use Rattle.hs_lower.specs.declared.made.Made.{Made}
use Rattle.hs_lower.specs.declared.made.Placed.{Placed}
use Rattle.hs_lower.specs.declared.made.PlacedAll.{PlacedAll}
use Rattle.hs_lower.specs.Code.{made, jump, else_at, follow, beside}

-- ---- instructions

module _ (defs : Defs) (program : Program) (gives : Bool) (n long : ℕ) where
  -- the instruction at the point i of a method of n slots with so many instructions
  abbrev pub FitsAt : ℕ → Instr → Type 0
  FitsAt i (Assign to term) = IsUpTo n to × TermFits n term × (suc i < long)
  FitsAt i (New to kind args) = IsUpTo n to × All (IsUpTo n) args × HasFields defs kind (length args) × (suc i < long)
  FitsAt i (Get to at kind field) = IsUpTo n to × IsUpTo n at × HasField defs kind field × (suc i < long)
  FitsAt i (Set at kind field from) = IsUpTo n at × IsUpTo n from × HasField defs kind field × (suc i < long)
  FitsAt i (Branch condition other) = ConditionFits n condition × (suc i < long) × ((i < other) × (other < long))
  FitsAt i (Jump target) = (i < target) × (target < long)
  FitsAt i (Call to method args) =
      let callee = method_of program method in
      IsUpTo (length program.methods) method × All (IsUpTo n) args × (length args ≡ callee.params) × TakesFit n callee.result to × AreApart args callee.refs × (suc i < long)
  FitsAt i (Return from) = GivesFit n gives from

  -- the instructions from the point i on
  abbrev pub CodeFits : ℕ → List Instr → Type 0
  CodeFits i [] = Unit {0}
  CodeFits i (x ∷ xs) = FitsAt i x × CodeFits (suc i) xs

  pub code_append : (p q : ℕ) (a b : List Instr) → CodeFits p a → q ≡ p + length a → CodeFits q b → CodeFits p (a ++ b)
  code_append p q [] b h at k = let same : q ≡ p = omega arith in subst (λ j. CodeFits j b) same k
  code_append p q (i ∷ a) b h at k = (h.0, code_append (suc p) q a b h.1 (omega arith) k)

  pub code_at : (p : ℕ) (xs : List Instr) (k i : ℕ) (x : Instr) → CodeFits p xs → i ≡ p + k → slice_get xs k ≡ Some x → FitsAt i x
  code_at p [] k i x h at e = cc
  code_at p (y ∷ xs) zero i x h at e =
      let same : p ≡ i = omega arith in
      subst (λ j. FitsAt j x) same (subst (FitsAt p) (some_eq y x e) h.0)
  code_at p (y ∷ xs) (suc k) i x h at e = code_at (suc p) xs k i x h.1 (omega arith) e

pub instr_fits : (defs : Defs) (program : Program) (m : Method) (i : ℕ) (x : Instr) → FitsAt defs program m.result m.slots (length m.code) i x → InstrFits defs program m i x
instr_fits defs program m i (Assign to term) h = h
instr_fits defs program m i (New to kind args) h = h
instr_fits defs program m i (Get to at kind field) h = h
instr_fits defs program m i (Set at kind field from) h = h
instr_fits defs program m i (Branch condition other) h = h
instr_fits defs program m i (Jump target) h = h
instr_fits defs program m i (Call to method args) h = h
instr_fits defs program m i (Return from) h = h

pub up : (m n k : ℕ) → IsUpTo m k → m ≤ n → IsUpTo n k
up m n k h le = let low = h.0 in let high = h.1 in (low, omega arith)

-- ---- segments

-- What is made of a part of a block at the point p, after n slots: in any longer method it fits, where an
-- instruction follows wherever its end can be reached.
pub record SegmentFits (defs : Defs) (program : Program) (gives : Bool) (p n : ℕ) (m : Made) : Type 0 where
  pub slots : n ≤ m.slots
  pub some : m.ends ≡ false → 0 < length m.code
  pub code : (k long : ℕ) → m.slots ≤ k → p + length m.code ≤ long → (m.ends ≡ true → p + length m.code < long) → CodeFits defs program gives k long p m.code

-- a value that is placed
pub record PlacedFits (defs : Defs) (program : Program) (gives : Bool) (p n : ℕ) (a : Placed) : Type 0 where
  pub slots : n ≤ a.slots
  pub slot : IsUpTo a.slots a.slot
  pub code : (k long : ℕ) → a.slots ≤ k → p + length a.code < long → CodeFits defs program gives k long p a.code

-- values that are placed
pub record AllPlacedFit (defs : Defs) (program : Program) (gives : Bool) (p n : ℕ) (a : PlacedAll) : Type 0 where
  pub slots : n ≤ a.slots
  pub args : (k : ℕ) → a.slots ≤ k → All (IsUpTo k) a.args
  pub code : (k long : ℕ) → a.slots ≤ k → p + length a.code < long → CodeFits defs program gives k long p a.code

module _ (defs : Defs) (program : Program) (gives : Bool) where
  abbrev Segment : ℕ → ℕ → Made → Type 0
  Segment = SegmentFits defs program gives

  abbrev Code : ℕ → ℕ → ℕ → List Instr → Type 0
  Code = CodeFits defs program gives

  pub nothing_fits : (p n : ℕ) → Segment p n (made [] n true)
  nothing_fits p n = record { slots = le_refl n; some = λ e. absurd (true≢false e); code = λ k long s le lt. tt }

  -- a part after another, whose end can be reached
  pub follow_fits : (p q n : ℕ) (m a : Made) → q ≡ p + length m.code → Segment p n m → Segment q m.slots a → Segment p n (follow m a)
  follow_fits p q n m a at h g = record {
    slots = let s = h.slots in let t = g.slots in omega arith;
    some = λ e. let total = length-append m.code a.code in let one = g.some e in omega arith;
    code = λ k long s le lt.
        let total = length-append m.code a.code in
        let t = g.slots in
        code_append defs program gives k long p q m.code a.code
        (h.code k long (omega arith) (omega arith) (λ e. before k long a.ends refl le lt)) at
        (g.code k long s (omega arith) (λ e. let l = lt e in omega arith));
  }
    where
      before : (k long : ℕ) (b : Bool) → a.ends ≡ b → p + length (m.code ++ a.code) ≤ long → (a.ends ≡ true → p + length (m.code ++ a.code) < long) → p + length m.code < long
      before k long true is le lt = let l = lt is in let total = length-append m.code a.code in omega arith
      before k long false is le lt = let one = g.some is in let total = length-append m.code a.code in omega arith

  -- one instruction after others
  pub last_fits : (p n : ℕ) (c : List Instr) (s : ℕ) (x : Instr) (ends : Bool) → n ≤ s → ((k long : ℕ) → s ≤ k → p + length c < long → Code k long p c) →
      ((k long : ℕ) → s ≤ k → (ends ≡ true → suc (p + length c) < long) → FitsAt defs program gives k long (p + length c) x) → Segment p n (made (c ++ x ∷ []) s ends)
  last_fits p n c s x ends le front here = record {
    slots = le;
    some = λ e. let total = length-append c (x ∷ []) in omega arith;
    code = λ k long t le lt.
        let total = length-append c (x ∷ []) in
        code_append defs program gives k long p (p + length c) c (x ∷ []) (front k long t (omega arith)) refl
        (here k long t (λ e. let l = lt e in omega arith), tt);
  }

  pub one_fits : (p n : ℕ) (x : Instr) (ends : Bool) → ((k long : ℕ) → n ≤ k → (ends ≡ true → suc p < long) → FitsAt defs program gives k long p x) → Segment p n (made (x ∷ []) n ends)
  one_fits p n x ends here = record {
    slots = le_refl n;
    some = λ e. omega arith;
    code = λ k long t le lt. (here k long t (λ e. let l = lt e in omega arith), tt);
  }

  -- ---- branches

  pub then_fits : (p n : ℕ) (c : Pure) (a : Made) → ((k : ℕ) → n ≤ k → ConditionFits k c) → Segment (suc p) n a →
      Segment p n (made (Branch c (suc p + length a.code) ∷ a.code) a.slots true)
  then_fits p n c a holds h = record {
    slots = h.slots;
    some = λ e. absurd (true≢false e);
    code = λ k long s le lt.
        let l = lt refl in
        let t = h.slots in
        ((holds k (omega arith), omega arith, (omega arith, omega arith)), h.code k long s (omega arith) (λ e. omega arith));
  }

  abbrev whole : ℕ → Pure → Made → Made → Bool → Made
  whole p c a b e =
      let q = suc p + length a.code + (if e then 1 else 0) in
      made (Branch c q ∷ (a.code ++ (jump e (q + length b.code) ++ b.code))) b.slots (e || b.ends)

  pub else_fits : (p n : ℕ) (c : Pure) (a b : Made) → ((k : ℕ) → n ≤ k → ConditionFits k c) → Segment (suc p) n a → Segment (else_at p a) a.slots b → Segment p n (whole p c a b a.ends)
  else_fits p n c a b holds h g = of a.ends refl g
    where
      jumps : (q : ℕ) → q ≡ suc p + length a.code + 1 → Segment q a.slots b →
          Segment p n (made (Branch c q ∷ (a.code ++ (Jump (q + length b.code) ∷ b.code))) b.slots true)
      jumps q is g = record {
        slots = let s = h.slots in let t = g.slots in omega arith;
        some = λ e. absurd (true≢false e);
        code = λ k long s le lt.
            let l = lt refl in
            let t = g.slots in
            let u = h.slots in
            let total = length-append a.code (Jump (q + length b.code) ∷ b.code) in
            let next : q ≡ suc (suc p + length a.code) = omega arith in (
              (holds k (omega arith), omega arith, (omega arith, omega arith)),
              code_append defs program gives k long (suc p) (suc p + length a.code) a.code (Jump (q + length b.code) ∷ b.code)
                  (h.code k long (omega arith) (omega arith) (λ e. omega arith)) refl
                  ((omega arith, omega arith), subst (λ j. Code k long j b.code) next (g.code k long s (omega arith) (λ e. omega arith))),
            );
      }

      falls : (q : ℕ) → q ≡ suc p + length a.code → a.ends ≡ false → Segment q a.slots b →
          Segment p n (made (Branch c q ∷ (a.code ++ b.code)) b.slots b.ends)
      falls q is closed g = record {
        slots = let s = h.slots in let t = g.slots in omega arith;
        some = λ e. omega arith;
        code = λ k long s le lt.
            let t = g.slots in
            let u = h.slots in
            let one = h.some closed in
            let total = length-append a.code b.code in
            let inside = below k long b.ends refl le lt in (
              (holds k (omega arith), omega arith, (omega arith, inside)),
              code_append defs program gives k long (suc p) q a.code b.code
                  (h.code k long (omega arith) (omega arith) (λ e. absurd (true≢false (sym e ∙ closed)))) is
                  (g.code k long s (omega arith) (λ e. let l = lt e in omega arith)),
            );
      }
        where
          below : (k long : ℕ) (e : Bool) → b.ends ≡ e → p + length (Branch c q ∷ (a.code ++ b.code)) ≤ long → (b.ends ≡ true → p + length (Branch c q ∷ (a.code ++ b.code)) < long) → q < long
          below k long true e le lt = let l = lt e in let total = length-append a.code b.code in omega arith
          below k long false e le lt = let one = g.some e in let total = length-append a.code b.code in omega arith

      none : (m : ℕ) → m + 0 ≡ m
      none m = omega arith

      of : (e : Bool) → a.ends ≡ e → Segment (suc p + length a.code + (if e then 1 else 0)) a.slots b → Segment p n (whole p c a b e)
      of true is g = jumps (suc p + length a.code + 1) refl g
      of false is g = falls (suc p + length a.code + 0) (none (suc p + length a.code)) is g

  -- ---- arguments

  pub beside_fits : (scope : Scope) (p n : ℕ) (all : PlacedAll) (a : Placed) → AllPlacedFit defs program gives p n all → PlacedFits defs program gives (p + length all.code) all.slots a →
      AllPlacedFit defs program gives p n (beside scope all a)
  beside_fits scope p n all a h g = record {
    slots = let s = h.slots in let t = g.slots in omega arith;
    args = λ k s. let t = g.slots in All-push (IsUpTo k) all.args a.slot (h.args k (omega arith)) (up a.slots k a.slot g.slot s);
    code = λ k long s lt.
        let t = g.slots in
        let total = length-append all.code a.code in
        code_append defs program gives k long p (p + length all.code) all.code a.code (h.code k long (omega arith) (omega arith)) refl (g.code k long s (omega arith));
  }
