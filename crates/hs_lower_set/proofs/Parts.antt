-- Parts of a block: what the translation makes of them, and what the check of what is set says.
use Rattle.std.proofs.Common.{◌≡◌, ℕ, suc, ◌+◌, Bool, true, false, ◌||◌, ◌⊎◌, inl, inr, if◌then◌else◌, List, [], ◌∷◌, ◌++◌, length, map, Option, None, refl, sym, ap, ◌∙◌, subst, arith, length-append}
use Rattle.std.specs.List.{fold}
use Rattle.std.proofs.lemmas.Bool.{and_parts}
use Rattle.std.proofs.lemmas.List.Elements.{All-nil}
use Rattle.hs_core.specs.declared.instr.Instr.{Instr}
use Rattle.hs_core.specs.declared.instr.Instr.TheVariants.{Branch, Jump}
use Rattle.hs_core.specs.Set.{reads}
use Rattle.hs_pure.specs.declared.pure.Pure.{Pure}
use Rattle.hs_lower_faults.specs.declared.error.LowerError.{LowerError}
use Rattle.hs_lower_faults.specs.First.{Check, all}
use Rattle.hs_lower_faults.specs.Setting.{SetSlots, all_set, both_set, State, state, if_ends, at_end, joined, other_part}
use Rattle.hs_lower_faults.specs.Setting as setting
use Rattle.hs_lower.specs.declared.made.Made.{Made}
use Rattle.hs_lower.specs.Code.{Part, each, made, else_at, jump, follow, then_part}
use Rattle.hs_lower_set.proofs.Safe.{Slots, IsWithin, AreSet, Safe, full, wider}
use Rattle.hs_lower_set.proofs.Segments.{HasCode, split_code, step, Segment, nothing, in_turn}
use Rattle.hs_lower_set.proofs.Telling.{Clears, pass_tells}

-- the check notes no fault, after what was found before
abbrev pub Passes : Check → Type 0
Passes c = (found : Option LowerError) × (c found ≡ None)

-- what is made at a point reads what is set, and sets at its end what the state says
abbrev pub Fits : Made → ℕ → Slots → State → Type 0
Fits m p s a = (m.ends ≡ a.ends) × Segment m.code p s (at_end a)

-- a part of the code beside the part of what is set and the check of types
pub record Good (part : Part) (sets : setting.Part) (typed : Check) : Type 0 where
  pub keeps : (a : State) → (sets a).found ≡ None → a.found ≡ None
  pub stays : (a : State) → a.ends ≡ false → (sets a).ends ≡ false
  pub clear : Clears typed
  pub fits : (found : Option LowerError) (s : Slots) → (sets (state found s true)).found ≡ None → Passes typed → (p n : ℕ) → Fits (part p n) p s (sets (state found s true))

-- ---- ends

ends_false : (b : Bool) (s : Slots) → b ≡ false → (k : ℕ) → if_ends b s k ≡ true
ends_false true s e k = cc
ends_false false s e k = refl

-- what both branches set, one of them sets
within_left : (b c : Bool) (s t : Slots) → IsWithin (if_ends (b || c) (both_set (if_ends b s) (if_ends c t))) (if_ends b s)
within_left true c s t = λ k e. (and_parts (s k) (if_ends c t k) e).0
within_left false c s t = λ k e. refl

within_right : (b c : Bool) (s t : Slots) → IsWithin (if_ends (b || c) (both_set (if_ends b s) (if_ends c t))) (if_ends c t)
within_right true c s t = λ k e. (and_parts (s k) (if_ends c t k) e).1
within_right false true s t = λ k e. e
within_right false false s t = λ k e. refl

-- ---- parts in a row

module _ {X Y : Type 0} (g : Y → X) (P : X → Part) (S : X → setting.Part) (T : X → Check) (good : (y : Y) → Good (P (g y)) (S (g y)) (T (g y))) where
  each_keeps : (ys : List Y) (a : State) → (setting.each (map S (map g ys)) a).found ≡ None → a.found ≡ None
  each_keeps [] a e = e
  each_keeps (y ∷ ys) a e = (good y).keeps a (each_keeps ys (S (g y) a) e)

  each_stays : (ys : List Y) (a : State) → a.ends ≡ false → (setting.each (map S (map g ys)) a).ends ≡ false
  each_stays [] a e = e
  each_stays (y ∷ ys) a e = each_stays ys (S (g y) a) ((good y).stays a e)

  each_clear : (ys : List Y) → Clears (all (λ t. t) (map T (map g ys)))
  each_clear [] = pass_tells
  each_clear (y ∷ ys) = λ found e. (good y).clear found (each_clear ys (T (g y) found) e).0

  next : (y : Y) (p : ℕ) (s : Slots) (m : Made) (a : State) → (a.found ≡ None → Fits m p s a) → Passes (T (g y)) → (S (g y) a).found ≡ None → Fits (then_part p m (P (g y))) p s (S (g y) a)
  next y p s m a h passes none = of m.ends refl
    where
      before : Fits m p s a
      before = h ((good y).keeps a none)

      q : ℕ
      q = p + length m.code

      of : (b : Bool) → m.ends ≡ b → Fits (if b then follow m (P (g y) q m.slots) else m) p s (S (g y) a)
      of true e =
          let open_end : a.ends ≡ true = sym before.0 ∙ e in
          let same : state a.found a.set true ≡ a = λ i. state a.found a.set (sym open_end i) in
          let part = P (g y) q m.slots in
          let none_there : (S (g y) (state a.found a.set true)).found ≡ None = ap (λ z. (S (g y) z).found) same ∙ none in
          let there : Fits part q a.set (S (g y) a) = subst (λ z. Fits part q a.set (S (g y) z)) same ((good y).fits a.found a.set none_there passes q m.slots) in
          let first : Segment m.code p s a.set = subst (λ b. Segment m.code p s (if_ends b a.set)) open_end before.1 in
          (there.0, in_turn m.code part.code p q s a.set (at_end (S (g y) a)) refl first there.1)
      of false e =
          let closed : a.ends ≡ false = sym before.0 ∙ e in
          let later : (S (g y) a).ends ≡ false = (good y).stays a closed in
          let first : Segment m.code p s all_set = subst (λ b. Segment m.code p s (if_ends b a.set)) closed before.1 in
          (e ∙ sym later, subst (λ b. Segment m.code p s (if_ends b (S (g y) a).set)) (sym later) first)

  each_fit : (ys : List Y) (p : ℕ) (s : Slots) (m : Made) (a : State) → (a.found ≡ None → Fits m p s a) → Passes (all (λ t. t) (map T (map g ys))) → (setting.each (map S (map g ys)) a).found ≡ None →
      Fits (fold (then_part p) m (map P (map g ys))) p s (setting.each (map S (map g ys)) a)
  each_fit [] p s m a h passes none = h none
  each_fit (y ∷ ys) p s m a h passes none =
      let found = passes.0 in
      let here : Passes (T (g y)) = (found, (each_clear ys (T (g y) found) passes.1).0) in
      each_fit ys p s (then_part p m (P (g y))) (S (g y) a) (next y p s m a h here) (T (g y) found, passes.1) none

  pub each_good : (ys : List Y) → Good (each (map P (map g ys))) (setting.each (map S (map g ys))) (all (λ t. t) (map T (map g ys)))
  each_good ys = record {
    keeps = each_keeps ys;
    stays = each_stays ys;
    clear = each_clear ys;
    fits = λ found s none passes p n. each_fit ys p s (made [] n true) (state found s true) (λ e. (refl, nothing p s s (λ k h. h))) passes none;
  }

-- ---- branches

jump_length : (b : Bool) (t : ℕ) → length (jump b t) ≡ (if b then 1 else 0)
jump_length true t = refl
jump_length false t = refl

-- after a branch: over the else, where its end is reached
jumped : (code : List Instr) (p t : ℕ) (b c : Bool) (s u : Slots) → b ≡ c → HasCode code p (jump b t) → IsWithin u (if_ends c s) → Safe code t u → Safe code p (if_ends c s)
jumped code p t true c s u same h w safe = step code p (if_ends c s) (Jump t) h.0 (All-nil (λ k. if_ends c s k ≡ true)) (λ j goes. subst (λ z. Safe code z (if_ends c s)) (sym goes) (wider safe (if_ends c s) w))
jumped code p t false c s u same h w safe = full p (if_ends c s) (ends_false c s (sym same))

module _ (f : Pure) where
  -- the first branch begins after the test, the other one at a place beyond
  tested : (code : List Instr) (p q : ℕ) (s : Slots) → HasCode code p (Branch f q ∷ []) → AreSet s (reads (Branch f q)) → Safe code (suc p) s → Safe code q s → Safe code p s
  tested code p q s h r one other = step code p s (Branch f q) h.0 r (go p one)
    where
      go : (p : ℕ) → Safe code (suc p) s → (j : ℕ) → (j ≡ suc p) ⊎ (j ≡ q) → Safe code j s
      go p one j (inl e) = subst (λ z. Safe code z s) (sym e) one
      go p one j (inr e) = subst (λ z. Safe code z s) (sym e) other

  -- without else
  pub if_then_fits : (p : ℕ) (s : Slots) (a : Made) (x : State) → AreSet s (reads (Branch f 0)) → Fits a (suc p) s x →
      Fits (made (Branch f (suc p + length a.code) ∷ a.code) a.slots true) p s (joined true x (state x.found s true))
  if_then_fits p s a x r fit = (
    ends_there x.ends,
    λ code q e h safe.
        let at : q ≡ suc p + length a.code = omega (arith, e) in
        tested code p (suc p + length a.code) s (h.0, tt) r
        (fit.1 code q at h.1 (wider safe (at_end x) (within_left x.ends true x.set s)))
        (subst (λ z. Safe code z s) at (wider safe s (within_right x.ends true x.set s))),
  )
    where
      ends_there : (b : Bool) → true ≡ (b || true)
      ends_there true = refl
      ends_there false = refl

  -- with else
  pub if_else_fits : (p q : ℕ) (s : Slots) (a b : Made) (x y : State) → q ≡ else_at p a → AreSet s (reads (Branch f 0)) → Fits a (suc p) s x → Fits b q s y →
      Fits (made (Branch f q ∷ (a.code ++ (jump a.ends (q + length b.code) ++ b.code))) b.slots (a.ends || b.ends)) p s (joined true x y)
  if_else_fits p q s a b x y at r fit other = (
    λ i. fit.0 i || other.0 i,
    λ code end e h safe.
        let over = q + length b.code in
        let size = jump_length a.ends over in
        let most = length-append a.code (jump a.ends over ++ b.code) in
        let rest = length-append (jump a.ends over) b.code in
        let middle = suc p + length a.code in
        let first = split_code code (suc p) middle a.code (jump a.ends over ++ b.code) refl h.1 in
        let start : q ≡ middle + length (jump a.ends over) = at ∙ ap (λ n. middle + n) (sym size) in
        let second = split_code code middle q (jump a.ends over) b.code start first.1 in
        let stop : end ≡ over = omega (arith, e, start, most, rest) in
        let left = within_left x.ends y.ends x.set y.set in
        let right = within_right x.ends y.ends x.set y.set in
        let u = at_end (joined true x y) in
        let after = jumped code middle over a.ends x.ends x.set u fit.0 second.0 left (subst (λ z. Safe code z u) stop safe) in
        tested code p q s (h.0, tt) r (fit.1 code middle refl first.0 after) (other.1 code end stop second.1 (wider safe (at_end y) right)),
  )
