-- The tests tell which states are well formed.
use Rattle.std.proofs.Common.{◌≡◌, ℕ, zero, suc, ◌<◌, ◌≤◌, ◌^◌, nat_le, nat_lt, ◌==◌, not, ◌&&◌, ◌||◌, Bool, false, IsTrue, ◌⊎◌, inl, inr, [], ◌∷◌, length, slice_index_or, Option, Some, None, refl, ◌∙◌, subst, arith}
use Rattle.std.specs.List.{All, list_all}
use Rattle.std.proofs.lemmas.Bool.{or_cases}
use Rattle.std.proofs.lemmas.List.{get_or_default}
use Rattle.std.proofs.lemmas.List.Elements.{All-head, All-tail}
use Rattle.hs_pure.specs.declared.var.Var.{Var}
use Rattle.hs_pure.proofs.Vars.{or_left, or_right}
use Rattle.hs_heap.specs.declared.definitions.Defs.{Defs}
use Rattle.hs_heap.proofs.Tells.{Tells, tells, tells_both, tells_all, tells_not, tells_le, tells_lt, tells_eq}
use Rattle.hs_goal.specs.Shape.{SideFits}
use Rattle.hs_core.specs.declared.program.Pair.{Pair}
use Rattle.hs_core.specs.declared.program.Method.{Method}
use Rattle.hs_core.specs.declared.program.Program.{Program}
use Rattle.hs_core.specs.declared.state.At.{At}
use Rattle.hs_core.specs.Sound.{IsUpTo, IsSlot}
use Rattle.hs_core.specs.Tests.{is_slot}
use Rattle.hs_core.proofs.SimpleTells.{slot_told}
use Rattle.hs_program_rules.specs.States.{Held, held_in, IsOwn, StateFits, method_at, pair_at}
use Rattle.hs_prule.specs.Fitting.{is_own, slot_fits, counts_fit, numbers_fit}

tells_either : (a b : Bool) (A B : Type 0) → Tells a A → Tells b B → Tells (a || b) (A ⊎ B)
tells_either a b A B s t = (
  λ h. elim (or_cases a b h) [ inl e ↦ inl (s.0 e) | inr e ↦ inr (t.0 e) ],
  λ h. elim h [ inl x ↦ or_left a b (s.1 x) | inr y ↦ or_right a b (t.1 y) ],
)

module _ (m : Method) (p : Pair) where
  own_told : (v : Var) → Tells (is_own m p v) (IsOwn m p v)
  own_told v = tells_either (is_slot m.params v) (not v.bag && nat_le p.next v.number) (IsSlot m.params v) ((v.bag ≡ false) × (p.next ≤ v.number))
      (slot_told m.params v) (tells_both (not v.bag) (nat_le p.next v.number) (v.bag ≡ false) (p.next ≤ v.number) (tells_not v.bag) (tells_le p.next v.number))

  abbrev Holds : ℕ → Var → Type 0
  Holds next v = IsOwn m p v × (v.number < next)

  abbrev SlotFits : ℕ → Option Var → Type 0
  SlotFits next slot = (v : Var) → slot ≡ Some v → Holds next v

  one_told : (next : ℕ) (slot : Option Var) → Tells (slot_fits m p next slot) (SlotFits next slot)
  one_told next None = (λ h v e. absurd cc, λ h. refl)
  one_told next (Some w) = tells (is_own m p w && nat_lt w.number next) (Holds next w) (SlotFits next (Some w))
      (tells_both (is_own m p w) (nat_lt w.number next) (IsOwn m p w) (w.number < next) (own_told w) (tells_lt w.number next))
      (λ h v e. let same : w ≡ v = cc in subst (Holds next) same h) (λ h. h w refl)

  held_forth : (next : ℕ) (slots : Held) → All (SlotFits next) slots → (n : ℕ) (v : Var) → slice_index_or slots n None ≡ Some v → Holds next v
  held_forth next [] h zero v e = absurd cc
  held_forth next [] h (suc n) v e = absurd cc
  held_forth next (x ∷ xs) h zero v e = All-head (SlotFits next) x xs h v e
  held_forth next (x ∷ xs) h (suc n) v e = held_forth next xs (All-tail (SlotFits next) x xs h) n v e

  abbrev EachHolds : ℕ → Held → Type 0
  EachHolds next slots = (k : ℕ) (v : Var) → held_in slots k ≡ Some v → Holds next v

  each_forth : (next : ℕ) (slots : Held) → All (SlotFits next) slots → EachHolds next slots
  each_forth next slots h zero v e = absurd cc
  each_forth next slots h (suc n) v e = held_forth next slots h n v e

  each_back : (next : ℕ) (slots : Held) → EachHolds next slots → All (SlotFits next) slots
  each_back next slots f i d less v e = f (suc i) v (get_or_default slots i None d less ∙ e)

  pub record NumbersFit (at : At) : Type 0 where
    pub point : at.point < length m.code
    pub slots : length at.state.slots ≡ m.slots
    pub held : EachHolds at.state.next at.state.slots
    pub not_below : p.next ≤ at.state.next
    pub few : at.state.next ≤ 2 ^ 30

  pub numbers_told : (at : At) → Tells (numbers_fit m p at) (NumbersFit at)
  numbers_told at =
      let next = at.state.next in
      let slots = at.state.slots in
      tells (numbers_fit m p at) (((at.point < length m.code) × ((length slots ≡ m.slots) × ((p.next ≤ next) × (next ≤ 2 ^ 30)))) × All (SlotFits next) slots) (NumbersFit at)
      (tells_both (counts_fit m p at) (list_all (slot_fits m p next) slots) ((at.point < length m.code) × ((length slots ≡ m.slots) × ((p.next ≤ next) × (next ≤ 2 ^ 30)))) (All (SlotFits next) slots)
      (tells_both (nat_lt at.point (length m.code)) (length slots == m.slots && (nat_le p.next next && nat_le next (2 ^ 30)))
      (at.point < length m.code) ((length slots ≡ m.slots) × ((p.next ≤ next) × (next ≤ 2 ^ 30))) (tells_lt at.point (length m.code))
      (tells_both (length slots == m.slots) (nat_le p.next next && nat_le next (2 ^ 30))
      (length slots ≡ m.slots) ((p.next ≤ next) × (next ≤ 2 ^ 30)) (tells_eq (length slots) m.slots)
      (tells_both (nat_le p.next next) (nat_le next (2 ^ 30)) (p.next ≤ next) (next ≤ 2 ^ 30) (tells_le p.next next) (tells_le next (2 ^ 30)))))
      (tells_all (slot_fits m p next) (SlotFits next) (one_told next) slots))
      (λ h. record { point = h.0.0; slots = h.0.1.0; held = each_forth next slots h.1; not_below = h.0.1.1.0; few = h.0.1.1.1 })
      (λ f. ((f.point, (f.slots, (f.not_below, f.few))), each_back next slots f.held))

module _ (defs : Defs) (program : Program) (at : At) where
  abbrev pub InPair : Method → Pair → Type 0
  InPair m p = IsTrue (numbers_fit m p at) × SideFits defs at.state.next at.state.formula

  forth : IsUpTo (length program.methods) at.method → IsUpTo (length (method_at program at).pairs) at.pair → InPair (method_at program at) (pair_at program at) → StateFits defs program at
  forth there pair inner =
      let f = (numbers_told (method_at program at) (pair_at program at) at).0 inner.0 in
      record { method = there; pair = pair; point = f.point; slots = f.slots; held = f.held; not_below = f.not_below; few = f.few; formula = inner.1 }

  back : StateFits defs program at → InPair (method_at program at) (pair_at program at)
  back s = (
    (numbers_told (method_at program at) (pair_at program at) at).1 (record { point = s.point; slots = s.slots; held = s.held; not_below = s.not_below; few = s.few }),
    s.formula,
  )

  pub low : (n : ℕ) → ¬ (n ≡ 0) → 1 ≤ n
  low zero different = absurd (different refl)
  low (suc n) different = omega arith

  -- the test of the parts tells whether the state is well formed
  pub state_told : (b : Bool) (m : Method) (p : Pair) → m ≡ method_at program at → p ≡ pair_at program at → IsUpTo (length program.methods) at.method → IsUpTo (length (method_at program at).pairs) at.pair →
      Tells b (InPair m p) → Tells b (StateFits defs program at)
  state_told b m p e f there pair t =
      let moved : Tells b (InPair (method_at program at) (pair_at program at)) = subst (λ q. Tells b (InPair (method_at program at) q)) f (subst (λ n. Tells b (InPair n p)) e t) in
      tells b (InPair (method_at program at) (pair_at program at)) (StateFits defs program at) moved (forth there pair) back
