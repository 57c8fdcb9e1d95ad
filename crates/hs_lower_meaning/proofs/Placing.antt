-- Arguments are put into slots above those of the variables, with the values of their expressions.
use Rattle.std.proofs.Common.{◌≡◌, ◌==◌, ℕ, suc, ◌+◌, ◌<◌, ◌≤◌, ℤ, Bool, true, false, List, [], ◌∷◌, ◌++◌, length, map, Option, Some, None, if◌then◌else◌, refl, sym, ap, ◌∙◌, subst, arith, length-append, le_refl}
use Rattle.std.proofs.Math.IntN.{+ℤ_idr}
use Rattle.std.proofs.lemmas.Bool.Decides.{nat_tests}
use Rattle.std.proofs.lemmas.List.{append-nil}
use Rattle.std.proofs.lemmas.Iterator.Adapters.{position_from-zero}
use Rattle.std.specs.List.{AllByRecursion, fold, flat_map, position}
use Rattle.std.specs.Str.{bytes_eq}
use Rattle.hs_tree.specs.declared.ident.Ident.{Ident}
use Rattle.hs_tree.specs.declared.expr.PartTree.{PartTree}
use Rattle.hs_tree.specs.declared.expr.PartTree.TheVariants as part
use Rattle.hs_tree.specs.declared.expr.ExprTree.{ExprTree}
use Rattle.hs_tree.specs.declared.expr.ExprKind.{ExprKind}
use Rattle.hs_tree.specs.declared.expr.ExprKind.TheVariants as expr
use Rattle.hs_heap.specs.Heap.{Heap}
use Rattle.hs_core.specs.declared.instr.Instr.{Instr}
use Rattle.hs_core.specs.declared.instr.Instr.TheVariants.{Assign}
use Rattle.hs_core.specs.declared.program.Program.{Program}
use Rattle.hs_pure.specs.Truth.{value}
use Rattle.hs_core.specs.Machine.{Place, Frame, Slots, StepsFrom, stack_at, updated}
use Rattle.hs_norm_sound.specs.Methods.{IsLightSum}
use Rattle.hs_norm_sound.specs.Uses.{number_uses}
use Rattle.hs_norm_sound.proofs.Found.{found_at, get_below, some_eq}
use Rattle.hs_lower_scope.specs.declared.variable.Variable.{Variable}
use Rattle.hs_lower_scope.specs.Scope.{Scope, Name, slot_of, number_by, number_by_place}
use Rattle.hs_lower_scope.specs.Terms.{bare, bare_parts, bare_part, parts_of, term_of}
use Rattle.hs_lower.specs.declared.made.PlacedAll.{PlacedAll}
use Rattle.hs_lower.specs.Code.{placed_by, placed, next_placed, all_placed}
use Rattle.hs_lower_sound.specs.Lowerable.{IsThere}
use Rattle.hs_lower_sound.proofs.Passed.{split_all}
use Rattle.hs_lower_meaning.specs.Values.{Values, parts_value, expression_value, all_values}
use Rattle.hs_lower_meaning.proofs.Sums.{value_is}
use Rattle.hs_lower_meaning.proofs.Steps.{Steps, stay, go, frame, Stands, stands_first, stands_after, does}
use Rattle.hs_lower_meaning.proofs.Growth.{placed_grows}

-- ---- slots

-- the slots from 0 to n have the same values
abbrev pub Agree : ℕ → (ℕ → ℤ) → (ℕ → ℤ) → Type 0
Agree n w s = (j : ℕ) → j ≤ n → s j ≡ w j

pub agree_more : (n : ℕ) (w s : ℕ → ℤ) (to : ℕ) (x y : ℤ) → Agree n w s → y ≡ x → Agree n (updated w to x) (updated s to y)
agree_more n w s to x y a e = λ j le. (λ i. if j == to then e i else a j le i)

pub agree_then : (n m : ℕ) (w s t : ℕ → ℤ) → n ≤ m → Agree n w s → Agree m s t → Agree n w t
agree_then n m w s t more a b = λ j le. b j (omega arith) ∙ a j le

same_number : (k : ℕ) → (k == k) ≡ true
same_number k = grind (arith, nat_tests)

other_number : (j k : ℕ) → j < k → (j == k) ≡ false
other_number j k lt = grind (arith, nat_tests)

pub updated-at : (s : ℕ → ℤ) (k : ℕ) (x : ℤ) → updated s k x k ≡ x
updated-at s k x = ap (λ b. if b then x else s k) (same_number k)

updated-below : (s : ℕ → ℤ) (k : ℕ) (x : ℤ) (j : ℕ) → j < k → updated s k x j ≡ s j
updated-below s k x j lt = ap (λ b. if b then x else s j) (other_number j k lt)

number_le : {X : Type 0} (t : X → Bool) (xs : List X) → number_by t xs ≤ length xs
number_le t xs = of (position t xs) refl
  where
    of : (o : Option ℕ) → position t xs ≡ o → number_by_place o ≤ length xs
    of None is = omega arith
    of (Some i) is =
        let f = found_at t xs 0 i (sym (position_from-zero t xs) ∙ is) in
        let lt = get_below xs f.place f.item f.got in
        let at = f.is in
        omega arith

pub slot_le : (scope : Scope) (x : Name) → slot_of scope x ≤ length scope.variables
slot_le scope x = number_le (λ (v : Variable). bytes_eq v.name x) scope.variables

pub names_agree : (scope : Scope) (w s : ℕ → ℤ) → Agree (length scope.variables) w s → (x : Ident) → s (slot_of scope x.text) ≡ w (slot_of scope x.text)
names_agree scope w s a x = a (slot_of scope x.text) (slot_le scope x.text)

-- ---- lists

append_once : {X : Type 0} (xs : List X) (x : X) (ys : List X) → (xs ++ x ∷ []) ++ ys ≡ xs ++ x ∷ ys
append_once [] x ys = refl
append_once (z ∷ xs) x ys = ap (λ zs. z ∷ zs) (append_once xs x ys)

map_once : {X Y : Type 0} (f : X → Y) (xs : List X) (x : X) → map f (xs ++ x ∷ []) ≡ map f xs ++ f x ∷ []
map_once f [] x = refl
map_once f (z ∷ xs) x = ap (λ zs. f z ∷ zs) (map_once f xs x)

once_le : (n : ℕ) (ks : List ℕ) (k : ℕ) → AllByRecursion (λ j. j ≤ n) ks → k ≤ n → AllByRecursion (λ j. j ≤ n) (ks ++ k ∷ [])
once_le n [] k h le = (le, tt)
once_le n (j ∷ ks) k h le = (h.0, once_le n ks k h.1 le)

more_le : (n m : ℕ) (ks : List ℕ) → n ≤ m → AllByRecursion (λ j. j ≤ n) ks → AllByRecursion (λ j. j ≤ m) ks
more_le n m [] le h = tt
more_le n m (k ∷ ks) le h = let low = h.0 in (omega arith, more_le n m ks le h.1)

map_agree : (n : ℕ) (s t : ℕ → ℤ) (ks : List ℕ) → Agree n s t → AllByRecursion (λ j. j ≤ n) ks → map t ks ≡ map s ks
map_agree n s t [] a h = refl
map_agree n s t (k ∷ ks) a h = λ i. a k h.0 i ∷ map_agree n s t ks a h.1 i

-- ---- a bare variable

bare_value : (scope : Scope) (w : Values) (e : ExprTree) (x : Ident) → bare e ≡ Some x → expression_value scope w e ≡ w (slot_of scope x.text)
bare_value scope w e x is = of e.kind is
  where
    in_part : (b : Bool) (t : PartTree) → bare_part (b, t) ≡ Some x → parts_value scope w ((b, t) ∷ []) ≡ w (slot_of scope x.text)
    in_part true (part.Number m) is = cc
    in_part true (part.Times m y) is = cc
    in_part true (part.Name y) is = cc
    in_part true part.Null is = cc
    in_part false (part.Number m) is = cc
    in_part false (part.Times m y) is = cc
    in_part false (part.Name y) is = +ℤ_idr (w (slot_of scope y.text)) ∙ ap (λ (z : Ident). w (slot_of scope z.text)) (some_eq y x is)
    in_part false part.Null is = cc

    in_parts : (ps : List (Bool × PartTree)) → bare_parts ps ≡ Some x → parts_value scope w ps ≡ w (slot_of scope x.text)
    in_parts [] is = cc
    in_parts (p ∷ []) is = in_part p.0 p.1 is
    in_parts (p ∷ q ∷ ps) is = cc

    of : (k : ExprKind) → bare_parts (parts_of k) ≡ Some x → parts_value scope w (parts_of k) ≡ w (slot_of scope x.text)
    of (expr.Sum parts) is = in_parts parts is
    of k is = cc

-- ---- placing

module _ (P : Place) (program : Program) (k : ℕ) (scope : Scope) where
  abbrev count : ℕ
  count = length scope.variables

  abbrev Run : List Frame → Heap → List Frame → Heap → Type 0
  Run = Steps (StepsFrom P program)

  abbrev At : ℕ → List Instr → Type 0
  At = Stands P program k

  -- the same run, with the point of its end written otherwise
  pub at_point : (fs : List Frame) (h : Heap) (p q : ℕ) (t : Slots) (gs : List Frame) (l : Heap) → p ≡ q → Run fs h (frame k p t ∷ gs) l → Run fs h (frame k q t ∷ gs) l
  at_point fs h p q t gs l e run = subst (λ j. Run fs h (frame k j t ∷ gs) l) e run

  placed_runs : (p n : ℕ) (e : ExprTree) (w : Values) (s : Slots) (fs : List Frame) (h : Heap) → count ≤ n → IsLightSum e.kind → Agree count w s → At p (placed scope e n).code →
      (t : Slots) × Run (frame k p s ∷ fs) h (frame k (p + length (placed scope e n).code) t ∷ fs) h × Agree n s t × (t (placed scope e n).slot ≡ expression_value scope w e) × ((placed scope e n).slot ≤ (placed scope e n).slots)
  placed_runs p n e w s fs h enough light a at = of (bare e) refl at
    where
      of : (o : Option Ident) → bare e ≡ o → At p (placed_by scope e n o).code →
          (t : Slots) × Run (frame k p s ∷ fs) h (frame k (p + length (placed_by scope e n o).code) t ∷ fs) h × Agree n s t × (t (placed_by scope e n o).slot ≡ expression_value scope w e)
          × ((placed_by scope e n o).slot ≤ (placed_by scope e n o).slots)
      of None is at =
          let x = value (stack_at s) (term_of scope e) in (
            updated s (suc n) x,
            at_point (frame k p s ∷ fs) h (suc p) (p + 1) (updated s (suc n) x) fs h (omega arith)
                (does P program k p (Assign (suc n) (term_of scope e)) s fs h (frame k (suc p) (updated s (suc n) x)) h at.0 (refl, refl)),
            λ j le. updated-below s (suc n) x j (omega arith),
            updated-at s (suc n) x ∙ value_is scope w s (names_agree scope w s a) e light,
            le_refl (suc n),
          )
      of (Some x) is at = (
        s,
        at_point (frame k p s ∷ fs) h p (p + 0) s fs h (omega arith) (stay (StepsFrom P program) (frame k p s ∷ fs) h),
        λ j le. refl,
        names_agree scope w s a x ∙ sym (bare_value scope w e x is),
        let low = slot_le scope x.text in omega arith,
      )

  -- what is placed first stands first
  stands_placed : (p : ℕ) (es : List ExprTree) (done : PlacedAll) → At p (fold (next_placed scope) done es).code → At p done.code
  stands_placed p [] done at = at
  stands_placed p (e ∷ es) done at = stands_first P program k p done.code (placed scope e done.slots).code (stands_placed p es (next_placed scope done e) at)

  args_from : (p : ℕ) (es : List ExprTree) (done : PlacedAll) (vs : List ℤ) (w : Values) (s : Slots) (fs : List Frame) (h : Heap) → count ≤ done.slots → AllByRecursion (λ j. j ≤ done.slots) done.args →
      map s done.args ≡ vs → AllByRecursion (IsThere scope) (flat_map number_uses es) → Agree count w s → At p (fold (next_placed scope) done es).code →
      (t : Slots) × Run (frame k (p + length done.code) s ∷ fs) h (frame k (p + length (fold (next_placed scope) done es).code) t ∷ fs) h × Agree count w t × (map t (fold (next_placed scope) done es).args ≡ vs ++ all_values scope w es)
  args_from p [] done vs w s fs h enough low are used a at = (s, stay (StepsFrom P program) (frame k (p + length done.code) s ∷ fs) h, a, are ∙ sym (append-nil vs))
  args_from p (e ∷ es) done vs w s fs h enough low are used a at =
      let n = done.slots in
      let d = placed scope e n in
      let next = next_placed scope done e in
      let grown = placed_grows scope e n in
      let parts = split_all (IsThere scope) (number_uses e) (flat_map number_uses es) used in
      let here = stands_after P program k p done.code d.code (stands_placed p es next at) in
      let one = placed_runs (p + length done.code) n e w s fs h enough parts.0.0 a here in
      let t = one.0 in
      let total = length-append done.code d.code in
      let b = agree_then count n w s t enough a one.2 in
      let v = expression_value scope w e in
      let rest = args_from p es next (vs ++ v ∷ []) w t fs h (omega arith) (once_le d.slots done.args d.slot (more_le n d.slots done.args grown low) one.4)
      (map_once t done.args d.slot ∙ (λ i. map_agree n s t done.args one.2 low i ++ one.3 i ∷ []) ∙ ap (λ xs. xs ++ v ∷ []) are) parts.1 b at in
      let start = at_point (frame k (p + length done.code) s ∷ fs) h (p + length done.code + length d.code) (p + length next.code) t fs h (omega arith) one.1 in
      let all = fold (next_placed scope) next es in (
        rest.0,
        go (StepsFrom P program) (frame k (p + length done.code) s ∷ fs) h (frame k (p + length next.code) t ∷ fs) h (frame k (p + length all.code) rest.0 ∷ fs) h start rest.1,
        rest.2,
        rest.3 ∙ append_once vs v (all_values scope w es),
      )

  -- all arguments have their values, and the variables keep theirs
  pub args_run : (p n : ℕ) (es : List ExprTree) (w : Values) (s : Slots) (fs : List Frame) (h : Heap) → count ≤ n → AllByRecursion (IsThere scope) (flat_map number_uses es) → Agree count w s →
      At p (all_placed scope es n).code →
      (t : Slots) × Run (frame k p s ∷ fs) h (frame k (p + length (all_placed scope es n).code) t ∷ fs) h × Agree count w t × (map t (all_placed scope es n).args ≡ all_values scope w es)
  args_run p n es w s fs h enough used a at =
      let all = args_from p es (record { code = []; slots = n; args = [] }) [] w s fs h enough tt refl used a at in
      let e : p + 0 ≡ p = omega arith in
      (all.0, subst (λ j. Run (frame k j s ∷ fs) h (frame k (p + length (all_placed scope es n).code) all.0 ∷ fs) h) e all.1, all.2, all.3)

  -- one argument has its value, and the variables keep theirs
  pub placed_run : (p n : ℕ) (e : ExprTree) (w : Values) (s : Slots) (fs : List Frame) (h : Heap) → count ≤ n → IsLightSum e.kind → Agree count w s → At p (placed scope e n).code →
      (t : Slots) × Run (frame k p s ∷ fs) h (frame k (p + length (placed scope e n).code) t ∷ fs) h × Agree count w t × (t (placed scope e n).slot ≡ expression_value scope w e)
  placed_run p n e w s fs h enough light a at =
      let one = placed_runs p n e w s fs h enough light a at in
      (one.0, one.1, agree_then count n w s one.0 enough a one.2, one.3)
