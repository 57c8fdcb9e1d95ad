-- The term of a light sum has the value of the sum.
use Rattle.std.proofs.Common.{◌≡◌, ℕ, suc, ◌+◌, ◌≤◌, ◌^◌, ℤ, pos, neg_ℤ, ◌+ℤ◌, ◌*ℤ◌, unsigned_abs, nat_le, nat_lt, Bool, true, false, List, [], ◌∷◌, map, Option, Some, None, slice_get, unwrap_or, if◌then◌else◌, refl, sym, ap, ◌∙◌, subst, arith}
use Rattle.std.proofs.Math.IntN.{one, *ℤ-one, *ℤ_comm, zero-*ℤ, +ℤ_invl}
use Rattle.std.proofs.lemmas.Int.{ints}
use Rattle.std.proofs.lemmas.Bool.Decides.{Decides-int_eq}
use Rattle.std.specs.List.{fold}
use Rattle.std.specs.Option.{option_map}
use Rattle.std.specs.Ordering.{int_eq}
use Rattle.hs_tree.specs.declared.ident.Ident.{Ident}
use Rattle.hs_tree.specs.declared.expr.PartTree.{PartTree}
use Rattle.hs_tree.specs.declared.expr.PartTree.TheVariants as part
use Rattle.hs_tree.specs.declared.expr.ExprTree.{ExprTree}
use Rattle.hs_tree.specs.declared.expr.ExprKind.{ExprKind}
use Rattle.hs_tree.specs.declared.expr.ExprKind.TheVariants as expr
use Rattle.hs_pure.specs.declared.var.Var.{Var}
use Rattle.hs_pure.specs.declared.lin.Lin.{Lin}
use Rattle.hs_pure.specs.Stack.{Stack, same}
use Rattle.hs_pure.specs.Truth.{sum_at, value}
use Rattle.hs_pure.proofs.Vars.{same-eq}
use Rattle.hs_pure.proofs.Sums.{add-mul_z}
use Rattle.hs_core.specs.Machine.{Slots, stack_at}
use Rattle.hs_norm_formula.specs.declared.sum.Term.{Term}
use Rattle.hs_norm_formula.specs.Sum.{place, is_of, coefficient, coefficient_in, changed, put, amount, so_far, with_number, add, added, weight, zero_sum}
use Rattle.hs_norm_formula.proofs.Light.{changed-suc, light_is_kept}
use Rattle.hs_norm_block.specs.Program.{part_weight}
use Rattle.hs_norm_sound.specs.Methods.{IsLightSum}
use Rattle.hs_norm_sound.proofs.Found.{some_eq}
use Rattle.hs_lower_scope.specs.Scope.{Scope, slot_of}
use Rattle.hs_lower_scope.specs.Terms.{parts_of, part_term, term_of}
use Rattle.hs_lower_meaning.specs.Values.{Values, signed, part_value, parts_value, expression_value}

-- ---- one coefficient changes

neg_mul : (a b : ℤ) → neg_ℤ a *ℤ b ≡ neg_ℤ (a *ℤ b)
neg_mul a b =
    let e : (neg_ℤ a +ℤ a) *ℤ b ≡ pos 0 = ap (λ z. z *ℤ b) (+ℤ_invl a) ∙ zero-*ℤ b in
    omega (arith, ints, add-mul_z (neg_ℤ a) a b)

one_mul : (b : ℤ) → pos 1 *ℤ b ≡ b
unfolding one
one_mul b = *ℤ_comm (pos 1) b ∙ *ℤ-one b

module _ (s : Stack) (v : Var) (c : ℤ) where
  abbrev x : ℤ
  x = (s v).number

  gone : int_eq c (pos 0) ≡ true → c *ℤ x ≡ pos 0
  gone e = ap (λ z. z *ℤ x) ((Decides-int_eq c (pos 0)).0 e) ∙ zero-*ℤ x

  sum-head : (t : Var × ℤ) (ts : List (Var × ℤ)) (b z : Bool) → (b ≡ true → t.0 ≡ v) → int_eq c (pos 0) ≡ z →
      sum_at s (changed b z 0 (v, c) (t ∷ ts)) +ℤ (if b then t.1 else pos 0) *ℤ x ≡ (t.1 *ℤ (s t.0).number +ℤ sum_at s ts) +ℤ c *ℤ x
  sum-head t ts true true is e =
      let f = gone e in
      let g : t.1 *ℤ (s t.0).number ≡ t.1 *ℤ x = ap (λ u. t.1 *ℤ (s u).number) (is refl) in
      omega (arith, ints)
  sum-head t ts true false is e =
      let g : t.1 *ℤ (s t.0).number ≡ t.1 *ℤ x = ap (λ u. t.1 *ℤ (s u).number) (is refl) in
      omega (arith, ints)
  sum-head t ts false true is e = let f = gone e in let g = zero-*ℤ x in omega (arith, ints)
  sum-head t ts false false is e = let g = zero-*ℤ x in omega (arith, ints)

  -- what v counted for goes, and what it counts for now comes
  sum-put : (ts : List (Var × ℤ)) → sum_at s (put v c ts) +ℤ coefficient v ts *ℤ x ≡ sum_at s ts +ℤ c *ℤ x
  sum-put [] = of (int_eq c (pos 0)) refl
    where
      of : (z : Bool) → int_eq c (pos 0) ≡ z → sum_at s (changed false z 0 (v, c) []) +ℤ pos 0 *ℤ x ≡ pos 0 +ℤ c *ℤ x
      of true e = let f = gone e in let g = zero-*ℤ x in omega (arith, ints)
      of false e = let g = zero-*ℤ x in omega (arith, ints)
  sum-put (t ∷ ts) = of (nat_lt t.0.number v.number) (sum-put ts)
    where
      behind : sum_at s (put v c ts) +ℤ coefficient v ts *ℤ x ≡ sum_at s ts +ℤ c *ℤ x →
          sum_at s (t ∷ put v c ts) +ℤ coefficient v ts *ℤ x ≡ (t.1 *ℤ (s t.0).number +ℤ sum_at s ts) +ℤ c *ℤ x
      behind ih = omega (arith, ints)

      of : (b : Bool) → sum_at s (put v c ts) +ℤ coefficient v ts *ℤ x ≡ sum_at s ts +ℤ c *ℤ x →
          sum_at s (changed (is_of v (slice_get (t ∷ ts) (if b then suc (place v ts) else 0))) (int_eq c (pos 0)) (if b then suc (place v ts) else 0) (v, c) (t ∷ ts))
          +ℤ coefficient_in v (slice_get (t ∷ ts) (if b then suc (place v ts) else 0)) *ℤ x ≡ (t.1 *ℤ (s t.0).number +ℤ sum_at s ts) +ℤ c *ℤ x
      of true ih = ap (λ us. sum_at s us +ℤ coefficient v ts *ℤ x) (changed-suc (is_of v (slice_get ts (place v ts))) (int_eq c (pos 0)) (place v ts) (v, c) t ts) ∙ behind ih
      of false ih = sum-head t ts (same t.0 v) (int_eq c (pos 0)) (same-eq t.0 v) refl

-- ---- terms added up

none_stays : (ts : List Term) → fold add None ts ≡ None
none_stays [] = refl
none_stays (t ∷ ts) = none_stays ts

none_some : (b : Lin) → ◌≡◌ {A = Option Lin} None (Some b) → ⊥
none_some b e = cc

module _ (s : Stack) where
  -- a number is worth itself, and a coefficient its product
  abbrev worth : Option Var → ℤ → ℤ
  worth None z = z
  worth (Some v) z = z *ℤ (s v).number

  abbrev total : List Term → ℤ
  total [] = pos 0
  total (t ∷ ts) = worth t.var (amount t) +ℤ total ts

  value-with : (a : Lin) (o : Option Var) (z : ℤ) → value s (with_number a o z) +ℤ worth o (so_far a o) ≡ value s a +ℤ worth o z
  value-with a None z = omega (arith, ints)
  value-with a (Some v) z = let h = sum-put s v z a.terms in omega (arith, ints)

  worth-add : (o : Option Var) (y z : ℤ) → worth o (y +ℤ z) ≡ worth o y +ℤ worth o z
  worth-add None y z = refl
  worth-add (Some v) y z = add-mul_z y z (s v).number

  value-add : (a b : Lin) (t : Term) → add (Some a) t ≡ Some b → value s b ≡ value s a +ℤ worth t.var (amount t)
  value-add a b t e = of (nat_le (unsigned_abs y) (2 ^ 126)) e
    where
      y : ℤ
      y = so_far a t.var +ℤ amount t

      whole : value s (with_number a t.var y) ≡ value s a +ℤ worth t.var (amount t)
      whole = let h = value-with a t.var y in let g = worth-add t.var (so_far a t.var) (amount t) in omega (arith, ints)

      of : (k : Bool) → option_map (with_number a t.var) (if k then Some y else None) ≡ Some b → value s b ≡ value s a +ℤ worth t.var (amount t)
      of true h = ap (value s) (sym (some_eq (with_number a t.var y) b h)) ∙ whole
      of false h = cc

  value-from : (ts : List Term) (a b : Lin) → fold add (Some a) ts ≡ Some b → value s b ≡ value s a +ℤ total ts
  value-from [] a b e = let f = ap (value s) (some_eq a b e) in omega (arith, ints)
  value-from (t ∷ ts) a b e = of (add (Some a) t) refl e (λ u h. value-from ts u b h)
    where
      of : (o : Option Lin) → add (Some a) t ≡ o → fold add o ts ≡ Some b → ((u : Lin) → fold add (Some u) ts ≡ Some b → value s b ≡ value s u +ℤ total ts) → value s b ≡ value s a +ℤ (worth t.var (amount t) +ℤ total ts)
      of None is h later = absurd (none_some b (sym (none_stays ts) ∙ h))
      of (Some u) is h later = let f = value-add a u t is in let g = later u h in omega (arith, ints)

  value-added : (ts : List Term) (b : Lin) → added ts ≡ Some b → value s b ≡ total ts
  value-added ts b e = let h = value-from ts zero_sum b e in omega (arith, ints)

-- ---- expressions

module _ (scope : Scope) (w : Values) (s : Slots) (agree : (x : Ident) → s (slot_of scope x.text) ≡ w (slot_of scope x.text)) where
  part-worth : (p : Bool × PartTree) → worth (stack_at s) (part_term scope p).var (amount (part_term scope p)) ≡ part_value scope w p
  part-worth p = of p.0 p.1
    where
      times : (b : Bool) (m : ℕ) (x : Ident) → amount (record { minus = b; var = None; size = m }) *ℤ s (slot_of scope x.text) ≡ signed b (pos m *ℤ w (slot_of scope x.text))
      times true m x = neg_mul (pos m) (s (slot_of scope x.text)) ∙ ap (λ z. neg_ℤ (pos m *ℤ z)) (agree x)
      times false m x = ap (λ z. pos m *ℤ z) (agree x)

      of : (b : Bool) (t : PartTree) → worth (stack_at s) (part_term scope (b, t)).var (amount (part_term scope (b, t))) ≡ part_value scope w (b, t)
      of b (part.Number m) = refl
      of b (part.Times m x) = times b m x
      of b (part.Name x) = times b 1 x ∙ ap (signed b) (one_mul (w (slot_of scope x.text)))
      of b part.Null = refl

  total-is : (ps : List (Bool × PartTree)) → total (stack_at s) (map (part_term scope) ps) ≡ parts_value scope w ps
  total-is [] = refl
  total-is (p ∷ ps) = (λ i. part-worth p i +ℤ total-is ps i)

  size_is : (p : Bool × PartTree) → (part_term scope p).size ≡ part_weight p
  size_is p = of p.1
    where
      of : (t : PartTree) → (part_term scope (p.0, t)).size ≡ part_weight (p.0, t)
      of (part.Number m) = refl
      of (part.Times m x) = refl
      of (part.Name x) = refl
      of part.Null = refl

  weight_from : (ps : List (Bool × PartTree)) (a : ℕ) → fold (λ a (t : Term). a + t.size) a (map (part_term scope) ps) ≡ fold (λ a p. a + part_weight p) a ps
  weight_from [] a = refl
  weight_from (p ∷ ps) a = weight_from ps (a + (part_term scope p).size) ∙ ap (λ k. fold (λ a p. a + part_weight p) (a + k) ps) (size_is p)

  -- the term has the value of the expression
  pub value_is : (e : ExprTree) → IsLightSum e.kind → value (stack_at s) (term_of scope e) ≡ expression_value scope w e
  value_is e light = of e.kind light
    where
      of : (k : ExprKind) → IsLightSum k → value (stack_at s) (unwrap_or (added (map (part_term scope) (parts_of k))) zero_sum) ≡ parts_value scope w (parts_of k)
      of (expr.Sum ps) light =
          let ts = map (part_term scope) ps in
          let few : weight ts ≤ 2 ^ 126 = subst (λ k. k ≤ 2 ^ 126) (sym (weight_from ps 0)) light in
          let kept = light_is_kept ts few in
          ap (λ o. value (stack_at s) (unwrap_or o zero_sum)) kept.1 ∙ value-added (stack_at s) ts kept.0 kept.1 ∙ total-is ps
      of k light = absurd light
