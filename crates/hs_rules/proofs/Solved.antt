-- An equation for a variable is true where the variable has the right value.
use Rattle.std.proofs.Common.{◌≡◌, ℤ, pos, negsuc, ◌+ℤ◌, ◌-ℤ◌, ◌*ℤ◌, true, false, ◌⊎◌, inl, inr, List, [], ◌∷◌, refl, sym, ap, ◌∙◌, subst, arith}
use Rattle.std.proofs.Math.IntN.{zero-*ℤ}
use Rattle.std.proofs.lemmas.Int.{ints}
use Rattle.hs_pure.specs.declared.var.Var.{Var}
use Rattle.hs_pure.specs.declared.lin.Lin.{Lin}
use Rattle.hs_pure.specs.declared.bag.Bag.{Bag}
use Rattle.hs_pure.specs.declared.bag.Bag.TheVariants as bag_of
use Rattle.hs_pure.specs.declared.pure.Pure.{Pure}
use Rattle.hs_pure.specs.Multiset
use Rattle.hs_pure.specs.Multiset.{Multiset}
use Rattle.hs_pure.specs.Stack.{Stack, Value, same, with_value, number_value, bag_value}
use Rattle.hs_pure.specs.Assertion.{bag_term_of, bag_level}
use Rattle.hs_pure.specs.Truth.{sum_at, value, count, TrueAt}
use Rattle.hs_pure.specs.Occurs.{in_bag}
use Rattle.hs_pure.proofs.Agree.{count-agree}
use Rattle.hs_pure.proofs.Sums.{add-mul_z}
use Rattle.hs_pure.proofs.Mirrored.{in_bag-is}
use Rattle.hs_pure.proofs.Truths.{true-Eq, true-BagEq}
use Rattle.hs_pure.proofs.Views.{fold_bag-Name}
use Rattle.hs_heap.proofs.Stacks.{same_true, with_value-same, with_value-other, same_itself}
use Rattle.hs_heap.proofs.Booleans.{bool_cases, clash}
use Rattle.hs_rules.specs.Conditions.{coefficient_in, coefficient, IsEquationFor}
use Rattle.hs_rules.proofs.Bags.{value_of}

-- another value of v
sum_changed : (v : Var) (x : ℤ) (s : Stack) (ts : List (Var × ℤ)) →
    sum_at (with_value v (number_value x) s) ts +ℤ coefficient_in v ts *ℤ (s v).number ≡ sum_at s ts +ℤ coefficient_in v ts *ℤ x
sum_changed v x s [] = rw (zero-*ℤ (s v).number, zero-*ℤ x) refl
sum_changed v x s (t ∷ ts) = elim (bool_cases (same t.0 v)) [
  | inl is ↦
      let ih = sum_changed v x s ts in
      let c : coefficient_in v (t ∷ ts) ≡ t.1 +ℤ coefficient_in v ts = rw is refl in
      let at_v : t.0 ≡ v = same_true t.0 v is in
      let new : (with_value v (number_value x) s t.0).number ≡ x = subst (λ w. (with_value v (number_value x) s w).number ≡ x) (sym at_v) (ap (λ (y : Value). y.number) (with_value-same v (number_value x) s)) in
      let old : (s t.0).number ≡ (s v).number = ap (λ w. (s w).number) at_v in
      let new_term : t.1 *ℤ (with_value v (number_value x) s t.0).number ≡ t.1 *ℤ x = ap (λ z. t.1 *ℤ z) new in
      let old_term : t.1 *ℤ (s t.0).number ≡ t.1 *ℤ (s v).number = ap (λ z. t.1 *ℤ z) old in
      let d1 : coefficient_in v (t ∷ ts) *ℤ (s v).number ≡ t.1 *ℤ (s v).number +ℤ coefficient_in v ts *ℤ (s v).number = ap (λ z. z *ℤ (s v).number) c ∙ add-mul_z t.1 (coefficient_in v ts) (s v).number in
      let d2 : coefficient_in v (t ∷ ts) *ℤ x ≡ t.1 *ℤ x +ℤ coefficient_in v ts *ℤ x = ap (λ z. z *ℤ x) c ∙ add-mul_z t.1 (coefficient_in v ts) x in
      added (t.1 *ℤ (with_value v (number_value x) s t.0).number) (t.1 *ℤ (s t.0).number) (sum_at (with_value v (number_value x) s) ts) (sum_at s ts) (coefficient_in v (t ∷ ts) *ℤ (s v).number) (coefficient_in v (t ∷ ts) *ℤ x)
      (t.1 *ℤ x) (t.1 *ℤ (s v).number) (coefficient_in v ts *ℤ (s v).number) (coefficient_in v ts *ℤ x) new_term old_term d1 d2 ih
  | inr isnt ↦
      let ih = sum_changed v x s ts in
      let c : coefficient_in v (t ∷ ts) ≡ coefficient_in v ts = rw isnt refl in
      let kept : with_value v (number_value x) s t.0 ≡ s t.0 = with_value-other v (number_value x) s t.0 (turned t.0 v isnt) in
      let term : t.1 *ℤ (with_value v (number_value x) s t.0).number ≡ t.1 *ℤ (s t.0).number = ap (λ (y : Value). t.1 *ℤ y.number) kept in
      let d1 : coefficient_in v (t ∷ ts) *ℤ (s v).number ≡ coefficient_in v ts *ℤ (s v).number = ap (λ z. z *ℤ (s v).number) c in
      let d2 : coefficient_in v (t ∷ ts) *ℤ x ≡ coefficient_in v ts *ℤ x = ap (λ z. z *ℤ x) c in
      kept_sum (t.1 *ℤ (with_value v (number_value x) s t.0).number) (t.1 *ℤ (s t.0).number) (sum_at (with_value v (number_value x) s) ts) (sum_at s ts) (coefficient_in v (t ∷ ts) *ℤ (s v).number) (coefficient_in v (t ∷ ts) *ℤ x)
      (coefficient_in v ts *ℤ (s v).number) (coefficient_in v ts *ℤ x) term d1 d2 ih
]
  where
    added : (m n p q a b tx tv cv cx : ℤ) → m ≡ tx → n ≡ tv → a ≡ tv +ℤ cv → b ≡ tx +ℤ cx → p +ℤ cv ≡ q +ℤ cx → m +ℤ p +ℤ a ≡ n +ℤ q +ℤ b
    added m n p q a b tx tv cv cx e f g h i = omega (arith, ints)

    kept_sum : (m n p q a b cv cx : ℤ) → m ≡ n → a ≡ cv → b ≡ cx → p +ℤ cv ≡ q +ℤ cx → m +ℤ p +ℤ a ≡ n +ℤ q +ℤ b
    kept_sum m n p q a b cv cx e g h i = omega (arith, ints)

    turned : (u w : Var) → same u w ≡ false → same w u ≡ false
    turned u w e = elim (bool_cases (same w u)) [
      | inl is ↦ clash (subst (λ y. same y w ≡ true) (same_true w u is) (same_itself w)) e
      | inr isnt ↦ isnt
    ]

value_changed : (v : Var) (x : ℤ) (s : Stack) (a : Lin) →
    value (with_value v (number_value x) s) a +ℤ coefficient v a *ℤ (s v).number ≡ value s a +ℤ coefficient v a *ℤ x
value_changed v x s a = go (sum_at (with_value v (number_value x) s) a.terms) (sum_at s a.terms) a.constant (coefficient v a *ℤ (s v).number) (coefficient v a *ℤ x) (sum_changed v x s a.terms)
  where
    go : (p q k cv cx : ℤ) → p +ℤ cv ≡ q +ℤ cx → p +ℤ k +ℤ cv ≡ q +ℤ k +ℤ cx
    go p q k cv cx e = omega (arith, ints)

one_more : (c x : ℤ) → (c +ℤ pos 1) *ℤ x ≡ c *ℤ x +ℤ x
one_more c x = add-mul_z c (pos 1) x ∙ ap (λ z. c *ℤ x +ℤ z) once
  where
    once : pos 1 *ℤ x ≡ x
    once = omega (arith, ints)

sum_solved : (v : Var) (s : Stack) (a b : Lin) → (coefficient v a -ℤ coefficient v b ≡ pos 1) ⊎ (coefficient v a -ℤ coefficient v b ≡ negsuc 0) →
    (x : ℤ) × (value (with_value v (number_value x) s) a ≡ value (with_value v (number_value x) s) b)
sum_solved v s a b (inl e) =
    let x = value s b -ℤ value s a +ℤ (s v).number in
    let c : coefficient v a ≡ coefficient v b +ℤ pos 1 = omega (arith, ints) in
    let ax : coefficient v a *ℤ x ≡ coefficient v b *ℤ x +ℤ x = ap (λ z. z *ℤ x) c ∙ one_more (coefficient v b) x in
    let av : coefficient v a *ℤ (s v).number ≡ coefficient v b *ℤ (s v).number +ℤ (s v).number = ap (λ z. z *ℤ (s v).number) c ∙ one_more (coefficient v b) (s v).number in (
      x,
      go (value (with_value v (number_value x) s) a) (value (with_value v (number_value x) s) b) (value s a) (value s b) (s v).number
          (coefficient v a *ℤ x) (coefficient v a *ℤ (s v).number) (coefficient v b *ℤ x) (coefficient v b *ℤ (s v).number) ax av (value_changed v x s a) (value_changed v x s b),
    )
  where
    go : (na nb oa ob w ax av bx bv : ℤ) → ax ≡ bx +ℤ (ob -ℤ oa +ℤ w) → av ≡ bv +ℤ w → na +ℤ av ≡ oa +ℤ ax → nb +ℤ bv ≡ ob +ℤ bx → na ≡ nb
    go na nb oa ob w ax av bx bv e f g h = omega (arith, ints)
sum_solved v s a b (inr e) =
    let x = value s a -ℤ value s b +ℤ (s v).number in
    let c : coefficient v b ≡ coefficient v a +ℤ pos 1 = omega (arith, ints) in
    let bx : coefficient v b *ℤ x ≡ coefficient v a *ℤ x +ℤ x = ap (λ z. z *ℤ x) c ∙ one_more (coefficient v a) x in
    let bv : coefficient v b *ℤ (s v).number ≡ coefficient v a *ℤ (s v).number +ℤ (s v).number = ap (λ z. z *ℤ (s v).number) c ∙ one_more (coefficient v a) (s v).number in (
      x,
      go (value (with_value v (number_value x) s) a) (value (with_value v (number_value x) s) b) (value s a) (value s b) (s v).number
          (coefficient v a *ℤ x) (coefficient v a *ℤ (s v).number) (coefficient v b *ℤ x) (coefficient v b *ℤ (s v).number) bx bv (value_changed v x s a) (value_changed v x s b),
    )
  where
    go : (na nb oa ob w ax av bx bv : ℤ) → bx ≡ ax +ℤ (oa -ℤ ob +ℤ w) → bv ≡ av +ℤ w → na +ℤ av ≡ oa +ℤ ax → nb +ℤ bv ≡ ob +ℤ bx → na ≡ nb
    go na nb oa ob w ax av bx bv e f g h = omega (arith, ints)

-- a bag that does not have v keeps its counts
bag_kept : (v : Var) (y : Value) (s : Stack) (b : Bag) → in_bag v b ≡ false → (x : ℤ) → count (with_value v y s) (bag_term_of b) x ≡ count s (bag_term_of b) x
bag_kept v y s b out x = count-agree (bag_term_of b) (with_value v y s) s (λ w i. elim (bool_cases (same v w)) [
  | inl is ↦ clash (subst (λ u. in_bag u b ≡ true) (sym (same_true v w is)) (in_bag-is w b ∙ i)) out
  | inr isnt ↦ with_value-other v y s w isnt
]) x

pub solved : (opens : List Var) (p : Pure) (v : Var) (s : Stack) → IsEquationFor opens v p → (y : Value) × TrueAt (with_value v y s) p
solved opens p v s (inl q) =
    let r = sum_solved v s q.a q.b q.unit in
    (number_value r.0, subst (TrueAt (with_value v (number_value r.0) s)) (sym q.is) ((true-Eq (with_value v (number_value r.0) s) q.a q.b).1 r.1))
solved opens p v s (inr q) =
    let m = value_of s (bag_term_of q.other) in
    let y = bag_value m.0 in
    let t = with_value v y s in
    let out : in_bag v q.other ≡ false = elim (bool_cases (in_bag v q.other)) [ inl is ↦ clash q.open_there (q.closed v is) | inr isnt ↦ isnt ] in
    let mine : (x : ℤ) → count t (bag_term_of (bag_of.Name v)) x ≡ count t (bag_term_of q.other) x = λ x.
    ap (λ b. count t b x) (fold_bag-Name bag_level v)
    ∙ ap (λ (z : Value). Multiset.count z.bag x) (with_value-same v y s)
    ∙ m.1 x ∙ sym (bag_kept v y s q.other out x) in (
      y,
      elim q.is [
        | inl e ↦ subst (TrueAt t) (sym e) ((true-BagEq t (bag_of.Name v) q.other).1 mine)
        | inr e ↦ subst (TrueAt t) (sym e) ((true-BagEq t q.other (bag_of.Name v)).1 (λ x. sym (mine x)))
      ],
    )
