-- Renamings that keep what is bound apart.
use Rattle.std.proofs.Common.{◌≡◌, ℕ, ◌<◌, nat_lt, Bool, true, false, ◌||◌, IsTrue, List, [], ◌∷◌, length, map, refl, sym, ap, ◌∙◌, subst, if◌then◌else◌, arith}
use Rattle.std.proofs.lemmas.Bool.{ltb-true}
use Rattle.std.specs.List.{list_any}
use Rattle.hs_pure.specs.declared.var.Var.{Var}
use Rattle.hs_pure.specs.declared.pure.Pure.{Pure, map-Pure}
use Rattle.hs_pure.specs.declared.pure.Pure.TheOpen.{Pure-F}
use Rattle.hs_pure.specs.Occurs.{is_bound, is_bound_level, occurs, top_of}
use Rattle.hs_pure.specs.Rename.{renaming, KeepsApart}
use Rattle.hs_pure.specs.Stack.{same}
use Rattle.hs_pure.proofs.Levels.{related, Both}
use Rattle.hs_pure.proofs.Tops.{occurs-below_top}
use Rattle.hs_pure.proofs.Vars.{same-eq}
use Rattle.hs_heap.proofs.Occurring.{bound-occurs_of}
use Rattle.hs_tests_formulas.specs.Binding.{binds, binds_level}

-- ---- nothing is bound

abbrev None_if_none : Bool → Bool → Type 0
None_if_none b c = b ≡ false → c ≡ false

or_left : (a b : Bool) → (a || b) ≡ false → a ≡ false
or_left true b h = absurd cc
or_left false b h = refl

or_right : (a b : Bool) → (a || b) ≡ false → b ≡ false
or_right true b h = absurd cc
or_right false b h = h

or_none : (a b : Bool) → a ≡ false → b ≡ false → (a || b) ≡ false
or_none true b h k = absurd cc
or_none false b h k = k

module _ (u : Var) where
  abbrev Pair : Type 0
  Pair = Both None_if_none binds_level (is_bound_level u)

  none-list : (zs : List Pair) → list_any (λ b. b) (map (λ (e : Pair). e.0) zs) ≡ false → list_any (λ b. b) (map (λ (e : Pair). e.1.0) zs) ≡ false
  none-list [] h = refl
  none-list (z ∷ zs) h = or_none z.1.0 _ (z.1.1 (or_left z.0 _ h)) (none-list zs (or_right z.0 _ h))

  none-level : (z : Pure-F Pair) → None_if_none (binds_level (map-Pure Pair Bool (λ e. e.0) z)) (is_bound_level u (map-Pure Pair Bool (λ e. e.1.0) z))
  none-level (Pure-F.Eq a b) h = refl
  none-level (Pure-F.Lt a b) h = refl
  none-level (Pure-F.Le a b) h = refl
  none-level (Pure-F.Divides d a) h = refl
  none-level (Pure-F.BagEq a b) h = refl
  none-level (Pure-F.Subset a b) h = refl
  none-level (Pure-F.Member a b) h = refl
  none-level (Pure-F.AllOf v b p) h = absurd cc
  none-level (Pure-F.Not p) h = p.1.1 h
  none-level (Pure-F.And ps) h = none-list ps h
  none-level (Pure-F.Or ps) h = none-list ps h
  none-level (Pure-F.Exists v p) h = absurd cc
  none-level (Pure-F.Forall v p) h = absurd cc

  unbound : (p : Pure) → binds p ≡ false → is_bound u p ≡ false
  unbound = related None_if_none binds_level (is_bound_level u) none-level

pub unbound_apart : (ρ : Var → Var) (p : Pure) → binds p ≡ false → KeepsApart ρ p
unbound_apart ρ p h u v bound occurs same = let e : is_bound u p ≡ false = unbound u p h in absurd (cc)

-- ---- one variable becomes a new one

pub new_apart : (u w : Var) (p : Pure) → top_of p < w.number → KeepsApart (renaming ((u, w) ∷ [])) p
new_apart u w p above v x bound occurs e = go (same u v) (same u x) refl refl e
  where
    go : (a b : Bool) → same u v ≡ a → same u x ≡ b → (if a then w else v) ≡ (if b then w else x) → v ≡ x
    go true true f g e = sym (same-eq u v f) ∙ same-eq u x g
    go true false f g e = let below = occurs-below_top p x occurs in let same_number = ap (λ (y : Var). y.number) e in absurd (omega arith)
    go false true f g e =
        let below = occurs-below_top p v (bound-occurs_of v p bound) in let same_number = ap (λ (y : Var). y.number) e in absurd (omega arith)
    go false false f g e = e

-- the same where the list is tested
pub new_listed : (p : Pure) (ms : List (Var × Var)) (m : Var × Var) (rest : List (Var × Var)) (top : ℕ) →
    ms ≡ m ∷ rest → length rest < 1 → top ≡ top_of p → IsTrue (nat_lt top m.1.number) → KeepsApart (renaming ms) p
new_listed p ms m [] top is short e above =
    let less : top < m.1.number = ltb-true top m.1.number above in
    subst (λ ms. KeepsApart (renaming ms) p) (sym is) (new_apart m.0 m.1 p (subst (λ n. n < m.1.number) e less))
new_listed p ms m (r ∷ rs) top is short e above = absurd (omega arith)
