-- A formula is renamed alike where two renamings agree on what occurs.
use Rattle.std.proofs.Common.{◌≡◌, ℤ, Bool, ◌||◌, IsTrue, List, [], ◌∷◌, map, refl, sym, ap, ◌∙◌, subst}
use Rattle.std.specs.List.{list_any, fold}
use Rattle.hs_pure.specs.declared.var.Var.{Var}
use Rattle.hs_pure.specs.declared.lin.Lin.{Lin}
use Rattle.hs_pure.specs.declared.bag.Bag.{Bag, ind-Bag, fold-roll-Bag, map-Bag, roll-Bag}
use Rattle.hs_pure.specs.declared.bag.Bag.TheOpen.{Bag-F}
use Rattle.hs_pure.specs.declared.bag.Bag.TheVariants as bag_of
use Rattle.hs_pure.specs.declared.pure.Pure.{Pure, ind-Pure, fold-roll-Pure, map-Pure, roll-Pure}
use Rattle.hs_pure.specs.declared.pure.Pure.TheOpen.{Pure-F}
use Rattle.hs_pure.specs.declared.pure.Pure.TheVariants as pure_of
use Rattle.hs_pure.specs.Stack.{same}
use Rattle.hs_pure.specs.Occurs.{in_lin, in_bag, in_bag_level, occurs, occurs_level}
use Rattle.hs_pure.specs.Rename.{add_term, renamed_lin, renamed_bag, renamed_bag_level, renamed, renamed_level}
use Rattle.hs_pure.proofs.Vars.{or_left, or_right}
use Rattle.hs_heap.specs.declared.formula.Atom.{Atom}
use Rattle.hs_heap.specs.declared.formula.Disjunct.{Disjunct}
use Rattle.hs_heap.specs.declared.formula.Formula.{Formula}
use Rattle.hs_heap.specs.Meaning.{is_in}
use Rattle.hs_heap.specs.Variables.{in_atom, occurs_in_disjunct, occurs_in_formula}
use Rattle.hs_heap.specs.Renamed.{renamed_atom, renamed_disjunct, renamed_formula}
use Rattle.hs_heap.proofs.Stacks.{same_itself}

module _ (ρ σ : Var → Var) where
  -- one name for each variable that passes the test
  abbrev AgreesOn : (Var → Bool) → Type 0
  AgreesOn has = (v : Var) → IsTrue (has v) → ρ v ≡ σ v

  left_of : (p q : Var → Bool) → AgreesOn (λ v. p v || q v) → AgreesOn p
  left_of p q h v e = h v (or_left (p v) (q v) e)

  right_of : (p q : Var → Bool) → AgreesOn (λ v. p v || q v) → AgreesOn q
  right_of p q h v e = h v (or_right (p v) (q v) e)

  terms_alike : (ts sum : List (Var × ℤ)) → AgreesOn (λ v. list_any (λ t. same t.0 v) ts) →
      fold (λ sum t. add_term (ρ t.0) t.1 sum) sum ts ≡ fold (λ sum t. add_term (σ t.0) t.1 sum) sum ts
  terms_alike [] sum h = refl
  terms_alike (t ∷ ts) sum h =
      ap (λ u. fold (λ sum t. add_term (ρ t.0) t.1 sum) (add_term u t.1 sum) ts) (h t.0 (or_left (same t.0 t.0) (list_any (λ x. same x.0 t.0) ts) (same_itself t.0)))
      ∙ terms_alike ts (add_term (σ t.0) t.1 sum) (λ v e. h v (or_right (same t.0 v) (list_any (λ t. same t.0 v) ts) e))

  lin_alike : (a : Lin) → AgreesOn (λ v. in_lin v a) → renamed_lin ρ a ≡ renamed_lin σ a
  lin_alike a h = let e = terms_alike a.terms [] h in λ i. record { terms = e i; constant = a.constant }

  BagAlike : Bag → Type 0
  BagAlike b = AgreesOn (λ v. in_bag v b) → renamed_bag ρ b ≡ renamed_bag σ b

  abbrev BagWith : Type 0
  BagWith = (b : Bag) × BagAlike b

  abbrev bag_in : Bag-F BagWith → Bag-F Bag
  bag_in y = map-Bag BagWith Bag (λ e. e.0) y

  bag_level_alike : (y : Bag-F BagWith) → AgreesOn (λ v. in_bag_level v (map-Bag Bag Bool (in_bag v) (bag_in y))) →
      renamed_bag_level ρ (map-Bag Bag Bag (renamed_bag ρ) (bag_in y)) ≡ renamed_bag_level σ (map-Bag Bag Bag (renamed_bag σ) (bag_in y))
  unfolding BagAlike
  bag_level_alike Bag-F.Empty h = refl
  bag_level_alike (Bag-F.Name u) h = ap bag_of.Name (h u (same_itself u))
  bag_level_alike (Bag-F.One a) h = ap bag_of.One (lin_alike a h)
  bag_level_alike (Bag-F.Union a b) h =
      let e = a.1 (left_of (λ v. in_bag v a.0) (λ v. in_bag v b.0) h) in let f = b.1 (right_of (λ v. in_bag v a.0) (λ v. in_bag v b.0) h) in λ i. bag_of.Union (e i) (f i)
  bag_level_alike (Bag-F.Inter a b) h =
      let e = a.1 (left_of (λ v. in_bag v a.0) (λ v. in_bag v b.0) h) in let f = b.1 (right_of (λ v. in_bag v a.0) (λ v. in_bag v b.0) h) in λ i. bag_of.Inter (e i) (f i)
  bag_level_alike (Bag-F.Diff a b) h =
      let e = a.1 (left_of (λ v. in_bag v a.0) (λ v. in_bag v b.0) h) in let f = b.1 (right_of (λ v. in_bag v a.0) (λ v. in_bag v b.0) h) in λ i. bag_of.Diff (e i) (f i)

  bag_rolled_alike : (y : Bag-F BagWith) → BagAlike (roll-Bag (bag_in y))
  unfolding BagAlike
  bag_rolled_alike y h =
      fold-roll-Bag Bag (renamed_bag_level ρ) (bag_in y)
      ∙ bag_level_alike y (λ v e. h v (subst IsTrue (sym (fold-roll-Bag Bool (in_bag_level v) (bag_in y))) e))
      ∙ sym (fold-roll-Bag Bag (renamed_bag_level σ) (bag_in y))

  bag_alike_of : (b : Bag) → BagAlike b
  bag_alike_of = ind-Bag BagAlike (λ x y is. subst (λ x. BagAlike (roll-Bag x)) is (bag_rolled_alike y))

  bag_alike : (b : Bag) → AgreesOn (λ v. in_bag v b) → renamed_bag ρ b ≡ renamed_bag σ b
  unfolding BagAlike
  bag_alike b = bag_alike_of b

  Alike : Pure → Type 0
  Alike p = AgreesOn (λ v. occurs v p) → renamed ρ p ≡ renamed σ p

  abbrev PureWith : Type 0
  PureWith = (p : Pure) × Alike p

  abbrev pure_in : Pure-F PureWith → Pure-F Pure
  pure_in y = map-Pure PureWith Pure (λ e. e.0) y

  members_alike : (ps : List PureWith) → AgreesOn (λ v. list_any (λ b. b) (map (occurs v) (map (λ (e : PureWith). e.0) ps))) →
      map (renamed ρ) (map (λ (e : PureWith). e.0) ps) ≡ map (renamed σ) (map (λ (e : PureWith). e.0) ps)
  unfolding Alike
  members_alike [] h = refl
  members_alike (p ∷ ps) h =
      let rest = λ (v : Var). list_any (λ b. b) (map (occurs v) (map (λ (e : PureWith). e.0) ps)) in
      let e = p.1 (left_of (λ v. occurs v p.0) rest h) in
      let f = members_alike ps (right_of (λ v. occurs v p.0) rest h) in λ i. e i ∷ f i

  level_alike : (y : Pure-F PureWith) → AgreesOn (λ v. occurs_level v (map-Pure Pure Bool (occurs v) (pure_in y))) →
      renamed_level ρ (map-Pure Pure Pure (renamed ρ) (pure_in y)) ≡ renamed_level σ (map-Pure Pure Pure (renamed σ) (pure_in y))
  unfolding Alike
  level_alike (Pure-F.Eq a b) h =
      let e = lin_alike a (left_of (λ v. in_lin v a) (λ v. in_lin v b) h) in let f = lin_alike b (right_of (λ v. in_lin v a) (λ v. in_lin v b) h) in λ i. pure_of.Eq (e i) (f i)
  level_alike (Pure-F.Lt a b) h =
      let e = lin_alike a (left_of (λ v. in_lin v a) (λ v. in_lin v b) h) in let f = lin_alike b (right_of (λ v. in_lin v a) (λ v. in_lin v b) h) in λ i. pure_of.Lt (e i) (f i)
  level_alike (Pure-F.Le a b) h =
      let e = lin_alike a (left_of (λ v. in_lin v a) (λ v. in_lin v b) h) in let f = lin_alike b (right_of (λ v. in_lin v a) (λ v. in_lin v b) h) in λ i. pure_of.Le (e i) (f i)
  level_alike (Pure-F.Divides d a) h = ap (pure_of.Divides d) (lin_alike a h)
  level_alike (Pure-F.BagEq a b) h =
      let e = bag_alike a (left_of (λ v. in_bag v a) (λ v. in_bag v b) h) in let f = bag_alike b (right_of (λ v. in_bag v a) (λ v. in_bag v b) h) in λ i. pure_of.BagEq (e i) (f i)
  level_alike (Pure-F.Subset a b) h =
      let e = bag_alike a (left_of (λ v. in_bag v a) (λ v. in_bag v b) h) in let f = bag_alike b (right_of (λ v. in_bag v a) (λ v. in_bag v b) h) in λ i. pure_of.Subset (e i) (f i)
  level_alike (Pure-F.Member a b) h =
      let e = lin_alike a (left_of (λ v. in_lin v a) (λ v. in_bag v b) h) in let f = bag_alike b (right_of (λ v. in_lin v a) (λ v. in_bag v b) h) in λ i. pure_of.Member (e i) (f i)
  level_alike (Pure-F.AllOf u b p) h =
      let e = bag_alike b (left_of (λ v. in_bag v b) (λ v. same u v || occurs v p.0) h) in
      let k = right_of (λ v. in_bag v b) (λ v. same u v || occurs v p.0) h in
      let f = p.1 (right_of (λ v. same u v) (λ v. occurs v p.0) k) in
      let g = k u (or_left (same u u) (occurs u p.0) (same_itself u)) in λ i. pure_of.AllOf (g i) (e i) (f i)
  level_alike (Pure-F.Not p) h = ap pure_of.Not (p.1 h)
  level_alike (Pure-F.And ps) h = ap pure_of.And (members_alike ps h)
  level_alike (Pure-F.Or ps) h = ap pure_of.Or (members_alike ps h)
  level_alike (Pure-F.Exists u p) h =
      let f = p.1 (right_of (λ v. same u v) (λ v. occurs v p.0) h) in let g = h u (or_left (same u u) (occurs u p.0) (same_itself u)) in λ i. pure_of.Exists (g i) (f i)
  level_alike (Pure-F.Forall u p) h =
      let f = p.1 (right_of (λ v. same u v) (λ v. occurs v p.0) h) in let g = h u (or_left (same u u) (occurs u p.0) (same_itself u)) in λ i. pure_of.Forall (g i) (f i)

  rolled_alike : (y : Pure-F PureWith) → Alike (roll-Pure (pure_in y))
  unfolding Alike
  rolled_alike y h =
      fold-roll-Pure Pure (renamed_level ρ) (pure_in y)
      ∙ level_alike y (λ v e. h v (subst IsTrue (sym (fold-roll-Pure Bool (occurs_level v) (pure_in y))) e))
      ∙ sym (fold-roll-Pure Pure (renamed_level σ) (pure_in y))

  alike_of : (p : Pure) → Alike p
  alike_of = ind-Pure Alike (λ x y is. subst (λ x. Alike (roll-Pure x)) is (rolled_alike y))

  pub pure_alike : (p : Pure) → AgreesOn (λ v. occurs v p) → renamed ρ p ≡ renamed σ p
  unfolding Alike
  pure_alike p = alike_of p

  module _ {X : Type 0} (has : Var → X → Bool) (f g : X → X) (alike : (x : X) → AgreesOn (λ v. has v x) → f x ≡ g x) where
    all_alike : (xs : List X) → AgreesOn (λ v. list_any (has v) xs) → map f xs ≡ map g xs
    all_alike [] h = refl
    all_alike (x ∷ xs) h =
        let e = alike x (left_of (λ v. has v x) (λ v. list_any (has v) xs) h) in
        let k = all_alike xs (right_of (λ v. has v x) (λ v. list_any (has v) xs) h) in λ i. e i ∷ k i

  vars_alike : (vs : List Var) → AgreesOn (λ v. is_in v vs) → map ρ vs ≡ map σ vs
  vars_alike [] h = refl
  vars_alike (w ∷ ws) h =
      let e = h w (or_left (same w w) (is_in w ws) (same_itself w)) in
      let k = vars_alike ws (λ v i. h v (or_right (same v w) (is_in v ws) i)) in λ i. e i ∷ k i

  atom_alike : (a : Atom) → AgreesOn (λ v. in_atom v a) → renamed_atom ρ a ≡ renamed_atom σ a
  atom_alike a h =
      let e = h a.root (or_left (same a.root a.root) (is_in a.root a.args) (same_itself a.root)) in
      let k = vars_alike a.args (λ v i. h v (or_right (same v a.root) (is_in v a.args) i)) in λ i. record { root = e i; of = a.of; args = k i }

  disjunct_alike : (d : Disjunct) → AgreesOn (λ v. occurs_in_disjunct v d) → renamed_disjunct ρ d ≡ renamed_disjunct σ d
  disjunct_alike d h =
      let rest = right_of (λ v. is_in v d.bound) (λ v. list_any (in_atom v) d.atoms || list_any (occurs v) d.pure) h in
      let e = vars_alike d.bound (left_of (λ v. is_in v d.bound) (λ v. list_any (in_atom v) d.atoms || list_any (occurs v) d.pure) h) in
      let f = all_alike in_atom (renamed_atom ρ) (renamed_atom σ) atom_alike d.atoms (left_of (λ v. list_any (in_atom v) d.atoms) (λ v. list_any (occurs v) d.pure) rest) in
      let g = all_alike occurs (renamed ρ) (renamed σ) pure_alike d.pure (right_of (λ v. list_any (in_atom v) d.atoms) (λ v. list_any (occurs v) d.pure) rest) in
      λ i. record { bound = e i; atoms = f i; pure = g i }

  pub formula_alike : (f : Formula) → AgreesOn (λ v. occurs_in_formula v f) → renamed_formula ρ f ≡ renamed_formula σ f
  formula_alike f h = let e = all_alike occurs_in_disjunct (renamed_disjunct ρ) (renamed_disjunct σ) disjunct_alike f.cases h in λ i. record { cases = e i }
