-- Right steps keep numbers apart.
use Rattle.std.proofs.Common.{◌≡◌, ℕ, ◌-◌, ◌≤◌, Bool, true, false, not, ◌||◌, IsTrue, ◌⊎◌, inl, inr, List, [], ◌∷◌, ◌++◌, map, take, drop, get_or, refl, sym, ◌∙◌, subst, arith}
use Rattle.std.specs.List.{list_any, All, AllByRecursion}
use Rattle.std.proofs.lemmas.Bool.{and_parts, and_from}
use Rattle.std.proofs.lemmas.List.Elements.{All-nil, All-cons, All-head, All-tail, All-append}
use Rattle.hs_pure.specs.declared.var.Var.{Var}
use Rattle.hs_pure.specs.declared.bag.Bag.TheVariants as bag_of
use Rattle.hs_pure.specs.declared.pure.Pure.{Pure}
use Rattle.hs_pure.specs.declared.pure.Pure.TheVariants as pure_of
use Rattle.hs_pure.specs.Stack.{same}
use Rattle.hs_pure.specs.Occurs.{in_bag, is_free, is_free_level, in_bag_level}
use Rattle.hs_pure.proofs.Views.{fold-Eq, fold-BagEq, fold_bag-Name}
use Rattle.hs_heap.specs.declared.formula.Atom.{Atom}
use Rattle.hs_heap.specs.declared.formula.Disjunct.{Disjunct}
use Rattle.hs_heap.specs.declared.formula.Formula.{Formula}
use Rattle.hs_heap.specs.Meaning.{is_in}
use Rattle.hs_heap.specs.Variables.{in_atom, is_free_in_disjunct, is_free_in_formula}
use Rattle.hs_heap.proofs.Stacks.{same_sym, same_itself}
use Rattle.hs_heap.proofs.Booleans.{bool_cases, clash, false_of_not, not_of_false}
use Rattle.std.proofs.lemmas.Bool.{or_cases}
use Rattle.hs_pure.proofs.Vars.{or_left, or_right}
use Rattle.std.proofs.lemmas.List.Folds.{list_any-append}
use Rattle.hs_rules.proofs.Variables.{only_first, is_in-append}
use Rattle.hs_goal.specs.declared.goal.Goal.{Goal}
use Rattle.hs_goal.specs.Goal.{is_free_in_goal, IsFreshResidue}
use Rattle.hs_pure.specs.Equated.{variable_sum}
use Rattle.hs_goal.specs.Classes.{IsSimple}
use Rattle.hs_rules.specs.Parts.{IsPlace, plain, only, without, in_place, left_atoms, left_pure, right_atoms, right_pure, argument_equation, equations, to_fresh, fresh_variables, opened}
use Rattle.hs_rules.specs.Residues.{joined, binding, all_binding}
use Rattle.hs_rules.specs.Rules.{Judgement}
use Rattle.hs_rules.proofs.Places.{at_place}
use Rattle.hs_rules.proofs.Plain.{simple_is}
use Rattle.hs_rules.proofs.NewNumbers.{to_fresh-out}
use Rattle.hs_heap.proofs.Sources.{stands_source, list_image}
use Rattle.hs_rules.proofs.Rules.Cases.{residues}

-- whether v stands in atoms or is free in conjuncts
abbrev pub stands_in : Var → List Atom → List Pure → Bool
stands_in v atoms ps = list_any (in_atom v) atoms || list_any (is_free v) ps

pub plain-free : (atoms : List Atom) (ps : List Pure) (v : Var) → is_free_in_formula v (plain atoms ps) ≡ stands_in v atoms ps
plain-free atoms ps v = or_none (list_any (in_atom v) atoms || list_any (is_free v) ps)
  where
    or_none : (b : Bool) → (b || false) ≡ b
    or_none true = refl
    or_none false = refl

-- ---- free in a goal

pub used_free : (g : Goal) (v : Var) → IsTrue (list_any (in_atom v) g.used) → IsTrue (is_free_in_goal v g)
used_free g v e = or_left (list_any (in_atom v) g.used) (is_free_in_formula v g.left || is_free_in_formula v g.right) e

pub left_free : (g : Goal) (v : Var) → IsTrue (is_free_in_formula v g.left) → IsTrue (is_free_in_goal v g)
left_free g v e = or_right (list_any (in_atom v) g.used) (is_free_in_formula v g.left || is_free_in_formula v g.right) (or_left (is_free_in_formula v g.left) (is_free_in_formula v g.right) e)

pub right_free : (g : Goal) (v : Var) → IsTrue (is_free_in_formula v g.right) → IsTrue (is_free_in_goal v g)
right_free g v e = or_right (list_any (in_atom v) g.used) (is_free_in_formula v g.left || is_free_in_formula v g.right) (or_right (is_free_in_formula v g.left) (is_free_in_formula v g.right) e)

module _ (g : Goal) (v : Var) where
  pub left_stands : IsSimple g.left → IsTrue (stands_in v (left_atoms g) (left_pure g)) → IsTrue (is_free_in_goal v g)
  left_stands s e = left_free g v (subst (λ (f : Formula). IsTrue (is_free_in_formula v f)) (sym (simple_is g.left s)) (subst IsTrue (sym (plain-free (left_atoms g) (left_pure g) v)) e))

  pub right_stands : IsSimple g.right → IsTrue (stands_in v (right_atoms g) (right_pure g)) → IsTrue (is_free_in_goal v g)
  right_stands s e = right_free g v (subst (λ (f : Formula). IsTrue (is_free_in_formula v f)) (sym (simple_is g.right s)) (subst IsTrue (sym (plain-free (right_atoms g) (right_pure g) v)) e))

  pub left_atom_free : IsSimple g.left → IsTrue (list_any (in_atom v) (left_atoms g)) → IsTrue (is_free_in_goal v g)
  left_atom_free s e = left_stands s (or_left (list_any (in_atom v) (left_atoms g)) (list_any (is_free v) (left_pure g)) e)

  pub left_pure_free : IsSimple g.left → IsTrue (list_any (is_free v) (left_pure g)) → IsTrue (is_free_in_goal v g)
  left_pure_free s e = left_stands s (or_right (list_any (in_atom v) (left_atoms g)) (list_any (is_free v) (left_pure g)) e)

  pub right_atom_free : IsSimple g.right → IsTrue (list_any (in_atom v) (right_atoms g)) → IsTrue (is_free_in_goal v g)
  right_atom_free s e = right_stands s (or_left (list_any (in_atom v) (right_atoms g)) (list_any (is_free v) (right_pure g)) e)

  pub right_pure_free : IsSimple g.right → IsTrue (list_any (is_free v) (right_pure g)) → IsTrue (is_free_in_goal v g)
  right_pure_free s e = right_stands s (or_right (list_any (in_atom v) (right_atoms g)) (list_any (is_free v) (right_pure g)) e)

-- ---- parts of lists

module _ {X : Type 0} (p : X → Bool) where
  pub any_append : (xs ys : List X) → IsTrue (list_any p (xs ++ ys)) → (IsTrue (list_any p xs)) ⊎ (IsTrue (list_any p ys))
  any_append xs ys e = or_cases (list_any p xs) (list_any p ys) (sym (list_any-append p xs ys) ∙ e)

  -- what is at no other place
  pub any_without : (n : ℕ) (xs : List X) (d : X) → IsPlace n xs → IsTrue (list_any p (without n xs)) → IsTrue (list_any p xs)
  any_without n xs d place e = subst (λ ys. IsTrue (list_any p ys)) (sym (at_place n xs d place))
      (sym_append (elim (any_append (take (n - 1) xs) (drop n xs) e) [ inl k ↦ inl k | inr k ↦ inr (or_right (p (get_or xs (n - 1) d)) (list_any p (drop n xs)) k) ]))
    where
      sym_append : (IsTrue (list_any p (take (n - 1) xs))) ⊎ (IsTrue (list_any p (get_or xs (n - 1) d ∷ drop n xs))) → IsTrue (list_any p (take (n - 1) xs ++ get_or xs (n - 1) d ∷ drop n xs))
      sym_append (inl k) = list_any-append p (take (n - 1) xs) (get_or xs (n - 1) d ∷ drop n xs) ∙ or_left (list_any p (take (n - 1) xs)) (list_any p (get_or xs (n - 1) d ∷ drop n xs)) k
      sym_append (inr k) = list_any-append p (take (n - 1) xs) (get_or xs (n - 1) d ∷ drop n xs) ∙ or_right (list_any p (take (n - 1) xs)) (list_any p (get_or xs (n - 1) d ∷ drop n xs)) k

  pub any_at : (n : ℕ) (xs : List X) (d : X) → IsPlace n xs → IsTrue (p (get_or xs (n - 1) d)) → IsTrue (list_any p xs)
  any_at n xs d place e = subst (λ ys. IsTrue (list_any p ys)) (sym (at_place n xs d place))
      (list_any-append p (take (n - 1) xs) (get_or xs (n - 1) d ∷ drop n xs) ∙ or_right (list_any p (take (n - 1) xs)) (list_any p (get_or xs (n - 1) d ∷ drop n xs)) (or_left (p (get_or xs (n - 1) d)) (list_any p (drop n xs)) e))

  -- others in the place of one
  pub any_in_place : (n : ℕ) (ys xs : List X) (d : X) → IsPlace n xs → IsTrue (list_any p (in_place n ys xs)) → (IsTrue (list_any p ys)) ⊎ (IsTrue (list_any p xs))
  any_in_place n ys xs d place e = elim (any_append (take (n - 1) xs ++ ys) (drop n xs) e) [
    | inl k ↦ elim (any_append (take (n - 1) xs) ys k) [
      | inl m ↦ inr (any_without n xs d place (list_any-append p (take (n - 1) xs) (drop n xs) ∙ or_left (list_any p (take (n - 1) xs)) (list_any p (drop n xs)) m))
      | inr m ↦ inl m
    ]
    | inr k ↦ inr (any_without n xs d place (list_any-append p (take (n - 1) xs) (drop n xs) ∙ or_right (list_any p (take (n - 1) xs)) (list_any p (drop n xs)) k))
  ]

-- ---- residues

abbrev BindsAll : ℕ → Disjunct → Type 0
BindsAll n d = All (λ (v : Var). n ≤ v.number) d.bound

All-weaker : {X : Type 0} (P Q : X → Type 0) → ((x : X) → P x → Q x) → (xs : List X) → All P xs → All Q xs
All-weaker P Q f xs h i d less = f (get_or xs i d) (h i d less)

-- with a greater next number and no more variables
pub fresh_from : (g sub : Goal) (r : Formula) → g.next ≤ sub.next → ((v : Var) → IsTrue (is_free_in_goal v sub) → IsTrue (is_free_in_goal v g)) → IsFreshResidue sub r → IsFreshResidue g r
fresh_from g sub r le into f = record {
  bound = All-weaker (BindsAll sub.next) (BindsAll g.next) (λ d h. All-weaker (λ (v : Var). sub.next ≤ v.number) (λ (v : Var). g.next ≤ v.number) (λ v k. omega arith) d.bound h) r.cases f.bound;
  free = λ v e. into v (f.free v e);
}

free_joined : (rs : List Formula) (v : Var) → IsTrue (is_free_in_formula v (joined rs)) → IsTrue (list_any (is_free_in_formula v) rs)
free_joined [] v e = e
free_joined (r ∷ rs) v e = elim (any_append (is_free_in_disjunct v) r.cases (joined rs).cases e) [
  | inl k ↦ or_left (is_free_in_formula v r) (list_any (is_free_in_formula v) rs) k
  | inr k ↦ or_right (is_free_in_formula v r) (list_any (is_free_in_formula v) rs) (free_joined rs v k)
]

-- all premises' residues are fresh for the goal
pub joined_fresh : (g : Goal) (ps : List Judgement) → AllByRecursion (λ (p : Judgement). IsFreshResidue g p.residue) ps → IsFreshResidue g (joined (residues ps))
joined_fresh g ps f = record { bound = bounds ps f; free = λ v e. frees ps f v (free_joined (residues ps) v e) }
  where
    bounds : (ps : List Judgement) → AllByRecursion (λ (p : Judgement). IsFreshResidue g p.residue) ps → All (BindsAll g.next) (joined (residues ps)).cases
    bounds [] f = All-nil (BindsAll g.next)
    bounds (p ∷ ps) (e, f) = All-append (BindsAll g.next) p.residue.cases (joined (residues ps)).cases e.bound (bounds ps f)

    frees : (ps : List Judgement) → AllByRecursion (λ (p : Judgement). IsFreshResidue g p.residue) ps → (v : Var) → IsTrue (list_any (is_free_in_formula v) (residues ps)) → IsTrue (is_free_in_goal v g)
    frees [] f v e = absurd cc
    frees (p ∷ ps) (d, f) v e = elim (or_cases (is_free_in_formula v p.residue) (list_any (is_free_in_formula v) (residues ps)) e) [ inl k ↦ d.free v k | inr k ↦ frees ps f v k ]

-- more binders
free_binding : (vs : List Var) (ds : List Disjunct) (v : Var) → IsTrue (list_any (is_free_in_disjunct v) (map (binding vs) ds)) → (is_in v vs ≡ false) × IsTrue (list_any (is_free_in_disjunct v) ds)
free_binding vs [] v e = absurd cc
free_binding vs (d ∷ ds) v e = elim (or_cases (is_free_in_disjunct v (binding vs d)) (list_any (is_free_in_disjunct v) (map (binding vs) ds)) e) [
  | inl k ↦
      let parts = and_parts (not (is_in v (vs ++ d.bound))) (list_any (in_atom v) d.atoms || list_any (is_free v) d.pure) k in
      let out : is_in v (vs ++ d.bound) ≡ false = false_of_not parts.0 in
      let outs : (is_in v vs || is_in v d.bound) ≡ false = sym (is_in-append v vs d.bound) ∙ out in (
        left_out (is_in v vs) (is_in v d.bound) outs,
        or_left (is_free_in_disjunct v d) (list_any (is_free_in_disjunct v) ds) (and_from (not (is_in v d.bound)) (list_any (in_atom v) d.atoms || list_any (is_free v) d.pure) (not_of_false (right_out (is_in v vs) (is_in v d.bound) outs)) parts.1),
      )
  | inr k ↦ let r = free_binding vs ds v k in (r.0, or_right (is_free_in_disjunct v d) (list_any (is_free_in_disjunct v) ds) r.1)
]
  where
    left_out : (a b : Bool) → (a || b) ≡ false → a ≡ false
    left_out false b e = refl
    left_out true b e = e

    right_out : (a b : Bool) → (a || b) ≡ false → b ≡ false
    right_out false b e = e
    right_out true b e = absurd cc

listed_all : (P : Var → Type 0) (vs : List Var) → ((v : Var) → is_in v vs ≡ true → P v) → All P vs
listed_all P [] f = All-nil P
listed_all P (w ∷ ws) f = All-cons P w ws (f w (or_left (same w w) (is_in w ws) (same_itself w))) (listed_all P ws (λ v i. f v (or_right (same v w) (is_in v ws) i)))

-- what was opened is bound again
pub binding_fresh : (g sub : Goal) (vs : List Var) (r : Formula) → g.next ≤ sub.next → ((v : Var) → is_in v vs ≡ true → g.next ≤ v.number) →
    ((v : Var) → is_in v vs ≡ false → IsTrue (is_free_in_goal v sub) → IsTrue (is_free_in_goal v g)) → IsFreshResidue sub r → IsFreshResidue g (all_binding vs r)
binding_fresh g sub vs r le high into f = record {
  bound = bounds r.cases (All-weaker (BindsAll sub.next) (BindsAll g.next) (λ d h. All-weaker (λ (v : Var). sub.next ≤ v.number) (λ (v : Var). g.next ≤ v.number) (λ v k. omega arith) d.bound h) r.cases f.bound);
  free = λ v e. let k = free_binding vs r.cases v e in into v k.0 (f.free v k.1);
}
  where
    bounds : (ds : List Disjunct) → All (BindsAll g.next) ds → All (BindsAll g.next) (map (binding vs) ds)
    bounds [] h = All-nil (BindsAll g.next)
    bounds (d ∷ ds) h = All-cons (BindsAll g.next) (binding vs d) (map (binding vs) ds)
        (All-append (λ (v : Var). g.next ≤ v.number) vs d.bound (listed_all (λ (v : Var). g.next ≤ v.number) vs high) (All-head (BindsAll g.next) d ds h)) (bounds ds (All-tail (BindsAll g.next) d ds h))

-- ---- what is free in the subgoals' parts

-- of an opened disjunct
pub opened_free : (d : Disjunct) (n : ℕ) (v : Var) → is_in v (fresh_variables d n) ≡ false → IsTrue (is_free_in_formula v (only (opened d n))) → IsTrue (is_free_in_formula v (only d))
opened_free d n v out e =
    let s = stands_source (to_fresh d.bound n) d v (plain_stands (opened d n).atoms (opened d n).pure e) in
    let unbound : is_in s.0 d.bound ≡ false = elim (bool_cases (is_in s.0 d.bound)) [
      | inl is ↦ clash (subst (λ u. is_in u (fresh_variables d n) ≡ true) (sym s.2) (list_image (to_fresh d.bound n) d.bound s.0 is)) out
      | inr isnt ↦ isnt
    ] in
    let is_same : v ≡ s.0 = s.2 ∙ to_fresh-out d.bound n s.0 unbound in
    subst (λ u. IsTrue (is_free_in_formula u (only d))) (sym is_same)
    (or_left (is_free_in_disjunct s.0 d) false (and_from (not (is_in s.0 d.bound)) (list_any (in_atom s.0) d.atoms || list_any (is_free s.0) d.pure) (not_of_false unbound) s.1))
  where
    plain_stands : (atoms : List Atom) (ps : List Pure) → IsTrue (is_free_in_formula v (plain atoms ps)) → IsTrue (stands_in v atoms ps)
    plain_stands atoms ps k = sym (plain-free atoms ps v) ∙ k

-- of the equations of arguments
pub argument_equation-free : (a b v : Var) → IsTrue (is_free v (argument_equation a b)) → (same v a ≡ true) ⊎ (same v b ≡ true)
argument_equation-free a b v e = elim (bool_cases a.bag) [
  | inl bag ↦
      let f : is_free v (argument_equation a b) ≡ is_free v (pure_of.BagEq (bag_of.Name a) (bag_of.Name b)) = rw bag refl in
      let g = sym (fold-BagEq (is_free_level v) (bag_of.Name a) (bag_of.Name b)) ∙ sym f ∙ e in
      elim (or_cases (in_bag v (bag_of.Name a)) (in_bag v (bag_of.Name b)) g) [
        | inl k ↦ inl (sym (same_sym a v) ∙ sym (fold_bag-Name (in_bag_level v) a) ∙ k)
        | inr k ↦ inr (sym (same_sym b v) ∙ sym (fold_bag-Name (in_bag_level v) b) ∙ k)
      ]
  | inr number ↦
      let f : is_free v (argument_equation a b) ≡ is_free v (pure_of.Eq (variable_sum a) (variable_sum b)) = rw number refl in
      let g = sym (fold-Eq (is_free_level v) (variable_sum a) (variable_sum b)) ∙ sym f ∙ e in
      elim (or_cases (same a v || false) (same b v || false) g) [
        | inl k ↦ inl (sym (same_sym a v) ∙ only_first (same a v) k)
        | inr k ↦ inr (sym (same_sym b v) ∙ only_first (same b v) k)
      ]
]

pub equations-free : (vs ws : List Var) (v : Var) → IsTrue (list_any (is_free v) (equations vs ws)) → (is_in v vs ≡ true) ⊎ (is_in v ws ≡ true)
equations-free [] ws v e = absurd cc
equations-free (a ∷ vs) [] v e = absurd cc
equations-free (a ∷ vs) (b ∷ ws) v e = elim (or_cases (is_free v (argument_equation a b)) (list_any (is_free v) (equations vs ws)) e) [
  | inl k ↦ elim (argument_equation-free a b v k) [ inl m ↦ inl (or_left (same v a) (is_in v vs) m) | inr m ↦ inr (or_left (same v b) (is_in v ws) m) ]
  | inr k ↦ elim (equations-free vs ws v k) [ inl m ↦ inl (or_right (same v a) (is_in v vs) m) | inr m ↦ inr (or_right (same v b) (is_in v ws) m) ]
]
