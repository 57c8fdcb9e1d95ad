-- The weight of a goal falls at each rule that is tried and is not paid.
use Rattle.std.proofs.Common.{◌≡◌, ℕ, zero, suc, ◌+◌, ◌-◌, ◌*◌, ◌<◌, ◌≤◌, ℤ, pos, negsuc, ◌-ℤ◌, ◌⊎◌, Bool, false, not, ◌||◌, inl, inr, IsTrue, List, [], ◌∷◌, length, get_or, take, drop, filter, refl, sym, ap, ◌∙◌, subst, arith}
use Rattle.std.specs.List.{All, list_any}
use Rattle.std.proofs.lemmas.Bool.{or_cases}
use Rattle.std.proofs.lemmas.List.{length-append, length-map, length-take, length-drop}
use Rattle.std.proofs.lemmas.List.Elements.{All-nil, All-cons, All-map}
use Rattle.hs_pure.specs.declared.var.Var.{Var}
use Rattle.hs_pure.specs.declared.lin.Lin.{Lin}
use Rattle.hs_pure.specs.declared.bag.Bag.TheVariants as bag_of
use Rattle.hs_pure.specs.declared.pure.Pure.{Pure}
use Rattle.hs_pure.specs.Stack.{same}
use Rattle.hs_pure.specs.Occurs.{in_lin, in_bag, in_bag_level, is_free, is_free_level}
use Rattle.hs_pure.proofs.Vars.{or_left, or_right}
use Rattle.hs_pure.proofs.Views.{fold-Eq, fold-BagEq, fold_bag-Name}
use Rattle.hs_heap.specs.declared.formula.Atom.{Atom}
use Rattle.hs_heap.specs.declared.formula.Disjunct.{Disjunct}
use Rattle.hs_heap.specs.declared.formula.Formula.{Formula}
use Rattle.hs_heap.specs.declared.definitions.Defs.{Defs}
use Rattle.hs_heap.specs.Meaning.{is_in}
use Rattle.hs_heap.proofs.Booleans.{bool_cases, or_false_left, or_false_right}
use Rattle.hs_heap.proofs.Stacks.{same_true, same_itself}
use Rattle.hs_goal.specs.declared.goal.Goal.{Goal}
use Rattle.hs_goal.specs.declared.rule.ERule.{ERule}
use Rattle.hs_goal.specs.Classes.{nothing, the_case, IsSimple}
use Rattle.hs_rules.specs.Parts.{IsPlace, only, plain, without, conjunct_at, right_atoms, right_pure, to_fresh, fresh_variables, opened, equations}
use Rattle.hs_rules.specs.Conditions.{coefficient_in, coefficient, IsEquationFor, BindsOnly, CanTakeCase, CanInstantiate, CanMatch}
use Rattle.hs_rules.specs.Subgoals.{one_each, left_opened, right_opened, with_right_case, instantiated_by, matched, subgoals_of}
use Rattle.hs_rules.proofs.Plain.{only_case, simple_is}
use Rattle.hs_side_rules.specs.Solving.{EquationsAreTold}
use Rattle.hs_choices.specs.Choices.{is_paid}
use Rattle.hs_choices.specs.Weight.{left_weight, right_weight, total, weight}
use Rattle.hs_choices.specs.Laws.{ChoicesFall}
use Rattle.hs_choices.proofs.Tried.{ForEach, each_choice}

-- ---- sums of weights

-- each disjunct has a weight
abbrev Counts : (Disjunct → ℕ) → Type 0
Counts w = (d : Disjunct) → 1 ≤ w d

total_length : (w : Disjunct → ℕ) → Counts w → (ds : List Disjunct) → length ds ≤ total w ds
total_length w counts [] = omega arith
total_length w counts (d ∷ ds) =
    let first : 1 ≤ w d = counts d in
    let rest : length ds ≤ total w ds = total_length w counts ds in
    omega arith

total_others : (w : Disjunct → ℕ) → Counts w → (ds : List Disjunct) (i : ℕ) (z : Disjunct) → i < length ds → w (get_or ds i z) + length ds ≤ total w ds + 1
total_others w counts [] i z less = absurd (omega arith)
total_others w counts (d ∷ ds) zero z less = let rest : length ds ≤ total w ds = total_length w counts ds in omega arith
total_others w counts (d ∷ ds) (suc i) z less =
    let first : 1 ≤ w d = counts d in
    let rest : w (get_or ds i z) + length ds ≤ total w ds + 1 = total_others w counts ds i z (omega arith) in
    omega arith

-- one of several disjuncts weighs less than all
one_lighter : (w : Disjunct → ℕ) → Counts w → (ds : List Disjunct) (i : ℕ) (z : Disjunct) → i < length ds → ¬ (length ds ≡ 1) → total w (get_or ds i z ∷ []) < total w ds
one_lighter w counts ds i z less several =
    let others = total_others w counts ds i z less in
    let two : 2 ≤ length ds = omega arith in
    omega arith

left_counts : Counts left_weight
left_counts d = omega arith

right_counts : Counts right_weight
right_counts d = omega arith

-- ---- variables that an equation takes away

filter_shorter : (p : Var → Bool) (vs : List Var) → length (filter p vs) ≤ length vs
filter_shorter p [] = omega arith
filter_shorter p (v ∷ vs) =
    let rest : length (filter p vs) ≤ length vs = filter_shorter p vs in
    elim (bool_cases (p v)) [ inl is ↦ rw is (omega arith) | inr isnt ↦ rw isnt (omega arith) ]

-- a variable that does not pass is gone
one_gone : (p : Var → Bool) (v : Var) (vs : List Var) → IsTrue (is_in v vs) → p v ≡ false → length (filter p vs) < length vs
one_gone p v [] i e = absurd cc
one_gone p v (w ∷ ws) i e = elim (or_cases (same v w) (is_in v ws) i) [
  | inl here ↦
      let gone : p w ≡ false = subst (λ u. p u ≡ false) (same_true v w here) e in
      let rest : length (filter p ws) ≤ length ws = filter_shorter p ws in
      rw gone (omega arith)
  | inr later ↦
      let rest : length (filter p ws) < length ws = one_gone p v ws later e in
      elim (bool_cases (p w)) [ inl is ↦ rw is (omega arith) | inr isnt ↦ rw isnt (omega arith) ]
]

absent : (v : Var) (ts : List (Var × ℤ)) → list_any (λ t. same t.0 v) ts ≡ false → coefficient_in v ts ≡ pos 0
absent v [] e = refl
absent v (t ∷ ts) e = rw (or_false_left (same t.0 v) (list_any (λ u. same u.0 v) ts) e) (absent v ts (or_false_right (same t.0 v) (list_any (λ u. same u.0 v) ts) e))

-- a variable with a coefficient occurs
unit_occurs : (a b : Lin) (v : Var) → (coefficient v a -ℤ coefficient v b ≡ pos 1) ⊎ (coefficient v a -ℤ coefficient v b ≡ negsuc 0) → IsTrue (in_lin v a || in_lin v b)
unit_occurs a b v unit = elim (bool_cases (in_lin v a || in_lin v b)) [
  | inl is ↦ is
  | inr isnt ↦
      let x : coefficient v a ≡ pos 0 = absent v a.terms (or_false_left (in_lin v a) (in_lin v b) isnt) in
      let y : coefficient v b ≡ pos 0 = absent v b.terms (or_false_right (in_lin v a) (in_lin v b) isnt) in
      let none : coefficient v a -ℤ coefficient v b ≡ pos 0 = (λ i. x i -ℤ y i) in
      elim unit [ inl e ↦ let f : pos 0 ≡ pos 1 = sym none ∙ e in absurd cc | inr e ↦ let f : pos 0 ≡ negsuc 0 = sym none ∙ e in absurd cc ]
]

-- the variable of an equation is open and occurs free in it
equation_variable : (opens : List Var) (v : Var) (p : Pure) → IsEquationFor opens v p → IsTrue (is_in v opens) × IsTrue (is_free v p)
equation_variable opens v p (inl e) = (e.open_there, ap (is_free v) e.is ∙ fold-Eq (is_free_level v) e.a e.b ∙ unit_occurs e.a e.b v e.unit)
equation_variable opens v p (inr e) =
    let itself : IsTrue (in_bag v (bag_of.Name v)) = fold_bag-Name (in_bag_level v) v ∙ same_itself v in (
      e.open_there,
      elim e.is [
        | inl is ↦ ap (is_free v) is ∙ fold-BagEq (is_free_level v) (bag_of.Name v) e.other ∙ or_left (in_bag v (bag_of.Name v)) (in_bag v e.other) itself
        | inr is ↦ ap (is_free v) is ∙ fold-BagEq (is_free_level v) e.other (bag_of.Name v) ∙ or_right (in_bag v e.other) (in_bag v (bag_of.Name v)) itself
      ],
    )

-- ---- simple sides

simple_left : (f : Formula) → IsSimple f → total left_weight f.cases ≡ 1
simple_left f s = subst (λ (k : Formula). total left_weight k.cases ≡ 1) (sym (simple_is f s)) refl

simple_right : (f : Formula) → IsSimple f → total right_weight f.cases ≡ 1 + length (the_case f).atoms
simple_right f s = subst (λ (k : Formula). total right_weight k.cases ≡ 1 + length (the_case f).atoms) (sym (simple_is f s)) (plain_right (the_case f).atoms (the_case f).pure)
  where
    plain_right : (atoms : List Atom) (ps : List Pure) → total right_weight (plain atoms ps).cases ≡ 1 + length atoms
    plain_right atoms ps = omega arith

without_shorter : (n : ℕ) (atoms : List Atom) → IsPlace n atoms → length (without n atoms) + 1 ≡ length atoms
without_shorter n atoms p =
    let from = p.0 in
    let to = p.1 in
    let both = length-append (take (n - 1) atoms) (drop n atoms) in
    let before = length-take (n - 1) atoms in
    let after = length-drop n atoms in
    omega arith

-- ---- rule by rule

module _ (defs : Defs) (g : Goal) where
  abbrev Lighter : Goal → Type 0
  Lighter sub = weight sub < weight g

  one_sub : (sub : Goal) → Lighter sub → All Lighter (sub ∷ [])
  one_sub sub less = All-cons Lighter sub [] less (All-nil Lighter)

  left_or : ¬ (length g.left.cases ≡ 1) → All Lighter (one_each g g.left.cases)
  left_or several = All-map Lighter (λ d. record g { left = only d; looked = false }) g.left.cases (λ i z less.
      let lighter = one_lighter left_weight left_counts g.left.cases i z less several in omega arith)

  bound_some : (f : Formula) → BindsOnly f → 0 < length (the_case f).bound
  bound_some f b = go (the_case f).bound b.binds
    where
      go : (vs : List Var) → ¬ (vs ≡ []) → 0 < length vs
      go [] none = absurd (none refl)
      go (v ∷ vs) none = omega arith

  left_exists : BindsOnly g.left → Lighter (left_opened g (the_case g.left))
  left_exists b =
      let is : total left_weight g.left.cases ≡ 1 + length (the_case g.left).bound + 0 = subst (λ (k : Formula). total left_weight k.cases ≡ 1 + length (the_case g.left).bound + 0) (sym (only_case g.left b.one)) refl in
      let some = bound_some g.left b in
      omega arith

  right_or : (i : ℕ) → CanTakeCase g i → Lighter (with_right_case g i)
  right_or i can =
      let from = can.place.0 in
      let to = can.place.1 in
      let several = can.several in
      let lighter = one_lighter right_weight right_counts g.right.cases (i - 1) nothing (omega arith) (λ e. omega arith) in
      omega arith

  right_exists : BindsOnly g.right → Lighter (right_opened g (the_case g.right))
  right_exists b =
      let d = the_case g.right in
      let is : total right_weight g.right.cases ≡ 1 + 2 * length d.bound + length d.atoms + 0 =
      subst (λ (k : Formula). total right_weight k.cases ≡ 1 + 2 * length d.bound + length d.atoms + 0) (sym (only_case g.right b.one)) refl in
      let some = bound_some g.right b in
      let fresh = length-map d.bound (to_fresh d.bound g.next) in
      let longer = length-append g.opens (fresh_variables d g.next) in
      let atoms : length (opened d g.next).atoms ≡ length d.atoms = length-map d.atoms _ in
      omega arith

  instantiated : (c : ℕ) → CanInstantiate g c → Lighter (instantiated_by g c)
  instantiated c can =
      let p = conjunct_at c (right_pure g) in
      let left = simple_left g.left can.left in
      let right = simple_right g.right can.right in
      let v = equation_variable g.opens can.variable p can.equation in
      let gone = one_gone (λ w. not (is_free w p)) can.variable g.opens v.0 (rw v.1 refl) in
      omega arith

  matched_atoms : (r l : ℕ) → CanMatch g r l → Lighter (matched g r l)
  matched_atoms r l can =
      let left = simple_left g.left can.left in
      let right = simple_right g.right can.right in
      let shorter = without_shorter r (right_atoms g) can.right_place in
      omega arith

  abbrev Falls : ERule → Type 0
  Falls rule = is_paid rule ≡ false → All Lighter (subgoals_of defs g rule)

  falls : (level : ℕ) → ForEach defs level g Falls
  falls level = record {
    left_or = λ h e. left_or h;
    left_exists = λ h e. one_sub (left_opened g (the_case g.left)) (left_exists h);
    contradiction = λ h fresh e. All-nil Lighter;
    right_or = λ i h e. one_sub (with_right_case g i) (right_or i h);
    right_exists = λ h e. one_sub (right_opened g (the_case g.right)) (right_exists h);
    instantiated = λ c h e. one_sub (instantiated_by g c) (instantiated c h);
    matched = λ r l h e. one_sub (matched g r l) (matched_atoms r l h);
    unfolded = λ l h e. absurd cc;
    folded = λ r i h e. absurd cc;
    by_lemma = λ j l h e. absurd cc;
    without_atoms = λ left right none bags alone e. All-nil Lighter;
  }

pub choices_are_lighter : EquationsAreTold → ChoicesFall
choices_are_lighter equations defs level g = each_choice equations defs level g (Falls defs g) (falls defs g level)
