-- What holds of all conjuncts of a goal and of its approximation holds of both sides of its question.
use Rattle.std.proofs.Common.{◌≡◌, ℕ, ◌+◌, ◌^◌, ◌<◌, ◌≤◌, Bool, true, false, not, ◌||◌, ◌&&◌, cond, IsTrue, ◌⊎◌, inl, inr, List, [], ◌∷◌, ◌++◌, map, filter, get_or, nat_le, refl, sym, ap, ◌∙◌, subst, arith}
use Rattle.std.specs.List.{All, AllByRecursion, list_any, flat_map}
use Rattle.std.proofs.lemmas.List.Elements.{All-nil, All-head, All-tail, All-append, All-weaker}
use Rattle.std.proofs.lemmas.Bool.{or_cases}
use Rattle.hs_pure.specs.declared.var.Var.{Var}
use Rattle.hs_pure.specs.declared.pure.Pure.{Pure}
use Rattle.hs_pure.specs.declared.pure.Pure.TheVariants as pure_of
use Rattle.hs_pure.specs.Stack.{same}
use Rattle.hs_pure.specs.Occurs.{BagUse, bag_use, bag_use_level, has_bags, is_bags_plain, occurs, occurs_level, is_free}
use Rattle.hs_pure.specs.Rename.{sums, sums_level}
use Rattle.hs_pure.specs.Sums.{LinIsOrdered, IsOrdered}
use Rattle.hs_pure.proofs.Vars.{or_left, or_right}
use Rattle.hs_pure.proofs.Lists.{list_any-map}
use Rattle.hs_pure.proofs.Views.{fold-Exists, fold-And, fold-Or}
use Rattle.hs_heap.specs.declared.formula.Disjunct.{Disjunct}
use Rattle.hs_heap.specs.declared.formula.Formula.{Formula}
use Rattle.hs_heap.specs.declared.definitions.Defs.{Defs}
use Rattle.hs_heap.specs.Meaning.{is_in}
use Rattle.hs_heap.specs.Variables.{in_atom}
use Rattle.hs_heap.specs.WellFormed.{IsProper}
use Rattle.hs_heap.specs.Sound.{IsSound}
use Rattle.hs_heap.proofs.Booleans.{bool_cases}
use Rattle.hs_heap.proofs.Stacks.{same_itself, same_true}
use Rattle.hs_goal.specs.declared.goal.Goal.{Goal}
use Rattle.hs_goal.specs.declared.rule.ERule.{ERule}
use Rattle.hs_goal.specs.declared.rule.ERule.TheVariants as rule_of
use Rattle.hs_goal.specs.Classes.{nothing}
use Rattle.hs_goal.specs.Shape.{SideFits, CaseFits, GoalFits}
use Rattle.hs_xpure.specs.Approximation.{conjunction, approximation_of, next_of}
use Rattle.hs_xpure.specs.Laws.{CanBeAsked, HasLowNumbers, IsInAtoms, IsBetween, NewNumbersAreInRange, ApproximationIsOrdered, ApproximationIsPlain}
use Rattle.hs_rules.specs.Parts.{left_atoms, left_pure, right_pure, has_open}
use Rattle.hs_rules.specs.Conditions.{HasCondition, CanBeEmpty}
use Rattle.hs_rules.specs.Questions.{known, asked, put_in_order, in_order, for_some, closed_of, others_of, open_in, for_open, question_of}
use Rattle.hs_question.specs.Asked.{SidesCanBeAsked}
use Rattle.hs_question.proofs.Known.{known_fit}

module _ {A : Type 0} (test : A → Bool) where
  filter-yes : (p : A) (ps : List A) → test p ≡ true → filter test (p ∷ ps) ≡ p ∷ filter test ps
  filter-yes p ps e = rw e refl

  filter-no : (p : A) (ps : List A) → test p ≡ false → filter test (p ∷ ps) ≡ filter test ps
  filter-no p ps e = rw e refl

  -- of the items that are kept
  each_filter : {P Q : A → Type 0} (ps : List A) → ((p : A) → test p ≡ true → P p → Q p) → AllByRecursion P ps → AllByRecursion Q (filter test ps)
  each_filter [] h f = tt
  each_filter {P} {Q} (p ∷ ps) h (f, fs) = elim (bool_cases (test p)) [
    | inl yes' ↦ subst (AllByRecursion Q) (sym (filter-yes p ps yes')) (h p yes' f, each_filter ps h fs)
    | inr no' ↦ subst (AllByRecursion Q) (sym (filter-no p ps no')) (each_filter ps h fs)
  ]

each_append : {A : Type 0} (P : A → Type 0) (ps qs : List A) → AllByRecursion P ps → AllByRecursion P qs → AllByRecursion P (ps ++ qs)
each_append P [] qs f g = g
each_append P (p ∷ ps) qs (f, fs) g = (f, each_append P ps qs fs g)

each : {A : Type 0} (P : A → Type 0) (ps : List A) → All P ps → AllByRecursion P ps
each P [] f = tt
each P (p ∷ ps) f = (All-head P p ps f, each P ps (All-tail P p ps f))

first_each : (P : Pure → Type 0) (ds : List Disjunct) → All (λ (d : Disjunct). All P d.pure) ds → AllByRecursion P (get_or ds 0 nothing).pure
first_each P [] f = tt
first_each P (d ∷ ds) f = each P d.pure (All-head (λ (c : Disjunct). All P c.pure) d ds f)

-- ---- variables in order

module _ (V : Var → Type 0) where
  each_put : (v : Var) (vs : List Var) → V v → AllByRecursion V vs → AllByRecursion V (put_in_order v vs)
  each_put v [] f fs = (f, tt)
  each_put v (w ∷ ws) f (g, gs) = by_test (each_put v ws f gs) (nat_le v.number w.number)
    where
      by_test : AllByRecursion V (put_in_order v ws) → (b : Bool) → AllByRecursion V (cond b (v ∷ w ∷ ws) (w ∷ put_in_order v ws))
      by_test ih true = (f, (g, gs))
      by_test ih false = (g, ih)

  each_in_order : (vs : List Var) → AllByRecursion V vs → AllByRecursion V (in_order vs)
  each_in_order [] f = tt
  each_in_order (v ∷ vs) (f, fs) = each_put v (in_order vs) f (each_in_order vs fs)

  each_listed : (vs : List Var) → ((v : Var) → IsTrue (is_in v vs) → V v) → AllByRecursion V vs
  each_listed [] f = tt
  each_listed (u ∷ us) f = (f u (or_left (same u u) (is_in u us) (same_itself u)), each_listed us (λ v k. f v (or_right (same v u) (is_in v us) k)))

-- what holds of all members holds of a conjunction
abbrev IsOfAll : (Pure → Type 0) → Type 0
IsOfAll P = (ps : List Pure) → AllByRecursion P ps → P (pure_of.And ps)

module _ (P : Pure → Type 0) (all : IsOfAll P) where
  pub conjunction_holds : (ps : List Pure) → AllByRecursion P ps → P (conjunction ps)
  conjunction_holds [] f = all [] f
  conjunction_holds (p ∷ []) f = f.0
  conjunction_holds (p ∷ q ∷ ps) f = all (p ∷ q ∷ ps) f

  known_holds : (defs : Defs) (g : Goal) (level : ℕ) → All P (approximation_of defs level (g.used ++ left_atoms g) g.next) → All (λ (d : Disjunct). All P d.pure) g.left.cases → P (known defs g level)
  known_holds defs g level a f =
      let atoms = approximation_of defs level (g.used ++ left_atoms g) g.next in
      conjunction_holds (atoms ++ left_pure g) (each_append P atoms (left_pure g) (each P atoms a) (first_each P g.left.cases f))

  -- Q is kept by binding variables of V
  module _ (Q : Pure → Type 0) (all_of_Q : IsOfAll Q) (V : Var → Type 0) (exists : (v : Var) (p : Pure) → V v → Q p → Q (pure_of.Exists v p)) (weaker : (p : Pure) → Q p → P p) where
    for_some_holds : (vs : List Var) (p : Pure) → AllByRecursion V vs → Q p → Q (for_some vs p)
    for_some_holds [] p low h = h
    for_some_holds (v ∷ vs) p (low, lows) h = exists v (for_some vs p) low (for_some_holds vs p lows h)

    q_conjunction : (ps : List Pure) → AllByRecursion Q ps → Q (conjunction ps)
    q_conjunction [] f = all_of_Q [] f
    q_conjunction (p ∷ []) f = f.0
    q_conjunction (p ∷ q ∷ ps) f = all_of_Q (p ∷ q ∷ ps) f

    for_open_each : (opens : List Var) (ps : List Pure) → AllByRecursion V opens → AllByRecursion Q ps → AllByRecursion P (for_open opens ps)
    for_open_each opens [] low f = tt
    for_open_each opens (p ∷ ps) low f =
        let vs = open_in opens (p ∷ ps) in (
          weaker (for_some (in_order vs) (conjunction (p ∷ ps)))
              (for_some_holds (in_order vs) (conjunction (p ∷ ps)) (each_in_order V vs (each_filter (λ v. list_any (is_free v) (p ∷ ps)) opens (λ v e l. l) low)) (q_conjunction (p ∷ ps) f)),
          tt,
        )

    asked_holds : (g : Goal) → AllByRecursion V g.opens → AllByRecursion P (right_pure g) → AllByRecursion Q (others_of g.opens (right_pure g)) → P (asked g)
    asked_holds g low right others =
        conjunction_holds (closed_of g.opens (right_pure g) ++ for_open g.opens (others_of g.opens (right_pure g)))
        (each_append P (closed_of g.opens (right_pure g)) (for_open g.opens (others_of g.opens (right_pure g)))
        (each_filter (λ p. not (has_open g.opens p)) (right_pure g) (λ p e f. f) right)
        (for_open_each g.opens (others_of g.opens (right_pure g)) low others))

-- ---- sums in order

flat : (ps : List Pure) → AllByRecursion IsOrdered ps → All LinIsOrdered (flat_map (λ ls. ls) (map sums ps))
flat [] f = All-nil LinIsOrdered
flat (p ∷ ps) (f, fs) = All-append LinIsOrdered (sums p) (flat_map (λ ls. ls) (map sums ps)) f (flat ps fs)

ordered-And : IsOfAll IsOrdered
ordered-And ps f = subst (All LinIsOrdered) (sym (fold-And sums_level ps)) (flat ps f)

ordered-Exists : (v : Var) (p : Pure) → Unit {0} → IsOrdered p → IsOrdered (pure_of.Exists v p)
ordered-Exists v p t f = subst (All LinIsOrdered) (sym (fold-Exists sums_level v p)) f

ordered-false : IsOrdered (pure_of.Or [])
ordered-false = subst (All LinIsOrdered) (sym (fold-Or sums_level [])) (All-nil LinIsOrdered)

-- ---- bag literals under no quantifier

abbrev IsPlain : Pure → Type 0
IsPlain p = IsTrue (is_bags_plain p)

-- without bag literals, as far as both parts of the definition say
abbrev IsBare : Pure → Type 0
IsBare p = IsPlain p × (has_bags p ≡ false)

not_under : (p : Pure) → IsPlain p → (bag_use p).under ≡ false
not_under p h = grind arith

plain_of : (p : Pure) → (bag_use p).under ≡ false → IsPlain p
plain_of p e = subst (λ b. IsTrue (not b)) (sym e) refl

none_under : (ps : List Pure) → AllByRecursion IsPlain ps → list_any (λ (u : BagUse). u.under) (map bag_use ps) ≡ false
none_under [] f = refl
none_under (p ∷ ps) (f, fs) = let d = not_under p f in let e = none_under ps fs in grind arith

none_has : (ps : List Pure) → AllByRecursion IsBare ps → list_any (λ (u : BagUse). u.has) (map bag_use ps) ≡ false
none_has [] f = refl
none_has (p ∷ ps) (f, fs) = let d = f.1 in let e = none_has ps fs in grind arith

plain_parts : (ps : List Pure) → AllByRecursion IsBare ps → AllByRecursion IsPlain ps
plain_parts [] f = tt
plain_parts (p ∷ ps) (f, fs) = (f.0, plain_parts ps fs)

plain-And : IsOfAll IsPlain
plain-And ps f = plain_of (pure_of.And ps) (ap (λ (u : BagUse). u.under) (fold-And bag_use_level ps) ∙ none_under ps f)

bare-And : IsOfAll IsBare
bare-And ps f = (plain-And ps (plain_parts ps f), ap (λ (u : BagUse). u.has) (fold-And bag_use_level ps) ∙ none_has ps f)

bare-Exists : (v : Var) (p : Pure) → Unit {0} → IsBare p → IsBare (pure_of.Exists v p)
bare-Exists v p t f = (
  plain_of (pure_of.Exists v p) (ap (λ (u : BagUse). u.under) (fold-Exists bag_use_level v p) ∙ f.1),
  ap (λ (u : BagUse). u.has) (fold-Exists bag_use_level v p) ∙ f.1,
)

plain-false : IsPlain (pure_of.Or [])
plain-false = plain_of (pure_of.Or []) (ap (λ (u : BagUse). u.under) (fold-Or bag_use_level []))

-- a conjunct with an open variable has no bag literal
mixed_not : (a b : Bool) → (a && b) ≡ false → a ≡ true → b ≡ false
mixed_not true b e f = e
mixed_not false b e f = absurd cc

both_each : (P Q : Pure → Type 0) (ps : List Pure) → AllByRecursion P ps → AllByRecursion Q ps → AllByRecursion (λ p. P p × Q p) ps
both_each P Q [] f g = tt
both_each P Q (p ∷ ps) (f, fs) (g, gs) = ((f, g), both_each P Q ps fs gs)

bare_others : (g : Goal) (n : ℕ) → CanBeEmpty g n → AllByRecursion IsPlain (right_pure g) → AllByRecursion IsBare (others_of g.opens (right_pure g))
bare_others g n can plain =
    let unmixed : Pure → Type 0 = λ p. (has_open g.opens p && has_bags p) ≡ false in
    each_filter (has_open g.opens) (right_pure g) (λ p e f. (f.0, mixed_not (has_open g.opens p) (has_bags p) f.1 e)) (both_each IsPlain unmixed (right_pure g) plain (each unmixed (right_pure g) can.bags))

side_proper : (P : Pure → Type 0) → ((p : Pure) → IsProper p → P p) → (defs : Defs) (next : ℕ) (f : Formula) → SideFits defs next f → All (λ (d : Disjunct). All P d.pure) f.cases
side_proper P proper defs next f fits = All-weaker (CaseFits defs next) (λ (d : Disjunct). All P d.pure) (λ d c. All-weaker IsProper P proper d.pure c.pure) f.cases fits

units : (vs : List Var) → AllByRecursion (λ (v : Var). Unit {0}) vs
units [] = tt
units (v ∷ vs) = (tt, units vs)

module _ (ordered : ApproximationIsOrdered) (plain : ApproximationIsPlain) (defs : Defs) (sound : IsSound defs) (g : Goal) (fits : GoalFits defs g) where
  left_can : (level : ℕ) → CanBeAsked (known defs g level)
  left_can level =
      let atoms = (known_fit defs g fits).each in
      record {
        ordered = known_holds IsOrdered ordered-And defs g level (ordered defs sound level g.next (g.used ++ left_atoms g) atoms).0 (side_proper IsOrdered (λ p f. f.ordered) defs g.next g.left fits.left);
        plain = known_holds IsPlain plain-And defs g level (plain defs sound level g.next (g.used ++ left_atoms g) atoms).0 (side_proper IsPlain (λ p f. f.plain) defs g.next g.left fits.left);
      }

  right_can : (n : ℕ) → CanBeEmpty g n → CanBeAsked (asked g)
  right_can n can =
      let in_order' = first_each IsOrdered g.right.cases (side_proper IsOrdered (λ p f. f.ordered) defs g.next g.right fits.right) in
      let plain' = first_each IsPlain g.right.cases (side_proper IsPlain (λ p f. f.plain) defs g.next g.right fits.right) in
      record {
        ordered = asked_holds IsOrdered ordered-And IsOrdered ordered-And (λ v. Unit {0}) ordered-Exists (λ p f. f) g (units g.opens) in_order' (each_filter (has_open g.opens) (right_pure g) (λ p e f. f) in_order');
        plain = asked_holds IsPlain plain-And IsBare bare-And (λ v. Unit {0}) bare-Exists (λ p f. f.0) g (units g.opens) plain' (bare_others g n can plain');
      }

  false_can : CanBeAsked (pure_of.Or [])
  false_can = record { ordered = ordered-false; plain = plain-false }

  pub sides_can : (rule : ERule) → HasCondition defs g rule → SidesCanBeAsked (question_of defs g rule)
  sides_can rule_of.LeftOr has = tt
  sides_can rule_of.LeftExists has = tt
  sides_can (rule_of.False n) has = (left_can n, false_can)
  sides_can (rule_of.Split f) has = tt
  sides_can (rule_of.RightOr i) has = tt
  sides_can rule_of.RightExists has = tt
  sides_can (rule_of.Instantiate c) has = tt
  sides_can (rule_of.Match r l) has = tt
  sides_can (rule_of.Unfold l) has = tt
  sides_can (rule_of.Fold r i) has = tt
  sides_can (rule_of.Empty n) has = (left_can n, right_can n has)
  sides_can (rule_of.Lemma j l) has = tt

-- ---- low numbers

abbrev IsLow : Var → Type 0
IsLow v = v.number < 2 ^ 31

none_occurs : (v : Var) → IsTrue (list_any (λ b. b) []) → IsLow v
none_occurs v h = absurd cc

members_low : (ps : List Pure) → AllByRecursion HasLowNumbers ps → (v : Var) → IsTrue (list_any (occurs v) ps) → IsLow v
members_low [] f v h = absurd cc
members_low (p ∷ ps) (f, fs) v h = elim (or_cases (occurs v p) (list_any (occurs v) ps) h) [ inl k ↦ f v k | inr k ↦ members_low ps fs v k ]

low-And : IsOfAll HasLowNumbers
low-And ps f v h = members_low ps f v (subst IsTrue (fold-And (occurs_level v) ps ∙ list_any-map (λ b. b) (occurs v) ps) h)

low-Exists : (u : Var) (p : Pure) → IsLow u → HasLowNumbers p → HasLowNumbers (pure_of.Exists u p)
low-Exists u p low f v h = elim (or_cases (same u v) (occurs v p) (subst IsTrue (fold-Exists (occurs_level v) u p) h)) [
  | inl k ↦ subst IsLow (same_true u v k) low
  | inr k ↦ f v k
]

pub low-false : HasLowNumbers (pure_of.Or [])
low-false v h = let there : IsTrue (list_any (λ b. b) []) = subst IsTrue (fold-Or (occurs_level v) []) h in absurd cc

pub conjunction_low : (ps : List Pure) → AllByRecursion HasLowNumbers ps → HasLowNumbers (conjunction ps)
conjunction_low = conjunction_holds HasLowNumbers low-And

-- the conjuncts of a side
conjuncts_low : (ps : List Pure) → ((v : Var) → IsTrue (list_any (occurs v) ps) → IsLow v) → AllByRecursion HasLowNumbers ps
conjuncts_low [] f = tt
conjuncts_low (p ∷ ps) f = (λ v k. f v (or_left (occurs v p) (list_any (occurs v) ps) k), conjuncts_low ps (λ v k. f v (or_right (occurs v p) (list_any (occurs v) ps) k)))

case_low : (defs : Defs) (next : ℕ) → next ≤ 2 ^ 30 → (d : Disjunct) → CaseFits defs next d → AllByRecursion HasLowNumbers d.pure
case_low defs next few d c =
    conjuncts_low d.pure (λ v k.
    let low = c.numbers v (or_right (is_in v d.bound) (list_any (in_atom v) d.atoms || list_any (occurs v) d.pure) (or_right (list_any (in_atom v) d.atoms) (list_any (occurs v) d.pure) k)) in
    omega arith)

first_low : (defs : Defs) (next : ℕ) → next ≤ 2 ^ 30 → (ds : List Disjunct) → All (CaseFits defs next) ds → AllByRecursion HasLowNumbers (get_or ds 0 nothing).pure
first_low defs next few [] f = tt
first_low defs next few (d ∷ ds) f = case_low defs next few d (All-head (CaseFits defs next) d ds f)

module _ (defs : Defs) (sound : IsSound defs) (g : Goal) (fits : GoalFits defs g) where
  pub left_low : AllByRecursion HasLowNumbers (left_pure g)
  left_low = first_low defs g.next fits.few g.left.cases fits.left

  pub atoms_low : NewNumbersAreInRange → (level : ℕ) → next_of defs level (g.used ++ left_atoms g) g.next ≤ g.next + 2 ^ 30 → AllByRecursion HasLowNumbers (approximation_of defs level (g.used ++ left_atoms g) g.next)
  atoms_low range level enough =
      let known' = known_fit defs g fits in
      let few = fits.few in
      each HasLowNumbers (approximation_of defs level (g.used ++ left_atoms g) g.next)
      (All-weaker (λ p. (v : Var) → IsTrue (occurs v p) → IsInAtoms (g.used ++ left_atoms g) v ⊎ IsBetween g.next (next_of defs level (g.used ++ left_atoms g) g.next) v) HasLowNumbers
      (λ p f v o. elim (f v o) [
        | inl k ↦ let low = known'.below v k in omega arith
        | inr k ↦ let (from, below) = k in omega arith
      ]) (approximation_of defs level (g.used ++ left_atoms g) g.next) (range defs sound level g.next (g.used ++ left_atoms g) known').1)

  pub asked_low : HasLowNumbers (asked g)
  asked_low =
      let few = fits.few in
      let right = first_low defs g.next fits.few g.right.cases fits.right in
      asked_holds HasLowNumbers low-And HasLowNumbers low-And IsLow low-Exists (λ p f. f) g
      (each_listed IsLow g.opens (λ v k. let low = fits.opens_numbers v k in omega arith)) right (each_filter (has_open g.opens) (right_pure g) (λ p e f. f) right)

-- the conjuncts that are known have low numbers
pub known_low : (defs : Defs) → IsSound defs → (g : Goal) → GoalFits defs g → NewNumbersAreInRange → (level next : ℕ) → next ≡ next_of defs level (g.used ++ left_atoms g) g.next → next ≤ g.next + 2 ^ 30 →
    (ps : List Pure) → ps ≡ approximation_of defs level (g.used ++ left_atoms g) g.next ++ left_pure g → AllByRecursion HasLowNumbers ps
known_low defs sound g fits range level next is enough ps are =
    subst (AllByRecursion HasLowNumbers) (sym are)
    (each_append HasLowNumbers (approximation_of defs level (g.used ++ left_atoms g) g.next) (left_pure g) (atoms_low defs sound g fits range level (subst (λ n. n ≤ g.next + 2 ^ 30) is enough)) (left_low defs sound g fits))
