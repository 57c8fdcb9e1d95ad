-- The values of variables of one class, and of variables that equations join.
use Rattle.std.proofs.Common.{ℕ, ◌≡◌, ℤ, Bool, true, false, inl, inr, List, [], ◌∷◌, map, Option, Some, None, refl, sym, ◌∙◌, ap, subst, if◌then◌else◌, arith}
use Rattle.std.specs.FinMap
use Rattle.std.specs.FinMap.{same_map, int_cmp-IsAntisymmetric}
use Rattle.std.specs.Cmp.{int_cmp_total}
use Rattle.std.proofs.lemmas.Int.{ints}
use Rattle.hs_pure.specs.declared.var.Var.{Var}
use Rattle.hs_pure.specs.declared.bag.Bag.TheVariants as bag_of
use Rattle.hs_pure.specs.declared.pure.Pure.{Pure}
use Rattle.hs_pure.specs.declared.pure.Pure.TheVariants as pure_of
use Rattle.hs_pure.specs.Multiset
use Rattle.hs_pure.specs.Multiset.{Multiset, count_kept}
use Rattle.hs_pure.specs.Stack.{Stack}
use Rattle.hs_pure.specs.Assertion.{bag_term_of, name, bag_level}
use Rattle.hs_pure.specs.Truth.{value, count, TrueAt}
use Rattle.hs_pure.proofs.Truths.{true-Eq, true-BagEq}
use Rattle.hs_pure.proofs.Views.{fold_bag-Name}
use Rattle.hs_heap.specs.Meaning.{Number, Elements, argument_at, AllTrueAt}
use Rattle.hs_heap.specs.Sound.{kinds}
use Rattle.hs_heap.proofs.Booleans.{bool_cases}
use Rattle.hs_pure.specs.Equated.{variable_sum}
use Rattle.hs_goal.specs.Classes.{SameClass, itself, given, turned, through}
use Rattle.hs_rules.specs.Parts.{argument_equation, equations}
use Rattle.hs_rules.proofs.Plain.{AllTrue-contains}

pub value-variable_sum : (s : Stack) (v : Var) → value s (variable_sum v) ≡ (s v).number
value-variable_sum s v = omega (arith, ints)

pub equal_numbers : (s : Stack) (v w : Var) → TrueAt s (pure_of.Eq (variable_sum v) (variable_sum w)) → (s v).number ≡ (s w).number
equal_numbers s v w e = sym (value-variable_sum s v) ∙ (true-Eq s (variable_sum v) (variable_sum w)).0 e ∙ value-variable_sum s w

-- variables of one class have one number
pub class_value : (s : Stack) (ps : List Pure) {a b : Var} → AllTrueAt s ps → SameClass ps a b → (s a).number ≡ (s b).number
class_value s ps e itself = refl
class_value s ps e (given {a = a} {b = b} i) = equal_numbers s a b (AllTrue-contains s ps (pure_of.Eq (variable_sum a) (variable_sum b)) e i)
class_value s ps e (turned c) = sym (class_value s ps e c)
class_value s ps e (through c d) = class_value s ps e c ∙ class_value s ps e d

-- bags with equal counts are equal
kept_same : (a b : Option ℕ) → count_kept a ≡ count_kept b → a ≡ b
kept_same None None e = refl
kept_same None (Some n) e = absurd (omega arith)
kept_same (Some n) None e = absurd (omega arith)
kept_same (Some n) (Some k) e = let f : n ≡ k = omega arith in ap Some f

pub same_counts : (m n : Multiset) → ((x : ℤ) → Multiset.count m x ≡ Multiset.count n x) → m ≡ n
same_counts m n h = same_map int_cmp_total int_cmp-IsAntisymmetric m n (λ x. kept_same (FinMap.get m x) (FinMap.get n x) (h x))

equal_bags : (s : Stack) (v w : Var) → TrueAt s (pure_of.BagEq (bag_of.Name v) (bag_of.Name w)) → (s v).bag ≡ (s w).bag
equal_bags s v w e =
    let at_v : bag_term_of (bag_of.Name v) ≡ name v = fold_bag-Name bag_level v in
    let at_w : bag_term_of (bag_of.Name w) ≡ name w = fold_bag-Name bag_level w in
    same_counts (s v).bag (s w).bag (λ x.
    sym (ap (λ t. count s t x) at_v) ∙ (true-BagEq s (bag_of.Name v) (bag_of.Name w)).0 e x ∙ ap (λ t. count s t x) at_w)

argument_bag : (s : Stack) (v : Var) → v.bag ≡ true → argument_at s v ≡ Elements (s v).bag
argument_bag s v e = rw e refl

argument_number : (s : Stack) (v : Var) → v.bag ≡ false → argument_at s v ≡ Number (s v).number
argument_number s v e = rw e refl

equation_value : (s : Stack) (v w : Var) → v.bag ≡ w.bag → TrueAt s (argument_equation v w) → argument_at s v ≡ argument_at s w
equation_value s v w kind e = elim (bool_cases v.bag) [
  | inl bag ↦
      let P : Bool → Type 0 = λ b. TrueAt s (if b then pure_of.BagEq (bag_of.Name v) (bag_of.Name w) else pure_of.Eq (variable_sum v) (variable_sum w)) in
      let f = equal_bags s v w (subst P bag e) in
      let g : w.bag ≡ true = sym kind ∙ bag in
      argument_bag s v bag ∙ ap Elements f ∙ sym (argument_bag s w g)
  | inr number ↦
      let P : Bool → Type 0 = λ b. TrueAt s (if b then pure_of.BagEq (bag_of.Name v) (bag_of.Name w) else pure_of.Eq (variable_sum v) (variable_sum w)) in
      let f = equal_numbers s v w (subst P number e) in
      let g : w.bag ≡ false = sym kind ∙ number in
      argument_number s v number ∙ ap Number f ∙ sym (argument_number s w g)
]

pub equations_values : (s : Stack) (vs ws : List Var) → kinds vs ≡ kinds ws → AllTrueAt s (equations vs ws) → map (argument_at s) vs ≡ map (argument_at s) ws
equations_values s [] [] n e = refl
equations_values s [] (w ∷ ws) n e = absurd cc
equations_values s (v ∷ vs) [] n e = absurd cc
equations_values s (v ∷ vs) (w ∷ ws) n (d, e) =
    let kind : v.bag ≡ w.bag = cc in
    let first = equation_value s v w kind d in
    let more = equations_values s vs ws (cc) e in cc
