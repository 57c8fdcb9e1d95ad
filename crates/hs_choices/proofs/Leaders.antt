-- The test of classes is true exactly of variables of one class.
use Rattle.std.proofs.Common.{◌≡◌, ℕ, zero, suc, ◌<◌, Bool, true, false, inl, inr, IsTrue, List, [], ◌∷◌, length, get_or, Option, Some, None, refl, sym, ◌∙◌, subst, arith}
use Rattle.std.specs.List.{Contains}
use Rattle.hs_pure.specs.declared.var.Var.{Var}
use Rattle.hs_pure.specs.declared.pure.Pure.{Pure}
use Rattle.hs_pure.specs.Stack.{same}
use Rattle.hs_pure.specs.Equated.{equated, equation}
use Rattle.hs_pure.proofs.Equating.{equated_is}
use Rattle.hs_heap.proofs.Booleans.{bool_cases}
use Rattle.hs_heap.proofs.Stacks.{same_true, same_is, same_itself}
use Rattle.hs_goal.specs.declared.goal.Goal.{Goal}
use Rattle.hs_goal.specs.declared.table.Classes.{Classes}
use Rattle.hs_goal.specs.Classes.{SameClass, itself, given, turned, through}
use Rattle.hs_goal.specs.Tables.{joined_in, AreClasses}
use Rattle.hs_rules.specs.Parts.{left_pure}
use Rattle.hs_choices.specs.Tests.{led_by, leader, same_class, HasClasses}
use Rattle.hs_choices.specs.Laws.{ClassesAreTold}

contains_later : (p q : Pure) (ps : List Pure) → Contains ps q → Contains (p ∷ ps) q
contains_later p q ps i = (suc i.0, let less = i.1 in omega arith, i.2)

contains_here : (p q : Pure) (ps : List Pure) → p ≡ q → Contains (p ∷ ps) q
contains_here p q ps e = (0, omega arith, e)

-- one equation more
wider : (p : Pure) (ps : List Pure) {u v : Var} → SameClass ps u v → SameClass (p ∷ ps) u v
wider p ps itself = itself
wider p ps (given {a = a} {b = b} i) = given (contains_later p (equation a b) ps i)
wider p ps (turned c) = turned (wider p ps c)
wider p ps (through c d) = through (wider p ps c) (wider p ps d)

-- one equation more, where each variable is of the class of its leader before
led_more : (p : Pure) (ps : List Pure) → ((u : Var) → SameClass ps u (leader ps u)) → (v : Var) (o : Option (Var × Var)) → equated p ≡ o → SameClass (p ∷ ps) v (led_by o (leader ps) v)
led_more p ps before v None e = wider p ps (before v)
led_more p ps before v (Some (a, b)) e = elim (bool_cases (same (leader ps v) (leader ps a))) [
  | inl is ↦
      let alike : leader ps v ≡ leader ps a = same_true (leader ps v) (leader ps a) is in
      let joined : SameClass (p ∷ ps) a b = given (contains_here p (equation a b) ps ((equated_is p a b).0 e)) in
      rw is (through (subst (SameClass (p ∷ ps) v) alike (wider p ps (before v))) (through (turned (wider p ps (before a))) (through joined (wider p ps (before b)))))
  | inr isnt ↦ rw isnt (wider p ps (before v))
]

-- each variable is of the class of its leader
pub led : (ps : List Pure) (v : Var) → SameClass ps v (leader ps v)
led [] v = itself
led (p ∷ ps) v = led_more p ps (led ps) v (equated p) refl

-- the sides of each equation have one leader
equated_alike : (ps : List Pure) (a b : Var) (k : ℕ) → k < length ps → get_or ps k (equation a b) ≡ equation a b → leader ps a ≡ leader ps b
equated_alike [] a b k less e = absurd (omega arith)
equated_alike (p ∷ ps) a b zero less e = rw ((equated_is p a b).1 e) go
  where
    go : led_by (Some (a, b)) (leader ps) a ≡ led_by (Some (a, b)) (leader ps) b
    go = elim (bool_cases (same (leader ps b) (leader ps a))) [
      | inl is ↦ rw (same_itself (leader ps a), is) refl
      | inr isnt ↦ rw (same_itself (leader ps a), isnt) refl
    ]
equated_alike (p ∷ ps) a b (suc k) less e =
    let before : leader ps a ≡ leader ps b = equated_alike ps a b k (omega arith) e in
    go (equated p) before
  where
    go : (o : Option (Var × Var)) → leader ps a ≡ leader ps b → led_by o (leader ps) a ≡ led_by o (leader ps) b
    go None e = e
    go (Some (c, d)) e = rw e refl

-- variables of one class have one leader
pub one_leader : (ps : List Pure) {v w : Var} → SameClass ps v w → leader ps v ≡ leader ps w
one_leader ps itself = refl
one_leader ps (given {a = a} {b = b} i) = equated_alike ps a b i.0 i.1 i.2
one_leader ps (turned c) = sym (one_leader ps c)
one_leader ps (through c d) = one_leader ps c ∙ one_leader ps d

pub classes_told : ClassesAreTold
unfolding same_class
classes_told ps v w = (
  λ e.
      let alike : leader ps v ≡ leader ps w = same_true (leader ps v) (leader ps w) e in
      through (subst (SameClass ps v) alike (led ps v)) (turned (led ps w)),
  λ c. same_is (leader ps v) (leader ps w) (one_leader ps c),
)

same_bool : (a b : Bool) → (IsTrue a → IsTrue b) → (IsTrue b → IsTrue a) → a ≡ b
same_bool true b f g = sym (f refl)
same_bool false true f g = g refl
same_bool false false f g = refl

-- a table of the classes answers the test
pub table_answers : ClassesAreTold → (g : Goal) (c : Classes) → AreClasses (left_pure g) c → HasClasses g c
table_answers told g c has v w =
    same_bool (joined_in c v w) (same_class (left_pure g) v w) (λ e. (told (left_pure g) v w).1 ((has v w).0 e)) (λ e. (has v w).1 ((told (left_pure g) v w).0 e))
