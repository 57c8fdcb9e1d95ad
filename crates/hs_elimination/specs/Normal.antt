-- The first stage of elimination, negation normal form, and literals without variables.
use Rattle.std.specs.Prelude.{ℕ, zero, suc, ◌%◌, ◌==◌, Bool, true, false, not, ◌&&◌, List, [], ◌∷◌, ℤ, pos, negsuc, int_lt, unsigned_abs}
use Rattle.hs_pure.specs.declared.var.Var.{Var}
use Rattle.hs_pure.specs.declared.lin.Lin.{Lin}
use Rattle.hs_pure.specs.Assertion.{Assertion, truth, eq, lt, le, divides, bag_eq, subset, member, all_of, negation, both, either, exists, forall}
use Rattle.hs_elimination.specs.Linear.{plus, minus, number}
use Rattle.hs_elimination.specs.Form.{Form, const, positive, multiple, no_multiple, conjunction, disjunction}

-- no quantifier and no bag literal
abbrev pub is_simple : Assertion → Bool
is_simple truth = true
is_simple (eq a b) = true
is_simple (lt a b) = true
is_simple (le a b) = true
is_simple (divides d a) = true
is_simple (bag_eq a b) = false
is_simple (subset a b) = false
is_simple (member a b) = false
is_simple (all_of u b p) = false
is_simple (negation p) = is_simple p
is_simple (both p q) = is_simple p && is_simple q
is_simple (either p q) = is_simple p && is_simple q
is_simple (exists u p) = false
is_simple (forall u p) = false

-- a < b
abbrev pub less : Lin → Lin → Form
less a b = positive (minus b a)

-- a < b + 1
abbrev pub at_most : Lin → Lin → Form
at_most a b = positive (plus (minus b a) (number (pos 1)))

-- a divisor below 1 divides nothing
abbrev pub divides_form : Bool → ℤ → Lin → Form
divides_form b (pos zero) t = const (not b)
divides_form true (pos (suc n)) t = multiple (suc n) t
divides_form false (pos (suc n)) t = no_multiple (suc n) t
divides_form b (negsuc n) t = const (not b)

-- the assertion, or its denial at `false`; where it is not simple, nothing is meant
abbrev pub normal : Bool → Assertion → Form
normal b truth = const b
normal true (eq a b) = conjunction (at_most a b) (at_most b a)
normal false (eq a b) = disjunction (less a b) (less b a)
normal true (lt a b) = less a b
normal false (lt a b) = at_most b a
normal true (le a b) = at_most a b
normal false (le a b) = less b a
normal b (divides d a) = divides_form b d a
normal b (negation p) = normal (not b) p
normal true (both p q) = conjunction (normal true p) (normal true q)
normal false (both p q) = disjunction (normal false p) (normal false q)
normal true (either p q) = disjunction (normal true p) (normal true q)
normal false (either p q) = conjunction (normal false p) (normal false q)
normal c (bag_eq a b) = const false
normal c (subset a b) = const false
normal c (member a b) = const false
normal c (all_of u b p) = const false
normal c (exists u p) = const false
normal c (forall u p) = const false

-- ---- literals without variables

abbrev pub divides_test : ℕ → ℤ → Bool
divides_test d z = (unsigned_abs z % d) == 0

-- the literal f, or b where it has no variables
abbrev pub evaluate_literal : List (Var × ℤ) → Bool → Form → Form
evaluate_literal [] b f = const b
evaluate_literal (t ∷ ts) b f = f

abbrev pub both_of : Form → Form → Form
both_of (const true) g = g
both_of (const false) g = const false
both_of f (const true) = f
both_of f (const false) = const false
both_of f g = conjunction f g

abbrev pub either_of : Form → Form → Form
either_of (const false) g = g
either_of (const true) g = const true
either_of f (const false) = f
either_of f (const true) = const true
either_of f g = disjunction f g

-- literals without variables become true or false, which then leave the formula or are the whole of it
abbrev pub evaluate : Form → Form
evaluate (const b) = const b
evaluate (positive t) = evaluate_literal t.terms (int_lt (pos 0) t.constant) (positive t)
evaluate (multiple d t) = evaluate_literal t.terms (divides_test d t.constant) (multiple d t)
evaluate (no_multiple d t) = evaluate_literal t.terms (not (divides_test d t.constant)) (no_multiple d t)
evaluate (conjunction f g) = both_of (evaluate f) (evaluate g)
evaluate (disjunction f g) = either_of (evaluate f) (evaluate g)
