-- The sums of an assertion, and whether it has bag literals, as of a formula.
use Rattle.std.specs.Prelude.{Bool, true, false, ◌||◌, List, [], ◌∷◌, ◌++◌}
use Rattle.std.specs.List.{All}
use Rattle.hs_pure.specs.declared.lin.Lin.{Lin}
use Rattle.hs_pure.specs.Assertion.{BagTerm, empty, name, one, union, inter, diff, Assertion, truth, eq, lt, le, divides, bag_eq, subset, member, all_of, negation, both, either, exists, forall}
use Rattle.hs_pure.specs.Sums.{LinIsOrdered}

abbrev pub term_sums : BagTerm → List Lin
term_sums empty = []
term_sums (name v) = []
term_sums (one a) = a ∷ []
term_sums (union a b) = term_sums a ++ term_sums b
term_sums (inter a b) = term_sums a ++ term_sums b
term_sums (diff a b) = term_sums a ++ term_sums b

-- the sums that occur
abbrev pub assertion_sums : Assertion → List Lin
assertion_sums truth = []
assertion_sums (eq a b) = a ∷ b ∷ []
assertion_sums (lt a b) = a ∷ b ∷ []
assertion_sums (le a b) = a ∷ b ∷ []
assertion_sums (divides d a) = a ∷ []
assertion_sums (bag_eq a b) = term_sums a ++ term_sums b
assertion_sums (subset a b) = term_sums a ++ term_sums b
assertion_sums (member a b) = a ∷ term_sums b
assertion_sums (all_of u b p) = term_sums b ++ assertion_sums p
assertion_sums (negation p) = assertion_sums p
assertion_sums (both p q) = assertion_sums p ++ assertion_sums q
assertion_sums (either p q) = assertion_sums p ++ assertion_sums q
assertion_sums (exists u p) = assertion_sums p
assertion_sums (forall u p) = assertion_sums p

-- each sum is in order
abbrev pub AssertionIsOrdered : Assertion → Type 0
AssertionIsOrdered p = All LinIsOrdered (assertion_sums p)

-- whether a bag literal occurs
abbrev pub has_bag_literal : Assertion → Bool
has_bag_literal truth = false
has_bag_literal (eq a b) = false
has_bag_literal (lt a b) = false
has_bag_literal (le a b) = false
has_bag_literal (divides d a) = false
has_bag_literal (bag_eq a b) = true
has_bag_literal (subset a b) = true
has_bag_literal (member a b) = true
has_bag_literal (all_of u b p) = true
has_bag_literal (negation p) = has_bag_literal p
has_bag_literal (both p q) = has_bag_literal p || has_bag_literal q
has_bag_literal (either p q) = has_bag_literal p || has_bag_literal q
has_bag_literal (exists u p) = has_bag_literal p
has_bag_literal (forall u p) = has_bag_literal p
