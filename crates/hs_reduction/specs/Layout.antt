-- The element terms, bag variables and compound bags of an assertion, and the new numbers of its reduction.
use Rattle.std.specs.Prelude.{ℕ, suc, ◌+◌, ◌-◌, ◌*◌, Bool, true, false, not, ◌&&◌, List, [], ◌∷◌, ◌++◌, length, get_or, pos, nat_lt, if◌then◌else◌}
use Rattle.std.specs.List.{list_any}
use Rattle.hs_pure.specs.declared.var.Var.{Var}
use Rattle.hs_pure.specs.declared.lin.Lin.{Lin}
use Rattle.hs_pure.specs.Stack.{same}
use Rattle.hs_pure.specs.Assertion.{BagTerm, empty, name, one, union, inter, diff, Assertion, truth, eq, lt, le, divides, bag_eq, subset, member, all_of, negation, both, either, exists, forall}
use Rattle.hs_elimination.specs.Linear.{number, single, same_lin}
use Rattle.hs_elimination.specs.Cases.{join_distinct}
use Rattle.hs_elimination.specs.Ordered.{term_sums, has_bag_literal}

-- whether no bag literal stands under a quantifier or an `all_of`
abbrev pub bags_plain : Assertion → Bool
bags_plain truth = true
bags_plain (eq a b) = true
bags_plain (lt a b) = true
bags_plain (le a b) = true
bags_plain (divides d a) = true
bags_plain (bag_eq a b) = true
bags_plain (subset a b) = true
bags_plain (member a b) = true
bags_plain (all_of u b p) = not (has_bag_literal p)
bags_plain (negation p) = bags_plain p
bags_plain (both p q) = bags_plain p && bags_plain q
bags_plain (either p q) = bags_plain p && bags_plain q
bags_plain (exists u p) = not (has_bag_literal p)
bags_plain (forall u p) = not (has_bag_literal p)

-- the number variable of a number
abbrev pub number_variable : ℕ → Var
number_variable n = record { number = n; bag = false }

-- that variable as a sum
abbrev pub variable : ℕ → Lin
variable n = single (number_variable n) (pos 1)

-- ---- places in lists

-- where a sum stands first
abbrev pub lin_place : Lin → List Lin → ℕ
lin_place a [] = 0
lin_place a (b ∷ bs) = if same_lin a b then 0 else suc (lin_place a bs)

abbrev pub has_name : Var → List Var → Bool
has_name v ws = list_any (λ w. same w v) ws

-- where a variable stands first
abbrev pub name_place : Var → List Var → ℕ
name_place v [] = 0
name_place v (w ∷ ws) = if same w v then 0 else suc (name_place v ws)

-- v at its place among variables by rising number, unless it is there
abbrev pub add_name : Var → List Var → List Var
add_name v [] = v ∷ []
add_name v (w ∷ ws) = if same w v then w ∷ ws else (if nat_lt v.number w.number then v ∷ w ∷ ws else w ∷ add_name v ws)

-- ---- what the assertion has

-- the terms in `one` and `member`, in order of the text
abbrev pub terms : Assertion → List Lin
terms truth = []
terms (eq a b) = []
terms (lt a b) = []
terms (le a b) = []
terms (divides d a) = []
terms (bag_eq a b) = term_sums a ++ term_sums b
terms (subset a b) = term_sums a ++ term_sums b
terms (member a b) = a ∷ term_sums b
terms (all_of u b p) = term_sums b
terms (negation p) = terms p
terms (both p q) = terms p ++ terms q
terms (either p q) = terms p ++ terms q
terms (exists u p) = []
terms (forall u p) = []

-- the bag variables of a bag, added to a list of them
abbrev pub bag_names : BagTerm → List Var → List Var
bag_names empty vs = vs
bag_names (name v) vs = add_name v vs
bag_names (one a) vs = vs
bag_names (union a b) vs = bag_names b (bag_names a vs)
bag_names (inter a b) vs = bag_names b (bag_names a vs)
bag_names (diff a b) vs = bag_names b (bag_names a vs)

abbrev pub names : Assertion → List Var → List Var
names truth vs = vs
names (eq a b) vs = vs
names (lt a b) vs = vs
names (le a b) vs = vs
names (divides d a) vs = vs
names (bag_eq a b) vs = bag_names b (bag_names a vs)
names (subset a b) vs = bag_names b (bag_names a vs)
names (member a b) vs = bag_names b vs
names (all_of u b p) vs = bag_names b vs
names (negation p) vs = names p vs
names (both p q) vs = names q (names p vs)
names (either p q) vs = names q (names p vs)
names (exists u p) vs = vs
names (forall u p) vs = vs

-- how many compound bags there are: each but `empty` and bag variables is one
abbrev pub bag_compounds : BagTerm → ℕ
bag_compounds empty = 0
bag_compounds (name v) = 0
bag_compounds (one a) = 1
bag_compounds (union a b) = bag_compounds a + bag_compounds b + 1
bag_compounds (inter a b) = bag_compounds a + bag_compounds b + 1
bag_compounds (diff a b) = bag_compounds a + bag_compounds b + 1

abbrev pub compounds : Assertion → ℕ
compounds truth = 0
compounds (eq a b) = 0
compounds (lt a b) = 0
compounds (le a b) = 0
compounds (divides d a) = 0
compounds (bag_eq a b) = bag_compounds a + bag_compounds b
compounds (subset a b) = bag_compounds a + bag_compounds b
compounds (member a b) = bag_compounds b
compounds (all_of u b p) = bag_compounds b
compounds (negation p) = compounds p
compounds (both p q) = compounds p + compounds q
compounds (either p q) = compounds p + compounds q
compounds (exists u p) = 0
compounds (forall u p) = 0

abbrev pub if_denied : Bool → ℕ
if_denied true = 0
if_denied false = 1

-- how many literals want a new element, where the assertion is asserted, or denied at `false`
abbrev pub denied : Bool → Assertion → ℕ
denied asserted truth = 0
denied asserted (eq a b) = 0
denied asserted (lt a b) = 0
denied asserted (le a b) = 0
denied asserted (divides d a) = 0
denied asserted (bag_eq a b) = if_denied asserted
denied asserted (subset a b) = if_denied asserted
denied asserted (member a b) = 0
denied asserted (all_of u b p) = if_denied asserted
denied asserted (negation p) = denied (not asserted) p
denied asserted (both p q) = denied asserted p + denied asserted q
denied asserted (either p q) = denied asserted p + denied asserted q
denied asserted (exists u p) = 0
denied asserted (forall u p) = 0

-- ---- the new numbers

pub record Layout : Type 0 where
  -- the first new number
  pub start : ℕ
  -- the element terms of the text, each once
  pub listed : List Lin
  -- how many new elements follow them, each a variable
  pub new : ℕ
  -- the bag variables, rising
  pub bags : List Var

abbrev pub layout : ℕ → Assertion → Layout
layout start p = record { start = start; listed = join_distinct [] (terms p); new = denied true p; bags = names p [] }

-- how many element terms there are
abbrev pub width : Layout → ℕ
width l = length l.listed + l.new

-- the element term at a place
abbrev pub element : Layout → ℕ → Lin
element l i =
    if nat_lt i (length l.listed) then get_or l.listed i (number (pos 0))
    else variable (l.start + (i - length l.listed))

-- the number of a count: after the new elements come the blocks of the bag variables, then those of the compound bags,
-- inner first, each with a count for each element term
abbrev pub count_number : Layout → ℕ → ℕ → ℕ
count_number l block i = l.start + l.new + (block * width l + i)

-- the first number after the new ones
abbrev pub after : Layout → Assertion → ℕ
after l p = l.start + l.new + (length l.bags + compounds p) * width l
