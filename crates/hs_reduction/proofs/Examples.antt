-- Reductions written out.
use Rattle.std.proofs.Common.{◌≡◌, ℕ, true, pos, refl}
use Rattle.hs_pure.specs.Assertion.{BagTerm, name, union, truth, eq, lt, le, bag_eq, member, negation, both}
use Rattle.hs_elimination.specs.Linear.{number, plus}
use Rattle.hs_reduction.specs.Layout.{variable}
use Rattle.hs_reduction.specs.Instance.{Instance}
use Rattle.hs_reduction.specs.Reduction.{reduction}

-- the bag variable of a number
abbrev bag : ℕ → BagTerm
bag n = name (record { number = n; bag = true })

-- 0 in S: the count of 0 in S is 2
member_reduced : (way : Instance) → reduction way 2 (member (number (pos 0)) (bag 1)) ≡
    both (both (le (number (pos 0)) (variable 2)) truth) (both truth (lt (number (pos 0)) (variable 2)))
member_reduced way = refl

-- S is not T: the new element is 3, its counts in S and T are 4 and 5
differ_reduced : (way : Instance) → reduction way 3 (negation (bag_eq (bag 1) (bag 2))) ≡
    both (both (both (le (number (pos 0)) (variable 4)) truth) (both (le (number (pos 0)) (variable 5)) truth))
    (both (both truth truth) (negation (eq (variable 4) (variable 5))))
differ_reduced way = refl

-- the union of S and T is not that of T and S: the counts of the new element 3 in the two unions are 6 and 7
union_reduced : (way : Instance) → reduction way 3 (negation (bag_eq (union (bag 1) (bag 2)) (union (bag 2) (bag 1)))) ≡
    both (both (both (le (number (pos 0)) (variable 4)) truth) (both (le (number (pos 0)) (variable 5)) truth))
    (both (both
    (both (both truth truth) (eq (variable 6) (plus (variable 4) (variable 5))))
    (both (both truth truth) (eq (variable 7) (plus (variable 5) (variable 4)))))
    (negation (eq (variable 6) (variable 7))))
union_reduced way = refl
