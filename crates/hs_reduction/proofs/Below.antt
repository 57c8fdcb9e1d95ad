-- Numbers that are above all that occur.
use Rattle.std.proofs.Common.{ℕ, max, ◌<◌, ◌≤◌, ℤ, List, [], ◌∷◌, arith}
use Rattle.std.specs.List.{fold}
use Rattle.hs_pure.specs.declared.var.Var.{Var}
use Rattle.hs_pure.specs.declared.lin.Lin.{Lin}
use Rattle.hs_pure.specs.Assertion.{BagTerm, empty, name, one, union, inter, diff, Assertion, truth, eq, lt, le, divides, bag_eq, subset, member, all_of, negation, both, either, exists, forall}
use Rattle.hs_pure.specs.Occurs.{lin_top}
use Rattle.hs_pure.specs.Mirror.{bag_term_top, assertion_top}
use Rattle.hs_elimination.proofs.Variables.{Each}

abbrev pub IsBelow : ℕ → Var → Type 0
IsBelow n v = v.number < n

abbrev pub TermsBelow : ℕ → List (Var × ℤ) → Type 0
TermsBelow n ts = Each (IsBelow n) ts

abbrev pub LinBelow : ℕ → Lin → Type 0
LinBelow n a = TermsBelow n a.terms

abbrev pub BagBelow : ℕ → BagTerm → Type 0
BagBelow n empty = Unit {0}
BagBelow n (name v) = v.number < n
BagBelow n (one a) = LinBelow n a
BagBelow n (union a b) = BagBelow n a × BagBelow n b
BagBelow n (inter a b) = BagBelow n a × BagBelow n b
BagBelow n (diff a b) = BagBelow n a × BagBelow n b

-- n is above all numbers, bound ones included
abbrev pub Below : ℕ → Assertion → Type 0
Below n truth = Unit {0}
Below n (eq a b) = LinBelow n a × LinBelow n b
Below n (lt a b) = LinBelow n a × LinBelow n b
Below n (le a b) = LinBelow n a × LinBelow n b
Below n (divides d a) = LinBelow n a
Below n (bag_eq a b) = BagBelow n a × BagBelow n b
Below n (subset a b) = BagBelow n a × BagBelow n b
Below n (member a b) = LinBelow n a × BagBelow n b
Below n (all_of u b p) = (u.number < n) × BagBelow n b × Below n p
Below n (negation p) = Below n p
Below n (both p q) = Below n p × Below n q
Below n (either p q) = Below n p × Below n q
Below n (exists u p) = (u.number < n) × Below n p
Below n (forall u p) = (u.number < n) × Below n p

-- ---- from the greatest number, and back

terms-below : (n top : ℕ) (ts : List (Var × ℤ)) → fold (λ top t. max top t.0.number) top ts < n → (top < n) × TermsBelow n ts
terms-below n top [] h = (h, tt)
terms-below n top (t ∷ ts) h = let r = terms-below n (max top t.0.number) ts h in let k = r.0 in (omega arith, (omega arith, r.1))

terms-top : (n top : ℕ) (ts : List (Var × ℤ)) → top < n → TermsBelow n ts → fold (λ top t. max top t.0.number) top ts < n
terms-top n top [] h k = h
terms-top n top (t ∷ ts) h k = let l = k.0 in terms-top n (max top t.0.number) ts (omega arith) k.1

pub lin-below : (n : ℕ) (a : Lin) → lin_top a < n → LinBelow n a
lin-below n a h = (terms-below n 0 a.terms h).1

pub lin-top : (n : ℕ) (a : Lin) → 0 < n → LinBelow n a → lin_top a < n
lin-top n a h k = terms-top n 0 a.terms h k

less_left : (m n k : ℕ) → max m n < k → m < k
less_left m n k h = omega arith

less_right : (m n k : ℕ) → max m n < k → n < k
less_right m n k h = omega arith

less_both : (m n k : ℕ) → m < k → n < k → max m n < k
less_both m n k h l = omega arith

bag-below : (n : ℕ) (b : BagTerm) → bag_term_top b < n → BagBelow n b
bag-below n empty h = tt
bag-below n (name v) h = h
bag-below n (one a) h = lin-below n a h
bag-below n (union a b) h = (bag-below n a (less_left (bag_term_top a) (bag_term_top b) n h), bag-below n b (less_right (bag_term_top a) (bag_term_top b) n h))
bag-below n (inter a b) h = (bag-below n a (less_left (bag_term_top a) (bag_term_top b) n h), bag-below n b (less_right (bag_term_top a) (bag_term_top b) n h))
bag-below n (diff a b) h = (bag-below n a (less_left (bag_term_top a) (bag_term_top b) n h), bag-below n b (less_right (bag_term_top a) (bag_term_top b) n h))

bag-top : (n : ℕ) (b : BagTerm) → 0 < n → BagBelow n b → bag_term_top b < n
bag-top n empty h k = h
bag-top n (name v) h k = k
bag-top n (one a) h k = lin-top n a h k
bag-top n (union a b) h k = less_both (bag_term_top a) (bag_term_top b) n (bag-top n a h k.0) (bag-top n b h k.1)
bag-top n (inter a b) h k = less_both (bag_term_top a) (bag_term_top b) n (bag-top n a h k.0) (bag-top n b h k.1)
bag-top n (diff a b) h k = less_both (bag_term_top a) (bag_term_top b) n (bag-top n a h k.0) (bag-top n b h k.1)

lins-below : (n : ℕ) (a b : Lin) → max (lin_top a) (lin_top b) < n → LinBelow n a × LinBelow n b
lins-below n a b h = (lin-below n a (less_left (lin_top a) (lin_top b) n h), lin-below n b (less_right (lin_top a) (lin_top b) n h))

lins-top : (n : ℕ) (a b : Lin) → 0 < n → LinBelow n a × LinBelow n b → max (lin_top a) (lin_top b) < n
lins-top n a b h k = less_both (lin_top a) (lin_top b) n (lin-top n a h k.0) (lin-top n b h k.1)

bags-below : (n : ℕ) (a b : BagTerm) → max (bag_term_top a) (bag_term_top b) < n → BagBelow n a × BagBelow n b
bags-below n a b h = (bag-below n a (less_left (bag_term_top a) (bag_term_top b) n h), bag-below n b (less_right (bag_term_top a) (bag_term_top b) n h))

bags-top : (n : ℕ) (a b : BagTerm) → 0 < n → BagBelow n a × BagBelow n b → max (bag_term_top a) (bag_term_top b) < n
bags-top n a b h k = less_both (bag_term_top a) (bag_term_top b) n (bag-top n a h k.0) (bag-top n b h k.1)

pub from_top : (n : ℕ) (p : Assertion) → assertion_top p < n → Below n p
from_top n truth h = tt
from_top n (eq a b) h = lins-below n a b h
from_top n (lt a b) h = lins-below n a b h
from_top n (le a b) h = lins-below n a b h
from_top n (divides d a) h = lin-below n a h
from_top n (bag_eq a b) h = bags-below n a b h
from_top n (subset a b) h = bags-below n a b h
from_top n (member a b) h = (lin-below n a (less_left (lin_top a) (bag_term_top b) n h), bag-below n b (less_right (lin_top a) (bag_term_top b) n h))
from_top n (all_of u b p) h =
    let rest = less_right (bag_term_top b) (max u.number (assertion_top p)) n h in
    (less_left u.number (assertion_top p) n rest, bag-below n b (less_left (bag_term_top b) (max u.number (assertion_top p)) n h), from_top n p (less_right u.number (assertion_top p) n rest))
from_top n (negation p) h = from_top n p h
from_top n (both p q) h = (from_top n p (less_left (assertion_top p) (assertion_top q) n h), from_top n q (less_right (assertion_top p) (assertion_top q) n h))
from_top n (either p q) h = (from_top n p (less_left (assertion_top p) (assertion_top q) n h), from_top n q (less_right (assertion_top p) (assertion_top q) n h))
from_top n (exists u p) h = (less_left u.number (assertion_top p) n h, from_top n p (less_right u.number (assertion_top p) n h))
from_top n (forall u p) h = (less_left u.number (assertion_top p) n h, from_top n p (less_right u.number (assertion_top p) n h))

pub top-below : (n : ℕ) (p : Assertion) → 0 < n → Below n p → assertion_top p < n
top-below n truth h k = h
top-below n (eq a b) h k = lins-top n a b h k
top-below n (lt a b) h k = lins-top n a b h k
top-below n (le a b) h k = lins-top n a b h k
top-below n (divides d a) h k = lin-top n a h k
top-below n (bag_eq a b) h k = bags-top n a b h k
top-below n (subset a b) h k = bags-top n a b h k
top-below n (member a b) h k = less_both (lin_top a) (bag_term_top b) n (lin-top n a h k.0) (bag-top n b h k.1)
top-below n (all_of u b p) h k =
    less_both (bag_term_top b) (max u.number (assertion_top p)) n (bag-top n b h k.1) (less_both u.number (assertion_top p) n k.0 (top-below n p h k.2))
top-below n (negation p) h k = top-below n p h k
top-below n (both p q) h k = less_both (assertion_top p) (assertion_top q) n (top-below n p h k.0) (top-below n q h k.1)
top-below n (either p q) h k = less_both (assertion_top p) (assertion_top q) n (top-below n p h k.0) (top-below n q h k.1)
top-below n (exists u p) h k = less_both u.number (assertion_top p) n k.0 (top-below n p h k.1)
top-below n (forall u p) h k = less_both u.number (assertion_top p) n k.0 (top-below n p h k.1)

-- ---- a greater number

terms_below_more : (k n : ℕ) → k ≤ n → (ts : List (Var × ℤ)) → TermsBelow k ts → TermsBelow n ts
terms_below_more k n more [] h = tt
terms_below_more k n more (t ∷ ts) h = let first = h.0 in (omega arith, terms_below_more k n more ts h.1)

pub lin_below_more : (k n : ℕ) → k ≤ n → (a : Lin) → LinBelow k a → LinBelow n a
lin_below_more k n more a h = terms_below_more k n more a.terms h
