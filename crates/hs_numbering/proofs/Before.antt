-- The fault that is answered is before no other.
use Rattle.std.proofs.Common.{◌≡◌, ℕ, ◌+◌, ◌*◌, ◌<◌, ◌≤◌, Bool, true, false, nat_lt, nat_eq, ◌&&◌, ◌||◌, if◌then◌else◌, List, [], ◌∷◌, Option, None, Some, unwrap_or, ◌⊎◌, inl, inr, ⊎_elim, refl, sym, ap, ◌∙◌, subst, arith}
use Rattle.std.specs.List.{fold, All, Contains}
use Rattle.std.proofs.lemmas.List.Elements.{All-nil, All-cons, Contains-append_left, Contains-append_right, Contains-push}
use Rattle.std.proofs.lemmas.Bool.Decides.{nat_tests}
use Rattle.hs_numbering.specs.declared.fault.Fault.{Fault}
use Rattle.hs_numbering.specs.declared.fault.Problem.{Problem}
use Rattle.hs_numbering.specs.declared.fault.Problem.TheVariants.{Unknown, Twice, Kind, Arity, TooMany, Shape}
use Rattle.hs_numbering.specs.Least.{rank, is_before, is_first, least}
use Rattle.hs_numbering.specs.Laws.{LeastIsFirst}

lower : (m n : ℕ) → nat_lt m n ≡ true → m < n
lower m n h = grind (arith, nat_tests)

not_lower : (m n : ℕ) → nat_lt m n ≡ false → n ≤ m
not_lower m n h = grind (arith, nat_tests)

equal : (m n : ℕ) → nat_eq m n ≡ true → m ≡ n
equal m n h = grind (arith, nat_tests)

not_equal : (m n : ℕ) → nat_eq m n ≡ false → ¬ (m ≡ n)
not_equal m n h e = grind (arith, nat_tests)

-- pairs of numbers below 8 in their second place, as numbers
module _ (a r b s : ℕ) (r_small : r ≤ 5) (s_small : s ≤ 5) where
  pair_lower : (x y z : Bool) → nat_lt a b ≡ x → nat_eq a b ≡ y → nat_lt r s ≡ z → (x || (y && z)) ≡ true → a * 8 + r < b * 8 + s
  pair_lower true y z e f g h = let k = lower a b e in omega arith
  pair_lower false true true e f g h = let k = equal a b f in let m = lower r s g in omega arith
  pair_lower false true false e f g h = cc
  pair_lower false false z e f g h = cc

  pair_higher : (x y z : Bool) → nat_lt a b ≡ x → nat_eq a b ≡ y → nat_lt r s ≡ z → (x || (y && z)) ≡ false → b * 8 + s ≤ a * 8 + r
  pair_higher true y z e f g h = cc
  pair_higher false true true e f g h = cc
  pair_higher false true false e f g h = let k = equal a b f in let m = not_lower r s g in omega arith
  pair_higher false false z e f g h = far (not_lower a b e) (not_equal a b f)
    where
      far : b ≤ a → ¬ (a ≡ b) → b * 8 + s ≤ a * 8 + r
      far le apart = let lt : b < a = grind arith in omega arith

abbrev key : Fault → ℕ
key f = f.at * 8 + rank f.problem

small : (p : Problem) → rank p ≤ 5
small (Unknown x) = omega arith
small (Twice x) = omega arith
small Kind = omega arith
small Arity = omega arith
small (TooMany l) = omega arith
small Shape = omega arith

before : (f g : Fault) → is_before f g ≡ true → key f < key g
before f g h = pair_lower f.at (rank f.problem) g.at (rank g.problem) (small f.problem) (small g.problem) _ _ _ refl refl refl h

not_before : (f g : Fault) → is_before f g ≡ false → key g ≤ key f
not_before f g h = pair_higher f.at (rank f.problem) g.at (rank g.problem) (small f.problem) (small g.problem) _ _ _ refl refl refl h

from_key : (f g : Fault) → key g ≤ key f → is_before f g ≡ false
from_key f g le = of (is_before f g) refl
  where
    of : (b : Bool) → is_before f g ≡ b → is_before f g ≡ false
    of true e = absurd (let lt = before f g e in omega arith)
    of false e = e

abbrev best : Option Fault → List Fault → Option Fault
best = fold (λ found f. if is_first f found then Some f else found)

record Best (found : Option Fault) (fs : List Fault) (f : Fault) : Type 0 where
  inside : (found ≡ Some f) ⊎ Contains fs f
  first : All (λ g. key f ≤ key g) fs
  kept : (g : Fault) → found ≡ Some g → key f ≤ key g

some_eq : (g f : Fault) → Some g ≡ Some f → g ≡ f
some_eq g f e = ap (λ o. unwrap_or o g) e

in_head : (x : Fault) (fs : List Fault) → Contains (x ∷ fs) x
in_head x fs = Contains-append_left (x ∷ []) fs x (Contains-push [] x)

in_tail : (x : Fault) (fs : List Fault) (f : Fault) → Contains fs f → Contains (x ∷ fs) f
in_tail x fs f c = Contains-append_right (x ∷ []) fs f c

module _ (x : Fault) (fs : List Fault) (f : Fault) where
  -- x is the best so far
  taken : (found : Option Fault) → ((g : Fault) → found ≡ Some g → key x ≤ key g) → Best (Some x) fs f → Best found (x ∷ fs) f
  taken found above ih = record {
    inside = inr (⊎_elim (λ e. subst (Contains (x ∷ fs)) (some_eq x f e) (in_head x fs)) (in_tail x fs f) ih.inside);
    first = All-cons (λ g. key f ≤ key g) x fs (ih.kept x refl) ih.first;
    kept = λ g e. let h = above g e in let k = ih.kept x refl in omega arith;
  }

  -- x is not
  passed : (g : Fault) → key g ≤ key x → Best (Some g) fs f → Best (Some g) (x ∷ fs) f
  passed g le ih = record {
    inside = ⊎_elim inl (λ c. inr (in_tail x fs f c)) ih.inside;
    first = All-cons (λ g. key f ≤ key g) x fs (let h = ih.kept g refl in omega arith) ih.first;
    kept = ih.kept;
  }

best_of : (fs : List Fault) (found : Option Fault) (f : Fault) → best found fs ≡ Some f → Best found fs f
best_of [] found f e = record {
  inside = inl e;
  first = All-nil (λ g. key f ≤ key g);
  kept = λ g h. let is = some_eq g f (sym h ∙ e) in subst (λ (y : Fault). key f ≤ key y) (sym is) (omega arith);
}
best_of (x ∷ fs) None f e = taken x fs f None (λ g h. cc) (best_of fs (Some x) f e)
best_of (x ∷ fs) (Some g) f e = of (best_of fs (Some x) f) (best_of fs (Some g) f) (is_before x g) refl e
  where
    of : (best (Some x) fs ≡ Some f → Best (Some x) fs f) → (best (Some g) fs ≡ Some f → Best (Some g) fs f) →
        (b : Bool) → is_before x g ≡ b → best (if b then Some x else Some g) fs ≡ Some f → Best (Some g) (x ∷ fs) f
    of ih _ true h k = taken x fs f (Some g) (λ y is. let lt = before x g h in subst (λ (z : Fault). key x ≤ key z) (some_eq g y is) (omega arith)) (ih k)
    of _ ih false h k = passed x fs f g (not_before x g h) (ih k)

some_stays : (fs : List Fault) (g : Fault) → best (Some g) fs ≡ None → ⊥
some_stays [] g e = cc
some_stays (x ∷ fs) g e = of (some_stays fs x) (some_stays fs g) (is_before x g) e
  where
    of : (best (Some x) fs ≡ None → ⊥) → (best (Some g) fs ≡ None → ⊥) → (b : Bool) → best (if b then Some x else Some g) fs ≡ None → ⊥
    of ih _ true h = ih h
    of _ ih false h = ih h

none_of : (fs : List Fault) → least fs ≡ None → fs ≡ []
none_of [] e = refl
none_of (x ∷ fs) e = absurd (some_stays fs x e)

found_of : (fs : List Fault) (f : Fault) → least fs ≡ Some f → Contains fs f × All (λ g. is_before g f ≡ false) fs
found_of fs f e =
    let b = best_of fs None f e in
    (⊎_elim (λ h. cc) (λ c. c) b.inside, λ k d lt. from_key _ f (b.first k d lt))

pub least_is_first : LeastIsFirst
least_is_first = record { found = found_of; none = λ fs. (none_of fs, λ e. subst (λ xs. least xs ≡ None) (sym e) refl) }
