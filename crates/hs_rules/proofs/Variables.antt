-- Tests, lists of variables, and stacks that differ on them at most.
use Rattle.std.proofs.Common.{◌≡◌, Bool, false, ◌||◌, List, [], ◌∷◌, ◌++◌, refl, sym, ◌∙◌, arith, true}
use Rattle.hs_pure.specs.declared.var.Var.{Var}
use Rattle.hs_pure.specs.Stack.{Stack}
use Rattle.hs_heap.specs.Meaning.{is_in, SameBut}
use Rattle.hs_heap.proofs.Booleans.{or_false_left, or_false_right}

pub only_first : (b : Bool) → (b || false) ≡ true → b ≡ true
only_first true e = refl
only_first false e = e

pub is_in-append : (v : Var) (xs ys : List Var) → is_in v (xs ++ ys) ≡ (is_in v xs || is_in v ys)
is_in-append v [] ys = refl
is_in-append v (x ∷ xs) ys = let e = is_in-append v xs ys in grind arith

pub SameBut-sym : {vs : List Var} {s t : Stack} → SameBut vs s t → SameBut vs t s
SameBut-sym p = record { same = λ v e. sym (p.same v e) }

-- to change xs and then ys
pub SameBut-append : {xs ys : List Var} {s t u : Stack} → SameBut xs s t → SameBut ys t u → SameBut (xs ++ ys) s u
SameBut-append {xs} {ys} p q = record {
  same = λ v e.
      let f : (is_in v xs || is_in v ys) ≡ false = sym (is_in-append v xs ys) ∙ e in
      q.same v (or_false_right (is_in v xs) (is_in v ys) f) ∙ p.same v (or_false_left (is_in v xs) (is_in v ys) f);
}
