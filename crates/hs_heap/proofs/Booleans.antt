-- Cases of tests.
use Rattle.std.proofs.Common.{◌≡◌, Bool, true, false, not, ◌||◌, ◌⊎◌, inl, inr, refl, sym, ◌∙◌}

pub bool_cases : (b : Bool) → (b ≡ true) ⊎ (b ≡ false)
bool_cases true = inl refl
bool_cases false = inr refl

pub or_false_left : (a b : Bool) → (a || b) ≡ false → a ≡ false
or_false_left false b e = refl
or_false_left true b e = e

pub or_false_right : (a b : Bool) → (a || b) ≡ false → b ≡ false
or_false_right false b e = e
or_false_right true b e = absurd cc

pub clash : {A : Type 0} {b : Bool} → b ≡ true → b ≡ false → A
clash e f = let g : true ≡ false = sym e ∙ f in absurd cc

pub false_of_not : {b : Bool} → not b ≡ true → b ≡ false
false_of_not {b} e = elim (bool_cases b) [ inl is ↦ let f : not b ≡ false = rw is refl in clash e f | inr isnt ↦ isnt ]

pub not_of_false : {b : Bool} → b ≡ false → not b ≡ true
not_of_false e = rw e refl
