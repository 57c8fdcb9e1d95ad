-- Reading from the left, up to the first fault.
use Rattle.std.specs.Prelude.{List, [], ◌∷◌, Result, Ok, Err}
use Rattle.std.specs.Prelude.{◌≡◌}
use Rattle.hs_line.specs.declared.fault.Fault.{Fault}
use Rattle.hs_line.specs.declared.fault.Stop.{Stop}
use Rattle.hs_line.specs.declared.fault.Stop.TheVariants as stop

-- a value, or what is wrong
abbrev pub Outcome : Type 0 → Type 0
Outcome A = Result A Fault

-- what is built of what is left, and what is left then
abbrev pub Steps : Type 0 → Type 0 → Type 0
Steps S A = S → Outcome (A × S)

-- the next step, on what the first one left
abbrev pub and_then : {A B S : Type 0} → Outcome (A × S) → (A → Steps S B) → Outcome (B × S)
and_then (Ok p) f = f p.0 p.1
and_then (Err e) f = Err e

infixl 10 ◌>>=◌
abbrev pub ◌>>=◌ : {A B S : Type 0} → Steps S A → (A → Steps S B) → Steps S B
p >>= f = λ s. and_then (p s) f

infixl 10 ◌>>◌
abbrev pub ◌>>◌ : {A B S : Type 0} → Steps S A → Steps S B → Steps S B
p >> q = p >>= (λ _. q)

-- nothing is read
abbrev pub pure : {A S : Type 0} → A → Steps S A
pure a = λ s. Ok (a, s)

-- an outcome, seen by a function
abbrev pub mapped : {A B : Type 0} → (A → B) → Outcome A → Outcome B
mapped f (Ok a) = Ok (f a)
mapped f (Err e) = Err e

-- what goes on with a value
abbrev pub on_ok : {A B : Type 0} → Outcome A → (A → Outcome B) → Outcome B
on_ok (Ok a) f = f a
on_ok (Err e) f = Err e

-- what a reader of all that is left makes of the rest
abbrev pub finish : {A B S : Type 0} → Steps S A → (A → S → Outcome B) → S → Outcome B
finish p f s = on_ok (p s) (λ r. f r.0 r.1)

-- each of these, up to the first fault
abbrev pub each : {A B : Type 0} → (A → Outcome B) → List A → Outcome (List B)
each f [] = Ok []
each f (x ∷ xs) = on_ok (f x) (λ y. mapped (λ ys. y ∷ ys) (each f xs))

-- ---- what a function that reads ensures

-- the outcome, with what is left then
abbrev pub Reads : {A S : Type 0} → Outcome (A × S) → Result A Fault → S → Type 0
Reads outcome (Ok a) new = outcome ≡ Ok (a, new)
Reads outcome (Err e) new = outcome ≡ Err e

-- the same of an answer that is seen by a view
abbrev pub ReadsAs : {A B S : Type 0} → (A → B) → Outcome (B × S) → Result A Fault → S → Type 0
ReadsAs view outcome (Ok a) new = outcome ≡ Ok (view a, new)
ReadsAs view outcome (Err e) new = outcome ≡ Err e

-- the outcome, unless memory runs out
abbrev pub Gives : {A : Type 0} → Outcome A → Result A Stop → Type 0
Gives outcome (Ok a) = outcome ≡ Ok a
Gives outcome (Err (stop.Fault e)) = outcome ≡ Err e
Gives outcome (Err stop.Memory) = Unit {0}

-- the same of an answer that is seen by a view
abbrev pub GivesAs : {A B : Type 0} → (A → B) → Outcome B → Result A Stop → Type 0
GivesAs view outcome (Ok a) = outcome ≡ Ok (view a)
GivesAs view outcome (Err (stop.Fault e)) = outcome ≡ Err e
GivesAs view outcome (Err stop.Memory) = Unit {0}

-- the outcome with what is left then, unless memory runs out
abbrev pub ReadsOn : {A S : Type 0} → Outcome (A × S) → Result A Stop → S → Type 0
ReadsOn outcome (Ok a) new = outcome ≡ Ok (a, new)
ReadsOn outcome (Err (stop.Fault e)) new = outcome ≡ Err e
ReadsOn outcome (Err stop.Memory) new = Unit {0}
