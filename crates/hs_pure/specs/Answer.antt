-- What an evaluation answers.
use Rattle.std.specs.Prelude.{◌≡◌, Bool, IsTrue, ◌↔◌, Result, Ok, Err}
use Rattle.hs_pure.specs.declared.eval.Wide.{Wide}

-- Ok, where the numbers fit, tells whether a fact holds
abbrev pub Tells : Result Bool Wide → Type 0 → Type 0 → Type 0
Tells (Ok b) fits fact = fits × (IsTrue b ↔ fact)
Tells (Err e) fits fact = ¬ fits

-- Ok, where the numbers fit, gives a value
abbrev pub Gives : {A : Type 0} → Result A Wide → Type 0 → A → Type 0
Gives (Ok a) fits b = fits × (a ≡ b)
Gives (Err e) fits b = ¬ fits
