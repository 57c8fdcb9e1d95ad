-- A calculus of numbers that are taken down to 0 by twos.
use Rattle.std.specs.Prelude.{ℕ, ◌-◌, Bool, true, false, List, [], ◌∷◌, zero, suc}
use Rattle.std.specs.List.{flat_map}
use Rattle.std.proofs.Common.{arith}
use Rattle.hs_calculus.specs.Calculus.{Calculus, Falls}
use Rattle.hs_tests_calculus.specs.declared.toy.Rule.{Rule}
use Rattle.hs_tests_calculus.specs.declared.toy.Rule.TheVariants.{End, Down, Twice}

abbrev pub choices_at : ℕ → List Rule
choices_at zero = End ∷ []
choices_at (suc zero) = []
choices_at (suc (suc zero)) = Down ∷ []
choices_at (suc (suc (suc zero))) = Down ∷ Twice ∷ []
choices_at (suc (suc (suc (suc zero)))) = Down ∷ Twice ∷ []
choices_at (suc (suc (suc (suc (suc n))))) = Down ∷ []

abbrev pub is_paid : Rule → Bool
is_paid End = false
is_paid Down = false
is_paid Twice = true

abbrev pub subgoals_by : ℕ → Rule → List ℕ
subgoals_by n End = []
subgoals_by n Down = (n - 2) ∷ []
subgoals_by n Twice = (n - 2) ∷ (n - 2) ∷ []

-- a derivation is the list of its rules
abbrev pub toy : Calculus ℕ Rule (List Rule)
toy =
    record {
      choices = choices_at;
      is_paid = is_paid;
      subgoals = subgoals_by;
      holds = λ goal rule. true;
      join = λ goal rule parts. rule ∷ flat_map (λ part. part) parts;
      size = λ n. n;
    }

pub falls : Falls toy
falls zero = (λ free. tt, tt)
falls (suc zero) = tt
falls (suc (suc zero)) = (λ free. (omega arith, tt), tt)
falls (suc (suc (suc zero))) = (λ free. (omega arith, tt), (λ free. absurd (cc), tt))
falls (suc (suc (suc (suc zero)))) = (λ free. (omega arith, tt), (λ free. absurd (cc), tt))
falls (suc (suc (suc (suc (suc n))))) = (λ free. (omega arith, tt), tt)
