-- What formulas mean where each place of a variable has an integer, and what the stages stand on.
use Rattle.std.proofs.Common.{◌≡◌, ℕ, zero, suc, ◌*◌, ◌<◌, ◌≤◌, eqb, cond, false, IsTrue, ◌⊎◌, List, [], ◌∷◌, ℤ, pos, negsuc, ◌+ℤ◌, ◌*ℤ◌, ◌<ℤ◌}
use Rattle.hs_pure.specs.declared.var.Var.{Var}
use Rattle.hs_pure.specs.declared.lin.Lin.{Lin}
use Rattle.hs_pure.specs.Assertion.{Assertion, truth, eq, lt, le, divides, bag_eq, subset, member, all_of, negation, both, either, exists, forall}
use Rattle.hs_elimination.specs.Linear.{place, coefficient}
use Rattle.hs_elimination.specs.Form.{Form, const, positive, multiple, no_multiple, conjunction, disjunction}
use Rattle.hs_elimination.proofs.Univariate.{Divides}

-- an integer for each place
abbrev pub Assignment : Type 0
Assignment = ℕ → ℤ

abbrev pub assign : Assignment → ℕ → ℤ → Assignment
assign s x y = λ n. cond (eqb n x) y (s n)

abbrev pub sum_at : Assignment → List (Var × ℤ) → ℤ
sum_at s [] = pos 0
sum_at s (e ∷ es) = e.1 *ℤ s (place e.0) +ℤ sum_at s es

abbrev pub value : Assignment → Lin → ℤ
value s t = sum_at s t.terms +ℤ t.constant

abbrev pub Holds : Assignment → Form → Type 0
Holds s (const b) = IsTrue b
Holds s (positive t) = pos 0 <ℤ value s t
Holds s (multiple d t) = Divides d (value s t)
Holds s (no_multiple d t) = ¬ (Divides d (value s t))
Holds s (conjunction f g) = Holds s f × Holds s g
Holds s (disjunction f g) = Holds s f ⊎ Holds s g

-- one of a list, in the order in which proofs go through it
abbrev pub any_of : List Form → Form
any_of [] = const false
any_of (f ∷ fs) = disjunction f (any_of fs)

-- the variables rise, from place m on, and no coefficient is 0
abbrev pub RisesFrom : ℕ → List (Var × ℤ) → Type 0
RisesFrom m [] = Unit {0}
RisesFrom m (e ∷ es) = (m ≤ place e.0) × ¬ (e.1 ≡ pos 0) × RisesFrom (suc (place e.0)) es

-- what holds of each sum
module _ (P : Lin → Type 0) where
  abbrev pub AllLins : Form → Type 0
  AllLins (const b) = Unit {0}
  AllLins (positive t) = P t
  AllLins (multiple d t) = P t
  AllLins (no_multiple d t) = P t
  AllLins (conjunction f g) = AllLins f × AllLins g
  AllLins (disjunction f g) = AllLins f × AllLins g

abbrev pub AreRising : Form → Type 0
AreRising (const b) = Unit {0}
AreRising (positive t) = RisesFrom 0 t.terms
AreRising (multiple d t) = RisesFrom 0 t.terms
AreRising (no_multiple d t) = RisesFrom 0 t.terms
AreRising (conjunction f g) = AreRising f × AreRising g
AreRising (disjunction f g) = AreRising f × AreRising g

-- the sums of an assertion without bag literals rise
abbrev pub HasRising : Assertion → Type 0
HasRising truth = Unit {0}
HasRising (eq t u) = RisesFrom 0 t.terms × RisesFrom 0 u.terms
HasRising (lt t u) = RisesFrom 0 t.terms × RisesFrom 0 u.terms
HasRising (le t u) = RisesFrom 0 t.terms × RisesFrom 0 u.terms
HasRising (divides d t) = RisesFrom 0 t.terms
HasRising (bag_eq a b) = Unit {0}
HasRising (subset a b) = Unit {0}
HasRising (member a b) = Unit {0}
HasRising (all_of u b p) = Unit {0}
HasRising (negation p) = HasRising p
HasRising (both p q) = HasRising p × HasRising q
HasRising (either p q) = HasRising p × HasRising q
HasRising (exists u p) = HasRising p
HasRising (forall u p) = HasRising p

abbrev pub HasPositiveDivisors : Form → Type 0
HasPositiveDivisors (const b) = Unit {0}
HasPositiveDivisors (positive t) = Unit {0}
HasPositiveDivisors (multiple d t) = 0 < d
HasPositiveDivisors (no_multiple d t) = 0 < d
HasPositiveDivisors (conjunction f g) = HasPositiveDivisors f × HasPositiveDivisors g
HasPositiveDivisors (disjunction f g) = HasPositiveDivisors f × HasPositiveDivisors g

-- x occurs nowhere
abbrev pub LacksEntry : ℕ → List (Var × ℤ) → Type 0
LacksEntry x [] = Unit {0}
LacksEntry x (e ∷ es) = ¬ (place e.0 ≡ x) × LacksEntry x es

abbrev pub Lacks : ℕ → Form → Type 0
Lacks x (const b) = Unit {0}
Lacks x (positive t) = LacksEntry x t.terms
Lacks x (multiple d t) = LacksEntry x t.terms
Lacks x (no_multiple d t) = LacksEntry x t.terms
Lacks x (conjunction f g) = Lacks x f × Lacks x g
Lacks x (disjunction f g) = Lacks x f × Lacks x g

-- ---- what the second stage stands on

-- l is a multiple of the coefficient c, if that is not 0
abbrev pub HasCoefficient : ℕ → ℤ → Type 0
HasCoefficient l (pos zero) = Unit {0}
HasCoefficient l (pos (suc n)) = (q : ℕ) × (l ≡ q * suc n)
HasCoefficient l (negsuc n) = (q : ℕ) × (l ≡ q * suc n)

-- l is a multiple of each coefficient of x
abbrev pub IsCommonMultiple : ℕ → ℕ → Form → Type 0
IsCommonMultiple l x (const b) = Unit {0}
IsCommonMultiple l x (positive t) = RisesFrom 0 t.terms × HasCoefficient l (coefficient x t.terms)
IsCommonMultiple l x (multiple d t) = RisesFrom 0 t.terms × HasCoefficient l (coefficient x t.terms)
IsCommonMultiple l x (no_multiple d t) = RisesFrom 0 t.terms × HasCoefficient l (coefficient x t.terms)
IsCommonMultiple l x (conjunction f g) = IsCommonMultiple l x f × IsCommonMultiple l x g
IsCommonMultiple l x (disjunction f g) = IsCommonMultiple l x f × IsCommonMultiple l x g

-- ---- what the third stage stands on

abbrev pub IsUnit : ℤ → Type 0
IsUnit c = (c ≡ pos 0) ⊎ (c ≡ pos 1) ⊎ (c ≡ negsuc 0)

-- m is a multiple of d, the divisor of a literal where x has the coefficient c
abbrev pub IsMultipleOf : ℕ → ℕ → ℤ → Type 0
IsMultipleOf m d (pos zero) = Unit {0}
IsMultipleOf m d (pos (suc n)) = (c : ℕ) × (m ≡ c * d)
IsMultipleOf m d (negsuc n) = (c : ℕ) × (m ≡ c * d)

-- each coefficient of x is 0, 1 or -1, and m is a multiple of each divisor of a literal with x
abbrev pub IsScaled : ℕ → ℕ → Form → Type 0
IsScaled m x (const b) = Unit {0}
IsScaled m x (positive t) = RisesFrom 0 t.terms × IsUnit (coefficient x t.terms)
IsScaled m x (multiple d t) = RisesFrom 0 t.terms × IsUnit (coefficient x t.terms) × IsMultipleOf m d (coefficient x t.terms)
IsScaled m x (no_multiple d t) = RisesFrom 0 t.terms × IsUnit (coefficient x t.terms) × IsMultipleOf m d (coefficient x t.terms)
IsScaled m x (conjunction f g) = IsScaled m x f × IsScaled m x g
IsScaled m x (disjunction f g) = IsScaled m x f × IsScaled m x g
