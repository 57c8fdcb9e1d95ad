-- What the layers above use of formulas.
use Rattle.std.specs.Prelude.{◌≡◌, ◌≤◌, ◌↔◌, IsTrue, ℤ, List, Some}
use Rattle.std.specs.List.{All, Any}
use Rattle.hs_pure.specs.declared.var.Var.{Var}
use Rattle.hs_pure.specs.declared.pure.Pure.{Pure}
use Rattle.hs_pure.specs.declared.pure.Pure.TheVariants as pure_of
use Rattle.hs_pure.specs.declared.valuation.Valuation.{Valuation}
use Rattle.hs_pure.specs.Multiset
use Rattle.hs_pure.specs.Stack.{Stack}
use Rattle.hs_pure.specs.Truth.{TrueAt}
use Rattle.hs_pure.specs.Occurs.{is_free, occurs, top_of, bag_use}
use Rattle.hs_pure.specs.Rename.{renamed, InRange}
use Rattle.hs_pure.specs.Eval.{stack_of, found_bag, listed_count}
use Rattle.hs_pure.specs.Sums.{IsLight, IsOrdered, KeepsKinds}
use Rattle.hs_pure.specs.Equated.{equated, equation}

-- stacks that agree on the free variables give one truth
abbrev pub TruthIsOfFree : Type 0
TruthIsOfFree = (p : Pure) (s t : Stack) → ((v : Var) → IsTrue (is_free v p) → s v ≡ t v) → TrueAt s p ↔ TrueAt t p

abbrev pub FreeOccurs : Type 0
FreeOccurs = (p : Pure) (v : Var) → IsTrue (is_free v p) → IsTrue (occurs v p)

abbrev pub OccursBelowTop : Type 0
OccursBelowTop = (p : Pure) (v : Var) → IsTrue (occurs v p) → v.number ≤ top_of p

abbrev pub AndIsAll : Type 0
AndIsAll = (s : Stack) (ps : List Pure) → TrueAt s (pure_of.And ps) ↔ All (TrueAt s) ps

abbrev pub OrIsAny : Type 0
OrIsAny = (s : Stack) (ps : List Pure) → TrueAt s (pure_of.Or ps) ↔ Any (TrueAt s) ps

-- a light formula may be renamed by every renaming
abbrev pub LightIsInRange : Type 0
LightIsInRange = (ρ : Var → Var) (p : Pure) → IsLight p → InRange ρ p

-- a formula in order may be renamed by every renaming that keeps apart what occurs in it
abbrev pub ApartIsInRange : Type 0
ApartIsInRange = (ρ : Var → Var) (p : Pure) → IsOrdered p →
    ((u v : Var) → IsTrue (occurs u p) → IsTrue (occurs v p) → ρ u ≡ ρ v → u ≡ v) → InRange ρ p

abbrev pub RenamedIsLight : Type 0
RenamedIsLight = (ρ : Var → Var) (p : Pure) → IsLight p → IsLight (renamed ρ p)

abbrev pub RenamedIsOrdered : Type 0
RenamedIsOrdered = (ρ : Var → Var) (p : Pure) → KeepsKinds ρ → IsOrdered p → IsOrdered (renamed ρ p)

-- a renaming leaves bag literals where they stand
abbrev pub RenamedBagUse : Type 0
RenamedBagUse = (ρ : Var → Var) (p : Pure) → bag_use (renamed ρ p) ≡ bag_use p

-- a valuation gives each bag variable the counts that it lists
abbrev pub ValuationCounts : Type 0
ValuationCounts = (v : Valuation) (u : Var) (x : ℤ) → Multiset.count (stack_of v u).bag x ≡ listed_count (found_bag v.bags u) x

-- exactly an equation between two variables equates them
abbrev pub EquatedIs : Type 0
EquatedIs = (p : Pure) (u v : Var) → (equated p ≡ Some (u, v)) ↔ (p ≡ equation u v)
