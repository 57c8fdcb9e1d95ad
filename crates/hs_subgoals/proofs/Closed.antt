-- Goals without subgoals, and sides in order.
use Rattle.std.proofs.Common.{◌≡◌, ℕ, false, not, ◌&&◌, List, [], ◌∷◌}
use Rattle.std.specs.List.{list_all, All}
use Rattle.std.proofs.lemmas.List.Elements.{All-nil, All-head}
use Rattle.hs_pure.specs.declared.var.Var.{Var}
use Rattle.hs_pure.specs.declared.pure.Pure.{Pure}
use Rattle.hs_pure.specs.Occurs.{has_bags}
use Rattle.hs_heap.specs.declared.formula.Disjunct.{Disjunct}
use Rattle.hs_heap.specs.declared.definitions.Defs.{Defs}
use Rattle.hs_heap.specs.WellFormed.{IsProper}
use Rattle.hs_heap.proofs.Tells.{Tells, tells_all, tells_not}
use Rattle.hs_goal.specs.Shape.{CaseFits, SideFits}
use Rattle.hs_goal.specs.Classes.{the_case}
use Rattle.hs_rules.specs.Parts.{has_open}

-- the test of the right conjuncts
abbrev pub AreApart : List Var → List Pure → Type 0
AreApart opens ps = All (λ p. (has_open opens p && has_bags p) ≡ false) ps

pub apart_told : (opens : List Var) (ps : List Pure) → Tells (list_all (λ p. not (has_open opens p && has_bags p)) ps) (AreApart opens ps)
apart_told opens ps =
    tells_all (λ p. not (has_open opens p && has_bags p)) (λ p. (has_open opens p && has_bags p) ≡ false) (λ p. tells_not (has_open opens p && has_bags p)) ps

-- the conjuncts of a side's disjunct are in order
pub case_is_proper : (defs : Defs) (next : ℕ) (ds : List Disjunct) → SideFits defs next (record { cases = ds }) → All IsProper (the_case (record { cases = ds })).pure
case_is_proper defs next [] fits = All-nil IsProper
case_is_proper defs next (d ∷ ds) fits = (All-head (CaseFits defs next) d ds fits).pure
