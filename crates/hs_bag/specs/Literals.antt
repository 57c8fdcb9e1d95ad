-- The literals of a formula, as the code makes them.
use Rattle.std.specs.Prelude.{ℕ, ◌+◌, ◌<◌, ◌⊎◌, Bool, true, false, List, [], ◌∷◌, length}
use Rattle.hs_pure.specs.declared.var.Var.{Var}
use Rattle.hs_pure.specs.declared.lin.Lin.{Lin}
use Rattle.hs_pure.specs.declared.pure.Pure.{Pure}
use Rattle.hs_pure.specs.Assertion.{BagTerm, Assertion, eq, lt, negation, both, either, every, some, assertion_of}
use Rattle.hs_reduction.specs.Layout.{Layout, width, element, bag_compounds, lin_place}
use Rattle.hs_reduction.specs.Instance.{Instance, instance}
use Rattle.hs_reduction.specs.Reduction.{all_below, signed, zero_term, count_term, all_defined, both_defined, positive_at, reduced}
use Rattle.hs_bag_parts.specs.declared.formula.Relation.{Relation}
use Rattle.hs_bag_parts.specs.Formulas.{related}
use Rattle.hs_bag_parts.specs.Reading.{compounds_of, denied_of}
use Rattle.hs_bag_parts.specs.Substituting.{InstanceIsWide}
use Rattle.hs_bag.specs.Substituting.{ReducedIsWide}

-- the members as a conjunction, or as a disjunction
abbrev pub joined : Bool → List Assertion → Assertion
joined true ps = every ps
joined false ps = some ps

module _ (l : Layout) where
  -- two counts compared at every element term, or the denial at a new one
  abbrev pub stated : Bool → Relation → (ℕ → Lin) → (ℕ → Lin) → ℕ → Assertion
  stated true relation x y new = all_below (width l) (λ i. related relation (x i) (y i))
  stated false relation x y new = negation (related relation (x (length l.listed + new)) (y (length l.listed + new)))

  -- two bags compared
  abbrev pub compared : Bool → Relation → BagTerm → BagTerm → ℕ → ℕ → Assertion
  compared asserted relation a b new block =
      both (both_defined l block a b) (stated asserted relation (count_term l block a) (count_term l (block + bag_compounds a) b) new)

  -- a member of a bag
  abbrev pub contained : Bool → Lin → BagTerm → ℕ → Assertion
  contained asserted a b block = both (all_defined l block b) (signed asserted (positive_at l block b (lin_place a l.listed)))

  module _ (way : Instance) (end : ℕ) where
    -- where the count is not 0, the instance
    abbrev pub held : (ℕ → Lin) → Var → Assertion → ℕ → Assertion
    held x u p i = either (eq (x i) zero_term) (instance way u (element l i) end p)

    abbrev pub broken : (ℕ → Lin) → Var → Assertion → ℕ → Assertion
    broken x u p i = both (lt zero_term (x i)) (negation (instance way u (element l i) end p))

    -- at every element term, or the denial at a new one
    abbrev pub all_held : Bool → (ℕ → Lin) → Var → Assertion → ℕ → Assertion
    all_held true x u p new = all_below (width l) (held x u p)
    all_held false x u p new = broken x u p (length l.listed + new)

    abbrev pub HeldIsWide : Bool → Var → Assertion → ℕ → Type 0
    HeldIsWide true u p new = (i : ℕ) × ((i < width l) × InstanceIsWide way u (element l i) end p)
    HeldIsWide false u p new = InstanceIsWide way u (element l (length l.listed + new)) end p

    -- formulas one after another
    abbrev pub reduced_all : Bool → List Pure → ℕ → ℕ → List Assertion
    reduced_all asserted [] new block = []
    reduced_all asserted (p ∷ ps) new block =
        reduced l way end asserted (assertion_of p) new block ∷ reduced_all asserted ps (new + denied_of asserted p) (block + compounds_of p)

    -- some sum of an instance in one of them passes 128 bits
    abbrev pub AllAreWide : Bool → List Pure → ℕ → Type 0
    AllAreWide asserted [] new = ⊥
    AllAreWide asserted (p ∷ ps) new = ReducedIsWide l way end asserted (assertion_of p) new ⊎ AllAreWide asserted ps (new + denied_of asserted p)
