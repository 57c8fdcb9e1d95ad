-- The bags that a list of counts says.
use Rattle.std.specs.Prelude.{◌≡◌, ℕ, zero, suc, ℤ, pos, ◌<ℤ◌, ◌≤ℤ◌, List, [], ◌∷◌, ◌++◌, if◌then◌else◌, FitsSigned}
use mir.Syntax.{w128}
use Rattle.std.specs.List.{All, Any}
use Rattle.hs_pure.specs.declared.var.Var.{Var}
use Rattle.hs_pure.specs.declared.valuation.Valuation.{Valuation}
use Rattle.hs_pure.specs.Multiset.{Multiset, nothing, set_count}
use Rattle.hs_pure.specs.Stack.{Stack, same}
use Rattle.hs_pure.specs.Truth.{value}
use Rattle.hs_pure.specs.Eval.{natural}
use Rattle.hs_reduction.specs.Layout.{number_variable, name_place, Layout, width, element, count_number}
use Rattle.hs_counts.specs.declared.count.Count.{Count}

module _ (t : Stack) where
  -- the bag m, in which each item of v, one after another, sets how often its element is there
  abbrev pub bag_with : List Count → Var → Multiset → Multiset
  bag_with [] v m = m
  bag_with (c ∷ cs) v m = bag_with cs v (if same c.of v then set_count m (value t c.element) (natural (t c.count).number) else m)

  -- the stack with the bags that a list of counts says: nothing else is in them
  abbrev pub stack_with_counts : List Count → Stack
  stack_with_counts cs v = record { number = (t v).number; bag = bag_with cs v nothing }

  -- no count is negative, and equal elements of one bag variable have equal counts
  abbrev pub ItemsAreRight : List Count → Type 0
  ItemsAreRight cs = All (λ c. (pos 0 ≤ℤ (t c.count).number) × All (λ d. c.of ≡ d.of → value t c.element ≡ value t d.element → (t c.count).number ≡ (t d.count).number) cs) cs

  -- the value of an element has more than 128 bits
  abbrev pub HasWideElement : List Count → Type 0
  HasWideElement cs = Any (λ c. ¬ (FitsSigned w128 (value t c.element))) cs

-- ---- the counts of a reduction

module _ (l : Layout) where
  -- of the bag variable v, whose counts stand in a block, at the first n element terms
  abbrev pub block_counts : Var → ℕ → ℕ → List Count
  block_counts v block zero = []
  block_counts v block (suc n) = block_counts v block n ++ record { of = v; element = element l n; count = number_variable (count_number l block n) } ∷ []

  abbrev pub counts_of_names : List Var → List Count
  counts_of_names [] = []
  counts_of_names (v ∷ vs) = block_counts v (name_place v l.bags) (width l) ++ counts_of_names vs

  -- of each bag variable at each element term
  abbrev pub counts_of : List Count
  counts_of = counts_of_names l.bags

-- ---- how a valuation lists bags

-- distinct elements by rising value, with positive counts
abbrev pub Rises : List (ℤ × ℤ) → Type 0
Rises [] = Unit {0}
Rises (e ∷ es) = (pos 0 <ℤ e.1) × All (λ f. e.0 <ℤ f.0) es × Rises es

-- each bag of the valuation
abbrev pub BagsRise : Valuation → Type 0
BagsRise v = All (λ b. Rises b.1) v.bags
