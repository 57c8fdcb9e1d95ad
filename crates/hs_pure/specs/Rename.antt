-- Variables in the place of others, at once.
use Rattle.std.specs.Prelude.{◌≡◌, true, ℕ, ◌<◌, ℤ, pos, ◌+ℤ◌, nat_lt, List, [], ◌∷◌, ◌++◌, length, slice_index_or, if◌then◌else◌, IsTrue, take, FitsSigned}
use Rattle.std.specs.List.{All, fold, flat_map}
use mir.Syntax.{w128}
use Rattle.std.specs.Ordering.{int_eq}
use Rattle.hs_pure.specs.declared.var.Var.{Var}
use Rattle.hs_pure.specs.declared.lin.Lin.{Lin}
use Rattle.hs_pure.specs.declared.bag.Bag.{Bag, fold-Bag}
use Rattle.hs_pure.specs.declared.bag.Bag.TheOpen.{Bag-F}
use Rattle.hs_pure.specs.declared.bag.Bag.TheVariants as bag_of
use Rattle.hs_pure.specs.declared.pure.Pure.{Pure, fold-Pure}
use Rattle.hs_pure.specs.declared.pure.Pure.TheOpen.{Pure-F}
use Rattle.hs_pure.specs.declared.pure.Pure.TheVariants as pure_of
use Rattle.hs_pure.specs.Stack.{same}
use Rattle.hs_pure.specs.Occurs.{is_bound, occurs}

-- what a list of pairs puts in the place of a variable: the first pair of the variable counts
abbrev pub renaming : List (Var × Var) → Var → Var
renaming [] v = v
renaming (m ∷ ms) v = if same m.0 v then m.1 else renaming ms v

-- c times v added to a sum, which stays in order and without coefficient 0
abbrev pub add_term : Var → ℤ → List (Var × ℤ) → List (Var × ℤ)
add_term v c [] = (v, c) ∷ []
add_term v c (t ∷ ts) =
    if nat_lt t.0.number v.number then t ∷ add_term v c ts
    else (if same t.0 v then (if int_eq (t.1 +ℤ c) (pos 0) then ts else (v, t.1 +ℤ c) ∷ ts) else (v, c) ∷ t ∷ ts)

module _ (ρ : Var → Var) where
  -- the renamed terms are added up in their order
  abbrev pub renamed_terms : List (Var × ℤ) → List (Var × ℤ)
  renamed_terms ts = fold (λ sum t. add_term (ρ t.0) t.1 sum) [] ts

  abbrev pub renamed_lin : Lin → Lin
  renamed_lin a = record { terms = renamed_terms a.terms; constant = a.constant }

  abbrev pub renamed_bag_level : Bag-F Bag → Bag
  renamed_bag_level Bag-F.Empty = bag_of.Empty
  renamed_bag_level (Bag-F.Name v) = bag_of.Name (ρ v)
  renamed_bag_level (Bag-F.One a) = bag_of.One (renamed_lin a)
  renamed_bag_level (Bag-F.Union a b) = bag_of.Union a b
  renamed_bag_level (Bag-F.Inter a b) = bag_of.Inter a b
  renamed_bag_level (Bag-F.Diff a b) = bag_of.Diff a b

  abbrev pub renamed_bag : Bag → Bag
  renamed_bag = fold-Bag Bag renamed_bag_level

  abbrev pub renamed_level : Pure-F Pure → Pure
  renamed_level (Pure-F.Eq a b) = pure_of.Eq (renamed_lin a) (renamed_lin b)
  renamed_level (Pure-F.Lt a b) = pure_of.Lt (renamed_lin a) (renamed_lin b)
  renamed_level (Pure-F.Le a b) = pure_of.Le (renamed_lin a) (renamed_lin b)
  renamed_level (Pure-F.Divides d a) = pure_of.Divides d (renamed_lin a)
  renamed_level (Pure-F.BagEq a b) = pure_of.BagEq (renamed_bag a) (renamed_bag b)
  renamed_level (Pure-F.Subset a b) = pure_of.Subset (renamed_bag a) (renamed_bag b)
  renamed_level (Pure-F.Member a b) = pure_of.Member (renamed_lin a) (renamed_bag b)
  renamed_level (Pure-F.AllOf u b p) = pure_of.AllOf (ρ u) (renamed_bag b) p
  renamed_level (Pure-F.Not p) = pure_of.Not p
  renamed_level (Pure-F.And ps) = pure_of.And ps
  renamed_level (Pure-F.Or ps) = pure_of.Or ps
  renamed_level (Pure-F.Exists u p) = pure_of.Exists (ρ u) p
  renamed_level (Pure-F.Forall u p) = pure_of.Forall (ρ u) p

  -- the formula with ρ v in the place of each v, bound ones too
  abbrev pub renamed : Pure → Pure
  renamed = fold-Pure Pure renamed_level

-- ---- conditions

abbrev pub bag_sums_level : Bag-F (List Lin) → List Lin
bag_sums_level Bag-F.Empty = []
bag_sums_level (Bag-F.Name v) = []
bag_sums_level (Bag-F.One a) = a ∷ []
bag_sums_level (Bag-F.Union a b) = a ++ b
bag_sums_level (Bag-F.Inter a b) = a ++ b
bag_sums_level (Bag-F.Diff a b) = a ++ b

-- the sums that occur in a bag
abbrev pub bag_sums : Bag → List Lin
bag_sums = fold-Bag (List Lin) bag_sums_level

abbrev pub sums_level : Pure-F (List Lin) → List Lin
sums_level (Pure-F.Eq a b) = a ∷ b ∷ []
sums_level (Pure-F.Lt a b) = a ∷ b ∷ []
sums_level (Pure-F.Le a b) = a ∷ b ∷ []
sums_level (Pure-F.Divides d a) = a ∷ []
sums_level (Pure-F.BagEq a b) = bag_sums a ++ bag_sums b
sums_level (Pure-F.Subset a b) = bag_sums a ++ bag_sums b
sums_level (Pure-F.Member a b) = a ∷ bag_sums b
sums_level (Pure-F.AllOf u b p) = bag_sums b ++ p
sums_level (Pure-F.Not p) = p
sums_level (Pure-F.And ps) = flat_map (λ p. p) ps
sums_level (Pure-F.Or ps) = flat_map (λ p. p) ps
sums_level (Pure-F.Exists u p) = p
sums_level (Pure-F.Forall u p) = p

-- the sums that occur in a formula
abbrev pub sums : Pure → List Lin
sums = fold-Pure (List Lin) sums_level

-- where v has a term already, both coefficients add up to a number of the program
abbrev pub MergeFits : Var → ℤ → List (Var × ℤ) → Type 0
MergeFits v c ts = All (λ t. same t.0 v ≡ true → FitsSigned w128 (t.1 +ℤ c)) ts

-- the terms of a sum that become terms of one variable, one after another, add up to numbers of the program
pub record LinInRange (ρ : Var → Var) (a : Lin) : Type 0 where
  pub merges_fit : (k : ℕ) (d : Var × ℤ) → k < length a.terms →
      MergeFits (ρ (slice_index_or a.terms k d).0) (slice_index_or a.terms k d).1 (renamed_terms ρ (take k a.terms))

-- the same of each sum of a bag
pub record BagInRange (ρ : Var → Var) (b : Bag) : Type 0 where
  pub each : All (LinInRange ρ) (bag_sums b)

-- the same of each sum of a formula
pub record InRange (ρ : Var → Var) (p : Pure) : Type 0 where
  pub each : All (LinInRange ρ) (sums p)

-- no two different variables of the formula, of which one is bound in it, become one
abbrev pub KeepsApart : (Var → Var) → Pure → Type 0
KeepsApart ρ p = (u v : Var) → IsTrue (is_bound u p) → IsTrue (occurs v p) → ρ u ≡ ρ v → u ≡ v
