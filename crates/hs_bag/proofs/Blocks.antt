-- The blocks of compound bags, as the code counts them.
use Rattle.std.proofs.Common.{◌≡◌, ℕ, suc, ◌+◌, ◌≤◌, Bool, true, false, Option, Some, List, [], ◌∷◌, length, refl, sym, ap, ◌∙◌, subst, arith, if◌then◌else◌}
use Rattle.hs_pure.specs.declared.var.Var.{Var}
use Rattle.hs_pure.specs.Stack.{same}
use Rattle.hs_pure.specs.declared.bag.Bag.{Bag}
use Rattle.hs_pure.specs.declared.bag.Bag.TheVariants as bag_of
use Rattle.hs_pure.specs.Assertion.{BagTerm, empty, name, one, union, inter, diff, Assertion, both, bag_level, bag_term_of}
use Rattle.hs_pure.proofs.Views.{fold_bag-Union, fold_bag-Inter, fold_bag-Diff}
use Rattle.hs_reduction.specs.Layout.{name_place, bag_compounds, variable, count_number}
use Rattle.hs_reduction.specs.Layout as Laid
use Rattle.hs_reduction.specs.Reduction.{count_term, defined}
use Rattle.hs_bag.specs.declared.define.Operation.{Operation}
use Rattle.hs_bag.specs.declared.define.Operation.TheVariants as operation
use Rattle.hs_bag.specs.declared.layout.Layout.{Layout}
use Rattle.hs_bag_parts.specs.Formulas.{counted}
use Rattle.hs_bag.specs.Counting.{operated, layout_of, own_block, number_in, LayoutFits, BlockFits}

name_place_within : (v : Var) (ws : List Var) → name_place v ws ≤ length ws
name_place_within v [] = omega arith
name_place_within v (w ∷ ws) = by_test (name_place_within v ws) (same w v)
  where
    by_test : name_place v ws ≤ length ws → (b : Bool) → (if b then 0 else suc (name_place v ws)) ≤ suc (length ws)
    by_test h true = omega arith
    by_test h false = omega arith

own_within : (l : Layout) (block : ℕ) (b : BagTerm) → LayoutFits l → block + bag_compounds b ≤ l.blocks → BlockFits l.blocks (own_block (layout_of l) block b)
own_within l block empty f h = tt
own_within l block (name v) f h = let place = name_place_within v l.bags in let bags : length l.bags ≤ l.blocks = f.bags in omega arith
own_within l block (one a) f h = omega arith
own_within l block (union a b) f h = omega arith
own_within l block (inter a b) f h = omega arith
own_within l block (diff a b) f h = omega arith

-- the block of a bag is none that is too great
pub own_fits : (l : Layout) (block : ℕ) (b : BagTerm) (own : Option ℕ) → own ≡ own_block (layout_of l) block b → LayoutFits l → block + bag_compounds b ≤ l.blocks → BlockFits l.blocks own
own_fits l block b own e f h = subst (BlockFits l.blocks) (sym e) (own_within l block b f h)

-- ---- operations

abbrev combined : Operation → BagTerm → BagTerm → BagTerm
combined operation.Union a b = union a b
combined operation.Inter a b = inter a b
combined operation.Diff a b = diff a b

pub counted_own : (l : Laid.Layout) (block : ℕ) (b : BagTerm) (i : ℕ) → counted (number_in l (own_block l block b) i) ≡ count_term l block b i
counted_own l block empty i = refl
counted_own l block (name v) i = refl
counted_own l block (one a) i = refl
counted_own l block (union a b) i = refl
counted_own l block (inter a b) i = refl
counted_own l block (diff a b) i = refl

defined-combined : (o : Operation) (l : Laid.Layout) (block : ℕ) (a b : BagTerm) (i : ℕ) → defined l block (combined o a b) i
    ≡ both (both (defined l block a i) (defined l (block + bag_compounds a) b i)) (operated o (variable (count_number l (block + bag_compounds a + bag_compounds b) i)) (count_term l block a i) (count_term l (block + bag_compounds a) b i))
defined-combined operation.Union l block a b i = refl
defined-combined operation.Inter l block a b i = refl
defined-combined operation.Diff l block a b i = refl

module _ (l : Laid.Layout) (block i n m : ℕ) (a b : Bag) (p q : Assertion) (x y : Option ℕ)
    (p_is : p ≡ defined l block (bag_term_of a) i) (x_is : x ≡ own_block l block (bag_term_of a)) (n_is : n ≡ block + bag_compounds (bag_term_of a))
    (q_is : q ≡ defined l n (bag_term_of b) i) (y_is : y ≡ own_block l n (bag_term_of b)) (m_is : m ≡ n + bag_compounds (bag_term_of b)) where
  defined-parts : (o : Operation) → both (both p q) (operated o (counted (number_in l (Some m) i)) (counted (number_in l x i)) (counted (number_in l y i))) ≡ defined l block (combined o (bag_term_of a) (bag_term_of b)) i
  defined-parts o =
      let first : counted (number_in l x i) ≡ count_term l block (bag_term_of a) i = ap (λ o. counted (number_in l o i)) x_is ∙ counted_own l block (bag_term_of a) i in
      let second : counted (number_in l y i) ≡ count_term l (block + bag_compounds (bag_term_of a)) (bag_term_of b) i
      = ap (λ o. counted (number_in l o i)) y_is ∙ counted_own l n (bag_term_of b) i ∙ ap (λ k. count_term l k (bag_term_of b) i) n_is in
      let own : counted (number_in l (Some m) i) ≡ variable (count_number l (block + bag_compounds (bag_term_of a) + bag_compounds (bag_term_of b)) i)
      = ap (λ k. variable (count_number l k i)) (m_is ∙ ap (λ k. k + bag_compounds (bag_term_of b)) n_is) in
      let second_is : q ≡ defined l (block + bag_compounds (bag_term_of a)) (bag_term_of b) i = q_is ∙ ap (λ k. defined l k (bag_term_of b) i) n_is in
      (λ j. both (both (p_is j) (second_is j)) (operated o (own j) (first j) (second j))) ∙ sym (defined-combined o l block (bag_term_of a) (bag_term_of b) i)

  pub union_defined : (whole : Bag) → whole ≡ bag_of.Union a b → both (both p q) (operated operation.Union (counted (number_in l (Some m) i)) (counted (number_in l x i)) (counted (number_in l y i))) ≡ defined l block (bag_term_of whole) i
  union_defined whole is = defined-parts operation.Union ∙ sym (ap (λ c. defined l block c i) (ap bag_term_of is ∙ fold_bag-Union bag_level a b))

  pub inter_defined : (whole : Bag) → whole ≡ bag_of.Inter a b → both (both p q) (operated operation.Inter (counted (number_in l (Some m) i)) (counted (number_in l x i)) (counted (number_in l y i))) ≡ defined l block (bag_term_of whole) i
  inter_defined whole is = defined-parts operation.Inter ∙ sym (ap (λ c. defined l block c i) (ap bag_term_of is ∙ fold_bag-Inter bag_level a b))

  pub diff_defined : (whole : Bag) → whole ≡ bag_of.Diff a b → both (both p q) (operated operation.Diff (counted (number_in l (Some m) i)) (counted (number_in l x i)) (counted (number_in l y i))) ≡ defined l block (bag_term_of whole) i
  diff_defined whole is = defined-parts operation.Diff ∙ sym (ap (λ c. defined l block c i) (ap bag_term_of is ∙ fold_bag-Diff bag_level a b))

-- ---- room for the blocks of two bags and of their operation

pub union_room : (block n : ℕ) (a b whole : Bag) → whole ≡ bag_of.Union a b → block + bag_compounds (bag_term_of whole) ≤ n → block + bag_compounds (bag_term_of a) + bag_compounds (bag_term_of b) + 1 ≤ n
union_room block n a b whole is h = let e : bag_compounds (bag_term_of whole) ≡ bag_compounds (bag_term_of a) + bag_compounds (bag_term_of b) + 1 = ap bag_compounds (ap bag_term_of is ∙ fold_bag-Union bag_level a b) in omega arith

pub inter_room : (block n : ℕ) (a b whole : Bag) → whole ≡ bag_of.Inter a b → block + bag_compounds (bag_term_of whole) ≤ n → block + bag_compounds (bag_term_of a) + bag_compounds (bag_term_of b) + 1 ≤ n
inter_room block n a b whole is h = let e : bag_compounds (bag_term_of whole) ≡ bag_compounds (bag_term_of a) + bag_compounds (bag_term_of b) + 1 = ap bag_compounds (ap bag_term_of is ∙ fold_bag-Inter bag_level a b) in omega arith

pub diff_room : (block n : ℕ) (a b whole : Bag) → whole ≡ bag_of.Diff a b → block + bag_compounds (bag_term_of whole) ≤ n → block + bag_compounds (bag_term_of a) + bag_compounds (bag_term_of b) + 1 ≤ n
diff_room block n a b whole is h = let e : bag_compounds (bag_term_of whole) ≡ bag_compounds (bag_term_of a) + bag_compounds (bag_term_of b) + 1 = ap bag_compounds (ap bag_term_of is ∙ fold_bag-Diff bag_level a b) in omega arith

pub first_fits : (l : Layout) (block : ℕ) (a b : Bag) (own : Option ℕ) → LayoutFits l → own ≡ own_block (layout_of l) block (bag_term_of a) → block + bag_compounds (bag_term_of a) + bag_compounds (bag_term_of b) + 1 ≤ l.blocks → BlockFits l.blocks own
first_fits l block a b own f e h = own_fits l block (bag_term_of a) own e f (omega arith)

pub second_fits : (l : Layout) (block n : ℕ) (a b : Bag) (own : Option ℕ) → LayoutFits l → n ≡ block + bag_compounds (bag_term_of a) → own ≡ own_block (layout_of l) n (bag_term_of b) → block + bag_compounds (bag_term_of a) + bag_compounds (bag_term_of b) + 1 ≤ l.blocks → BlockFits l.blocks own
second_fits l block n a b own f n_is e h = own_fits l n (bag_term_of b) own e f (omega arith)

-- the block of a bag variable is none that is too great
pub name_fits : (l : Layout) (v : Var) (n : ℕ) → n ≡ name_place v l.bags → LayoutFits l → n ≤ l.blocks
name_fits l v n e f = let place = name_place_within v l.bags in let bags : length l.bags ≤ l.blocks = f.bags in omega arith
