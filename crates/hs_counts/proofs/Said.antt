-- What a list of counts says of each integer.
use Rattle.std.proofs.Common.{◌≡◌, ℕ, zero, suc, ℤ, Bool, true, false, ◌||◌, ◌⊎◌, inl, inr, List, [], ◌∷◌, ◌++◌, refl, sym, ap, ◌∙◌, if◌then◌else◌}
use Rattle.std.specs.Ordering.{int_eq}
use Rattle.std.proofs.lemmas.Bool.{cases_Bool}
use Rattle.hs_pure.specs.declared.var.Var.{Var}
use Rattle.hs_pure.specs.Multiset
use Rattle.hs_pure.specs.Multiset.{Multiset, count_kept, nothing, set_count}
use Rattle.hs_pure.specs.Stack.{Stack, same}
use Rattle.hs_pure.specs.Truth.{value}
use Rattle.hs_pure.specs.Eval.{natural}
use Rattle.hs_pure.proofs.Vars.{same-eq}
use Rattle.hs_pure.proofs.Listed.{count-nothing, count-set_count}
use Rattle.hs_truth.proofs.Elements.{is_among}
use Rattle.hs_reduction.specs.Layout.{number_variable, has_name, name_place, Layout, width, element, count_number}
use Rattle.hs_reduction.specs.Rebuilt.{element_values, count_at, count_of_value, rebuilt_bag}
use Rattle.hs_reduction.proofs.Bags.{int_equal, int_other, int_cases, count-tabulate, same_counts}
use Rattle.hs_counts.specs.declared.count.Count.{Count}
use Rattle.hs_counts.specs.Counts.{bag_with, block_counts, counts_of_names, counts_of}
use Rattle.hs_counts.specs.Laws.{RebuiltByCounts}

module _ (t : Stack) where
  pub bag_with-append : (cs ds : List Count) (v : Var) (m : Multiset) → bag_with t (cs ++ ds) v m ≡ bag_with t ds v (bag_with t cs v m)
  bag_with-append [] ds v m = refl
  bag_with-append (c ∷ cs) ds v m = bag_with-append cs ds v (if same c.of v then set_count m (value t c.element) (natural (t c.count).number) else m)

  module _ (l : Layout) where
    -- the counts of another variable say nothing
    block_apart : (v w : Var) (block n : ℕ) (m : Multiset) → same w v ≡ false → bag_with t (block_counts l w block n) v m ≡ m
    block_apart v w block zero m e = refl
    block_apart v w block (suc n) m e =
        bag_with-append (block_counts l w block n) (record { of = w; element = element l n; count = number_variable (count_number l block n) } ∷ []) v m
        ∙ (rw e (block_apart v w block n m e))

    last_says : (v w : Var) (block n : ℕ) (m : Multiset) (x : ℤ) →
        Multiset.count (bag_with t (block_counts l w block n) v m) x ≡ (if is_among x (element_values l t n) then count_of_value l t block n x else Multiset.count m x) →
        (if int_eq x (value t (element l n)) then natural (count_at l t block n) else Multiset.count (bag_with t (block_counts l w block n) v m) x)
        ≡ (if is_among x (element_values l t (suc n)) then count_of_value l t block (suc n) x else Multiset.count m x)
    last_says v w block n m x ih = elim (int_cases x (value t (element l n))) [
      | inl is ↦
          let there : int_eq x (value t (element l n)) ≡ true = int_equal x (value t (element l n)) is in
          let here : int_eq (value t (element l n)) x ≡ true = int_equal (value t (element l n)) x (sym is) in
          rw (there, here) refl
      | inr isnt ↦
          let there : int_eq x (value t (element l n)) ≡ false = int_other x (value t (element l n)) isnt in
          let here : int_eq (value t (element l n)) x ≡ false = int_other (value t (element l n)) x (λ e. isnt (sym e)) in
          rw (there, here) ih
    ]

    -- the counts of a block
    block_says : (v w : Var) (block n : ℕ) (m : Multiset) → same w v ≡ true → (x : ℤ) →
        Multiset.count (bag_with t (block_counts l w block n) v m) x ≡ (if is_among x (element_values l t n) then count_of_value l t block n x else Multiset.count m x)
    block_says v w block zero m e x = refl
    block_says v w block (suc n) m e x =
        let before = bag_with t (block_counts l w block n) v m in
        let y = value t (element l n) in
        let k = natural (count_at l t block n) in
        let step : bag_with t (block_counts l w block (suc n)) v m ≡ set_count before y k =
        bag_with-append (block_counts l w block n) (record { of = w; element = element l n; count = number_variable (count_number l block n) } ∷ []) v m ∙ (rw e refl) in
        let counted : Multiset.count (bag_with t (block_counts l w block (suc n)) v m) x ≡ (if int_eq x y then k else Multiset.count before x) =
        ap (λ b. Multiset.count b x) step ∙ count-set_count before y k x in
        counted ∙ last_says v w block n m x (block_says v w block n m e x)

    -- what the block of v says of x, over another count
    abbrev over : Var → ℤ → ℕ → ℕ
    over v x n = if is_among x (element_values l t (width l)) then count_of_value l t (name_place v l.bags) (width l) x else n

    names_say : (vs : List Var) (v : Var) (m : Multiset) (x : ℤ) →
        Multiset.count (bag_with t (counts_of_names l vs) v m) x ≡ (if has_name v vs then over v x (Multiset.count m x) else Multiset.count m x)
    names_say [] v m x = refl
    names_say (w ∷ ws) v m x =
        ap (λ b. Multiset.count b x) (bag_with-append (block_counts l w (name_place w l.bags) (width l)) (counts_of_names l ws) v m)
        ∙ names_say ws v (bag_with t (block_counts l w (name_place w l.bags) (width l)) v m) x
        ∙ by_test (cases_Bool (same w v))
      where
        once : (a b : Bool) (n k : ℕ) → (if a then (if b then n else (if b then n else k)) else (if b then n else k)) ≡ (if b then n else k)
        once true true n k = refl
        once true false n k = refl
        once false b n k = refl

        by_test : ((same w v ≡ true) ⊎ (same w v ≡ false)) →
            (if has_name v ws then over v x (Multiset.count (bag_with t (block_counts l w (name_place w l.bags) (width l)) v m) x)
            else Multiset.count (bag_with t (block_counts l w (name_place w l.bags) (width l)) v m) x)
            ≡ (if same w v || has_name v ws then over v x (Multiset.count m x) else Multiset.count m x)
        by_test (inl is) =
            let says : Multiset.count (bag_with t (block_counts l w (name_place w l.bags) (width l)) v m) x ≡ over v x (Multiset.count m x) =
            block_says v w (name_place w l.bags) (width l) m is x ∙ ap (λ u. over u x (Multiset.count m x)) (same-eq w v is) in
            rw (is, says) (once (has_name v ws) (is_among x (element_values l t (width l))) (count_of_value l t (name_place v l.bags) (width l) x) (Multiset.count m x))
        by_test (inr isnt) = rw (isnt, block_apart v w (name_place w l.bags) (width l) m isnt) refl

    bag_said : (v : Var) → bag_with t (counts_of l) v nothing ≡ (if has_name v l.bags then rebuilt_bag l t (name_place v l.bags) else nothing)
    bag_said v = same_counts (bag_with t (counts_of l) v nothing) (if has_name v l.bags then rebuilt_bag l t (name_place v l.bags) else nothing)
        (λ x. names_say l.bags v nothing x ∙ by_test x (cases_Bool (has_name v l.bags)))
      where
        by_test : (x : ℤ) → ((has_name v l.bags ≡ true) ⊎ (has_name v l.bags ≡ false)) →
            (if has_name v l.bags then over v x (Multiset.count nothing x) else Multiset.count nothing x)
            ≡ Multiset.count (if has_name v l.bags then rebuilt_bag l t (name_place v l.bags) else nothing) x
        by_test x (inl is) = rw is (
            (λ i. if is_among x (element_values l t (width l)) then count_of_value l t (name_place v l.bags) (width l) x else count-nothing x i)
            ∙ sym (count-tabulate (count_of_value l t (name_place v l.bags) (width l)) (element_values l t (width l)) x)
            )
        by_test x (inr isnt) = rw isnt refl

-- the counts of a layout say the bags that are rebuilt of it
pub said_is_rebuilt : RebuiltByCounts
said_is_rebuilt l t = λ i v. record { number = (t v).number; bag = bag_said t l v i }
