-- Counts, listed block by block.
use Rattle.std.proofs.Common.{◌≡◌, ℕ, suc, ◌+◌, ◌<◌, ◌≤◌, List, [], ◌∷◌, ◌++◌, length, drop, get_or, refl, sym, ap, ◌∙◌, arith, append_assoc}
use Rattle.std.proofs.lemmas.List.{drop_more, drop_all}
use Rattle.hs_pure.specs.declared.var.Var.{Var}
use Rattle.hs_reduction.specs.Layout as Laid
use Rattle.hs_reduction.specs.Layout.{number_variable, name_place, width, element, count_number}
use Rattle.hs_counts.specs.declared.count.Count.{Count}
use Rattle.hs_counts.specs.Counts.{block_counts, counts_of_names}

module _ (l : Laid.Layout) where
  abbrev item : Var → ℕ → ℕ → Count
  item v block i = record { of = v; element = element l i; count = number_variable (count_number l block i) }

  pub counts_more : (v : Var) (block i : ℕ) (start now before : List Count) (c : Count) → before ≡ start ++ block_counts l v block i → now ≡ before ++ c ∷ [] → c ≡ item v block i → now ≡ start ++ block_counts l v block (i + 1)
  counts_more v block i start now before c before_is now_is c_is =
      let next : suc i ≡ i + 1 = omega arith in
      now_is ∙ (λ j. before_is j ++ c_is j ∷ []) ∙ append_assoc start (block_counts l v block i) (item v block i ∷ []) ∙ ap (λ n. start ++ block_counts l v block n) next

  pub names_more : (vs : List Var) (i : ℕ) (d v : Var) (block : ℕ) (now before all : List Count) → i < length vs → v ≡ get_or vs i d → block ≡ name_place v l.bags
      → before ++ counts_of_names l (drop i vs) ≡ all → now ≡ before ++ block_counts l v block (width l) → now ++ counts_of_names l (drop (i + 1) vs) ≡ all
  names_more vs i d v block now before all h v_is block_is before_is now_is =
      let next : drop i vs ≡ v ∷ drop (i + 1) vs = drop_more vs i d h ∙ ap (λ w. w ∷ drop (i + 1) vs) (sym v_is) in
      ap (λ zs. zs ++ counts_of_names l (drop (i + 1) vs)) now_is
      ∙ append_assoc before (block_counts l v block (width l)) (counts_of_names l (drop (i + 1) vs))
      ∙ ap (λ b. before ++ (block_counts l v b (width l) ++ counts_of_names l (drop (i + 1) vs))) block_is
      ∙ sym (ap (λ ws. before ++ counts_of_names l ws) next) ∙ before_is

append_nil : (cs : List Count) → cs ++ [] ≡ cs
append_nil [] = refl
append_nil (c ∷ cs) = ap (λ ds. c ∷ ds) (append_nil cs)

pub names_end : (l : Laid.Layout) (vs : List Var) (i : ℕ) (all done : List Count) → length vs ≤ i → done ++ counts_of_names l (drop i vs) ≡ all → done ≡ all
names_end l vs i all done h e = sym (append_nil done) ∙ sym (ap (λ ws. done ++ counts_of_names l ws) (drop_all i vs h)) ∙ e
