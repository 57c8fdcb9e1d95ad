-- What a disjunct binds gets new numbers by pairs.
use Rattle.std.proofs.Common.{◌≡◌, ℕ, suc, inl, inr, true, false, List, [], ◌∷◌, refl, sym, ◌∙◌}
use Rattle.hs_pure.specs.declared.var.Var.{Var}
use Rattle.hs_pure.specs.Stack.{same}
use Rattle.hs_pure.specs.Rename.{renaming}
use Rattle.hs_pure.specs.Sums.{IsOrdered}
use Rattle.hs_pure.proofs.Lists.{All-weaker}
use Rattle.hs_heap.specs.declared.formula.Disjunct.{Disjunct}
use Rattle.hs_heap.specs.WellFormed.{IsProper}
use Rattle.hs_heap.specs.Renamed.{DisjunctInRange}
use Rattle.hs_heap.specs.Laws.{ApartMayRename}
use Rattle.hs_heap.proofs.Booleans.{bool_cases}
use Rattle.hs_heap.proofs.Stacks.{same_true}
use Rattle.hs_rules.specs.Parts.{to_fresh}
use Rattle.hs_rules.proofs.NewNumbers.{to_fresh-apart}
use Rattle.hs_side_rules.specs.Opening.{CanBeOpened, fresh_pairs}

pair-same : (b : Var) (bs : List Var) (n : ℕ) (v : Var) → same b v ≡ true → renaming (fresh_pairs (b ∷ bs) n) v ≡ record { number = n; bag = b.bag }
pair-same b bs n v e = rw e refl

pair-other : (b : Var) (bs : List Var) (n : ℕ) (v : Var) → same b v ≡ false → renaming (fresh_pairs (b ∷ bs) n) v ≡ renaming (fresh_pairs bs (suc n)) v
pair-other b bs n v e = rw e refl

fresh-same : (b : Var) (bs : List Var) (n : ℕ) (v : Var) → same b v ≡ true → to_fresh (b ∷ bs) n v ≡ record { number = n; bag = v.bag }
fresh-same b bs n v e = rw e refl

fresh-other : (b : Var) (bs : List Var) (n : ℕ) (v : Var) → same b v ≡ false → to_fresh (b ∷ bs) n v ≡ to_fresh bs (suc n) v
fresh-other b bs n v e = rw e refl

pair_is : (bs : List Var) (n : ℕ) (v : Var) → renaming (fresh_pairs bs n) v ≡ to_fresh bs n v
pair_is [] n v = refl
pair_is (b ∷ bs) n v = elim (bool_cases (same b v)) [
  | inl is ↦
      let kinds : ◌≡◌ {A = Var} (record { number = n; bag = b.bag }) (record { number = n; bag = v.bag }) = (λ i. record { number = n; bag = (same_true b v is i).bag }) in
      pair-same b bs n v is ∙ kinds ∙ sym (fresh-same b bs n v is)
  | inr isnt ↦ pair-other b bs n v isnt ∙ pair_is bs (suc n) v ∙ sym (fresh-other b bs n v isnt)
]

pub pairs_are : (bs : List Var) (n : ℕ) → renaming (fresh_pairs bs n) ≡ to_fresh bs n
pairs_are bs n = λ i v. pair_is bs n v i

pub opened_in_range : ApartMayRename → (n : ℕ) (d : Disjunct) → CanBeOpened n d → DisjunctInRange (to_fresh d.bound n) d
opened_in_range law n d able =
    (law (to_fresh d.bound n) d (All-weaker IsProper IsOrdered (λ p proper. proper.ordered) d.pure able.pure)
    (λ u v has also is. to_fresh-apart d.bound n u v (able.numbers u has) (able.numbers v also) is)).1
