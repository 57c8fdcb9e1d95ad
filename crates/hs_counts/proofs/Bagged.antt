-- The bags of a valuation that is rebuilt.
use Rattle.std.proofs.Common.{◌≡◌, ℤ, Bool, true, false, ◌||◌, inl, inr, List, [], ◌∷◌, ◌++◌, refl, sym, ap, ◌∙◌, subst}
use Rattle.std.specs.List.{All}
use Rattle.std.proofs.lemmas.Bool.{cases_Bool}
use Rattle.std.proofs.lemmas.List.Elements.{All-nil, All-cons, All-append}
use Rattle.std.proofs.lemmas.List.Folds.{list_any-append}
use Rattle.hs_pure.specs.declared.var.Var.{Var}
use Rattle.hs_pure.specs.declared.valuation.Valuation.{Valuation}
use Rattle.hs_pure.specs.Multiset.{Multiset, nothing}
use Rattle.hs_pure.specs.Stack.{Stack, same}
use Rattle.hs_pure.specs.Eval.{found, found_bag, multiset_of, stack_of}
use Rattle.hs_pure.proofs.Vars.{same-eq, same-refl}
use Rattle.hs_pure.proofs.Lists.{All-first, All-later}
use Rattle.hs_counts.specs.declared.count.Count.{Count}
use Rattle.hs_counts.specs.Counts.{bag_with, stack_with_counts, Rises}
use Rattle.hs_counts.specs.Listed.{is_listed, AreSaid}

or_true : (b : Bool) → (b || true) ≡ true
or_true true = refl
or_true false = refl

-- a bag more
pub listed_kept : (bs ds : List (Var × List (ℤ × ℤ))) (v : Var) → is_listed bs v ≡ true → is_listed (bs ++ ds) v ≡ true
listed_kept bs ds v e = list_any-append (λ b. same b.0 v) bs ds ∙ (rw e refl)

pub listed_more : (bs : List (Var × List (ℤ × ℤ))) (v : Var) (es : List (ℤ × ℤ)) → is_listed (bs ++ (v, es) ∷ []) v ≡ true
listed_more bs v es = list_any-append (λ b. same b.0 v) bs ((v, es) ∷ []) ∙ (λ i. is_listed bs v || (same-refl v i || false)) ∙ or_true (is_listed bs v)

module _ (t : Stack) (cs : List Count) where
  pub said_more : (bs : List (Var × List (ℤ × ℤ))) (v : Var) (es : List (ℤ × ℤ)) → AreSaid t cs bs → multiset_of es ≡ bag_with t cs v nothing → Rises es →
      AreSaid t cs (bs ++ (v, es) ∷ [])
  said_more bs v es all is rise =
      let P : Var × List (ℤ × ℤ) → Type 0 = λ b. (multiset_of b.1 ≡ bag_with t cs b.0 nothing) × Rises b.1 in
      All-append P bs ((v, es) ∷ []) all (All-cons P (v, es) [] (is, rise) (All-nil P))

  pub said_rise : (bs : List (Var × List (ℤ × ℤ))) → AreSaid t cs bs → All (λ b. Rises b.1) bs
  said_rise bs all = λ k d less. (all k d less).1

  found_said : (bs : List (Var × List (ℤ × ℤ))) → AreSaid t cs bs → (u : Var) → is_listed bs u ≡ true → multiset_of (found_bag bs u) ≡ bag_with t cs u nothing
  found_said [] all u e = absurd cc
  found_said (b ∷ bs) all u e =
      let P : Var × List (ℤ × ℤ) → Type 0 = λ b. (multiset_of b.1 ≡ bag_with t cs b.0 nothing) × Rises b.1 in
      elim (cases_Bool (same b.0 u)) [
        | inl is ↦ rw is ((All-first P b bs all).0 ∙ ap (λ v. bag_with t cs v nothing) (same-eq b.0 u is))
        | inr isnt ↦
            let there : is_listed bs u ≡ true = (λ i. sym isnt i || is_listed bs u) ∙ e in
            rw isnt (found_said bs (All-later P b bs all) u there)
      ]

  found_none : (bs : List (Var × List (ℤ × ℤ))) (u : Var) → is_listed bs u ≡ false → found_bag bs u ≡ []
  found_none [] u e = refl
  found_none (b ∷ bs) u e = elim (cases_Bool (same b.0 u)) [
    | inl is ↦ absurd (let f : true ≡ false = (λ i. sym is i || is_listed bs u) ∙ e in cc)
    | inr isnt ↦ rw isnt (found_none bs u ((λ i. sym isnt i || is_listed bs u) ∙ e))
  ]

  -- a variable that no count names has no bag
  none_said : (bs : List (Var × List (ℤ × ℤ))) (ds : List Count) → All (λ c. is_listed bs c.of ≡ true) ds → (u : Var) → is_listed bs u ≡ false → (m : Multiset) → bag_with t ds u m ≡ m
  none_said bs [] all u e m = refl
  none_said bs (c ∷ ds) all u e m =
      let P : Count → Type 0 = λ c. is_listed bs c.of ≡ true in
      elim (cases_Bool (same c.of u)) [
        | inl is ↦ let there : is_listed bs u ≡ true = subst (λ v. is_listed bs v ≡ true) (same-eq c.of u is) (All-first P c ds all) in absurd cc
        | inr isnt ↦ rw isnt (none_said bs ds (All-later P c ds all) u e m)
      ]

  bags_said : (bs : List (Var × List (ℤ × ℤ))) → AreSaid t cs bs → All (λ c. is_listed bs c.of ≡ true) cs → (u : Var) → multiset_of (found_bag bs u) ≡ bag_with t cs u nothing
  bags_said bs said all u = elim (cases_Bool (is_listed bs u)) [
    | inl there ↦ found_said bs said u there
    | inr none ↦ ap multiset_of (found_none bs u none) ∙ sym (none_said bs cs all u none nothing)
  ]

-- the whole stack
pub stack_said : (v w : Valuation) (cs : List Count) → w.numbers ≡ v.numbers → AreSaid (stack_of v) cs w.bags → All (λ c. is_listed w.bags c.of ≡ true) cs →
    stack_of w ≡ stack_with_counts (stack_of v) cs
stack_said v w cs numbers said all = λ i u. record { number = found (numbers i) u; bag = bags_said (stack_of v) cs w.bags said all u i }
