-- The conjuncts of a well formed formula are well formed.
use Rattle.std.proofs.Common.{◌≡◌, ℕ, Bool, false, List, [], ◌∷◌, map, refl, sym, ap, ◌∙◌, subst}
use Rattle.std.specs.List.{All, flat_map}
use Rattle.std.proofs.lemmas.List.Elements.{All-nil, All-cons, All-head, All-tail, All-append}
use Rattle.hs_pure.specs.declared.var.Var.{Var}
use Rattle.hs_pure.specs.declared.pure.Pure.{Pure, ind-Pure, fold-roll-Pure, map-Pure, roll-Pure}
use Rattle.hs_pure.specs.declared.pure.Pure.TheOpen.{Pure-F}
use Rattle.hs_pure.specs.declared.pure.Pure.TheVariants as pure_of
use Rattle.hs_heap.specs.WellFormed.{is_and, is_and_level}
use Rattle.hs_numbering.specs.declared.numbering.Numbering.{Numbering}
use Rattle.hs_norm_formula.specs.Splice.{conjuncts}
use Rattle.hs_norm_formula.proofs.Splicing.{conjuncts-And, conjuncts-alone, conjuncts_are_spliced}
use Rattle.hs_formula_fits.proofs.Formed.{FormedIn, members_formed}

module _ (i : Bool) (k : ℕ) (m : Numbering) (s : Var → Bool) where
  abbrev Formed : Pure → Type 0
  Formed p = FormedIn i k m s p

  abbrev Parted : Pure → Type 0
  Parted p = Formed p → All Formed (conjuncts p)

  abbrev Known : Type 0
  Known = (p : Pure) × Parted p

  alone : (x : Pure-F Pure) → is_and_level (map-Pure Pure Bool is_and x) ≡ false → Parted (roll-Pure x)
  alone x e f = subst (All Formed) (sym (conjuncts-alone (roll-Pure x) (fold-roll-Pure Bool is_and_level x ∙ e))) (All-cons Formed (roll-Pure x) [] f (All-nil Formed))

  each_parted : (ks : List Known) → All Formed (map (λ (e : Known). e.0) ks) → All Formed (flat_map conjuncts (map (λ (e : Known). e.0) ks))
  each_parted [] h = All-nil Formed
  each_parted (p ∷ ks) h = All-append Formed (conjuncts p.0) (flat_map conjuncts (map (λ (e : Known). e.0) ks)) (p.1 (All-head Formed p.0 (map (λ (e : Known). e.0) ks) h)) (each_parted ks (All-tail Formed p.0 (map (λ (e : Known). e.0) ks) h))

  parted_level : (y : Pure-F Known) → Parted (roll-Pure (map-Pure Known Pure (λ e. e.0) y))
  parted_level (Pure-F.Eq a b) = alone (Pure-F.Eq a b) refl
  parted_level (Pure-F.Lt a b) = alone (Pure-F.Lt a b) refl
  parted_level (Pure-F.Le a b) = alone (Pure-F.Le a b) refl
  parted_level (Pure-F.Divides d a) = alone (Pure-F.Divides d a) refl
  parted_level (Pure-F.BagEq a b) = alone (Pure-F.BagEq a b) refl
  parted_level (Pure-F.Subset a b) = alone (Pure-F.Subset a b) refl
  parted_level (Pure-F.Member a b) = alone (Pure-F.Member a b) refl
  parted_level (Pure-F.AllOf u b p) = alone (Pure-F.AllOf u b p.0) refl
  parted_level (Pure-F.Not p) = alone (Pure-F.Not p.0) refl
  parted_level (Pure-F.And ks) = λ f.
      let ps = map (λ (e : Known). e.0) ks in
      subst (All Formed) (sym (ap conjuncts (pure_of.rolls-And ps) ∙ conjuncts-And ps)) (each_parted ks (members_formed i k m s ps (subst Formed (pure_of.rolls-And ps) f)))
  parted_level (Pure-F.Or ks) = alone (Pure-F.Or (map (λ (e : Known). e.0) ks)) refl
  parted_level (Pure-F.Exists u p) = alone (Pure-F.Exists u p.0) refl
  parted_level (Pure-F.Forall u p) = alone (Pure-F.Forall u p.0) refl

  parted : (p : Pure) → Parted p
  parted = ind-Pure Parted (λ x y is. subst (λ z. Parted (roll-Pure z)) is (parted_level y))

  -- well formed, and no And
  abbrev pub Conjunct : Pure → Type 0
  Conjunct p = FormedIn i k m s p × (is_and p ≡ false)

  pub spliced_formed : (ps : List Pure) → All Formed ps → All Conjunct (flat_map conjuncts ps)
  spliced_formed [] h = All-nil Conjunct
  spliced_formed (p ∷ ps) h = All-append Conjunct (conjuncts p) (flat_map conjuncts ps) (one p (All-head Formed p ps h)) (spliced_formed ps (All-tail Formed p ps h))
    where
      one : (p : Pure) → Formed p → All Conjunct (conjuncts p)
      one p f j d less = (parted p f j d less, conjuncts_are_spliced.none_left p j d less)
