-- What is defined by levels, level by level.
use Rattle.std.proofs.Common.{◌≡◌, List, [], ◌∷◌, map, refl, sym, ap, ◌∙◌, subst}
use Rattle.hs_pure.specs.declared.bag.Bag.{Bag, fold-Bag, ind-Bag, fold-roll-Bag, map-Bag, roll-Bag}
use Rattle.hs_pure.specs.declared.bag.Bag.TheOpen.{Bag-F}
use Rattle.hs_pure.specs.declared.pure.Pure.{Pure, fold-Pure, ind-Pure, fold-roll-Pure, map-Pure, roll-Pure}
use Rattle.hs_pure.specs.declared.pure.Pure.TheOpen.{Pure-F}
use Rattle.hs_pure.specs.Assertion.{BagTerm, Assertion, bag_level, bag_term_of, pure_level, assertion_of}

map-map : {X Y Z : Type 0} (f : X → Y) (g : Y → Z) (xs : List X) → map g (map f xs) ≡ map (λ x. g (f x)) xs
map-map f g [] = refl
map-map f g (x ∷ xs) = ap (λ ys. g (f x) ∷ ys) (map-map f g xs)

pub map_Pure-map_Pure : {X Y Z : Type 0} (f : X → Y) (g : Y → Z) (p : Pure-F X) → map-Pure Y Z g (map-Pure X Y f p) ≡ map-Pure X Z (λ x. g (f x)) p
map_Pure-map_Pure f g (Pure-F.Eq a b) = refl
map_Pure-map_Pure f g (Pure-F.Lt a b) = refl
map_Pure-map_Pure f g (Pure-F.Le a b) = refl
map_Pure-map_Pure f g (Pure-F.Divides d a) = refl
map_Pure-map_Pure f g (Pure-F.BagEq a b) = refl
map_Pure-map_Pure f g (Pure-F.Subset a b) = refl
map_Pure-map_Pure f g (Pure-F.Member a b) = refl
map_Pure-map_Pure f g (Pure-F.AllOf u b p) = refl
map_Pure-map_Pure f g (Pure-F.Not p) = refl
map_Pure-map_Pure f g (Pure-F.And ps) = ap Pure-F.And (map-map f g ps)
map_Pure-map_Pure f g (Pure-F.Or ps) = ap Pure-F.Or (map-map f g ps)
map_Pure-map_Pure f g (Pure-F.Exists u p) = refl
map_Pure-map_Pure f g (Pure-F.Forall u p) = refl

module _ {A B : Type 0} (R : A → B → Type 0) (f : Pure-F A → A) (g : Pure-F B → B) where
  abbrev Related : Pure → Type 0
  Related p = R (fold-Pure A f p) (fold-Pure B g p)

  -- what a child gives in both, and that it is related
  abbrev pub Both : Type 0
  Both = (a : A) × ((b : B) × R a b)

  -- each level keeps what its children keep
  abbrev pub Keeps : Type 0
  Keeps = (z : Pure-F Both) → R (f (map-Pure Both A (λ e. e.0) z)) (g (map-Pure Both B (λ e. e.1.0) z))

  level : Keeps → (y : Pure-F ((p : Pure) × Related p)) →
      R (f (map-Pure Pure A (fold-Pure A f) (map-Pure ((p : Pure) × Related p) Pure (λ e. e.0) y))) (g (map-Pure Pure B (fold-Pure B g) (map-Pure ((p : Pure) × Related p) Pure (λ e. e.0) y)))
  level keeps y =
      let z : Pure-F Both = map-Pure ((p : Pure) × Related p) Both (λ e. (fold-Pure A f e.0, (fold-Pure B g e.0, e.1))) y in
      let first : map-Pure Both A (λ e. e.0) (map-Pure ((p : Pure) × Related p) Both (λ e. (fold-Pure A f e.0, (fold-Pure B g e.0, e.1))) y)
      ≡ map-Pure Pure A (fold-Pure A f) (map-Pure ((p : Pure) × Related p) Pure (λ e. e.0) y)
      = map_Pure-map_Pure _ _ y ∙ sym (map_Pure-map_Pure _ _ y) in
      let second : map-Pure Both B (λ e. e.1.0) (map-Pure ((p : Pure) × Related p) Both (λ e. (fold-Pure A f e.0, (fold-Pure B g e.0, e.1))) y)
      ≡ map-Pure Pure B (fold-Pure B g) (map-Pure ((p : Pure) × Related p) Pure (λ e. e.0) y)
      = map_Pure-map_Pure _ _ y ∙ sym (map_Pure-map_Pure _ _ y) in
      subst (λ a. R (f a) (g (map-Pure Pure B (fold-Pure B g) (map-Pure ((p : Pure) × Related p) Pure (λ e. e.0) y)))) first
      (subst (λ b. R (f (map-Pure Both A (λ e. e.0) z)) (g b)) second (keeps z))

  -- two definitions that each level relates are related
  pub related : Keeps → (p : Pure) → Related p
  related keeps = ind-Pure Related (λ x y is.
      subst (λ a. R a (fold-Pure B g (roll-Pure x))) (sym (fold-roll-Pure A f x))
      (subst (λ b. R (f (map-Pure Pure A (fold-Pure A f) x)) b) (sym (fold-roll-Pure B g x))
      (subst (λ x. R (f (map-Pure Pure A (fold-Pure A f) x)) (g (map-Pure Pure B (fold-Pure B g) x))) is (level keeps y))))

-- the same of bags

pub map_Bag-map_Bag : {X Y Z : Type 0} (f : X → Y) (g : Y → Z) (b : Bag-F X) → map-Bag Y Z g (map-Bag X Y f b) ≡ map-Bag X Z (λ x. g (f x)) b
map_Bag-map_Bag f g Bag-F.Empty = refl
map_Bag-map_Bag f g (Bag-F.Name v) = refl
map_Bag-map_Bag f g (Bag-F.One a) = refl
map_Bag-map_Bag f g (Bag-F.Union a b) = refl
map_Bag-map_Bag f g (Bag-F.Inter a b) = refl
map_Bag-map_Bag f g (Bag-F.Diff a b) = refl

module _ {A B : Type 0} (R : A → B → Type 0) (f : Bag-F A → A) (g : Bag-F B → B) where
  abbrev RelatedBag : Bag → Type 0
  RelatedBag p = R (fold-Bag A f p) (fold-Bag B g p)

  abbrev pub BothBag : Type 0
  BothBag = (a : A) × ((b : B) × R a b)

  abbrev pub KeepsBag : Type 0
  KeepsBag = (z : Bag-F BothBag) → R (f (map-Bag BothBag A (λ e. e.0) z)) (g (map-Bag BothBag B (λ e. e.1.0) z))

  level_bag : KeepsBag → (y : Bag-F ((p : Bag) × RelatedBag p)) →
      R (f (map-Bag Bag A (fold-Bag A f) (map-Bag ((p : Bag) × RelatedBag p) Bag (λ e. e.0) y))) (g (map-Bag Bag B (fold-Bag B g) (map-Bag ((p : Bag) × RelatedBag p) Bag (λ e. e.0) y)))
  level_bag keeps y =
      let z : Bag-F BothBag = map-Bag ((p : Bag) × RelatedBag p) BothBag (λ e. (fold-Bag A f e.0, (fold-Bag B g e.0, e.1))) y in
      let first : map-Bag BothBag A (λ e. e.0) (map-Bag ((p : Bag) × RelatedBag p) BothBag (λ e. (fold-Bag A f e.0, (fold-Bag B g e.0, e.1))) y)
      ≡ map-Bag Bag A (fold-Bag A f) (map-Bag ((p : Bag) × RelatedBag p) Bag (λ e. e.0) y)
      = map_Bag-map_Bag _ _ y ∙ sym (map_Bag-map_Bag _ _ y) in
      let second : map-Bag BothBag B (λ e. e.1.0) (map-Bag ((p : Bag) × RelatedBag p) BothBag (λ e. (fold-Bag A f e.0, (fold-Bag B g e.0, e.1))) y)
      ≡ map-Bag Bag B (fold-Bag B g) (map-Bag ((p : Bag) × RelatedBag p) Bag (λ e. e.0) y)
      = map_Bag-map_Bag _ _ y ∙ sym (map_Bag-map_Bag _ _ y) in
      subst (λ a. R (f a) (g (map-Bag Bag B (fold-Bag B g) (map-Bag ((p : Bag) × RelatedBag p) Bag (λ e. e.0) y)))) first
      (subst (λ b. R (f (map-Bag BothBag A (λ e. e.0) z)) (g b)) second (keeps z))

  pub related_bag : KeepsBag → (p : Bag) → RelatedBag p
  related_bag keeps = ind-Bag RelatedBag (λ x y is.
      subst (λ a. R a (fold-Bag B g (roll-Bag x))) (sym (fold-roll-Bag A f x))
      (subst (λ b. R (f (map-Bag Bag A (fold-Bag A f) x)) b) (sym (fold-roll-Bag B g x))
      (subst (λ x. R (f (map-Bag Bag A (fold-Bag A f) x)) (g (map-Bag Bag B (fold-Bag B g) x))) is (level_bag keeps y))))

-- a definition by levels is one of what the bag or the formula is read as, where it is so at each level

module _ {A : Type 0} (f : Bag-F A → A) (h : BagTerm → A) where
  pub of_term : ((z : Bag-F BagTerm) → f (map-Bag BagTerm A h z) ≡ h (bag_level z)) → (b : Bag) → fold-Bag A f b ≡ h (bag_term_of b)
  of_term step = related_bag (λ (a : A) (b : BagTerm). a ≡ h b) f bag_level (λ z.
      (λ i. f (map-Bag (BothBag (λ (a : A) (b : BagTerm). a ≡ h b) f bag_level) A (λ e. e.1.1 i) z))
      ∙ ap f (sym (map_Bag-map_Bag (λ e. e.1.0) h z))
      ∙ step (map-Bag (BothBag (λ (a : A) (b : BagTerm). a ≡ h b) f bag_level) BagTerm (λ e. e.1.0) z))

module _ {A : Type 0} (f : Pure-F A → A) (h : Assertion → A) where
  pub of_assertion : ((z : Pure-F Assertion) → f (map-Pure Assertion A h z) ≡ h (pure_level z)) → (p : Pure) → fold-Pure A f p ≡ h (assertion_of p)
  of_assertion step = related (λ (a : A) (b : Assertion). a ≡ h b) f pure_level (λ z.
      (λ i. f (map-Pure (Both (λ (a : A) (b : Assertion). a ≡ h b) f pure_level) A (λ e. e.1.1 i) z))
      ∙ ap f (sym (map_Pure-map_Pure (λ e. e.1.0) h z))
      ∙ step (map-Pure (Both (λ (a : A) (b : Assertion). a ≡ h b) f pure_level) Assertion (λ e. e.1.0) z))
