-- The literals of a formula, as the code makes them.
use Rattle.std.proofs.Common.{◌≡◌, ℕ, suc, ◌+◌, ◌<◌, ◌≤◌, ◌⊎◌, inl, inr, Bool, true, false, not, Option, List, [], ◌∷◌, ◌++◌, length, drop, get_or, map, refl, sym, ap, ◌∙◌, subst, arith, if◌then◌else◌, append_assoc}
use Rattle.std.specs.List.{fold}
use Rattle.std.proofs.lemmas.List.{drop_more, drop_all}
use Rattle.hs_pure.specs.declared.var.Var.{Var}
use Rattle.hs_pure.specs.declared.lin.Lin.{Lin}
use Rattle.hs_pure.specs.declared.bag.Bag.{Bag}
use Rattle.hs_pure.specs.declared.pure.Pure.{Pure}
use Rattle.hs_pure.specs.declared.pure.Pure.TheVariants as pure_of
use Rattle.hs_pure.specs.Assertion.{BagTerm, Assertion, lt, both, either, bag_eq, subset, all_of, every, some, pure_level, bag_term_of, assertion_of}
use Rattle.hs_pure.proofs.Views.{fold-BagEq, fold-Subset, fold-Member, fold-AllOf, fold-Not, fold-And, fold-Or}
use Rattle.hs_elimination.specs.Linear.{same_lin}
use Rattle.hs_reduction.specs.Layout as Laid
use Rattle.hs_reduction.specs.Layout.{width, lin_place, bag_compounds, compounds, denied, if_denied}
use Rattle.hs_reduction.specs.Instance.{Instance}
use Rattle.hs_reduction.specs.Reduction.{zero_term, count_term, all_defined, signed, positive_at, reduced}
use Rattle.hs_bag.specs.declared.layout.Layout.{Layout}
use Rattle.hs_bag_parts.specs.declared.formula.Relation.{Relation}
use Rattle.hs_bag_parts.specs.declared.formula.Relation.TheVariants.{Equal, AtMost}
use Rattle.hs_bag_parts.specs.Formulas.{counted}
use Rattle.hs_bag.specs.Counting.{layout_of, own_block, number_in}
use Rattle.hs_bag_parts.specs.Reading.{compounds_of, all_compounds, denied_of, all_denied}
use Rattle.hs_bag.specs.Substituting.{ReducedIsWide}
use Rattle.hs_bag.specs.Literals.{joined, stated, compared, contained, all_held, HeldIsWide, reduced_all, AllAreWide}
use Rattle.hs_bag.proofs.Blocks.{counted_own}

append_nil : (done : List Assertion) → done ++ [] ≡ done
append_nil [] = refl
append_nil (q ∷ qs) = ap (λ zs. q ∷ zs) (append_nil qs)

-- ---- places

lin_place_within : (a : Lin) (bs : List Lin) → lin_place a bs ≤ length bs
lin_place_within a [] = omega arith
lin_place_within a (b ∷ bs) = by_test (lin_place_within a bs) (same_lin a b)
  where
    by_test : lin_place a bs ≤ length bs → (b : Bool) → (if b then 0 else suc (lin_place a bs)) ≤ suc (length bs)
    by_test h true = omega arith
    by_test h false = omega arith

pub place_fits : (l : Layout) (a : Lin) (i : ℕ) → i ≡ lin_place a l.listed → i ≤ width (layout_of l)
place_fits l a i e = let within : lin_place a l.listed ≤ length l.listed = lin_place_within a l.listed in omega arith

-- ---- counts

module _ (l : Laid.Layout) where
  own_counts : (block : ℕ) (b : BagTerm) (own : Option ℕ) → own ≡ own_block l block b → ◌≡◌ {A = ℕ → Lin} (λ i. counted (number_in l own i)) (count_term l block b)
  own_counts block b own e = λ j i. (ap (λ o. counted (number_in l o i)) e ∙ counted_own l block b i) j

  pub compared_is : (asserted : Bool) (relation : Relation) (a b : BagTerm) (new block n : ℕ) (p q r : Assertion) (x y : Option ℕ)
      → p ≡ all_defined l block a → x ≡ own_block l block a → n ≡ block + bag_compounds a → q ≡ all_defined l n b → y ≡ own_block l n b
      → r ≡ stated l asserted relation (λ i. counted (number_in l x i)) (λ i. counted (number_in l y i)) new
      → both (both p q) r ≡ compared l asserted relation a b new block
  compared_is asserted relation a b new block n p q r x y p_is x_is n_is q_is y_is r_is =
      let first : ◌≡◌ {A = ℕ → Lin} (λ i. counted (number_in l x i)) (count_term l block a) = own_counts block a x x_is in
      let second : ◌≡◌ {A = ℕ → Lin} (λ i. counted (number_in l y i)) (count_term l (block + bag_compounds a) b)
      = own_counts n b y y_is ∙ ap (λ k. count_term l k b) n_is in
      let q_as : q ≡ all_defined l (block + bag_compounds a) b = q_is ∙ ap (λ k. all_defined l k b) n_is in
      let r_as : r ≡ stated l asserted relation (count_term l block a) (count_term l (block + bag_compounds a) b) new
      = r_is ∙ (λ j. stated l asserted relation (first j) (second j) new) in
      λ j. both (both (p_is j) (q_as j)) (r_as j)

  pub contained_is : (asserted : Bool) (a : Lin) (b : BagTerm) (block i : ℕ) (p q r : Assertion) (x : Option ℕ)
      → p ≡ all_defined l block b → x ≡ own_block l block b → i ≡ lin_place a l.listed → q ≡ lt zero_term (counted (number_in l x i)) → r ≡ signed asserted q
      → both p r ≡ contained l asserted a b block
  contained_is asserted a b block i p q r x p_is x_is i_is q_is r_is =
      let at : counted (number_in l x i) ≡ count_term l block b (lin_place a l.listed) = (λ j. own_counts block b x x_is j i) ∙ ap (count_term l block b) i_is in
      let q_as : q ≡ positive_at l block b (lin_place a l.listed) = q_is ∙ ap (lt zero_term) at in
      λ j. both (p_is j) ((r_is ∙ ap (signed asserted) q_as) j)

  pub all_of_is : (way : Instance) (end : ℕ) (asserted : Bool) (u : Var) (b : BagTerm) (f : Assertion) (new block : ℕ) (p r : Assertion) (x : Option ℕ)
      → p ≡ all_defined l block b → x ≡ own_block l block b → r ≡ all_held l way end asserted (λ i. counted (number_in l x i)) u f new
      → both p r ≡ both (all_defined l block b) (all_held l way end asserted (count_term l block b) u f new)
  all_of_is way end asserted u b f new block p r x p_is x_is r_is =
      let counts : ◌≡◌ {A = ℕ → Lin} (λ i. counted (number_in l x i)) (count_term l block b) = own_counts block b x x_is in
      λ j. both (p_is j) ((r_is ∙ (λ k. all_held l way end asserted (counts k) u f new)) j)

-- ---- what the cases of `reduced` are

module _ (l : Laid.Layout) (way : Instance) (end : ℕ) where
  reduced-bag_eq : (asserted : Bool) (a b : BagTerm) (new block : ℕ) → compared l asserted Equal a b new block ≡ reduced l way end asserted (bag_eq a b) new block
  reduced-bag_eq true a b new block = refl
  reduced-bag_eq false a b new block = refl

  reduced-subset : (asserted : Bool) (a b : BagTerm) (new block : ℕ) → compared l asserted AtMost a b new block ≡ reduced l way end asserted (subset a b) new block
  reduced-subset true a b new block = refl
  reduced-subset false a b new block = refl

  reduced-all_of : (asserted : Bool) (u : Var) (b : BagTerm) (p : Assertion) (new block : ℕ)
      → both (all_defined l block b) (all_held l way end asserted (count_term l block b) u p new) ≡ reduced l way end asserted (all_of u b p) new block
  reduced-all_of true u b p new block = refl
  reduced-all_of false u b p new block = refl

  wide-all_of : (asserted : Bool) (u : Var) (b : BagTerm) (p : Assertion) (new : ℕ) → HeldIsWide l way end asserted u p new → ReducedIsWide l way end asserted (all_of u b p) new
  wide-all_of true u b p new h = h
  wide-all_of false u b p new h = h

  module _ (asserted : Bool) (whole : Pure) (new block : ℕ) where
    pub reduced_BagEq : (a b : Bag) → whole ≡ pure_of.BagEq a b → compared l asserted Equal (bag_term_of a) (bag_term_of b) new block ≡ reduced l way end asserted (assertion_of whole) new block
    reduced_BagEq a b is = reduced-bag_eq asserted (bag_term_of a) (bag_term_of b) new block ∙ sym (ap (λ q. reduced l way end asserted q new block) (ap assertion_of is ∙ fold-BagEq pure_level a b))

    pub reduced_Subset : (a b : Bag) → whole ≡ pure_of.Subset a b → compared l asserted AtMost (bag_term_of a) (bag_term_of b) new block ≡ reduced l way end asserted (assertion_of whole) new block
    reduced_Subset a b is = reduced-subset asserted (bag_term_of a) (bag_term_of b) new block ∙ sym (ap (λ q. reduced l way end asserted q new block) (ap assertion_of is ∙ fold-Subset pure_level a b))

    pub reduced_Member : (a : Lin) (b : Bag) → whole ≡ pure_of.Member a b → contained l asserted a (bag_term_of b) block ≡ reduced l way end asserted (assertion_of whole) new block
    reduced_Member a b is = sym (ap (λ q. reduced l way end asserted q new block) (ap assertion_of is ∙ fold-Member pure_level a b))

    pub reduced_AllOf : (u : Var) (b : Bag) (p : Pure) → whole ≡ pure_of.AllOf u b p
        → both (all_defined l block (bag_term_of b)) (all_held l way end asserted (count_term l block (bag_term_of b)) u (assertion_of p) new) ≡ reduced l way end asserted (assertion_of whole) new block
    reduced_AllOf u b p is = reduced-all_of asserted u (bag_term_of b) (assertion_of p) new block ∙ sym (ap (λ q. reduced l way end asserted q new block) (ap assertion_of is ∙ fold-AllOf pure_level u b p))

    pub wide_AllOf : (u : Var) (b : Bag) (p : Pure) → whole ≡ pure_of.AllOf u b p → HeldIsWide l way end asserted u (assertion_of p) new → ReducedIsWide l way end asserted (assertion_of whole) new
    wide_AllOf u b p is h = subst (λ q. ReducedIsWide l way end asserted q new) (sym (ap assertion_of is ∙ fold-AllOf pure_level u b p)) (wide-all_of asserted u (bag_term_of b) (assertion_of p) new h)

    pub reduced_Not : (p : Pure) → whole ≡ pure_of.Not p → reduced l way end (not asserted) (assertion_of p) new block ≡ reduced l way end asserted (assertion_of whole) new block
    reduced_Not p is = sym (ap (λ q. reduced l way end asserted q new block) (ap assertion_of is ∙ fold-Not pure_level p))

    pub wide_Not : (p : Pure) → whole ≡ pure_of.Not p → ReducedIsWide l way end (not asserted) (assertion_of p) new → ReducedIsWide l way end asserted (assertion_of whole) new
    wide_Not p is h = subst (λ q. ReducedIsWide l way end asserted q new) (sym (ap assertion_of is ∙ fold-Not pure_level p)) h

  -- ---- members

  add_three : (a b c : ℕ) → a + (b + c) ≡ (a + b) + c
  add_three a b c = omega arith

  module _ (asserted : Bool) (join op : Assertion → Assertion → Assertion)
      (denied_join : (p q : Assertion) → denied asserted (join p q) ≡ denied asserted p + denied asserted q) (compounds_join : (p q : Assertion) → compounds (join p q) ≡ compounds p + compounds q)
      (reduced_join : (p q : Assertion) (new block : ℕ) → reduced l way end asserted (join p q) new block ≡ op (reduced l way end asserted p new block) (reduced l way end asserted q (new + denied asserted p) (block + compounds p)))
      (wide_first : (p q : Assertion) (new : ℕ) → ReducedIsWide l way end asserted p new → ReducedIsWide l way end asserted (join p q) new)
      (wide_second : (p q : Assertion) (new : ℕ) → ReducedIsWide l way end asserted q (new + denied asserted p) → ReducedIsWide l way end asserted (join p q) new) where
    reduced-fold : (q : Assertion) (ps : List Pure) (new block : ℕ) → fold op (reduced l way end asserted q new block) (reduced_all l way end asserted ps (new + denied asserted q) (block + compounds q))
        ≡ reduced l way end asserted (fold join q (map assertion_of ps)) new block
    reduced-fold q [] new block = refl
    reduced-fold q (p ∷ ps) new block =
        (λ j. fold op (sym (reduced_join q (assertion_of p) new block) j)
        (reduced_all l way end asserted ps ((sym (add_three new (denied asserted q) (denied_of asserted p)) ∙ ap (λ n. new + n) (sym (denied_join q (assertion_of p)))) j)
        ((sym (add_three block (compounds q) (compounds_of p)) ∙ ap (λ n. block + n) (sym (compounds_join q (assertion_of p)))) j)))
        ∙ reduced-fold (join q (assertion_of p)) ps new block

    wide-fold : (q : Assertion) (ps : List Pure) (new : ℕ) → ReducedIsWide l way end asserted q new ⊎ AllAreWide l way end asserted ps (new + denied asserted q) → ReducedIsWide l way end asserted (fold join q (map assertion_of ps)) new
    wide-fold q [] new (inl h) = h
    wide-fold q [] new (inr h) = absurd h
    wide-fold q (p ∷ ps) new (inl h) = wide-fold (join q (assertion_of p)) ps new (inl (wide_first q (assertion_of p) new h))
    wide-fold q (p ∷ ps) new (inr (inl h)) = wide-fold (join q (assertion_of p)) ps new (inl (wide_second q (assertion_of p) new h))
    wide-fold q (p ∷ ps) new (inr (inr h)) =
        wide-fold (join q (assertion_of p)) ps new
        (inr (subst (λ n. AllAreWide l way end asserted ps n) (sym (add_three new (denied asserted q) (denied_of asserted p)) ∙ ap (λ n. new + n) (sym (denied_join q (assertion_of p)))) h))

  reduced-every : (asserted : Bool) (ps : List Pure) (new block : ℕ) → joined asserted (reduced_all l way end asserted ps new block) ≡ reduced l way end asserted (every (map assertion_of ps)) new block
  reduced-every true [] new block = refl
  reduced-every false [] new block = refl
  reduced-every true (p ∷ ps) new block = reduced-fold true both both (λ p q. refl) (λ p q. refl) (λ p q new block. refl) (λ p q new. inl) (λ p q new. inr) (assertion_of p) ps new block
  reduced-every false (p ∷ ps) new block = reduced-fold false both either (λ p q. refl) (λ p q. refl) (λ p q new block. refl) (λ p q new. inl) (λ p q new. inr) (assertion_of p) ps new block

  reduced-some : (asserted : Bool) (ps : List Pure) (new block : ℕ) → joined (not asserted) (reduced_all l way end asserted ps new block) ≡ reduced l way end asserted (some (map assertion_of ps)) new block
  reduced-some true [] new block = refl
  reduced-some false [] new block = refl
  reduced-some true (p ∷ ps) new block = reduced-fold true either either (λ p q. refl) (λ p q. refl) (λ p q new block. refl) (λ p q new. inl) (λ p q new. inr) (assertion_of p) ps new block
  reduced-some false (p ∷ ps) new block = reduced-fold false either both (λ p q. refl) (λ p q. refl) (λ p q new block. refl) (λ p q new. inl) (λ p q new. inr) (assertion_of p) ps new block

  wide-every : (asserted : Bool) (ps : List Pure) (new : ℕ) → AllAreWide l way end asserted ps new → ReducedIsWide l way end asserted (every (map assertion_of ps)) new
  wide-every asserted [] new h = absurd h
  wide-every true (p ∷ ps) new h = wide-fold true both both (λ p q. refl) (λ p q. refl) (λ p q new block. refl) (λ p q new. inl) (λ p q new. inr) (assertion_of p) ps new h
  wide-every false (p ∷ ps) new h = wide-fold false both either (λ p q. refl) (λ p q. refl) (λ p q new block. refl) (λ p q new. inl) (λ p q new. inr) (assertion_of p) ps new h

  wide-some : (asserted : Bool) (ps : List Pure) (new : ℕ) → AllAreWide l way end asserted ps new → ReducedIsWide l way end asserted (some (map assertion_of ps)) new
  wide-some asserted [] new h = absurd h
  wide-some true (p ∷ ps) new h = wide-fold true either either (λ p q. refl) (λ p q. refl) (λ p q new block. refl) (λ p q new. inl) (λ p q new. inr) (assertion_of p) ps new h
  wide-some false (p ∷ ps) new h = wide-fold false either both (λ p q. refl) (λ p q. refl) (λ p q new block. refl) (λ p q new. inl) (λ p q new. inr) (assertion_of p) ps new h

  module _ (asserted : Bool) (whole : Pure) (ps : List Pure) (new block : ℕ) (parts : List Assertion) (parts_are : parts ≡ reduced_all l way end asserted ps new block) where
    pub reduced_And : whole ≡ pure_of.And ps → joined asserted parts ≡ reduced l way end asserted (assertion_of whole) new block
    reduced_And is = ap (joined asserted) parts_are ∙ reduced-every asserted ps new block ∙ sym (ap (λ q. reduced l way end asserted q new block) (ap assertion_of is ∙ fold-And pure_level ps))

    pub reduced_Or : whole ≡ pure_of.Or ps → joined (not asserted) parts ≡ reduced l way end asserted (assertion_of whole) new block
    reduced_Or is = ap (joined (not asserted)) parts_are ∙ reduced-some asserted ps new block ∙ sym (ap (λ q. reduced l way end asserted q new block) (ap assertion_of is ∙ fold-Or pure_level ps))

  module _ (asserted : Bool) (whole : Pure) (ps : List Pure) (new : ℕ) where
    pub wide_And : whole ≡ pure_of.And ps → AllAreWide l way end asserted ps new → ReducedIsWide l way end asserted (assertion_of whole) new
    wide_And is h = subst (λ q. ReducedIsWide l way end asserted q new) (sym (ap assertion_of is ∙ fold-And pure_level ps)) (wide-every asserted ps new h)

    pub wide_Or : whole ≡ pure_of.Or ps → AllAreWide l way end asserted ps new → ReducedIsWide l way end asserted (assertion_of whole) new
    wide_Or is h = subst (λ q. ReducedIsWide l way end asserted q new) (sym (ap assertion_of is ∙ fold-Or pure_level ps)) (wide-some asserted ps new h)

  -- one member more
  module _ (asserted : Bool) (ps : List Pure) (i : ℕ) (p : Pure) (lt : i < length ps) (is : p ≡ get_or ps i p) where
    next_is : drop i ps ≡ p ∷ drop (i + 1) ps
    next_is = drop_more ps i p lt ∙ ap (λ q. q ∷ drop (i + 1) ps) (sym is)

    pub reduced_more : (done now all : List Assertion) (q : Assertion) (new block m n : ℕ) → done ++ reduced_all l way end asserted (drop i ps) new block ≡ all → now ≡ done ++ q ∷ []
        → q ≡ reduced l way end asserted (assertion_of p) new block → m ≡ new + denied_of asserted p → n ≡ block + compounds_of p → now ++ reduced_all l way end asserted (drop (i + 1) ps) m n ≡ all
    reduced_more done now all q new block m n before now_is q_is m_is n_is =
        ap (λ zs. zs ++ reduced_all l way end asserted (drop (i + 1) ps) m n) now_is
        ∙ append_assoc done (q ∷ []) (reduced_all l way end asserted (drop (i + 1) ps) m n)
        ∙ (λ j. done ++ q_is j ∷ reduced_all l way end asserted (drop (i + 1) ps) (m_is j) (n_is j))
        ∙ sym (ap (λ qs. done ++ reduced_all l way end asserted qs new block) next_is) ∙ before

    pub wide_now : (new : ℕ) → ReducedIsWide l way end asserted (assertion_of p) new → AllAreWide l way end asserted (drop i ps) new
    wide_now new h = subst (λ qs. AllAreWide l way end asserted qs new) (sym next_is) (inl h)

    pub wide_later : (new m : ℕ) → m ≡ new + denied_of asserted p → AllAreWide l way end asserted (drop (i + 1) ps) m → AllAreWide l way end asserted (drop i ps) new
    wide_later new m e h = subst (λ qs. AllAreWide l way end asserted qs new) (sym next_is) (inr (subst (λ k. AllAreWide l way end asserted (drop (i + 1) ps) k) e h))

  pub reduced_end : (asserted : Bool) (ps : List Pure) (i : ℕ) (done all : List Assertion) (new block : ℕ) → length ps ≤ i → done ++ reduced_all l way end asserted (drop i ps) new block ≡ all → done ≡ all
  reduced_end asserted ps i done all new block out h = sym (append_nil done) ∙ sym (ap (λ qs. done ++ reduced_all l way end asserted qs new block) (drop_all i ps out)) ∙ h

pub denied_end : (asserted : Bool) (ps : List Pure) (i : ℕ) → length ps ≤ i → all_denied asserted (drop i ps) ≡ 0
denied_end asserted ps i out = ap (all_denied asserted) (drop_all i ps out)

pub compounds_end : (ps : List Pure) (i : ℕ) → length ps ≤ i → all_compounds (drop i ps) ≡ 0
compounds_end ps i out = ap all_compounds (drop_all i ps out)
