-- What occurs in a formula occurs in its assertion.
use Rattle.std.proofs.Common.{◌≡◌, ℕ, max, Bool, true, false, not, ◌&&◌, ◌||◌, List, [], ◌∷◌, map, refl, sym, ap, ◌∙◌, arith}
use Rattle.std.specs.List.{list_any, fold}
use Rattle.hs_pure.specs.declared.var.Var.{Var}
use Rattle.hs_pure.specs.declared.bag.Bag.{Bag, map-Bag}
use Rattle.hs_pure.specs.declared.bag.Bag.TheOpen.{Bag-F}
use Rattle.hs_pure.specs.declared.pure.Pure.{Pure, map-Pure}
use Rattle.hs_pure.specs.declared.pure.Pure.TheOpen.{Pure-F}
use Rattle.hs_pure.specs.Stack.{same}
use Rattle.hs_pure.specs.Assertion.{BagTerm, Assertion, both, either, every, some, bag_level, bag_term_of, pure_level, assertion_of}
use Rattle.hs_pure.specs.Occurs.{in_lin, in_bag, in_bag_level, is_free, is_free_level, is_bound, is_bound_level, occurs, occurs_level, lin_top, bag_top, bag_top_level, top_of, top_level, greatest}
use Rattle.hs_pure.specs.Mirror.{in_bag_term, is_free_in, is_bound_in, occurs_in, bag_term_top, assertion_top}
use Rattle.hs_pure.proofs.Levels.{of_term, of_assertion}

-- what joins two assertions joins what is read from them
pub fold-joined : {A : Type 0} (op : Assertion → Assertion → Assertion) (m : A → A → A) (h : Assertion → A) →
    ((p q : Assertion) → h (op p q) ≡ m (h p) (h q)) → (p : Assertion) (ps : List Assertion) → h (fold op p ps) ≡ fold m (h p) (map h ps)
fold-joined op m h join p [] = refl
fold-joined op m h join p (q ∷ ps) = fold-joined op m h join (op p q) ps ∙ ap (λ a. fold m a (map h ps)) (join p q)

or_assoc : (a b c : Bool) → ((a || b) || c) ≡ (a || (b || c))
or_assoc true b c = refl
or_assoc false b c = refl

any-fold : (b : Bool) (bs : List Bool) → fold (λ a b. a || b) b bs ≡ (b || list_any (λ b. b) bs)
any-fold true [] = refl
any-fold false [] = refl
any-fold b (c ∷ bs) = any-fold (b || c) bs ∙ or_assoc b c (list_any (λ b. b) bs)

module _ (h : Assertion → Bool) (join_both : (p q : Assertion) → h (both p q) ≡ (h p || h q)) (join_either : (p q : Assertion) → h (either p q) ≡ (h p || h q)) where
  any-every : h (every []) ≡ false → (ps : List Assertion) → list_any (λ b. b) (map h ps) ≡ h (every ps)
  any-every none [] = sym none
  any-every none (p ∷ ps) = sym (fold-joined both (λ a b. a || b) h join_both p ps ∙ any-fold (h p) (map h ps))

  any-some : h (some []) ≡ false → (ps : List Assertion) → list_any (λ b. b) (map h ps) ≡ h (some ps)
  any-some none [] = sym none
  any-some none (p ∷ ps) = sym (fold-joined either (λ a b. a || b) h join_either p ps ∙ any-fold (h p) (map h ps))

zero_max : (n : ℕ) → max 0 n ≡ n
zero_max n = omega arith

greatest-every : (ps : List Assertion) → greatest (map assertion_top ps) ≡ assertion_top (every ps)
greatest-every [] = refl
greatest-every (p ∷ ps) = ap (λ n. fold (λ m n. max m n) n (map assertion_top ps)) (zero_max (assertion_top p)) ∙ sym (fold-joined both (λ m n. max m n) assertion_top (λ p q. refl) p ps)

greatest-some : (ps : List Assertion) → greatest (map assertion_top ps) ≡ assertion_top (some ps)
greatest-some [] = refl
greatest-some (p ∷ ps) = ap (λ n. fold (λ m n. max m n) n (map assertion_top ps)) (zero_max (assertion_top p)) ∙ sym (fold-joined either (λ m n. max m n) assertion_top (λ p q. refl) p ps)

module _ (v : Var) where
  pub in_bag-is : (b : Bag) → in_bag v b ≡ in_bag_term v (bag_term_of b)
  in_bag-is = of_term (in_bag_level v) (in_bag_term v) step
    where
      step : (z : Bag-F BagTerm) → in_bag_level v (map-Bag BagTerm Bool (in_bag_term v) z) ≡ in_bag_term v (bag_level z)
      step Bag-F.Empty = refl
      step (Bag-F.Name u) = refl
      step (Bag-F.One a) = refl
      step (Bag-F.Union a b) = refl
      step (Bag-F.Inter a b) = refl
      step (Bag-F.Diff a b) = refl

  pub is_free-is : (p : Pure) → is_free v p ≡ is_free_in v (assertion_of p)
  is_free-is = of_assertion (is_free_level v) (is_free_in v) step
    where
      step : (z : Pure-F Assertion) → is_free_level v (map-Pure Assertion Bool (is_free_in v) z) ≡ is_free_in v (pure_level z)
      step (Pure-F.Eq a b) = refl
      step (Pure-F.Lt a b) = refl
      step (Pure-F.Le a b) = refl
      step (Pure-F.Divides d a) = refl
      step (Pure-F.BagEq a b) = λ i. in_bag-is a i || in_bag-is b i
      step (Pure-F.Subset a b) = λ i. in_bag-is a i || in_bag-is b i
      step (Pure-F.Member a b) = λ i. in_lin v a || in_bag-is b i
      step (Pure-F.AllOf u b p) = λ i. in_bag-is b i || (not (same u v) && is_free_in v p)
      step (Pure-F.Not p) = refl
      step (Pure-F.And ps) = any-every (is_free_in v) (λ p q. refl) (λ p q. refl) refl ps
      step (Pure-F.Or ps) = any-some (is_free_in v) (λ p q. refl) (λ p q. refl) refl ps
      step (Pure-F.Exists u p) = refl
      step (Pure-F.Forall u p) = refl

  pub is_bound-is : (p : Pure) → is_bound v p ≡ is_bound_in v (assertion_of p)
  is_bound-is = of_assertion (is_bound_level v) (is_bound_in v) step
    where
      step : (z : Pure-F Assertion) → is_bound_level v (map-Pure Assertion Bool (is_bound_in v) z) ≡ is_bound_in v (pure_level z)
      step (Pure-F.Eq a b) = refl
      step (Pure-F.Lt a b) = refl
      step (Pure-F.Le a b) = refl
      step (Pure-F.Divides d a) = refl
      step (Pure-F.BagEq a b) = refl
      step (Pure-F.Subset a b) = refl
      step (Pure-F.Member a b) = refl
      step (Pure-F.AllOf u b p) = refl
      step (Pure-F.Not p) = refl
      step (Pure-F.And ps) = any-every (is_bound_in v) (λ p q. refl) (λ p q. refl) refl ps
      step (Pure-F.Or ps) = any-some (is_bound_in v) (λ p q. refl) (λ p q. refl) refl ps
      step (Pure-F.Exists u p) = refl
      step (Pure-F.Forall u p) = refl

  pub occurs-is : (p : Pure) → occurs v p ≡ occurs_in v (assertion_of p)
  occurs-is = of_assertion (occurs_level v) (occurs_in v) step
    where
      step : (z : Pure-F Assertion) → occurs_level v (map-Pure Assertion Bool (occurs_in v) z) ≡ occurs_in v (pure_level z)
      step (Pure-F.Eq a b) = refl
      step (Pure-F.Lt a b) = refl
      step (Pure-F.Le a b) = refl
      step (Pure-F.Divides d a) = refl
      step (Pure-F.BagEq a b) = λ i. in_bag-is a i || in_bag-is b i
      step (Pure-F.Subset a b) = λ i. in_bag-is a i || in_bag-is b i
      step (Pure-F.Member a b) = λ i. in_lin v a || in_bag-is b i
      step (Pure-F.AllOf u b p) = λ i. in_bag-is b i || (same u v || occurs_in v p)
      step (Pure-F.Not p) = refl
      step (Pure-F.And ps) = any-every (occurs_in v) (λ p q. refl) (λ p q. refl) refl ps
      step (Pure-F.Or ps) = any-some (occurs_in v) (λ p q. refl) (λ p q. refl) refl ps
      step (Pure-F.Exists u p) = refl
      step (Pure-F.Forall u p) = refl

pub bag_top-is : (b : Bag) → bag_top b ≡ bag_term_top (bag_term_of b)
bag_top-is = of_term bag_top_level bag_term_top step
  where
    step : (z : Bag-F BagTerm) → bag_top_level (map-Bag BagTerm ℕ bag_term_top z) ≡ bag_term_top (bag_level z)
    step Bag-F.Empty = refl
    step (Bag-F.Name u) = refl
    step (Bag-F.One a) = refl
    step (Bag-F.Union a b) = refl
    step (Bag-F.Inter a b) = refl
    step (Bag-F.Diff a b) = refl

pub top_of-is : (p : Pure) → top_of p ≡ assertion_top (assertion_of p)
top_of-is = of_assertion top_level assertion_top step
  where
    step : (z : Pure-F Assertion) → top_level (map-Pure Assertion ℕ assertion_top z) ≡ assertion_top (pure_level z)
    step (Pure-F.Eq a b) = refl
    step (Pure-F.Lt a b) = refl
    step (Pure-F.Le a b) = refl
    step (Pure-F.Divides d a) = refl
    step (Pure-F.BagEq a b) = λ i. max (bag_top-is a i) (bag_top-is b i)
    step (Pure-F.Subset a b) = λ i. max (bag_top-is a i) (bag_top-is b i)
    step (Pure-F.Member a b) = λ i. max (lin_top a) (bag_top-is b i)
    step (Pure-F.AllOf u b p) = λ i. max (bag_top-is b i) (max u.number (assertion_top p))
    step (Pure-F.Not p) = refl
    step (Pure-F.And ps) = greatest-every ps
    step (Pure-F.Or ps) = greatest-some ps
    step (Pure-F.Exists u p) = refl
    step (Pure-F.Forall u p) = refl
