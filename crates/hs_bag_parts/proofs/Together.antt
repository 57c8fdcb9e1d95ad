-- What several formulas have, read one after another.
use Rattle.std.proofs.Common.{◌≡◌, ℕ, ◌+◌, ◌<◌, Bool, List, [], ◌∷◌, ◌++◌, length, get_or, take, drop, map, refl, sym, ap, ◌∙◌, arith, if◌then◌else◌, append_assoc}
use Rattle.std.specs.List.{fold}
use Rattle.std.proofs.lemmas.List.{drop_more}
use Rattle.hs_pure.specs.declared.var.Var.{Var}
use Rattle.hs_pure.specs.declared.lin.Lin.{Lin}
use Rattle.hs_pure.specs.declared.pure.Pure.{Pure}
use Rattle.hs_pure.specs.declared.pure.Pure.TheVariants as pure_of
use Rattle.hs_pure.specs.Assertion.{Assertion, truth, negation, both, either, every, some, bag_level, bag_term_of, pure_level, assertion_of}
use Rattle.hs_pure.specs.declared.bag.Bag.{Bag}
use Rattle.hs_pure.specs.declared.bag.Bag.TheVariants as bag_of
use Rattle.hs_pure.proofs.Views.{fold-And, fold-Or, fold-BagEq, fold-Subset, fold_bag-Union, fold_bag-Inter, fold_bag-Diff}
use Rattle.hs_elimination.specs.Cases.{has_lin, join_distinct}
use Rattle.hs_elimination.specs.Ordered.{term_sums}
use Rattle.hs_reduction.specs.Layout.{terms, names, compounds, denied, add_name}
use Rattle.hs_bag_parts.specs.Size.{comparisons, comparisons_of, all_comparisons, reduced_comparisons, reduced_of, all_reduced}
use Rattle.hs_bag_parts.specs.Reading.{terms_of, all_terms, names_of, all_names, compounds_of, all_compounds, denied_of, all_denied}

pub join_more : (done xs ys : List Lin) → join_distinct (join_distinct done xs) ys ≡ join_distinct done (xs ++ ys)
join_more done [] ys = refl
join_more done (x ∷ xs) ys = join_more (if has_lin x done then done else done ++ x ∷ []) xs ys

module _ (done : List Lin) (a b : Bag) where
  module _ (whole : Bag) (first : List Lin) (first_is : first ≡ join_distinct done (term_sums (bag_term_of a))) where
    pub terms-Union : whole ≡ bag_of.Union a b → join_distinct first (term_sums (bag_term_of b)) ≡ join_distinct done (term_sums (bag_term_of whole))
    terms-Union is = ap (λ ts. join_distinct ts (term_sums (bag_term_of b))) first_is ∙ join_more done (term_sums (bag_term_of a)) (term_sums (bag_term_of b)) ∙ sym (ap (λ c. join_distinct done (term_sums c)) (ap bag_term_of is ∙ fold_bag-Union bag_level a b))

    pub terms-Inter : whole ≡ bag_of.Inter a b → join_distinct first (term_sums (bag_term_of b)) ≡ join_distinct done (term_sums (bag_term_of whole))
    terms-Inter is = ap (λ ts. join_distinct ts (term_sums (bag_term_of b))) first_is ∙ join_more done (term_sums (bag_term_of a)) (term_sums (bag_term_of b)) ∙ sym (ap (λ c. join_distinct done (term_sums c)) (ap bag_term_of is ∙ fold_bag-Inter bag_level a b))

    pub terms-Diff : whole ≡ bag_of.Diff a b → join_distinct first (term_sums (bag_term_of b)) ≡ join_distinct done (term_sums (bag_term_of whole))
    terms-Diff is = ap (λ ts. join_distinct ts (term_sums (bag_term_of b))) first_is ∙ join_more done (term_sums (bag_term_of a)) (term_sums (bag_term_of b)) ∙ sym (ap (λ c. join_distinct done (term_sums c)) (ap bag_term_of is ∙ fold_bag-Diff bag_level a b))

  module _ (whole : Pure) where
    pub terms-BagEq : whole ≡ pure_of.BagEq a b → join_distinct (join_distinct done (term_sums (bag_term_of a))) (term_sums (bag_term_of b)) ≡ join_distinct done (terms_of whole)
    terms-BagEq is = join_more done (term_sums (bag_term_of a)) (term_sums (bag_term_of b)) ∙ sym (ap (λ p. join_distinct done (terms p)) (ap assertion_of is ∙ fold-BagEq pure_level a b))

    pub terms-Subset : whole ≡ pure_of.Subset a b → join_distinct (join_distinct done (term_sums (bag_term_of a))) (term_sums (bag_term_of b)) ≡ join_distinct done (terms_of whole)
    terms-Subset is = join_more done (term_sums (bag_term_of a)) (term_sums (bag_term_of b)) ∙ sym (ap (λ p. join_distinct done (terms p)) (ap assertion_of is ∙ fold-Subset pure_level a b))

-- ---- what members have together

module _ {M : Type 0} (unit : M) (op : M → M → M) (right : (m : M) → op m unit ≡ m) (assoc : (a b c : M) → op (op a b) c ≡ op a (op b c)) (h : Assertion → M)
    (h_truth : h truth ≡ unit) (h_false : h (negation truth) ≡ unit) where
  abbrev pub together : List Pure → M
  together [] = unit
  together (p ∷ ps) = op (h (assertion_of p)) (together ps)

  module _ (join : Assertion → Assertion → Assertion) (h_join : (p q : Assertion) → h (join p q) ≡ op (h p) (h q)) where
    together-fold : (q : Assertion) (ps : List Pure) → h (fold join q (map assertion_of ps)) ≡ op (h q) (together ps)
    together-fold q [] = sym (right (h q))
    together-fold q (p ∷ ps) = together-fold (join q (assertion_of p)) ps ∙ ap (λ m. op m (together ps)) (h_join q (assertion_of p)) ∙ assoc (h q) (h (assertion_of p)) (together ps)

  pub together-And : ((p q : Assertion) → h (both p q) ≡ op (h p) (h q)) → (p : Pure) (ps : List Pure) → p ≡ pure_of.And ps → together ps ≡ h (assertion_of p)
  together-And h_both p ps is = of_list ps ∙ sym (ap h (ap assertion_of is ∙ fold-And pure_level ps))
    where
      of_list : (ps : List Pure) → together ps ≡ h (every (map assertion_of ps))
      of_list [] = sym h_truth
      of_list (q ∷ qs) = sym (together-fold both h_both (assertion_of q) qs)

  pub together-Or : ((p q : Assertion) → h (either p q) ≡ op (h p) (h q)) → (p : Pure) (ps : List Pure) → p ≡ pure_of.Or ps → together ps ≡ h (assertion_of p)
  together-Or h_either p ps is = of_list ps ∙ sym (ap h (ap assertion_of is ∙ fold-Or pure_level ps))
    where
      of_list : (ps : List Pure) → together ps ≡ h (some (map assertion_of ps))
      of_list [] = sym h_false
      of_list (q ∷ qs) = sym (together-fold either h_either (assertion_of q) qs)

append_none : (xs : List Lin) → xs ++ [] ≡ xs
append_none [] = refl
append_none (x ∷ xs) = ap (λ ys. x ∷ ys) (append_none xs)

together_terms : (ps : List Pure) → all_terms ps ≡ together [] (λ xs ys. xs ++ ys) append_none append_assoc terms refl refl ps
together_terms [] = refl
together_terms (p ∷ ps) = ap (λ ys. terms_of p ++ ys) (together_terms ps)

pub terms-And : (p : Pure) (ps : List Pure) → p ≡ pure_of.And ps → all_terms ps ≡ terms_of p
terms-And p ps is = together_terms ps ∙ together-And [] (λ xs ys. xs ++ ys) append_none append_assoc terms refl refl (λ p q. refl) p ps is

pub terms-Or : (p : Pure) (ps : List Pure) → p ≡ pure_of.Or ps → all_terms ps ≡ terms_of p
terms-Or p ps is = together_terms ps ∙ together-Or [] (λ xs ys. xs ++ ys) append_none append_assoc terms refl refl (λ p q. refl) p ps is

abbrev Adds : Type 0
Adds = List Var → List Var

abbrev no_more : Adds
no_more vs = vs

abbrev followed : Adds → Adds → Adds
followed f g vs = g (f vs)

together_names : (ps : List Pure) → all_names ps ≡ together no_more followed (λ f. refl) (λ f g h. refl) names refl refl ps
together_names [] = refl
together_names (p ∷ ps) = ap (λ (g : Adds). followed (names_of p) g) (together_names ps)

pub names-And : (p : Pure) (ps : List Pure) (vs : List Var) → p ≡ pure_of.And ps → all_names ps vs ≡ names_of p vs
names-And p ps vs is = ap (λ (f : Adds). f vs) (together_names ps ∙ together-And no_more followed (λ f. refl) (λ f g h. refl) names refl refl (λ p q. refl) p ps is)

pub names-Or : (p : Pure) (ps : List Pure) (vs : List Var) → p ≡ pure_of.Or ps → all_names ps vs ≡ names_of p vs
names-Or p ps vs is = ap (λ (f : Adds). f vs) (together_names ps ∙ together-Or no_more followed (λ f. refl) (λ f g h. refl) names refl refl (λ p q. refl) p ps is)

add_none : (n : ℕ) → n + 0 ≡ n
add_none n = omega arith

add_three : (a b c : ℕ) → (a + b) + c ≡ a + (b + c)
add_three a b c = omega arith

together_compounds : (ps : List Pure) → all_compounds ps ≡ together 0 (λ m n. m + n) add_none add_three compounds refl refl ps
together_compounds [] = refl
together_compounds (p ∷ ps) = ap (λ n. compounds_of p + n) (together_compounds ps)

pub compounds-And : (p : Pure) (ps : List Pure) → p ≡ pure_of.And ps → all_compounds ps ≡ compounds_of p
compounds-And p ps is = together_compounds ps ∙ together-And 0 (λ m n. m + n) add_none add_three compounds refl refl (λ p q. refl) p ps is

pub compounds-Or : (p : Pure) (ps : List Pure) → p ≡ pure_of.Or ps → all_compounds ps ≡ compounds_of p
compounds-Or p ps is = together_compounds ps ∙ together-Or 0 (λ m n. m + n) add_none add_three compounds refl refl (λ p q. refl) p ps is

module _ (asserted : Bool) where
  together_denied : (ps : List Pure) → all_denied asserted ps ≡ together 0 (λ m n. m + n) add_none add_three (denied asserted) refl refl ps
  together_denied [] = refl
  together_denied (p ∷ ps) = ap (λ n. denied_of asserted p + n) (together_denied ps)

  pub denied-And : (p : Pure) (ps : List Pure) → p ≡ pure_of.And ps → all_denied asserted ps ≡ denied_of asserted p
  denied-And p ps is = together_denied ps ∙ together-And 0 (λ m n. m + n) add_none add_three (denied asserted) refl refl (λ p q. refl) p ps is

  pub denied-Or : (p : Pure) (ps : List Pure) → p ≡ pure_of.Or ps → all_denied asserted ps ≡ denied_of asserted p
  denied-Or p ps is = together_denied ps ∙ together-Or 0 (λ m n. m + n) add_none add_three (denied asserted) refl refl (λ p q. refl) p ps is

together_comparisons : (ps : List Pure) → all_comparisons ps ≡ together 0 (λ m n. m + n) add_none add_three comparisons refl refl ps
together_comparisons [] = refl
together_comparisons (p ∷ ps) = ap (λ n. comparisons_of p + n) (together_comparisons ps)

pub comparisons-And : (p : Pure) (ps : List Pure) → p ≡ pure_of.And ps → all_comparisons ps ≡ comparisons_of p
comparisons-And p ps is = together_comparisons ps ∙ together-And 0 (λ m n. m + n) add_none add_three comparisons refl refl (λ p q. refl) p ps is

pub comparisons-Or : (p : Pure) (ps : List Pure) → p ≡ pure_of.Or ps → all_comparisons ps ≡ comparisons_of p
comparisons-Or p ps is = together_comparisons ps ∙ together-Or 0 (λ m n. m + n) add_none add_three comparisons refl refl (λ p q. refl) p ps is

module _ (w : ℕ) (asserted : Bool) where
  together_reduced : (ps : List Pure) → all_reduced w asserted ps ≡ together 0 (λ m n. m + n) add_none add_three (reduced_comparisons w asserted) refl refl ps
  together_reduced [] = refl
  together_reduced (p ∷ ps) = ap (λ n. reduced_of w asserted p + n) (together_reduced ps)

  pub reduced-And : (p : Pure) (ps : List Pure) → p ≡ pure_of.And ps → all_reduced w asserted ps ≡ reduced_of w asserted p
  reduced-And p ps is = together_reduced ps ∙ together-And 0 (λ m n. m + n) add_none add_three (reduced_comparisons w asserted) refl refl (λ p q. refl) p ps is

  pub reduced-Or : (p : Pure) (ps : List Pure) → p ≡ pure_of.Or ps → all_reduced w asserted ps ≡ reduced_of w asserted p
  reduced-Or p ps is = together_reduced ps ∙ together-Or 0 (λ m n. m + n) add_none add_three (reduced_comparisons w asserted) refl refl (λ p q. refl) p ps is

-- ---- loops

pub more_terms : (done : List Lin) (ps : List Pure) (i : ℕ) (p : Pure) → i < length ps → p ≡ get_or ps i p → join_distinct (join_distinct done (terms_of p)) (all_terms (drop (i + 1) ps)) ≡ join_distinct done (all_terms (drop i ps))
more_terms done ps i p h is = join_more done (terms_of p) (all_terms (drop (i + 1) ps)) ∙ sym (ap (λ qs. join_distinct done (all_terms qs)) (drop_more ps i p h ∙ ap (λ q. q ∷ drop (i + 1) ps) (sym is)))

pub more_names : (vs : List Var) (ps : List Pure) (i : ℕ) (p : Pure) → i < length ps → p ≡ get_or ps i p → all_names (drop (i + 1) ps) (names_of p vs) ≡ all_names (drop i ps) vs
more_names vs ps i p h is = sym (ap (λ qs. all_names qs vs) (drop_more ps i p h ∙ ap (λ q. q ∷ drop (i + 1) ps) (sym is)))

pub more_compounds : (ps : List Pure) (i : ℕ) (p : Pure) → i < length ps → p ≡ get_or ps i p → compounds_of p + all_compounds (drop (i + 1) ps) ≡ all_compounds (drop i ps)
more_compounds ps i p h is = sym (ap all_compounds (drop_more ps i p h ∙ ap (λ q. q ∷ drop (i + 1) ps) (sym is)))

pub more_denied : (asserted : Bool) (ps : List Pure) (i : ℕ) (p : Pure) → i < length ps → p ≡ get_or ps i p → denied_of asserted p + all_denied asserted (drop (i + 1) ps) ≡ all_denied asserted (drop i ps)
more_denied asserted ps i p h is = sym (ap (all_denied asserted) (drop_more ps i p h ∙ ap (λ q. q ∷ drop (i + 1) ps) (sym is)))

pub more_comparisons : (ps : List Pure) (i : ℕ) (p : Pure) → i < length ps → p ≡ get_or ps i p → comparisons_of p + all_comparisons (drop (i + 1) ps) ≡ all_comparisons (drop i ps)
more_comparisons ps i p h is = sym (ap all_comparisons (drop_more ps i p h ∙ ap (λ q. q ∷ drop (i + 1) ps) (sym is)))

pub more_reduced : (w : ℕ) (asserted : Bool) (ps : List Pure) (i : ℕ) (p : Pure) → i < length ps → p ≡ get_or ps i p → reduced_of w asserted p + all_reduced w asserted (drop (i + 1) ps) ≡ all_reduced w asserted (drop i ps)
more_reduced w asserted ps i p h is = sym (ap (all_reduced w asserted) (drop_more ps i p h ∙ ap (λ q. q ∷ drop (i + 1) ps) (sym is)))

-- ---- a bag variable's place

abbrev pub Passed : Var → List Var → ℕ → Type 0
Passed v vs i = add_name v vs ≡ take i vs ++ add_name v (drop i vs)
