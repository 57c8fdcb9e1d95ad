-- What occurs in formulas that join several.
use Rattle.std.proofs.Common.{◌≡◌, ℕ, Bool, false, ◌||◌, IsTrue, ⊎_elim, List, [], ◌∷◌, ◌++◌, map, ◌∙◌, subst}
use Rattle.std.specs.List.{list_any, AllByRecursion}
use Rattle.hs_pure.specs.declared.var.Var.{Var}
use Rattle.hs_pure.specs.declared.lin.Lin.{Lin}
use Rattle.hs_pure.specs.declared.pure.Pure.{Pure}
use Rattle.hs_pure.specs.declared.pure.Pure.TheVariants.{Eq, Lt, Not, And, Or}
use Rattle.hs_pure.specs.Stack.{same}
use Rattle.hs_pure.specs.Occurs.{in_lin, occurs, occurs_level}
use Rattle.std.proofs.lemmas.Bool.{or_cases}
use Rattle.hs_pure.proofs.Lists.{list_any-map}
use Rattle.hs_pure.proofs.Views.{fold-Eq, fold-Lt, fold-Not, fold-And, fold-Or}
use Rattle.hs_heap.proofs.Stacks.{same_true}
use Rattle.hs_xpure.specs.Approximation.{conjunction, disjunction, address, variable, null, apart, all_apart}

-- each variable that passes the test is in R
abbrev pub Passing : (Var → Type 0) → (Var → Bool) → Type 0
Passing R has = (v : Var) → IsTrue (has v) → R v

-- what occurs in the formula is in R
abbrev pub Uses : (Var → Type 0) → Pure → Type 0
Uses R p = Passing R (λ v. occurs v p)

abbrev pub AllUse : (Var → Type 0) → List Pure → Type 0
AllUse R ps = AllByRecursion (Uses R) ps

none : {A : Type 0} → IsTrue false → A
none h = absurd cc

module _ (R : Var → Type 0) where
  pub pass_either : (p q : Var → Bool) → Passing R p → Passing R q → Passing R (λ v. p v || q v)
  pass_either p q f g v e = ⊎_elim (f v) (g v) (or_cases (p v) (q v) e)

  pub pass_one : (u : Var) → R u → Passing R (λ v. same u v)
  pass_one u r v e = subst R (same_true u v e) r

  uses_variable : (u : Var) → R u → Passing R (λ v. in_lin v (variable u))
  uses_variable u r = pass_either (λ v. same u v) (λ v. false) (pass_one u r) (λ v k. none k)

  uses_null : Passing R (λ v. in_lin v null)
  uses_null v k = none k

  uses_lins : (a b : Lin) → Passing R (λ v. in_lin v a) → Passing R (λ v. in_lin v b) → Passing R (λ v. in_lin v a || in_lin v b)
  uses_lins a b f g = pass_either (λ v. in_lin v a) (λ v. in_lin v b) f g

  -- read at another test that is the same
  pub pass_same : (p q : Var → Bool) → ((v : Var) → q v ≡ p v) → Passing R p → Passing R q
  pass_same p q e f v k = f v (subst IsTrue (e v) k)

  uses_eq : (a b : Lin) → Passing R (λ v. in_lin v a) → Passing R (λ v. in_lin v b) → Uses R (Eq a b)
  uses_eq a b f g = pass_same (λ v. in_lin v a || in_lin v b) (λ v. occurs v (Eq a b)) (λ v. fold-Eq (occurs_level v) a b) (uses_lins a b f g)

  pub uses_equal : (u w : Var) → R u → R w → Uses R (Eq (variable u) (variable w))
  uses_equal u w r q = uses_eq (variable u) (variable w) (uses_variable u r) (uses_variable w q)

  pub uses_is_null : (u : Var) → R u → Uses R (Eq (variable u) null)
  uses_is_null u r = uses_eq (variable u) null (uses_variable u r) uses_null

  pub uses_positive : (u : Var) → R u → Uses R (Lt null (variable u))
  uses_positive u r = pass_same (λ v. in_lin v null || in_lin v (variable u)) (λ v. occurs v (Lt null (variable u))) (λ v. fold-Lt (occurs_level v) null (variable u))
      (uses_lins null (variable u) uses_null (uses_variable u r))

  pub uses_not : (p : Pure) → Uses R p → Uses R (Not p)
  uses_not p f = pass_same (λ v. occurs v p) (λ v. occurs v (Not p)) (λ v. fold-Not (occurs_level v) p) f

  uses_some : (ps : List Pure) → AllUse R ps → Passing R (λ v. list_any (occurs v) ps)
  uses_some [] f = λ v k. none k
  uses_some (p ∷ ps) (f, fs) = pass_either (λ v. occurs v p) (λ v. list_any (occurs v) ps) f (uses_some ps fs)

  pub uses_and : (ps : List Pure) → AllUse R ps → Uses R (And ps)
  uses_and ps f = pass_same (λ v. list_any (occurs v) ps) (λ v. occurs v (And ps)) (λ v. fold-And (occurs_level v) ps ∙ list_any-map (λ b. b) (occurs v) ps) (uses_some ps f)

  pub uses_or : (ps : List Pure) → AllUse R ps → Uses R (Or ps)
  uses_or ps f = pass_same (λ v. list_any (occurs v) ps) (λ v. occurs v (Or ps)) (λ v. fold-Or (occurs_level v) ps ∙ list_any-map (λ b. b) (occurs v) ps) (uses_some ps f)

  pub uses_conjunction : (ps : List Pure) → AllUse R ps → Uses R (conjunction ps)
  uses_conjunction [] f = uses_and [] f
  uses_conjunction (p ∷ []) f = f.0
  uses_conjunction (p ∷ q ∷ ps) f = uses_and (p ∷ q ∷ ps) f

  pub uses_disjunction : (ps : List Pure) → AllUse R ps → Uses R (disjunction ps)
  uses_disjunction [] f = uses_or [] f
  uses_disjunction (p ∷ []) f = f.0
  uses_disjunction (p ∷ q ∷ ps) f = uses_or (p ∷ q ∷ ps) f

  pub all_use-append : (ps qs : List Pure) → AllUse R ps → AllUse R qs → AllUse R (ps ++ qs)
  all_use-append [] qs f g = g
  all_use-append (p ∷ ps) qs (f, fs) g = (f, all_use-append ps qs fs g)

  -- ---- addresses

  abbrev pub AddressesIn : List ℕ → Type 0
  AddressesIn ks = AllByRecursion (λ k. R (address k)) ks

  uses_apart : (k l : ℕ) → R (address k) → R (address l) → Uses R (apart k l)
  uses_apart k l r q =
      uses_or (Eq (variable (address k)) null ∷ Eq (variable (address l)) null ∷ Not (Eq (variable (address k)) (variable (address l))) ∷ [])
      (uses_is_null (address k) r, (uses_is_null (address l) q, (uses_not (Eq (variable (address k)) (variable (address l))) (uses_equal (address k) (address l) r q), tt)))

  uses_from : (k : ℕ) (ls : List ℕ) → R (address k) → AddressesIn ls → AllUse R (map (apart k) ls)
  uses_from k [] r f = tt
  uses_from k (l ∷ ls) r (f, fs) = (uses_apart k l r f, uses_from k ls r fs)

  pub uses_all_apart : (ks : List ℕ) → AddressesIn ks → AllUse R (all_apart ks)
  uses_all_apart [] f = tt
  uses_all_apart (k ∷ ks) (f, fs) = all_use-append (map (apart k) ks) (all_apart ks) (uses_from k ks f fs) (uses_all_apart ks fs)

pub uses_weaker : (R Q : Var → Type 0) → ((v : Var) → R v → Q v) → (p : Pure) → Uses R p → Uses Q p
uses_weaker R Q h p f v k = h v (f v k)

pub all_use_weaker : (R Q : Var → Type 0) → ((v : Var) → R v → Q v) → (ps : List Pure) → AllUse R ps → AllUse Q ps
all_use_weaker R Q h [] f = tt
all_use_weaker R Q h (p ∷ ps) (f, fs) = (uses_weaker R Q h p f, all_use_weaker R Q h ps fs)
