-- Assertions with many members.
use Rattle.std.proofs.Common.{◌≡◌, ◌↔◌, IsTrue, ℕ, suc, arith, List, [], ◌∷◌, map, inl, inr, refl, sym, ap, ◌∙◌, subst}
use Rattle.std.specs.List.{fold, Contains}
use Rattle.hs_pure.specs.declared.lin.Lin.{Lin}
use Rattle.hs_pure.specs.declared.pure.Pure.{Pure}
use Rattle.hs_pure.specs.declared.pure.Pure.TheVariants as pure_of
use Rattle.hs_pure.specs.Assertion.{Assertion, both, either, every, some, pure_level, assertion_of}
use Rattle.hs_pure.proofs.Views.{fold-Eq, fold-Lt, fold-Le, fold-And, fold-Or}
use Rattle.hs_pure.proofs.Mirrored.{fold-joined}
use Rattle.hs_elimination.specs.Cases.{substitute_lin}
use Rattle.hs_elimination.specs.Linear.{IsWideLin}
use Rattle.hs_elimination.proofs.Stage3.{contains_cases, contains_none}
use Rattle.hs_pure.specs.declared.var.Var.{Var}
use Rattle.hs_pure.specs.Stack.{Stack, with_value, number_value}
use Rattle.hs_pure.specs.Sums.{IsOrdered}
use Rattle.hs_pure.specs.Truth.{value, IsTrueAt, TrueAt}
use Rattle.hs_elimination.specs.Normal.{is_simple}
use Rattle.hs_elimination.specs.Linear.{place}
use Rattle.hs_elimination.proofs.Order.{order_is}
use Rattle.hs_substitute.proofs.Substituted.{substitution_keeps}
use Rattle.hs_substitute.specs.Substitution.{substituted, HasWideSum}

pub map-map : {X Y Z : Type 0} (f : X → Y) (g : Y → Z) (xs : List X) → map g (map f xs) ≡ map (λ x. g (f x)) xs
map-map f g [] = refl
map-map f g (x ∷ xs) = ap (λ ys. g (f x) ∷ ys) (map-map f g xs)

pub contains-map : {X Y : Type 0} (h : X → Y) (xs : List X) (x : X) → Contains xs x → Contains (map h xs) (h x)
contains-map h [] x k = contains_none x k
contains-map h (y ∷ xs) x k = step (contains-map h xs x)
  where
    step : (Contains xs x → Contains (map h xs) (h x)) → Contains (map h (y ∷ xs)) (h x)
    step ih = elim (contains_cases y x xs k) [ inl is ↦ (0, omega arith, ap h is) | inr later ↦ (let w = ih later in (suc w.0, omega arith, w.2)) ]

module _ (x : ℕ) (u : Lin) where
  put-every : (qs : List Assertion) → (substituted x u) (every qs) ≡ every (map (substituted x u) qs)
  put-every [] = refl
  put-every (q ∷ qs) = fold-joined both both (substituted x u) (λ p q. refl) q qs

  put-some : (qs : List Assertion) → (substituted x u) (some qs) ≡ some (map (substituted x u) qs)
  put-some [] = refl
  put-some (q ∷ qs) = fold-joined either either (substituted x u) (λ p q. refl) q qs

  -- what the members of the result are
  abbrev ArePut : List Pure → List Pure → Type 0
  ArePut qs ps = map assertion_of qs ≡ map (λ p. substituted x u (assertion_of p)) ps

  pub put-And : (p : Pure) (ps qs : List Pure) → p ≡ pure_of.And ps → ArePut qs ps → assertion_of (pure_of.And qs) ≡ substituted x u (assertion_of p)
  put-And p ps qs is e =
      fold-And pure_level qs ∙ ap every (e ∙ sym (map-map assertion_of (substituted x u) ps)) ∙ sym (put-every (map assertion_of ps))
      ∙ ap (substituted x u) (sym (fold-And pure_level ps)) ∙ ap (λ q. substituted x u (assertion_of q)) (sym is)

  pub put-Or : (p : Pure) (ps qs : List Pure) → p ≡ pure_of.Or ps → ArePut qs ps → assertion_of (pure_of.Or qs) ≡ substituted x u (assertion_of p)
  put-Or p ps qs is e =
      fold-Or pure_level qs ∙ ap some (e ∙ sym (map-map assertion_of (substituted x u) ps)) ∙ sym (put-some (map assertion_of ps))
      ∙ ap (substituted x u) (sym (fold-Or pure_level ps)) ∙ ap (λ q. substituted x u (assertion_of q)) (sym is)

-- ---- what holds of all that are joined where it holds of one

module _ (Q : Assertion → Type 0) (op : Assertion → Assertion → Assertion) (first : (p q : Assertion) → Q p → Q (op p q)) (second : (p q : Assertion) → Q q → Q (op p q)) where
  fold_first : (p : Assertion) (ps : List Assertion) → Q p → Q (fold op p ps)
  fold_first p [] h = h
  fold_first p (q ∷ ps) h = fold_first (op p q) ps (first p q h)

  fold_member : (p : Assertion) (ps : List Assertion) (q : Assertion) → Contains ps q → Q q → Q (fold op p ps)
  fold_member p [] q k h = contains_none q k
  fold_member p (r ∷ ps) q k h = step (fold_member (op p r) ps q)
    where
      step : (Contains ps q → Q q → Q (fold op (op p r) ps)) → Q (fold op (op p r) ps)
      step ih = elim (contains_cases r q ps k) [ inl is ↦ fold_first (op p r) ps (second p r (subst Q (sym is) h)) | inr later ↦ ih later h ]

  list_member : (p : Assertion) (ps : List Assertion) (q : Assertion) → Contains (p ∷ ps) q → Q q → Q (fold op p ps)
  list_member p ps q k h = elim (contains_cases p q ps k) [ inl is ↦ fold_first p ps (subst Q (sym is) h) | inr later ↦ fold_member p ps q later h ]

module _ (Q : Assertion → Type 0) where
  every_member : ((p q : Assertion) → Q p → Q (both p q)) → ((p q : Assertion) → Q q → Q (both p q)) → (ps : List Assertion) (q : Assertion) → Contains ps q → Q q → Q (every ps)
  every_member first second [] q k h = contains_none q k
  every_member first second (p ∷ ps) q k h = list_member Q both first second p ps q k h

  some_member : ((p q : Assertion) → Q p → Q (either p q)) → ((p q : Assertion) → Q q → Q (either p q)) → (ps : List Assertion) (q : Assertion) → Contains ps q → Q q → Q (some ps)
  some_member first second [] q k h = contains_none q k
  some_member first second (p ∷ ps) q k h = list_member Q either first second p ps q k h

  abbrev pub Member : List Pure → Type 0
  Member ps = (q : Pure) × (Contains ps q × Q (assertion_of q))

  pub and_member : ((p q : Assertion) → Q p → Q (both p q)) → ((p q : Assertion) → Q q → Q (both p q)) → (p : Pure) (ps : List Pure) → p ≡ pure_of.And ps → Member ps → Q (assertion_of p)
  and_member first second p ps is w =
      subst Q (sym (ap assertion_of is ∙ fold-And pure_level ps)) (every_member first second (map assertion_of ps) (assertion_of w.0) (contains-map assertion_of ps w.0 w.1.0) w.1.1)

  or_member : ((p q : Assertion) → Q p → Q (either p q)) → ((p q : Assertion) → Q q → Q (either p q)) → (p : Pure) (ps : List Pure) → p ≡ pure_of.Or ps → Member ps → Q (assertion_of p)
  or_member first second p ps is w =
      subst Q (sym (ap assertion_of is ∙ fold-Or pure_level ps)) (some_member first second (map assertion_of ps) (assertion_of w.0) (contains-map assertion_of ps w.0 w.1.0) w.1.1)

module _ (x : ℕ) (u : Lin) where
  abbrev pub IsWidePut : Assertion → Type 0
  IsWidePut p = HasWideSum (substituted x u p)

  pub wide-And : (p : Pure) (ps : List Pure) → p ≡ pure_of.And ps → ((q : Pure) × (Contains ps q × IsWidePut (assertion_of q))) → IsWidePut (assertion_of p)
  wide-And = and_member IsWidePut (λ p q. inl) (λ p q. inr)

  pub wide-Or : (p : Pure) (ps : List Pure) → p ≡ pure_of.Or ps → ((q : Pure) × (Contains ps q × IsWidePut (assertion_of q))) → IsWidePut (assertion_of p)
  wide-Or = or_member IsWidePut (λ p q. inl) (λ p q. inr)

  module _ (p : Pure) (a b : Lin) (h : IsWideLin (substitute_lin x u b)) where
    pub wide-Eq : p ≡ pure_of.Eq a b → IsWidePut (assertion_of p)
    wide-Eq is = subst IsWidePut (sym (ap assertion_of is ∙ fold-Eq pure_level a b)) (inr h)

    pub wide-Lt : p ≡ pure_of.Lt a b → IsWidePut (assertion_of p)
    wide-Lt is = subst IsWidePut (sym (ap assertion_of is ∙ fold-Lt pure_level a b)) (inr h)

    pub wide-Le : p ≡ pure_of.Le a b → IsWidePut (assertion_of p)
    wide-Le is = subst IsWidePut (sym (ap assertion_of is ∙ fold-Le pure_level a b)) (inr h)

pub truth-of : (x : Var) (u : Lin) (f : Pure) → IsTrue (is_simple (assertion_of f)) → IsOrdered f → (r : Pure) → assertion_of r ≡ substituted (place x) u (assertion_of f)
    → (s : Stack) → TrueAt s r ↔ TrueAt (with_value x (number_value (value s u)) s) f
truth-of x u f h o r e s = subst (λ p. IsTrueAt s p ↔ TrueAt (with_value x (number_value (value s u)) s) f) (sym e) (substitution_keeps x u (assertion_of f) h ((order_is f).0 o) s)
