-- Pure formulas whose variables are in a scope.
use Rattle.std.proofs.Common.{◌≡◌, ℕ, suc, ◌<◌, ◌≤◌, Bool, true, false, not, ◌&&◌, ◌||◌, ◌==◌, nat_le, nat_lt, IsTrue, ℤ, List, [], ◌∷◌, length, map, refl, sym, ap, ◌∙◌, subst, arith, true≢false}
use Rattle.std.specs.List.{All, list_all, list_any}
use Rattle.std.proofs.lemmas.Bool.{and_parts, and_from, or_parts, false_from_ne_true}
use Rattle.std.proofs.lemmas.List.{length-map}
use Rattle.std.proofs.lemmas.List.Elements.{All-nil, All-cons, All-head, All-tail}
use Rattle.hs_pure.specs.declared.var.Var.{Var}
use Rattle.hs_pure.specs.declared.lin.Lin.{Lin}
use Rattle.hs_pure.specs.declared.bag.Bag.{Bag, ind-Bag, fold-roll-Bag, map-Bag}
use Rattle.hs_pure.specs.declared.bag.Bag.TheOpen.{Bag-F}
use Rattle.hs_pure.specs.declared.pure.Pure.{Pure}
use Rattle.hs_pure.specs.declared.pure.Pure.TheOpen.{Pure-F}
use Rattle.hs_pure.specs.declared.pure.Pure.TheVariants as pure_of
use Rattle.hs_pure.specs.Stack.{same}
use Rattle.hs_pure.specs.Occurs.{BagUse, bag_use, bag_use_level}
use Rattle.hs_pure.proofs.Views.{fold-Eq, fold-Lt, fold-Le, fold-Divides, fold-BagEq, fold-Subset, fold-Member, fold-AllOf, fold-Not, fold-And, fold-Or, fold-Exists, fold-Forall}
use Rattle.hs_heap.specs.Meaning.{is_in}
use Rattle.hs_heap.specs.Tests.{sum_fits, rises_from, is_light, bag_fits, bag_fits_level, number_fits, binder_fits, pure_fits, pure_fits_level}
use Rattle.hs_heap.proofs.Tells.{tells_le, tells_lt, tells_different, tells_not}
use Rattle.hs_heap.proofs.Parts.{Binds, pure_told}
use Rattle.hs_numbering.specs.declared.numbering.Numbering.{Numbering}
use Rattle.hs_formula_fits.specs.Fits.{free_vars, Extends}
use Rattle.hs_formula_fits.proofs.State.{IsFresh, fresh_later, neither}

-- what a formula may not bind: numbers up to k, and free variables
abbrev pub outer : ℕ → Numbering → Var → Bool
outer k m u = nat_le u.number k || is_in u (free_vars m)

-- all numbers are below this
abbrev pub top : Numbering → ℕ
top m = suc (length m.names)

abbrev pub PureIn : ℕ → Numbering → (Var → Bool) → Pure → Type 0
PureIn k m s p = IsTrue (pure_fits (outer k m) (top m) p s)

-- one scope has what the other has
abbrev pub Within : (Var → Bool) → (Var → Bool) → Type 0
Within s t = (v : Var) → IsTrue (s v) → IsTrue (t v)

-- ---- binders

above_false : (m k : ℕ) → nat_le m k ≡ false → k < m
above_false m k e = less m k (λ le. true≢false (sym ((tells_le m k).1 le) ∙ e))
  where
    less : (m k : ℕ) → (m ≤ k → ⊥) → k < m
    less m k h = grind arith

false_above : (m k : ℕ) → k < m → nat_le m k ≡ false
false_above m k less = false_from_ne_true (nat_le m k) (λ e. apart m k less ((tells_le m k).0 e))
  where
    apart : (m k : ℕ) → k < m → m ≤ k → ⊥
    apart m k less le = omega arith

pub fresh_binds : (k : ℕ) (m : Numbering) (u : Var) → u.bag ≡ false → IsFresh k m u → Binds (outer k m) (top m) u
fresh_binds k m u kind f = (kind, (numbered k u.number (length m.names) f.new f.given, neither (nat_le u.number k) (is_in u (free_vars m)) (false_above u.number k f.new) f.hidden))
  where
    numbered : (k x l : ℕ) → k < x → x ≤ l → (1 ≤ x) × (x < suc l)
    numbered k x l less le = (omega arith, omega arith)

pub binds_fresh : (k : ℕ) (m : Numbering) (u : Var) → Binds (outer k m) (top m) u → IsFresh k m u
binds_fresh k m u b =
    let parts = or_parts (nat_le u.number k) (is_in u (free_vars m)) b.1.1 in
    record { new = above_false u.number k parts.0; given = below u.number (length m.names) b.1.0.1; hidden = parts.1 }
  where
    below : (x l : ℕ) → x < suc l → x ≤ l
    below x l less = omega arith

fresh_fits : (k : ℕ) (m : Numbering) (u : Var) → u.bag ≡ false → IsFresh k m u → IsTrue (binder_fits (outer k m) (top m) u)
fresh_fits k m u kind f =
    let b = fresh_binds k m u kind f in
    and_from (not u.bag) (number_fits (top m) u && not (outer k m u)) ((tells_not u.bag).1 kind)
    (and_from (number_fits (top m) u) (not (outer k m u)) (and_from (nat_le 1 u.number) (nat_lt u.number (top m)) ((tells_le 1 u.number).1 b.1.0.0) ((tells_lt u.number (top m)).1 b.1.0.1)) ((tells_not (outer k m u)).1 b.1.1))

-- ---- wider scopes

pub pure_wider : (j k : ℕ) (n m : Numbering) (s t : Var → Bool) (p : Pure) → j ≤ k → Extends n m → Within s t → PureIn k n s p → PureIn j m t p
pure_wider j k n m s t p le g w h =
    let told = (pure_told (outer k n) (top n) p s).0 h in
    (pure_told (outer j m) (top m) p t).1 (record {
      ordered = told.ordered;
      light = told.light;
      bags = told.bags;
      members = told.members;
      binders = λ u b. let was = told.binders u b in fresh_binds j m u was.0 (fresh_later j k n m u le g (binds_fresh k n u was));
      among = λ v f. w v (told.among v f);
    })

terms_wider : (s t : Var → Bool) (ts : List (Var × ℤ)) → Within s t → IsTrue (list_all (λ t. s t.0) ts) → IsTrue (list_all (λ x. t x.0) ts)
terms_wider s t [] w h = refl
terms_wider s t (x ∷ xs) w h = let parts = and_parts (s x.0) (list_all (λ t. s t.0) xs) h in and_from (t x.0) (list_all (λ x. t x.0) xs) (w x.0 parts.0) (terms_wider s t xs w parts.1)

pub sum_wider : (s t : Var → Bool) (a : Lin) → Within s t → IsTrue (sum_fits a s) → IsTrue (sum_fits a t)
sum_wider s t a w h =
    let parts = and_parts (rises_from 0 a.terms) (is_light a && list_all (λ t. s t.0) a.terms) h in
    let more = and_parts (is_light a) (list_all (λ t. s t.0) a.terms) parts.1 in
    and_from (rises_from 0 a.terms) (is_light a && list_all (λ x. t x.0) a.terms) parts.0 (and_from (is_light a) (list_all (λ x. t x.0) a.terms) more.0 (terms_wider s t a.terms w more.1))

module _ (s t : Var → Bool) (w : Within s t) where
  abbrev Wider : Bag → Type 0
  Wider b = IsTrue (bag_fits b s) → IsTrue (bag_fits b t)

  both_wider : (a b c d : Bool) → (IsTrue a → IsTrue c) → (IsTrue b → IsTrue d) → IsTrue (a && b) → IsTrue (c && d)
  both_wider a b c d f g h = let parts = and_parts a b h in and_from c d (f parts.0) (g parts.1)

  name_wider : (v : Var) → IsTrue (v.bag && s v) → IsTrue (v.bag && t v)
  name_wider v = both_wider v.bag (s v) v.bag (t v) (λ h. h) (w v)

  bag_step : (y : Bag-F ((b : Bag) × Wider b)) →
      IsTrue (bag_fits_level (map-Bag Bag ((Var → Bool) → Bool) bag_fits (map-Bag ((b : Bag) × Wider b) Bag (λ e. e.0) y)) s) →
      IsTrue (bag_fits_level (map-Bag Bag ((Var → Bool) → Bool) bag_fits (map-Bag ((b : Bag) × Wider b) Bag (λ e. e.0) y)) t)
  bag_step Bag-F.Empty h = refl
  bag_step (Bag-F.Name v) h = name_wider v h
  bag_step (Bag-F.One a) h = sum_wider s t a w h
  bag_step (Bag-F.Union a b) h = both_wider (bag_fits a.0 s) (bag_fits b.0 s) (bag_fits a.0 t) (bag_fits b.0 t) a.1 b.1 h
  bag_step (Bag-F.Inter a b) h = both_wider (bag_fits a.0 s) (bag_fits b.0 s) (bag_fits a.0 t) (bag_fits b.0 t) a.1 b.1 h
  bag_step (Bag-F.Diff a b) h = both_wider (bag_fits a.0 s) (bag_fits b.0 s) (bag_fits a.0 t) (bag_fits b.0 t) a.1 b.1 h

  pub bag_wider : (b : Bag) → Wider b
  bag_wider = ind-Bag Wider (λ x y is. subst (λ f. IsTrue (f s) → IsTrue (f t)) (sym (fold-roll-Bag ((Var → Bool) → Bool) bag_fits_level x))
      (subst (λ z. IsTrue (bag_fits_level (map-Bag Bag ((Var → Bool) → Bool) bag_fits z) s) → IsTrue (bag_fits_level (map-Bag Bag ((Var → Bool) → Bool) bag_fits z) t)) is (bag_step y)))

-- ---- formulas by what they are

-- a formula whose variables are in scope, and which has no bag literal where it stands under a quantifier
pub record FormedIn (inside : Bool) (k : ℕ) (m : Numbering) (s : Var → Bool) (p : Pure) : Type 0 where
  pub fits : PureIn k m s p
  pub plain : (bag_use p).under ≡ false
  pub hidden : inside ≡ true → (bag_use p).has ≡ false

pub formed_wider : (i : Bool) (j k : ℕ) (n m : Numbering) (s t : Var → Bool) (p : Pure) → j ≤ k → Extends n m → Within s t → FormedIn i k n s p → FormedIn i j m t p
formed_wider i j k n m s t p le g w f = record { fits = pure_wider j k n m s t p le g w f.fits; plain = f.plain; hidden = f.hidden }

module _ (i : Bool) (k : ℕ) (m : Numbering) (s : Var → Bool) where
  abbrev level : Pure-F ((Var → Bool) → Bool) → (Var → Bool) → Bool
  level = pure_fits_level (outer k m) (top m)

  abbrev test : Pure → (Var → Bool) → Bool
  test = pure_fits (outer k m) (top m)

  by_level : (p : Pure) (f : (Var → Bool) → Bool) (u : BagUse) → test p ≡ f → bag_use p ≡ u → IsTrue (f s) → u.under ≡ false → (i ≡ true → u.has ≡ false) → FormedIn i k m s p
  by_level p f u e g fits plain hidden = record {
    fits = subst (λ h. IsTrue (h s)) (sym e) fits;
    plain = ap (λ (b : BagUse). b.under) g ∙ plain;
    hidden = λ h. ap (λ (b : BagUse). b.has) g ∙ hidden h;
  }

  -- bag literals stand under no quantifier
  outside : i ≡ false → i ≡ true → true ≡ false
  outside e f = sym f ∙ e

  module _ (a b : Lin) (h : IsTrue (sum_fits a s)) (g : IsTrue (sum_fits b s)) where
    pub eq_formed : FormedIn i k m s (pure_of.Eq a b)
    eq_formed = by_level (pure_of.Eq a b) (level (Pure-F.Eq a b)) (bag_use_level (Pure-F.Eq a b)) (fold-Eq level a b) (fold-Eq bag_use_level a b) (and_from (sum_fits a s) (sum_fits b s) h g) refl (λ e. refl)

    pub lt_formed : FormedIn i k m s (pure_of.Lt a b)
    lt_formed = by_level (pure_of.Lt a b) (level (Pure-F.Lt a b)) (bag_use_level (Pure-F.Lt a b)) (fold-Lt level a b) (fold-Lt bag_use_level a b) (and_from (sum_fits a s) (sum_fits b s) h g) refl (λ e. refl)

    pub le_formed : FormedIn i k m s (pure_of.Le a b)
    le_formed = by_level (pure_of.Le a b) (level (Pure-F.Le a b)) (bag_use_level (Pure-F.Le a b)) (fold-Le level a b) (fold-Le bag_use_level a b) (and_from (sum_fits a s) (sum_fits b s) h g) refl (λ e. refl)

  pub divides_formed : (d : ℤ) (a : Lin) → IsTrue (sum_fits a s) → FormedIn i k m s (pure_of.Divides d a)
  divides_formed d a h = by_level (pure_of.Divides d a) (level (Pure-F.Divides d a)) (bag_use_level (Pure-F.Divides d a)) (fold-Divides level d a) (fold-Divides bag_use_level d a) h refl (λ e. refl)

  module _ (out : i ≡ false) where
    pub bag_eq_formed : (a b : Bag) → IsTrue (bag_fits a s) → IsTrue (bag_fits b s) → FormedIn i k m s (pure_of.BagEq a b)
    bag_eq_formed a b h g = by_level (pure_of.BagEq a b) (level (Pure-F.BagEq a b)) (bag_use_level (Pure-F.BagEq a b)) (fold-BagEq level a b) (fold-BagEq bag_use_level a b) (and_from (bag_fits a s) (bag_fits b s) h g) refl (outside out)

    pub subset_formed : (a b : Bag) → IsTrue (bag_fits a s) → IsTrue (bag_fits b s) → FormedIn i k m s (pure_of.Subset a b)
    subset_formed a b h g = by_level (pure_of.Subset a b) (level (Pure-F.Subset a b)) (bag_use_level (Pure-F.Subset a b)) (fold-Subset level a b) (fold-Subset bag_use_level a b) (and_from (bag_fits a s) (bag_fits b s) h g) refl (outside out)

    pub member_formed : (a : Lin) (b : Bag) → IsTrue (sum_fits a s) → IsTrue (bag_fits b s) → FormedIn i k m s (pure_of.Member a b)
    member_formed a b h g = by_level (pure_of.Member a b) (level (Pure-F.Member a b)) (bag_use_level (Pure-F.Member a b)) (fold-Member level a b) (fold-Member bag_use_level a b) (and_from (sum_fits a s) (bag_fits b s) h g) refl (outside out)

    pub all_formed : (u : Var) (b : Bag) (p : Pure) → IsTrue (bag_fits b s) → u.bag ≡ false → IsFresh k m u → FormedIn true k m (λ v. same v u || s v) p → FormedIn i k m s (pure_of.AllOf u b p)
    all_formed u b p h kind fresh f = by_level (pure_of.AllOf u b p) (level (Pure-F.AllOf u b (test p))) (bag_use_level (Pure-F.AllOf u b (bag_use p))) (fold-AllOf level u b p) (fold-AllOf bag_use_level u b p)
        (and_from (bag_fits b s) (binder_fits (outer k m) (top m) u && test p (λ v. same v u || s v)) h (and_from (binder_fits (outer k m) (top m) u) (test p (λ v. same v u || s v)) (fresh_fits k m u kind fresh) f.fits)) (f.hidden refl) (outside out)

  pub not_formed : (p : Pure) → FormedIn i k m s p → FormedIn i k m s (pure_of.Not p)
  not_formed p f = by_level (pure_of.Not p) (test p) (bag_use p) (fold-Not level p ∙ refl) (fold-Not bag_use_level p) f.fits f.plain f.hidden

  module _ (u : Var) (p : Pure) (kind : u.bag ≡ false) (fresh : IsFresh k m u) (f : FormedIn true k m (λ v. same v u || s v) p) where
    pub exists_formed : FormedIn i k m s (pure_of.Exists u p)
    exists_formed = by_level (pure_of.Exists u p) (level (Pure-F.Exists u (test p))) (bag_use_level (Pure-F.Exists u (bag_use p))) (fold-Exists level u p) (fold-Exists bag_use_level u p)
        (and_from (binder_fits (outer k m) (top m) u) (test p (λ v. same v u || s v)) (fresh_fits k m u kind fresh) f.fits) (f.hidden refl) (λ e. f.hidden refl)

    pub forall_formed : FormedIn i k m s (pure_of.Forall u p)
    forall_formed = by_level (pure_of.Forall u p) (level (Pure-F.Forall u (test p))) (bag_use_level (Pure-F.Forall u (bag_use p))) (fold-Forall level u p) (fold-Forall bag_use_level u p)
        (and_from (binder_fits (outer k m) (top m) u) (test p (λ v. same v u || s v)) (fresh_fits k m u kind fresh) f.fits) (f.hidden refl) (λ e. f.hidden refl)

  -- ---- members

  all_fit : (ps : List Pure) → All (FormedIn i k m s) ps → IsTrue (list_all (λ (f : (Var → Bool) → Bool). f s) (map test ps))
  all_fit [] h = refl
  all_fit (p ∷ ps) h = and_from (test p s) (list_all (λ (f : (Var → Bool) → Bool). f s) (map test ps)) (All-head (FormedIn i k m s) p ps h).fits (all_fit ps (All-tail (FormedIn i k m s) p ps h))

  none_under : (ps : List Pure) → All (FormedIn i k m s) ps → list_any (λ (p : BagUse). p.under) (map bag_use ps) ≡ false
  none_under [] h = refl
  none_under (p ∷ ps) h = neither (bag_use p).under (list_any (λ (p : BagUse). p.under) (map bag_use ps)) (All-head (FormedIn i k m s) p ps h).plain (none_under ps (All-tail (FormedIn i k m s) p ps h))

  none_has : i ≡ true → (ps : List Pure) → All (FormedIn i k m s) ps → list_any (λ (p : BagUse). p.has) (map bag_use ps) ≡ false
  none_has e [] h = refl
  none_has e (p ∷ ps) h = neither (bag_use p).has (list_any (λ (p : BagUse). p.has) (map bag_use ps)) ((All-head (FormedIn i k m s) p ps h).hidden e) (none_has e ps (All-tail (FormedIn i k m s) p ps h))

  module _ (ps : List Pure) (several : length ps ≡ 1 → ⊥) (h : All (FormedIn i k m s) ps) where
    group : IsTrue (not (length (map test ps) == 1) && list_all (λ (f : (Var → Bool) → Bool). f s) (map test ps))
    group = and_from (not (length (map test ps) == 1)) (list_all (λ (f : (Var → Bool) → Bool). f s) (map test ps)) ((tells_different (length (map test ps)) 1).1 (λ e. several (sym (length-map ps test) ∙ e))) (all_fit ps h)

    pub and_formed : FormedIn i k m s (pure_of.And ps)
    and_formed = by_level (pure_of.And ps) (level (Pure-F.And (map test ps))) (bag_use_level (Pure-F.And (map bag_use ps))) (fold-And level ps) (fold-And bag_use_level ps) group (none_under ps h) (λ e. none_has e ps h)

    pub or_formed : FormedIn i k m s (pure_of.Or ps)
    or_formed = by_level (pure_of.Or ps) (level (Pure-F.Or (map test ps))) (bag_use_level (Pure-F.Or (map bag_use ps))) (fold-Or level ps) (fold-Or bag_use_level ps) group (none_under ps h) (λ e. none_has e ps h)

  member_formed_at : (ps : List Pure) → IsTrue (list_all (λ (f : (Var → Bool) → Bool). f s) (map test ps)) → list_any (λ (p : BagUse). p.under) (map bag_use ps) ≡ false → (i ≡ true → list_any (λ (p : BagUse). p.has) (map bag_use ps) ≡ false) → All (FormedIn i k m s) ps
  member_formed_at [] h u o = All-nil (FormedIn i k m s)
  member_formed_at (p ∷ ps) h u o =
      let fits = and_parts (test p s) (list_all (λ (f : (Var → Bool) → Bool). f s) (map test ps)) h in
      let under = or_parts (bag_use p).under (list_any (λ (p : BagUse). p.under) (map bag_use ps)) u in
      let has : i ≡ true → ((bag_use p).has ≡ false) × (list_any (λ (p : BagUse). p.has) (map bag_use ps) ≡ false) = λ e. or_parts (bag_use p).has (list_any (λ (p : BagUse). p.has) (map bag_use ps)) (o e) in
      All-cons (FormedIn i k m s) p ps (record { fits = fits.0; plain = under.0; hidden = λ e. (has e).0 }) (member_formed_at ps fits.1 under.1 (λ e. (has e).1))

  pub members_formed : (ps : List Pure) → FormedIn i k m s (pure_of.And ps) → All (FormedIn i k m s) ps
  members_formed ps f =
      let fits : IsTrue (level (Pure-F.And (map test ps)) s) = subst (λ h. IsTrue (h s)) (fold-And level ps) f.fits in
      member_formed_at ps (and_parts (not (length (map test ps) == 1)) (list_all (λ (f : (Var → Bool) → Bool). f s) (map test ps)) fits).1
      (sym (ap (λ (b : BagUse). b.under) (fold-And bag_use_level ps)) ∙ f.plain) (λ e. sym (ap (λ (b : BagUse). b.has) (fold-And bag_use_level ps)) ∙ f.hidden e)
