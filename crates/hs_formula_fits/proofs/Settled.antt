-- Between formulas.
use Rattle.std.proofs.Common.{◌≡◌, ℕ, suc, ◌+◌, ◌<◌, ◌≤◌, min, ◌||◌, Bool, false, IsTrue, ◌++◌, length, map, sym, ◌∙◌, subst, arith}
use Rattle.std.specs.List.{All}
use Rattle.std.proofs.lemmas.List.Elements.{All-nil, All-append, All-map, All-weaker}
use Rattle.hs_pure.specs.declared.var.Var.{Var}
use Rattle.hs_pure.specs.declared.pure.Pure.{Pure}
use Rattle.hs_pure.specs.Occurs.{is_free, is_bound, bag_use}
use Rattle.hs_heap.specs.Meaning.{is_in}
use Rattle.hs_heap.specs.Sound.{IsNumbered, PureFits}
use Rattle.hs_heap.proofs.Tells.{tells_not, either_all}
use Rattle.hs_heap.proofs.Parts.{pure_told}
use Rattle.hs_heap.proofs.Lists.{listed_forth}
use Rattle.hs_heap.proofs.Occurring.{occurs-splits}
use Rattle.hs_numbering.specs.declared.numbering.Named.{Named}
use Rattle.hs_numbering.specs.declared.numbering.Numbering.{Numbering}
use Rattle.hs_numbering.specs.Numbering.{next}
use Rattle.hs_norm_formula.specs.Expr.{number}
use Rattle.hs_norm_formula.specs.Item.{item, conjunction}
use Rattle.hs_formula_fits.specs.Fits.{vars_of, free_vars, NamedFits, IsSettled, BindsNew}
use Rattle.hs_formula_fits.specs.Laws.{SumFits, NumbersFit, ConjunctionFits, ConjunctionsFit}
use Rattle.hs_formula_fits.proofs.Formed.{Within, outer, top, binds_fresh, FormedIn}
use Rattle.hs_formula_fits.proofs.Keeps.{scope, Sane, Stays, Kept}
use Rattle.hs_formula_fits.proofs.Sums.{sum_parts}
use Rattle.hs_formula_fits.proofs.Expressions.{SumIn, number_does}
use Rattle.hs_formula_fits.proofs.Items.{FormedAt, conjunction_does}

pub settled_sane : (n : Numbering) → IsSettled n → Sane n
settled_sane n h = record { named = h.named; few = h.few; fixed = h.fixed; known = h.known; around = subst (λ ms. All (NamedFits n) ms) (sym h.around) (All-nil (NamedFits n)); distinct = h.distinct }

pub still_settled : (n m : Numbering) → IsSettled n → Sane m → Stays n m → IsSettled m
still_settled n m h sane s = record {
  named = sane.named;
  few = sane.few;
  fixed = sane.fixed;
  known = sane.known;
  distinct = sane.distinct;
  around = s.around ∙ h.around;
  flat = s.flat ∙ h.flat;
  equations = s.equations ∙ h.equations;
}

-- nothing but free variables is in scope
pub only_free : (m : Numbering) → IsSettled m → Within (scope m) (λ v. is_in v (free_vars m))
only_free m h v k = subst (λ ms. IsTrue (is_in v (vars_of ms) || is_in v (free_vars m))) h.around (subst (λ vs. IsTrue (is_in v (vars_of m.around) || (is_in v vs || is_in v (free_vars m)))) h.flat k)

-- ---- pure formulas

pub next_is : (m : Numbering) → length m.names ≤ 1000 → next m ≡ top m
next_is m few = of (length m.names) few
  where
    of : (k : ℕ) → k ≤ 1000 → min k 1000 + 1 ≡ suc k
    of k few = omega arith

pub free_numbered : (m : Numbering) → All (NamedFits m) m.fixed → All (NamedFits m) m.known → (v : Var) → IsTrue (is_in v (free_vars m)) → IsNumbered (top m) v
free_numbered m fixed known = listed_forth (IsNumbered (top m)) (free_vars m) (All-map (IsNumbered (top m)) (λ (x : Named). x.var) (m.fixed ++ m.known)
    (All-weaker (NamedFits m) (λ x. IsNumbered (top m) x.var) (λ x f. (f.low, below x.var.number (length m.names) f.high)) (m.fixed ++ m.known) (All-append (NamedFits m) m.fixed m.known fixed known)))
  where
    below : (x l : ℕ) → x ≤ l → x < suc l
    below x l le = omega arith

-- a formula in a scope whose variables are numbered
pub record PureTells (k : ℕ) (m : Numbering) (s : Var → Bool) (p : Pure) : Type 0 where
  pub fits : PureFits (free_vars m) (next m) p
  pub among : (v : Var) → IsTrue (is_free v p) → IsTrue (s v)
  pub new : BindsNew k p

pub pure_tells : (i : Bool) (k : ℕ) (m : Numbering) (s : Var → Bool) (p : Pure) → length m.names ≤ 1000 → ((v : Var) → IsTrue (s v) → IsNumbered (top m) v) → FormedIn i k m s p → PureTells k m s p
pure_tells i k m s p few numbered f =
    let told = (pure_told (outer k m) (top m) p s).0 f.fits in
    record {
      fits = subst (λ l. PureFits (free_vars m) l p) (sym (next_is m few)) (record {
        formed = record { ordered = told.ordered; light = told.light; bags = told.bags; binders = λ u b. (told.binders u b).0; members = told.members; plain = (tells_not (bag_use p).under).1 f.plain };
        apart = λ u b. (binds_fresh k m u (told.binders u b)).hidden;
        numbers = λ v o. either_all (λ v. is_free v p) (λ v. is_bound v p) (IsNumbered (top m)) (λ v h. numbered v (told.among v h)) (λ v b. (told.binders v b).1.0) v (subst IsTrue (occurs-splits v p) o);
      });
      among = told.among;
      new = λ u b. (binds_fresh k m u (told.binders u b)).new;
    }

pub conjunctions_fit : ConjunctionsFit
conjunctions_fit ts n settled clean = of (conjunction_does ts n clean).1
  where
    of : (Sane n → Kept Stays (FormedAt false) n (conjunction (map item ts) n)) → ConjunctionFits n (conjunction (map item ts) n).1 (conjunction (map item ts) n).0
    of f =
        let a = f (settled_sane n settled) in
        let m = (conjunction (map item ts) n).1 in
        let after = still_settled n m settled a.sane a.moves in
        let told = pure_tells false (length n.names) m (scope m) (conjunction (map item ts) n).0 a.sane.few (λ v h. free_numbered m a.sane.fixed a.sane.known v (only_free m after v h)) a.result in
        record { settled = after; extends = a.moves.extends; fits = told.fits; among = λ v h. only_free m after v (told.among v h); new = told.new }

pub numbers_fit : NumbersFit
numbers_fit e n settled clean = of (number_does e n clean).1
  where
    of : (Sane n → Kept Stays SumIn n (number e n)) → SumFits n (number e n).1 (number e n).0
    of f =
        let a = f (settled_sane n settled) in
        let m = (number e n).1 in
        let after = still_settled n m settled a.sane a.moves in
        let parts = sum_parts (scope m) (number e n).0 a.result in
        record { settled = after; extends = a.moves.extends; light = parts.0; ordered = parts.1; among = λ v h. only_free m after v (parts.2 v h) }
