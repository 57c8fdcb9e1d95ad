-- Places in a list.
use Rattle.std.proofs.Common.{◌≡◌, ℕ, zero, suc, ◌+◌, ◌<◌, Bool, true, false, List, [], ◌∷◌, length, take, get_or, Option, None, Some, refl, sym, ◌∙◌, arith, if◌then◌else◌, add-one}
use Rattle.std.specs.List.{position_from}
use Rattle.std.specs.Str.{bytes_eq}
use Rattle.hs_norm_formula.specs.declared.table.Entry.{Entry}
use Rattle.hs_norm_formula.specs.Table.{or_first, here, place}

module _ {A : Type 0} (p : A → Bool) where
  more : (xs : List A) (k i : ℕ) (d : A) → i < length xs →
      position_from p k (take (suc i) xs) ≡ or_first (position_from p k (take i xs)) (if p (get_or xs i d) then Some (k + i) else None)
  more [] k i d lt = absurd (omega arith)
  more (x ∷ xs) k zero d lt = let e : k ≡ k + 0 = omega arith in λ j. if p x then Some (e j) else None
  more (x ∷ xs) k (suc i) d lt = of (p x) (more xs (k + 1) i d (omega arith))
    where
      moved : (k + 1) + i ≡ k + suc i
      moved = omega arith

      of : (b : Bool) → position_from p (k + 1) (take (suc i) xs) ≡ or_first (position_from p (k + 1) (take i xs)) (if p (get_or xs i d) then Some ((k + 1) + i) else None) →
          (if b then Some k else position_from p (k + 1) (take (suc i) xs))
          ≡ or_first (if b then Some k else position_from p (k + 1) (take i xs)) (if p (get_or xs i d) then Some (k + suc i) else None)
      of true h = refl
      of false h = h ∙ λ j. or_first (position_from p (k + 1) (take i xs)) (if p (get_or xs i d) then Some (moved j) else None)

  pub position_more : (xs : List A) (i : ℕ) (d : A) → i < length xs →
      position_from p 0 (take (i + 1) xs) ≡ or_first (position_from p 0 (take i xs)) (if p (get_or xs i d) then Some i else None)
  position_more xs i d lt = (λ j. position_from p 0 (take (add-one i j) xs)) ∙ more xs 0 i d lt ∙ let e : 0 + i ≡ i = omega arith in λ j. or_first (position_from p 0 (take i xs)) (if p (get_or xs i d) then Some (e j) else None)

pub noted : (es : List Entry) (i : ℕ) (d : Entry) (q : List ℕ) (new old : Option ℕ) → i < length es → old ≡ place q (take i es) →
    new ≡ or_first old (here q (get_or es i d) i) → new ≡ place q (take (i + 1) es)
noted es i d q new old lt e h = h ∙ (λ j. or_first (e j) (here q (get_or es i d) i)) ∙ sym (position_more (λ e. bytes_eq q e.name) es i d lt)
