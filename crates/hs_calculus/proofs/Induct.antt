-- What each rule hands on, each derivation has.
use Rattle.std.proofs.Common.{◌≡◌, ◌<◌, ℕ, Bool, Option, Some, None, true, false, cond, map, zero, suc, [], ◌∷◌, ◌++◌, List, refl, ap, sym, subst, ◌∙◌, arith, append_assoc}
use Rattle.std.specs.List.{flat_map, fold, AllByRecursion, AllZip, Contains}
use Rattle.std.proofs.lemmas.List.Elements.{All-contains, All-contains_itself, recursion_from_All, All-from_recursion}
use Rattle.hs_calculus.specs.Calculus.{Calculus, Falls}
use Rattle.hs_calculus.specs.Search.{derivations, derivations_by, rows_by, one_of_each, extended, rank_after, IsDerivation}
use Rattle.hs_calculus.specs.Laws.{IsKept, IsHandedOn, DerivationsHave}
use Rattle.hs_calculus.proofs.Trees.{derivations_is}
use Rattle.hs_calculus.proofs.Over.{All_weaker}

pub All_append : {X : Type 0} (P : X → Type 0) (xs ys : List X) → AllByRecursion P xs → AllByRecursion P ys → AllByRecursion P (xs ++ ys)
All_append P [] ys h k = k
All_append P (x ∷ xs) ys h k = (h.0, All_append P xs ys h.1 k)

All_flat_map : {X Y : Type 0} (P : Y → Type 0) (f : X → List Y) (xs : List X) → AllByRecursion (λ x. AllByRecursion P (f x)) xs → AllByRecursion P (flat_map f xs)
All_flat_map P f [] h = tt
All_flat_map P f (x ∷ xs) h = All_append P (f x) (flat_map f xs) h.0 (All_flat_map P f xs h.1)

pub All_map : {X Y : Type 0} (P : Y → Type 0) (f : X → Y) (xs : List X) → AllByRecursion (λ x. P (f x)) xs → AllByRecursion P (map f xs)
All_map P f [] h = tt
All_map P f (x ∷ xs) h = (h.0, All_map P f xs h.1)

All_both : {X : Type 0} (P Q S : X → Type 0) (xs : List X) → ((x : X) → P x → Q x → S x) → AllByRecursion P xs → AllByRecursion Q xs → AllByRecursion S xs
All_both P Q S [] f h k = tt
All_both P Q S (x ∷ xs) f h k = (f x h.0 k.0, All_both P Q S xs f h.1 k.1)

zip_push : {X Y : Type 0} (Q : X → Y → Type 0) (xs : List X) (ys : List Y) (x : X) (y : Y) → AllZip Q xs ys → Q x y → AllZip Q (xs ++ x ∷ []) (ys ++ y ∷ [])
zip_push Q [] [] x y h k = (k, tt)
zip_push Q [] (b ∷ ys) x y h k = absurd h
zip_push Q (a ∷ xs) [] x y h k = absurd h
zip_push Q (a ∷ xs) (b ∷ ys) x y h k = (h.0, zip_push Q xs ys x y h.1 k)

-- each row has one part for each goal
rows_zip : {X Y : Type 0} (Q : X → Y → Type 0) (f : X → List Y) (done xs : List X) (rows : List (List Y))
    → AllByRecursion (AllZip Q done) rows → AllByRecursion (λ x. AllByRecursion (Q x) (f x)) xs
    → AllByRecursion (AllZip Q (done ++ xs)) (fold extended rows (map f xs))
rows_zip {X} {Y} Q f done [] rows h k = subst (λ (done : List X). AllByRecursion (AllZip Q done) rows) (sym (append_nil done)) h
  where
    append_nil : {X : Type 0} (xs : List X) → xs ++ [] ≡ xs
    append_nil [] = refl
    append_nil (x ∷ xs) = ap (λ ys. x ∷ ys) (append_nil xs)
rows_zip {X} {Y} Q f done (x ∷ xs) rows h k =
    subst (λ (all : List X). AllByRecursion (AllZip Q all) (fold extended (extended rows (f x)) (map f xs))) (append_assoc done (x ∷ []) xs)
    (rows_zip Q f (done ++ x ∷ []) xs (extended rows (f x)) (longer rows h) k.1)
  where
    longer : (rows : List (List Y)) → AllByRecursion (AllZip Q done) rows → AllByRecursion (AllZip Q (done ++ x ∷ [])) (extended rows (f x))
    longer [] h = tt
    longer (row ∷ rows) h = All_append _ _ _ (All_map _ (λ y. row ++ y ∷ []) (f x) (All_weaker _ _ (f x) (λ y q. zip_push Q done row x y h.0 q) k.0)) (longer rows h.1)

-- in each row of a rule, the parts are derivations of the subgoals
pub rows_by_zip : {G R P : Type 0} (c : Calculus G R P) (Q : G → P → Type 0) (rank : ℕ) (g : G) (rule : R)
    → ((left : ℕ) → rank_after (c.is_paid rule) rank ≡ Some left → AllByRecursion (λ s. AllByRecursion (Q s) (derivations c left s)) (c.subgoals g rule))
    → AllByRecursion (λ row. (c.holds g rule ≡ true) × AllZip Q (c.subgoals g rule) row) (rows_by c rank g rule)
rows_by_zip {G} {R} {P} c Q rank g rule h = at (rank_after (c.is_paid rule) rank) h
  where
    row_has : List P → Type 0
    row_has row = (c.holds g rule ≡ true) × AllZip Q (c.subgoals g rule) row

    held : (left : ℕ) → AllByRecursion (λ s. AllByRecursion (Q s) (derivations c left s)) (c.subgoals g rule) → (b : Bool) → c.holds g rule ≡ b
        → AllByRecursion (λ row. (c.holds g rule ≡ true) × AllZip Q (c.subgoals g rule) row) (cond b (one_of_each (map (derivations c left) (c.subgoals g rule))) [])
    held left k false e = tt
    held left k true e =
        All_weaker _ _ (one_of_each (map (derivations c left) (c.subgoals g rule))) (λ row z. (e, z))
        (rows_zip Q (derivations c left) [] (c.subgoals g rule) ([] ∷ []) (tt, tt) k)

    at : (o : Option ℕ) → ((left : ℕ) → o ≡ Some left → AllByRecursion (λ s. AllByRecursion (Q s) (derivations c left s)) (c.subgoals g rule))
        → AllByRecursion (λ row. (c.holds g rule ≡ true) × AllZip Q (c.subgoals g rule) row) (elim o [ None ↦ [] | Some left ↦ cond (c.holds g rule) (one_of_each (map (derivations c left) (c.subgoals g rule))) [] ])
    at None k = tt
    at (Some left) k = held left (k left refl) (c.holds g rule) refl

module _ {G R P : Type 0} (c : Calculus G R P) (falls : Falls c) (Is : G → Type 0) (Q : G → P → Type 0)
    (kept : IsKept c Is) (step : IsHandedOn c Is Q) where
  -- the derivations of a goal at a rank have it
  abbrev AllHave : ℕ → G → Type 0
  AllHave rank g = Is g → AllByRecursion (Q g) (derivations c rank g)

  each_has : (left : ℕ) (ss : List G) → AllByRecursion Is ss → AllByRecursion (AllHave left) ss → AllByRecursion (λ s. AllByRecursion (Q s) (derivations c left s)) ss
  each_has left ss is h = All_both Is (AllHave left) (λ s. AllByRecursion (Q s) (derivations c left s)) ss (λ s i k. k i) is h

  by_rule : (rank : ℕ) (g : G) (rule : R) → Is g → Contains (c.choices g) rule
      → ((left : ℕ) → rank_after (c.is_paid rule) rank ≡ Some left → AllByRecursion (AllHave left) (c.subgoals g rule))
      → AllByRecursion (Q g) (derivations_by c rank g rule)
  by_rule rank g rule is choice h = at (c.holds g rule) refl
    where
      at : (b : Bool) → c.holds g rule ≡ b → AllByRecursion (Q g) (derivations_by c rank g rule)
      at true e =
          All_map (Q g) (c.join g rule) (rows_by c rank g rule)
          (All_weaker _ _ (rows_by c rank g rule) (λ row z. step g rule row is choice z.0 z.1)
          (rows_by_zip c Q rank g rule (λ left some. each_has left (c.subgoals g rule) (kept g rule is choice e) (h left some))))
      at false e = none (rank_after (c.is_paid rule) rank)
        where
          none : (o : Option ℕ) → AllByRecursion (Q g) (map (c.join g rule) (elim o [ None ↦ [] | Some left ↦ cond (c.holds g rule) (one_of_each (map (derivations c left) (c.subgoals g rule))) [] ]))
          none None = tt
          none (Some left) = subst (λ b. AllByRecursion (Q g) (map (c.join g rule) (cond b (one_of_each (map (derivations c left) (c.subgoals g rule))) []))) (sym e) tt

  every : (left : ℕ) → ((s : G) → AllHave left s) → (ss : List G) → AllByRecursion (AllHave left) ss
  every left f [] = tt
  every left f (s ∷ ss) = (f s, every left f ss)

  from_lower : (rank : ℕ) (below : (left : ℕ) → rank ≡ suc left → (g : G) → AllHave left g) (fuel : ℕ) (g : G) → c.size g < fuel → AllHave rank g
  from_lower rank below zero g l is = absurd (omega arith)
  from_lower rank below (suc fuel) g l is =
      subst (AllByRecursion (Q g)) (sym (derivations_is c falls rank g))
      (All_flat_map (Q g) (derivations_by c rank g) (c.choices g)
      (All_both _ _ _ (c.choices g) (λ rule choice fall. by_rule rank g rule is choice (λ left e. each (λ s small. from_lower rank below fuel s (omega arith)) rule fall (c.is_paid rule) refl left e))
      (recursion_from_All _ (c.choices g) (All-contains_itself (c.choices g))) (falls g)))
    where
      paid_at : (rule : R) (left r : ℕ) → r ≡ rank → rank_after true r ≡ Some left → AllByRecursion (AllHave left) (c.subgoals g rule)
      paid_at rule left zero w e = absurd (cc)
      paid_at rule left (suc r) w e = let d : r ≡ left = cc in every left (below left (sym w ∙ ap suc d)) (c.subgoals g rule)

      each : ((s : G) → c.size s < c.size g → AllHave rank s) → (rule : R) → (c.is_paid rule ≡ false → AllByRecursion (λ s. c.size s < c.size g) (c.subgoals g rule)) → (paid : Bool) → c.is_paid rule ≡ paid → (left : ℕ) → rank_after paid rank ≡ Some left
          → AllByRecursion (AllHave left) (c.subgoals g rule)
      each smaller rule fall true is left e = paid_at rule left rank refl e
      each smaller rule fall false is left e =
          let d : rank ≡ left = cc in
          All_weaker _ _ (c.subgoals g rule) (λ s small. subst (λ r. AllHave r s) d (smaller s small)) (fall is)

  -- each derivation of each rank
  pub derivations_have : DerivationsHave c Is Q
  derivations_have zero g = from_lower zero (λ left e. absurd (cc)) (suc (c.size g)) g (omega arith)
  derivations_have (suc rank) g =
      from_lower (suc rank) (λ left e s. subst (λ r. AllHave r s) (let d : rank ≡ left = omega arith in d) (derivations_have rank s)) (suc (c.size g)) g (omega arith)

  -- so a derivation has it
  pub derivation_has : (g : G) (p : P) → Is g → IsDerivation c g p → Q g p
  derivation_has g p is h = All-contains (Q g) (derivations c h.0 g) p (All-from_recursion (Q g) (derivations c h.0 g) (derivations_have h.0 g is)) h.1

  -- and the parts that are joined have it
  pub parts_have : (goals : List G) (parts : List P) → AllByRecursion Is goals → AllZip (IsDerivation c) goals parts → AllZip Q goals parts
  parts_have [] [] is h = tt
  parts_have [] (p ∷ parts) is h = absurd h
  parts_have (g ∷ goals) [] is h = absurd h
  parts_have (g ∷ goals) (p ∷ parts) is h = (derivation_has g p is.0 h.0, parts_have goals parts is.1 h.1)
