-- Names that are declared once.
use Rattle.std.proofs.Common.{◌≡◌, ℕ, suc, ◌+◌, Bool, true, false, not, nat_eq, List, [], ◌∷◌, ◌++◌, length, map, Option, Some, None, append_assoc, refl, sym, ap, ◌∙◌, subst, arith}
use Rattle.std.specs.List.{AllByRecursion, AllPairs}
use Rattle.std.specs.Str.{bytes_eq}
use Rattle.std.proofs.lemmas.Bool.Decides.{nat_tests}
use Rattle.std.proofs.lemmas.List.{append-nil, length_push}
use Rattle.std.proofs.lemmas.List.Elements.{All-from_recursion}
use Rattle.std.proofs.lemmas.List.Kept.{AllPairs-cons}
use Rattle.std.proofs.lemmas.Slice.Eq.{bytes_eq-Decides}
use Rattle.hs_tree.specs.declared.ident.Ident.{Ident}
use Rattle.hs_numbering.specs.declared.fault.Problem.TheVariants.{Twice}
use Rattle.hs_numbering.specs.declared.numbering.Numbering.{Numbering}
use Rattle.hs_numbering.specs.Numbering.{blame_twice}
use Rattle.hs_declared.specs.Names.{place}
use Rattle.hs_declared.specs.Declaring.{is_other, blame_repeated_from, blame_repeated}
use Rattle.hs_norm_sound.specs.Methods.{AreApart}
use Rattle.hs_norm_sound.proofs.Passing.{KeepsFaults, blame_keeps, pure_keeps, joined, not_pushed}
use Rattle.hs_norm_sound.proofs.Found.{none_before}

-- R holds of each element and each later one
abbrev pub Pairs : {X : Type 0} → (X → X → Type 0) → List X → Type 0
Pairs R [] = Unit {0}
Pairs R (x ∷ xs) = AllByRecursion (R x) xs × Pairs R xs

module _ {X : Type 0} (R : X → X → Type 0) where
  pub all_pairs : (xs : List X) → Pairs R xs → AllPairs R xs
  all_pairs [] h = λ i j d lt within. absurd (omega arith)
  all_pairs (x ∷ xs) h = AllPairs-cons R x xs (All-from_recursion (R x) xs h.0) (all_pairs xs h.1)

  pub pairs_push : (xs : List X) (x : X) → Pairs R xs → AllByRecursion (λ y. R y x) xs → Pairs R (xs ++ x ∷ [])
  pairs_push [] x h g = (tt, tt)
  pairs_push (y ∷ xs) x h g = (joined (R y) xs (x ∷ []) h.0 (g.0, tt), pairs_push xs x h.1 g.1)

pub all_map : {X Y : Type 0} (P : Y → Type 0) (f : X → Y) (xs : List X) → AllByRecursion (λ x. P (f x)) xs → AllByRecursion P (map f xs)
all_map P f [] h = tt
all_map P f (x ∷ xs) h = (h.0, all_map P f xs h.1)

pub pairs_map : {X Y : Type 0} (R : Y → Y → Type 0) (f : X → Y) (xs : List X) → Pairs (λ x y. R (f x) (f y)) xs → Pairs R (map f xs)
pairs_map R f [] h = tt
pairs_map R f (x ∷ xs) h = (all_map (R (f x)) f xs h.0, pairs_map R f xs h.1)

pub all_weaker : {X : Type 0} (P Q : X → Type 0) → ((x : X) → P x → Q x) → (xs : List X) → AllByRecursion P xs → AllByRecursion Q xs
all_weaker P Q f [] h = tt
all_weaker P Q f (x ∷ xs) h = (f x h.0, all_weaker P Q f xs h.1)

-- two names are different
abbrev pub Differ : Ident → Ident → Type 0
Differ x y = ¬ (x.text ≡ y.text)

pub twice_keeps : (x : Ident) (b : Bool) → KeepsFaults (blame_twice x b)
twice_keeps x true = blame_keeps x.at (Twice x.text)
twice_keeps x false = pure_keeps (tt {0})

pub twice_not : (x : Ident) (b : Bool) (n : Numbering) → (blame_twice x b n).1.faults ≡ [] → b ≡ false
twice_not x true n e = absurd (not_pushed n.faults (record { at = x.at; problem = Twice x.text }) e)
twice_not x false n e = refl

pub repeated_keeps : (all : List Ident) (i : ℕ) (xs : List Ident) → KeepsFaults (blame_repeated_from all i xs)
repeated_keeps all i [] = λ n e. e
repeated_keeps all i (x ∷ xs) = λ n e. twice_keeps x (is_other i (place x.text all)) n (repeated_keeps all (suc i) xs (blame_twice x (is_other i (place x.text all)) n).1 e)

same_place : (i : ℕ) (o : Option ℕ) → is_other i o ≡ false → o ≡ Some i
same_place i None e = cc
same_place i (Some k) e = ap Some (of k i e)
  where
    of : (k i : ℕ) → not (nat_eq k i) ≡ false → k ≡ i
    of k i e = grind (arith, nat_tests)

different : (x y : Ident) → bytes_eq x.text y.text ≡ false → Differ y x
different x y e = λ is. let same : bytes_eq x.text y.text ≡ true = (bytes_eq-Decides x.text y.text).1 (sym is) in cc

repeated_from : (all us xs : List Ident) (i : ℕ) (n : Numbering) → all ≡ us ++ xs → i ≡ length us → Pairs Differ us → (blame_repeated_from all i xs n).1.faults ≡ [] → Pairs Differ all
repeated_from all us [] i n is at h e = subst (Pairs Differ) (sym (is ∙ append-nil us)) h
repeated_from all us (x ∷ xs) i n is at h e =
    let clear = repeated_keeps all (suc i) xs (blame_twice x (is_other i (place x.text all)) n).1 e in
    let found = same_place i (place x.text all) (twice_not x (is_other i (place x.text all)) n clear) in
    let here : place x.text (us ++ x ∷ xs) ≡ Some (0 + length us) = ap (place x.text) (sym is) ∙ found ∙ ap Some (at ∙ plus (length us)) in
    let before = none_before (λ y. bytes_eq x.text y.text) us x xs 0 here in
    repeated_from all (us ++ x ∷ []) xs (suc i) (blame_twice x (is_other i (place x.text all)) n).1 (is ∙ sym (append_assoc us (x ∷ []) xs))
    (let long = length_push us x in omega arith)
    (pairs_push Differ us x h (all_weaker (λ y. bytes_eq x.text y.text ≡ false) (λ y. Differ y x) (different x) us before)) e
  where
    plus : (k : ℕ) → k ≡ 0 + k
    plus k = omega arith

-- where none is blamed, no two are equal
pub repeated_apart : (xs : List Ident) (n : Numbering) → (blame_repeated xs n).1.faults ≡ [] → Pairs Differ xs
repeated_apart xs n e = repeated_from xs [] xs 0 n refl refl tt e

pub apart_of : (xs : List Ident) → Pairs Differ xs → AreApart (map (λ x. x.text) xs)
apart_of xs h = all_pairs (λ x y. ¬ (x ≡ y)) (map (λ x. x.text) xs) (pairs_map (λ x y. ¬ (x ≡ y)) (λ x. x.text) xs h)
