-- What holds where a check blames nothing, and that a fault stays.
use Rattle.std.proofs.Common.{◌≡◌, sym, subst, append_assoc, ℕ, List, [], ◌∷◌, ◌++◌, length, map}
use Rattle.std.proofs.lemmas.List.{append-nil}
use Rattle.std.specs.List.{fold, flat_map, AllByRecursion, AllZip}
use Rattle.hs_numbering.specs.declared.fault.Problem.{Problem}
use Rattle.hs_numbering.specs.declared.numbering.Numbering.{Numbering}
use Rattle.hs_numbering.specs.Numbering.{Builder, ◌>>=◌, ◌>>◌, ◌<$>◌, pure, blame, each, each_counted}
use Rattle.hs_norm_block.specs.Program.{Check, all}

-- ---- faults

-- no fault at the end, and none at the beginning
abbrev pub KeepsFaults : {A : Type 0} → Builder A → Type 0
KeepsFaults p = (n : Numbering) → (p n).1.faults ≡ [] → n.faults ≡ []

pub not_pushed : {A : Type 0} (xs : List A) (x : A) → xs ++ x ∷ [] ≡ [] → ⊥
not_pushed [] x e = cc
not_pushed (y ∷ ys) x e = cc

pub pure_keeps : {A : Type 0} (a : A) → KeepsFaults (pure a)
pure_keeps a = λ n h. h

pub blame_keeps : (at : ℕ) (p : Problem) → KeepsFaults (blame at p)
blame_keeps at p = λ n h. absurd (not_pushed n.faults (record { at = at; problem = p }) h)

pub then_keeps : {A B : Type 0} (p : Builder A) (f : A → Builder B) → KeepsFaults p → ((a : A) → KeepsFaults (f a)) → KeepsFaults (p >>= f)
then_keeps p f h g = λ n e. h n (g (p n).0 (p n).1 e)

pub map_keeps : {A B : Type 0} (f : A → B) (p : Builder A) → KeepsFaults p → KeepsFaults (f <$> p)
map_keeps f p h = λ n e. h n e

module _ {A B : Type 0} (f : A → Builder B) (h : (x : A) → KeepsFaults (f x)) where
  pub each_from : (xs : List A) (ys : List B) (n : Numbering) → (fold (λ (done : List B × Numbering) x. (done.0 ++ (f x done.1).0 ∷ [], (f x done.1).1)) (ys, n) xs).1.faults ≡ [] → n.faults ≡ []
  each_from [] ys n e = e
  each_from (x ∷ xs) ys n e = h x n (each_from xs (ys ++ (f x n).0 ∷ []) (f x n).1 e)

  pub each_keeps : (xs : List A) → KeepsFaults (each f xs)
  each_keeps xs = λ n e. each_from xs [] n e

module _ {A B : Type 0} (f : ℕ → A → Builder B) (h : (k : ℕ) (x : A) → KeepsFaults (f k x)) where
  counted_from : (xs : List A) (ys : List B) (n : Numbering) → (fold (λ (done : List B × Numbering) x. (done.0 ++ (f (length done.0) x done.1).0 ∷ [], (f (length done.0) x done.1).1)) (ys, n) xs).1.faults ≡ [] → n.faults ≡ []
  counted_from [] ys n e = e
  counted_from (x ∷ xs) ys n e = h (length ys) x n (counted_from xs (ys ++ (f (length ys) x n).0 ∷ []) (f (length ys) x n).1 e)

  pub counted_keeps : (xs : List A) → KeepsFaults (each_counted f xs)
  counted_keeps xs = λ n e. counted_from xs [] n e

-- ---- lists side by side

module _ {A B : Type 0} (R : A → B → Type 0) where
  pub zip_push : (xs : List A) (ys : List B) (x : A) (y : B) → AllZip R xs ys → R x y → AllZip R (xs ++ x ∷ []) (ys ++ y ∷ [])
  zip_push [] [] x y h r = (r, tt)
  zip_push [] (b ∷ ys) x y h r = absurd h
  zip_push (a ∷ xs) [] x y h r = absurd h
  zip_push (a ∷ xs) (b ∷ ys) x y h r = (h.0, zip_push xs ys x y h.1 r)

  pub zip_weaker : (S : A → B → Type 0) → ((x : A) (y : B) → R x y → S x y) → (xs : List A) (ys : List B) → AllZip R xs ys → AllZip S xs ys
  zip_weaker S f [] [] h = tt
  zip_weaker S f [] (y ∷ ys) h = absurd h
  zip_weaker S f (x ∷ xs) [] h = absurd h
  zip_weaker S f (x ∷ xs) (y ∷ ys) h = (f x y h.0, zip_weaker S f xs ys h.1)

  pub zip_right : (P : B → Type 0) → ((x : A) (y : B) → R x y → P y) → (xs : List A) (ys : List B) → AllZip R xs ys → AllByRecursion P ys
  zip_right P f [] [] h = tt
  zip_right P f [] (y ∷ ys) h = absurd h
  zip_right P f (x ∷ xs) [] h = absurd h
  zip_right P f (x ∷ xs) (y ∷ ys) h = (f x y h.0, zip_right P f xs ys h.1)

  pub zip_maps : {C : Type 0} (g : A → C) (k : B → C) → ((x : A) (y : B) → R x y → k y ≡ g x) → (xs : List A) (ys : List B) → AllZip R xs ys → map k ys ≡ map g xs
  zip_maps g k f [] [] h = λ i. []
  zip_maps g k f [] (y ∷ ys) h = absurd h
  zip_maps g k f (x ∷ xs) [] h = absurd h
  zip_maps g k f (x ∷ xs) (y ∷ ys) h = λ i. f x y h.0 i ∷ zip_maps g k f xs ys h.1 i

-- where nothing is blamed, each element is built with nothing blamed
module _ {A B : Type 0} (f : ℕ → A → Builder B) (keeps : (k : ℕ) (x : A) → KeepsFaults (f k x)) (R : A → B → Type 0)
    (holds : (k : ℕ) (x : A) (n : Numbering) → (f k x n).1.faults ≡ [] → R x (f k x n).0) where
  abbrev step : List B × Numbering → A → List B × Numbering
  step done x = (done.0 ++ (f (length done.0) x done.1).0 ∷ [], (f (length done.0) x done.1).1)

  built_from : (xs : List A) (us : List A) (ys : List B) (n : Numbering) → AllZip R us ys → (fold step (ys, n) xs).1.faults ≡ [] →
      (n.faults ≡ []) × AllZip R (us ++ xs) (fold step (ys, n) xs).0
  built_from [] us ys n h e = (e, subst (λ vs. AllZip R vs ys) (sym (append-nil us)) h)
  built_from (x ∷ xs) us ys n h e =
      let clear = counted_from f keeps xs (ys ++ (f (length ys) x n).0 ∷ []) (f (length ys) x n).1 e in
      let here = holds (length ys) x n clear in
      let rest = built_from xs (us ++ x ∷ []) (ys ++ (f (length ys) x n).0 ∷ []) (f (length ys) x n).1 (zip_push R us ys x (f (length ys) x n).0 h here) e in
      (keeps (length ys) x n clear, subst (λ vs. AllZip R vs (fold step (ys, n) (x ∷ xs)).0) (append_assoc us (x ∷ []) xs) rest.1)

  pub counted_all : (xs : List A) (n : Numbering) → (each_counted f xs n).1.faults ≡ [] → AllZip R xs (each_counted f xs n).0
  counted_all xs n e = (built_from xs [] [] n tt e).1

-- ---- checks

pub joined : {X : Type 0} (F : X → Type 0) (xs ys : List X) → AllByRecursion F xs → AllByRecursion F ys → AllByRecursion F (xs ++ ys)
joined F [] ys h g = g
joined F (x ∷ xs) ys h g = (h.0, joined F xs ys h.1 g)

module _ {X : Type 0} (F : X → Type 0) where
  -- where the check blames nothing, nothing was blamed before, and F holds of these
  abbrev pub Passes : Check → List X → Type 0
  Passes c xs = (n : Numbering) → (c n).1.faults ≡ [] → (n.faults ≡ []) × AllByRecursion F xs

  pub nothing_passes : Passes (pure tt) []
  nothing_passes = λ n e. (e, tt)

  pub blame_passes : (at : ℕ) (p : Problem) (xs : List X) → Passes (blame at p) xs
  blame_passes at p xs = λ n e. absurd (not_pushed n.faults (record { at = at; problem = p }) e)

  pub both_pass : (c d : Check) (xs ys : List X) → Passes c xs → Passes d ys → Passes (c >> d) (xs ++ ys)
  both_pass c d xs ys h g = λ n e. let after = g (c n).1 e in let before = h n after.0 in (before.0, joined F xs ys before.1 after.1)

  module _ {A B : Type 0} (f : A → Check) (g : B → List X) where
    all_from : (us : List A) (vs : List B) (done : Unit {0} × Numbering) → AllZip (λ a b. Passes (f a) (g b)) us vs →
        (fold (λ (done : Unit {0} × Numbering) a. f a done.1) done us).1.faults ≡ [] → (done.1.faults ≡ []) × AllByRecursion F (flat_map g vs)
    all_from [] [] done h e = (e, tt)
    all_from [] (b ∷ vs) done h e = absurd h
    all_from (a ∷ us) [] done h e = absurd h
    all_from (a ∷ us) (b ∷ vs) done h e =
        let after = all_from us vs (f a done.1) h.1 e in
        let before = h.0 done.1 after.0 in
        (before.0, joined F (g b) (flat_map g vs) before.1 after.1)

    -- a check of each element
    pub all_pass : (us : List A) (vs : List B) → AllZip (λ a b. Passes (f a) (g b)) us vs → Passes (all f us) (flat_map g vs)
    all_pass us vs h = λ n e. all_from us vs (tt, n) h e

  pub each_passes : {A : Type 0} (f : A → Check) (g : A → List X) → ((a : A) → Passes (f a) (g a)) → (us : List A) → AllZip (λ a b. Passes (f a) (g b)) us us
  each_passes f g h [] = tt
  each_passes f g h (a ∷ us) = (h a, each_passes f g h us)

pub no_more : {X Y : Type 0} (F : X → Type 0) (G : Y → Type 0) (c : Check) (xs : List X) → Passes F c xs → Passes G c []
no_more F G c xs h = λ n e. ((h n e).0, tt)
