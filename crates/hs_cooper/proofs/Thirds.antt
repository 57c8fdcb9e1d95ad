-- The third stage: its cases one after another, its size, its bounds, and what passes 128 bits.
use Rattle.std.proofs.Common.{◌≡◌, ℕ, zero, suc, ◌+◌, ◌-◌, ◌*◌, ◌/◌, ◌<◌, ◌≤◌, min, IsTrue, ◌↔◌, Bool, true, false, ◌&&◌, ◌||◌, cond, ◌⊎◌, inl, inr, List, [], ◌∷◌, ◌++◌, map, length, refl, sym, ap, ◌∙◌, subst, arith, ℤ, pos, negsuc, ◌*ℤ◌, length-append}
use Rattle.std.specs.List.{fold, Contains}
use Rattle.std.specs.Ordering.{int_eq}
use Rattle.std.proofs.lemmas.Int.{ints}
use Rattle.std.proofs.lemmas.Bool.Decides.{Decides-int_eq}
use Rattle.std.proofs.lemmas.List.{map-append}
use Rattle.hs_pure.specs.declared.var.Var.{Var}
use Rattle.hs_pure.specs.declared.lin.Lin.{Lin}
use Rattle.hs_pure.specs.Stack.{same}
use Rattle.hs_elimination.specs.Linear.{place, plus, times, number, scale_term, coefficient, rest, same_terms, same_lin, IsWideLin}
use Rattle.hs_elimination.specs.Form.{Form, const, positive, multiple, no_multiple, conjunction, disjunction, atoms, IsWide}
use Rattle.hs_elimination.specs.Normal.{evaluate}
use Rattle.hs_elimination.specs.Cases.{substitute, minus_infinity, positive_below, lower_bound, lower_bounds, has_lin, join_distinct, distinct_bounds, period, cases_at, cases_to, cooper, stage3}
use Rattle.hs_elimination.specs.Elimination.{HasWideSum}
use Rattle.hs_elimination.proofs.Stage3.{contains_head, contains_tail, contains_cases, contains_none}
use Rattle.std.proofs.lemmas.Bool.{cases_lt}
use Rattle.hs_elimination.proofs.Plain.{atoms-cooper}
use Rattle.hs_cooper_forms.specs.declared.nnf.Connective.TheVariants.{Or}
use Rattle.hs_cooper_forms.specs.Reading.{join, joined}
use Rattle.hs_cooper_forms.specs.Changing.{HasUneven}
use Rattle.hs_cooper.specs.Surveying.{low_atoms}
use Rattle.hs_cooper.specs.Bounding.{denied_bound, denied_bounds}
use Rattle.std.proofs.Common.{Result, Ok, Err, IsErrOf}
use Rattle.std.specs.Result.{IsErrAnd}
use Rattle.hs_cooper.specs.declared.stop.Stop.{Stop}
use Rattle.hs_cooper.specs.declared.stop.Stop.TheVariants as stop
use Rattle.hs_cooper_forms.specs.declared.refusal.Refusal.{Refusal}
use Rattle.hs_cooper_forms.specs.declared.refusal.Refusal.TheVariants as refusal
use Rattle.hs_cooper.specs.Stopping.{stop_of}
use Rattle.hs_cooper.specs.Casing.{IsRefusedTo}
use Rattle.hs_cooper_forms.proofs.Changes.{listed-joined, listed_member, contains-map}

-- ---- one number after another

fold-append : {X Y : Type 0} (f : X → Y → X) (z : X) (as' bs : List Y) → fold f z (as' ++ bs) ≡ fold f (fold f z as') bs
fold-append f z [] bs = refl
fold-append f z (a ∷ as') bs = fold-append f (f z a) as' bs

pub next_cases : (x : ℕ) (f : Form) (bs : List Lin) (j : ℕ) (old new : Form) → 1 ≤ j → old ≡ joined Or (map evaluate (cases_to x f bs (j - 1)))
    → new ≡ fold (join Or) old (map evaluate (cases_at x f bs j)) → new ≡ joined Or (map evaluate (cases_to x f bs (j + 1 - 1)))
next_cases x f bs zero old new h e n = absurd (omega arith)
next_cases x f bs (suc j) old new h e n =
    let back : suc j - 1 ≡ j = omega arith in
    let on : suc j + 1 - 1 ≡ suc j = omega arith in
    let before : old ≡ joined Or (map evaluate (cases_to x f bs j)) = rw back at e in
    rw on (n ∙ ap (λ g. fold (join Or) g (map evaluate (cases_at x f bs (suc j)))) before
    ∙ sym (fold-append (join Or) (const false) (map evaluate (cases_to x f bs j)) (map evaluate (cases_at x f bs (suc j))))
    ∙ ap (joined Or) (sym (map-append evaluate (cases_to x f bs j) (cases_at x f bs (suc j)))))

pub stage3-joined : (x : ℕ) (f : Form) (bs : List Lin) (m : ℕ) → joined Or (map evaluate (cases_to x f bs m)) ≡ evaluate (cooper m bs x f)
stage3-joined x f bs m = sym (listed-joined evaluate (λ b. refl) (λ f g. refl) (λ f g. refl) Or (cases_to x f bs m))

-- ---- bounds with the other sign

same-negated : (a b : ℤ) → int_eq (negsuc 0 *ℤ a) (negsuc 0 *ℤ b) ≡ int_eq a b
same-negated a b = by_tests (int_eq (negsuc 0 *ℤ a) (negsuc 0 *ℤ b)) (int_eq a b) refl refl
  where
    opposite : negsuc 0 *ℤ a ≡ negsuc 0 *ℤ b → a ≡ b
    opposite e = omega (arith, ints)

    by_tests : (p q : Bool) → int_eq (negsuc 0 *ℤ a) (negsuc 0 *ℤ b) ≡ p → int_eq a b ≡ q → p ≡ q
    by_tests true true e f = refl
    by_tests false false e f = refl
    by_tests true false e f = let t : int_eq a b ≡ true = (Decides-int_eq a b).1 (opposite ((Decides-int_eq (negsuc 0 *ℤ a) (negsuc 0 *ℤ b)).0 e)) in cc
    by_tests false true e f = let t : int_eq (negsuc 0 *ℤ a) (negsuc 0 *ℤ b) ≡ true = (Decides-int_eq (negsuc 0 *ℤ a) (negsuc 0 *ℤ b)).1 (ap (λ z. negsuc 0 *ℤ z) ((Decides-int_eq a b).0 f)) in cc

same_terms-negated : (es fs : List (Var × ℤ)) → same_terms (map (scale_term (negsuc 0)) es) (map (scale_term (negsuc 0)) fs) ≡ same_terms es fs
same_terms-negated [] [] = refl
same_terms-negated [] (f ∷ fs) = refl
same_terms-negated (e ∷ es) [] = refl
same_terms-negated (e ∷ es) (f ∷ fs) = λ i. same e.0 f.0 && same-negated e.1 f.1 i && same_terms-negated es fs i

abbrev negated : Lin → Lin
negated a = times (negsuc 0) a

same_lin-negated : (a b : Lin) → same_lin (negated a) (negated b) ≡ same_lin a b
same_lin-negated a b = λ i. same-negated a.constant b.constant i && same_terms-negated a.terms b.terms i

has_lin-negated : (a : Lin) (bs : List Lin) → has_lin (negated a) (map negated bs) ≡ has_lin a bs
has_lin-negated a [] = refl
has_lin-negated a (b ∷ bs) = λ i. same_lin-negated a b i || has_lin-negated a bs i

map-cond : (c : Bool) (as' bs : List Lin) → map negated (cond c as' bs) ≡ cond c (map negated as') (map negated bs)
map-cond true as' bs = refl
map-cond false as' bs = refl

join-negated : (done as' : List Lin) → join_distinct (map negated done) (map negated as') ≡ map negated (join_distinct done as')
join-negated done [] = refl
join-negated done (a ∷ as') =
    ap (λ d. join_distinct d (map negated as'))
    (ap (λ c. cond c (map negated done) (map negated done ++ negated a ∷ [])) (has_lin-negated a done)
    ∙ ap (cond (has_lin a done) (map negated done)) (sym (map-append negated done (a ∷ [])))
    ∙ sym (map-cond (has_lin a done) done (done ++ a ∷ [])))
    ∙ join-negated (cond (has_lin a done) done (done ++ a ∷ [])) as'

denied-is : (x : ℕ) (f : Form) → lower_bounds x f ≡ map negated (denied_bounds x f)
denied-is x (const b) = refl
denied-is x (positive t) = by_sign (coefficient x t.terms)
  where
    by_sign : (c : ℤ) → lower_bound c (rest x t) ≡ map negated (denied_bound c (rest x t))
    by_sign (pos zero) = refl
    by_sign (pos (suc n)) = refl
    by_sign (negsuc n) = refl
denied-is x (multiple d t) = refl
denied-is x (no_multiple d t) = refl
denied-is x (conjunction f g) = (λ i. denied-is x f i ++ denied-is x g i) ∙ sym (map-append negated (denied_bounds x f) (denied_bounds x g))
denied-is x (disjunction f g) = (λ i. denied-is x f i ++ denied-is x g i) ∙ sym (map-append negated (denied_bounds x f) (denied_bounds x g))

pub bounds-are : (x : ℕ) (f : Form) → map negated (join_distinct [] (denied_bounds x f)) ≡ distinct_bounds x f
bounds-are x f = sym (ap (join_distinct []) (denied-is x f) ∙ join-negated [] (denied_bounds x f))

pub length-map : {X Y : Type 0} (h : X → Y) (xs : List X) → length (map h xs) ≡ length xs
length-map h [] = refl
length-map h (x ∷ xs) = ap suc (length-map h xs)

-- ---- sizes

few-distinct : (done as' : List Lin) → length (join_distinct done as') ≤ length done + length as'
few-distinct done [] = omega arith
few-distinct done (a ∷ as') = by_test (has_lin a done) (few-distinct done as') (few-distinct (done ++ a ∷ []) as')
  where
    by_test : (b : Bool) → length (join_distinct done as') ≤ length done + length as' → length (join_distinct (done ++ a ∷ []) as') ≤ length (done ++ a ∷ []) + length as' → length (join_distinct (cond b done (done ++ a ∷ [])) as') ≤ length done + length (a ∷ as')
    by_test true p q = omega arith
    by_test false p q = omega (arith, q, length-append done (a ∷ []))

few-denied : (x : ℕ) (f : Form) → length (denied_bounds x f) ≤ atoms f
few-denied x (const b) = omega arith
few-denied x (positive t) = by_sign (coefficient x t.terms)
  where
    by_sign : (c : ℤ) → length (denied_bound c (rest x t)) ≤ 1
    by_sign (pos zero) = omega arith
    by_sign (pos (suc n)) = omega arith
    by_sign (negsuc n) = omega arith
few-denied x (multiple d t) = omega arith
few-denied x (no_multiple d t) = omega arith
few-denied x (conjunction f g) = omega (arith, few-denied x f, few-denied x g, length-append (denied_bounds x f) (denied_bounds x g))
few-denied x (disjunction f g) = omega (arith, few-denied x f, few-denied x g, length-append (denied_bounds x f) (denied_bounds x g))

pub few-bounds : (x : ℕ) (f : Form) → length (join_distinct [] (denied_bounds x f)) ≤ atoms f
few-bounds x f = omega (arith, few-distinct [] (denied_bounds x f), few-denied x f)

pub low-below : (x : ℕ) (f : Form) → low_atoms x f ≤ atoms f
low-below x (const b) = omega arith
low-below x (positive t) = by_sign (coefficient x t.terms)
  where
    by_sign : (c : ℤ) → atoms (positive_below c t) ≤ 1
    by_sign (pos zero) = omega arith
    by_sign (pos (suc n)) = omega arith
    by_sign (negsuc n) = omega arith
low-below x (multiple d t) = omega arith
low-below x (no_multiple d t) = omega arith
low-below x (conjunction f g) = omega (arith, low-below x f, low-below x g)
low-below x (disjunction f g) = omega (arith, low-below x f, low-below x g)

-- where the minus-infinity form has no atom, no divisor counts
no_divisor : (x : ℕ) (f : Form) (m : ℕ) → low_atoms x f ≡ 0 → period x f m ≡ m
no_divisor x (const b) m h = refl
no_divisor x (positive t) m h = refl
no_divisor x (multiple d t) m h = absurd (omega arith)
no_divisor x (no_multiple d t) m h = absurd (omega arith)
no_divisor x (conjunction f g) m h = no_divisor x g (period x f m) (omega arith) ∙ no_divisor x f m (omega arith)
no_divisor x (disjunction f g) m h = no_divisor x g (period x f m) (omega arith) ∙ no_divisor x f m (omega arith)

pub size : (x : Var) (f : Form) → atoms (stage3 x f) ≡ period (place x) f 1 * (low_atoms (place x) f + length (join_distinct [] (denied_bounds (place x) f)) * atoms f)
size x f =
    atoms-cooper (period (place x) f 1) (distinct_bounds (place x) f) (place x) f
    ∙ ap (λ n. period (place x) f 1 * (low_atoms (place x) f + n * atoms f)) (ap length (sym (bounds-are (place x) f)) ∙ length-map negated (join_distinct [] (denied_bounds (place x) f)))

product_above : (a b : ℕ) → 0 < b → a ≤ a * b
product_above a zero h = absurd (omega arith)
product_above a (suc b) h = omega arith

product_above_right : (a b : ℕ) → 0 < a → b ≤ a * b
product_above_right zero b h = absurd (omega arith)
product_above_right (suc a) b h = omega arith

pub long_period : (x : Var) (f : Form) (budget : ℕ) → 1 ≤ budget → budget < period (place x) f 1 → budget < atoms (stage3 x f)
long_period x f budget one h = subst (λ (n : ℕ). budget < n) (sym (size x f)) (by_low (low_atoms (place x) f) refl)
  where
    by_low : (n : ℕ) → low_atoms (place x) f ≡ n → budget < period (place x) f 1 * (low_atoms (place x) f + length (join_distinct [] (denied_bounds (place x) f)) * atoms f)
    by_low zero e = absurd (omega (arith, no_divisor (place x) f 1 e))
    by_low (suc n) e = omega (arith, product_above (period (place x) f 1) (low_atoms (place x) f + length (join_distinct [] (denied_bounds (place x) f)) * atoms f) (omega arith))

times_below : (p k a : ℕ) → p ≤ k → p * a ≤ k * a
times_below p k a h = let e : p + (k - p) ≡ k = omega arith in subst (λ (n : ℕ). p * a ≤ n * a) e (omega arith)

over_quotient : (budget a k : ℕ) → 0 < a → budget / a < k → budget < k * a
over_quotient budget a k h l = let more = times_below (budget / a + 1) k a (omega arith) in omega arith

pub many_bounds : (x : Var) (f : Form) (budget : ℕ) → 0 < atoms f → 0 < period (place x) f 1 → budget / atoms f < length (join_distinct [] (denied_bounds (place x) f)) → budget < atoms (stage3 x f)
many_bounds x f budget a d h =
    let k = length (join_distinct [] (denied_bounds (place x) f)) in
    let more = over_quotient budget (atoms f) k a h in
    let all = product_above_right (period (place x) f 1) (low_atoms (place x) f + k * atoms f) d in
    subst (λ (n : ℕ). budget < n) (sym (size x f)) (omega arith)

-- ---- width

pub wide-bound : (x : ℕ) (f : Form) → ((a : Lin) × (Contains (join_distinct [] (denied_bounds x f)) a × IsWideLin (times (negsuc 0) a))) → HasWideSum x f
wide-bound x f w = (negated w.0, (subst (λ bs. Contains bs (negated w.0)) (bounds-are x f) (contains-map negated (join_distinct [] (denied_bounds x f)) w.0 w.1.0), inl w.1.1))

contains-left : {X : Type 0} (xs ys : List X) (x : X) → Contains xs x → Contains (xs ++ ys) x
contains-left [] ys x h = contains_none x h
contains-left (y ∷ xs) ys x h = step (contains-left xs ys x)
  where
    step : (Contains xs x → Contains (xs ++ ys) x) → Contains ((y ∷ xs) ++ ys) x
    step ih = elim (contains_cases y x xs h) [ inl e ↦ subst (λ z. Contains ((y ∷ xs) ++ ys) z) e (contains_head y (xs ++ ys)) | inr k ↦ contains_tail y x (xs ++ ys) (ih k) ]

contains-right : {X : Type 0} (xs ys : List X) (x : X) → Contains ys x → Contains (xs ++ ys) x
contains-right [] ys x h = h
contains-right (y ∷ xs) ys x h = contains_tail y x (xs ++ ys) (contains-right xs ys x h)

wide_case : (x : ℕ) (f : Form) (bs : List Lin) (j m : ℕ) (g : Form) → 1 ≤ j → j ≤ m → Contains (cases_at x f bs j) g → Contains (cases_to x f bs m) g
wide_case x f bs j zero g h k c = absurd (omega arith)
wide_case x f bs j (suc m) g h k c = step (wide_case x f bs j m g h)
  where
    step : (j ≤ m → Contains (cases_at x f bs j) g → Contains (cases_to x f bs m) g) → Contains (cases_to x f bs (suc m)) g
    step ih = elim (cases_lt m j) [
      | inl p ↦ (let e : j ≡ suc m = omega arith in contains-right (cases_to x f bs m) (cases_at x f bs (suc m)) g (subst (λ (n : ℕ). Contains (cases_at x f bs n) g) e c))
      | inr p ↦ contains-left (cases_to x f bs m) (cases_at x f bs (suc m)) g (ih p c)
    ]

wide_whole : (x : ℕ) (f : Form) (bs : List Lin) (j m : ℕ) (g : Form) → 1 ≤ j → j ≤ m → Contains (cases_at x f bs j) g → IsWide g → IsWide (cooper m bs x f)
wide_whole x f bs j m g h k c w = listed_member IsWide (λ f g. inl) (λ f g. inr) (λ f g. inl) (λ f g. inr) Or (cases_to x f bs m) g (wide_case x f bs j m g h k c) w

pub wide-cases : (x : Var) (f : Form) → ¬ (HasUneven (place x) f) → IsRefusedTo x f (distinct_bounds (place x) f) (period (place x) f 1) → IsWide (stage3 x f) ⊎ HasWideSum (place x) f
wide-cases x f even w =
    let n = place x in
    let bs = distinct_bounds n f in
    let j = w.0 in
    let one = w.1.0 in
    let within = w.1.1 in
    elim w.1.2 [
      | inl low ↦ elim low [
        | inl wide ↦ inl (wide_whole n f bs j (period n f 1) (substitute n (number (pos j)) (minus_infinity n f)) one within (contains_head _ _) wide)
        | inr uneven ↦ absurd (even uneven)
      ]
      | inr near ↦ elim near.1.1 [
        | inl wide ↦ inr (near.0, (near.1.0, inr (j, (one, within, wide))))
        | inr refused ↦ elim refused [
          | inl wide ↦ inl (wide_whole n f bs j (period n f 1) (substitute n (plus near.0 (number (pos j))) f) one within (contains_tail _ _ _ (contains-map (λ b. substitute n (plus b (number (pos j))) f) bs near.0 near.1.0)) wide)
          | inr uneven ↦ absurd (even uneven)
        ]
      ]
    ]

-- ---- what the code computes of the size

exact_min : (a b c : ℕ) → c ≡ min a (b + 1) → a ≤ b → c ≡ a
exact_min a b c e h = omega arith

pub total_is : (x : Var) (f : Form) (budget p low a k : ℕ) (denied : List Lin) → p ≡ period (place x) f 1 → low ≡ min (low_atoms (place x) f) (budget + 1) → a ≡ min (atoms f) (budget + 1)
    → k ≡ length denied → denied ≡ join_distinct [] (denied_bounds (place x) f) → atoms f ≤ budget → p * (low + k * a) ≡ atoms (stage3 x f)
total_is x f budget p low a k denied p_is low_is a_is k_is denied_are h =
    let l : low ≡ low_atoms (place x) f = exact_min (low_atoms (place x) f) budget low low_is (omega (arith, low-below (place x) f)) in
    let b : a ≡ atoms f = exact_min (atoms f) budget a a_is h in
    let n : k ≡ length (join_distinct [] (denied_bounds (place x) f)) = k_is ∙ ap length denied_are in
    (λ i. p_is i * (l i + n i * b i)) ∙ sym (size x f)

pub bounds_over : (x : Var) (f : Form) (budget limit a : ℕ) → a ≡ min (atoms f) (budget + 1) → atoms f ≤ budget → 0 < period (place x) f 1
    → (a ≡ 0) ⊎ ((0 < a) × (limit ≡ budget / a)) → limit < length (join_distinct [] (denied_bounds (place x) f)) → budget < atoms (stage3 x f)
bounds_over x f budget limit a a_is h p (inl e) l = let b : a ≡ atoms f = exact_min (atoms f) budget a a_is h in let few = few-bounds (place x) f in absurd (omega arith)
bounds_over x f budget limit a a_is h p (inr e) l =
    let b : a ≡ atoms f = exact_min (atoms f) budget a a_is h in
    let some : 0 < a = e.0 in
    let q : limit ≡ budget / atoms f = e.1 ∙ ap (λ n. budget / n) b in
    many_bounds x f budget (omega arith) p (subst (λ (n : ℕ). n < length (join_distinct [] (denied_bounds (place x) f))) q l)

pub not_above : (r : Bool) (b t : ℕ) → IsTrue r ↔ (b < t) → r ≡ false → t ≤ b
not_above r b t e f = elim (cases_lt b t) [ inl p ↦ (let h : r ≡ true = e.1 p in absurd cc) | inr p ↦ p ]

-- ---- refusals

pub wide_given : {T : Type 0} (res : Result T Stop) (r : Refusal) → IsErrAnd res (λ e. e ≡ stop_of r) → IsErrOf res stop.Wide → r ≡ refusal.Wide
wide_given (Ok x) r p q = absurd p
wide_given (Err e) refusal.Wide p q = refl
wide_given (Err e) refusal.Memory p q = absurd cc

pub refused_to : (x : Var) (f : Form) (bs : List Lin) (m : ℕ) → bs ≡ distinct_bounds (place x) f → m ≡ period (place x) f 1 → IsRefusedTo x f bs m → IsRefusedTo x f (distinct_bounds (place x) f) (period (place x) f 1)
refused_to x f bs m e p h = subst (λ l. IsRefusedTo x f l (period (place x) f 1)) e (subst (IsRefusedTo x f bs) p h)
