-- Decimals read one digit after another.
use Rattle.std.proofs.Common.{◌≡◌, ℕ, zero, suc, ◌+◌, ◌-◌, ◌*◌, ◌/◌, ◌%◌, ◌^◌, ◌<◌, ◌≤◌, ℤ, pos, negsuc, List, [], ◌∷◌, ◌++◌, length, get_or, take, refl, sym, ap, ◌∙◌, subst, arith, ◌⊎◌, inl, inr}
use Rattle.std.specs.Char.{digit_value}
use Rattle.std.specs.Int.{IsInRange}
use Rattle.std.specs.Fmt.{decimal, signed_decimal}
use Rattle.std.specs.Str.Parse.{AllDigits, digits_value}
use Rattle.std.proofs.lemmas.Int.Digits.{digits_value_more}
use Rattle.std.proofs.lemmas.Str.{digit_value_digit}
use Rattle.std.proofs.lemmas.Str.Parse.{digits_value-take-le, digit_at, digit_from_value}
use Rattle.std.proofs.lemmas.Fmt.{decimal_is_IsNumeral_wide, decimal_digit, decimal_step_wide, decimal_by_steps_wide}
use Rattle.hs_heaptext.specs.Lines.{Lacks}
use Rattle.hs_heaptext.specs.Values.{IsSmall}
use Rattle.hs_heaptext.proofs.Lines.{tail_same}

pub fits_wide : (n : ℕ) → n ≤ 2 ^ 126 → n < 10 ^ 64
fits_wide n small = omega arith

-- what the first i digits of a text give
pub record Reads (ds : List ℕ) (i n : ℕ) : Type 0 where
  pub value : n ≡ digits_value 10 (take i ds)
  pub small : n ≤ 2 ^ 126
  pub text : 0 < i → take i ds ≡ decimal n
  pub some : 0 < i → 0 < n

-- ---- one digit more

digit_part : (c : ℕ) → IsInRange 48 57 c → digit_value c ≡ c - 48
digit_part c r = let e = digit_value_digit c r in omega arith

more_value : (ds : List ℕ) (i n : ℕ) → i < length ds → n ≡ digits_value 10 (take i ds) → IsInRange 48 57 (get_or ds i 0)
    → n * 10 + (get_or ds i 0 - 48) ≡ digits_value 10 (take (i + 1) ds)
more_value ds i n lt e r =
    let more = digits_value_more 10 ds i lt in
    let d = digit_part (get_or ds i 0) r in
    omega (arith, more, d, e)

first_text : (ds : List ℕ) → 0 < length ds → IsInRange 48 57 (get_or ds 0 0) → take 1 ds ≡ decimal (get_or ds 0 0 - 48)
first_text [] lt r = absurd (omega arith)
first_text (c ∷ cs) lt r =
    let is : 48 + (c - 48) ≡ c = omega (arith, r.0, r.1) in
    sym (decimal_digit (c - 48) (omega (arith, r.0, r.1)) ∙ ap (λ k. k ∷ []) is)

step_text : (n d : ℕ) → 0 < n → d < 10 → n * 10 + d ≤ 2 ^ 126 → decimal (n * 10 + d) ≡ decimal n ++ (48 + d) ∷ []
step_text n d some lt small =
    let q : (n * 10 + d) / 10 ≡ n = omega arith in
    let r : (n * 10 + d) % 10 ≡ d = omega arith in
    decimal_step_wide (n * 10 + d) (omega arith) (fits_wide (n * 10 + d) small) ∙ ap (λ k. decimal k ++ (48 + (n * 10 + d) % 10) ∷ []) q ∙ ap (λ k. decimal n ++ (48 + k) ∷ []) r

take_more : (ds : List ℕ) (i : ℕ) → i < length ds → take (i + 1) ds ≡ take i ds ++ get_or ds i 0 ∷ []
take_more [] i lt = absurd (omega arith)
take_more (d ∷ ds) zero lt = refl
take_more (d ∷ ds) (suc i) lt = let e : suc i + 1 ≡ suc (i + 1) = omega arith in rw e (ap (λ l. d ∷ l) (take_more ds i (omega arith)))

more_text : (ds : List ℕ) (i n : ℕ) → i < length ds → get_or ds 0 0 ≡ 48 ⊎ Reads ds i n → IsInRange 48 57 (get_or ds i 0) → n * 10 + (get_or ds i 0 - 48) ≤ 2 ^ 126
    → (get_or ds 0 0 ≡ 48 → ⊥) → take (i + 1) ds ≡ decimal (n * 10 + (get_or ds i 0 - 48))
more_text ds i n lt (inl zero_first) r small other = absurd (other zero_first)
more_text ds zero n lt (inr h) r small other =
    let e : n ≡ 0 = h.value in
    let is : n * 10 + (get_or ds 0 0 - 48) ≡ get_or ds 0 0 - 48 = omega arith in
    first_text ds lt r ∙ ap decimal (sym is)
more_text ds (suc i) n lt (inr h) r small other =
    let d = get_or ds (suc i) 0 in
    let back : 48 + (d - 48) ≡ d = omega (arith, r.0, r.1) in
    take_more ds (suc i) lt ∙ ap (λ l. l ++ d ∷ []) (h.text (omega arith))
    ∙ sym (step_text n (d - 48) (h.some (omega arith)) (omega (arith, r.0, r.1)) small ∙ ap (λ k. decimal n ++ k ∷ []) back)

more_some : (ds : List ℕ) (i n : ℕ) → Reads ds i n → IsInRange 48 57 (get_or ds i 0) → (get_or ds 0 0 ≡ 48 → ⊥) → 0 < n * 10 + (get_or ds i 0 - 48)
more_some ds zero n h r other =
    let apart : get_or ds 0 0 ≡ 48 → ⊥ = other in
    grind (arith, r.0, r.1, apart)
more_some ds (suc i) n h r other = let k = h.some (omega arith) in omega arith

pub one_more : (ds : List ℕ) (i n m : ℕ) → i < length ds → (get_or ds 0 0 ≡ 48 → ⊥) → Reads ds i n → IsInRange 48 57 (get_or ds i 0)
    → m ≡ n * 10 + (get_or ds i 0 - 48) → m ≤ 2 ^ 126 → Reads ds (i + 1) m
one_more ds i n m lt other h r e small =
    let fits : n * 10 + (get_or ds i 0 - 48) ≤ 2 ^ 126 = omega arith in
    record {
      value = e ∙ more_value ds i n lt h.value r;
      small = small;
      text = λ any. more_text ds i n lt (inr h) r fits other ∙ ap decimal (sym e);
      some = λ any. let k = more_some ds i n h r other in omega arith;
    }

pub reads_none : (ds : List ℕ) → Reads ds 0 0
reads_none ds = record { value = refl; small = omega arith; text = λ lt. absurd (omega arith); some = λ lt. absurd (omega arith) }

-- ---- what is no decimal

-- no further digit, or one that makes the number too large
pub no_more : (ds : List ℕ) (i n : ℕ) → Reads ds i n → i < length ds → (IsInRange 48 57 (get_or ds i 0) → 2 ^ 126 < n * 10 + (get_or ds i 0 - 48))
    → (k : ℕ) → k ≤ 2 ^ 126 → ds ≡ decimal k → ⊥
no_more ds i n h lt wide k small e =
    let is = decimal_is_IsNumeral_wide k (fits_wide k small) in
    let all : AllDigits 10 ds = subst (AllDigits 10) (sym e) is.0.1 in
    let value : digits_value 10 ds ≡ k = ap (digits_value 10) e ∙ is.1 in
    let r = digit_at ds i all lt in
    let more = more_value ds i n lt h.value r in
    let front = digits_value-take-le 10 ds (i + 1) (omega arith) in
    let over = wide r in
    omega arith

pub decimal_some : (k : ℕ) → k ≤ 2 ^ 126 → decimal k ≡ [] → ⊥
decimal_some k small e =
    let is = decimal_is_IsNumeral_wide k (fits_wide k small) in
    let n = ap length e in
    let m = is.0.0 in
    omega arith

FirstIsNoZero : ℕ → List ℕ → Type 0
FirstIsNoZero n ds = 0 < n → 48 < get_or ds 0 0

first_more : (n : ℕ) (ds : List ℕ) → 10 ≤ n → FirstIsNoZero (n / 10) ds → FirstIsNoZero n (ds ++ ((48 + n % 10) ∷ []))
unfolding FirstIsNoZero
first_more n [] ten h some = absurd (let k = h (omega arith) in omega arith)
first_more n (d ∷ ds) ten h some = h (omega arith)

first_one : (n : ℕ) → n < 10 → FirstIsNoZero n ((48 + n) ∷ [])
unfolding FirstIsNoZero
first_one n lt some = omega arith

first_of : (n : ℕ) → n ≤ 2 ^ 126 → FirstIsNoZero n (decimal n)
first_of n small = decimal_by_steps_wide FirstIsNoZero first_one first_more n (fits_wide n small)

-- only that of 0 begins with 0
pub leading_zero : (c : ℕ) (rest : List ℕ) (k : ℕ) → c ≡ 48 → k ≤ 2 ^ 126 → c ∷ rest ≡ decimal k → rest ≡ []
unfolding FirstIsNoZero
leading_zero c rest zero zero_first small e = tail_same (e ∙ decimal_digit 0 (omega arith))
leading_zero c rest (suc k) zero_first small e =
    let h : 48 < get_or (decimal (suc k)) 0 0 = first_of (suc k) small (omega arith) in
    let is : c ≡ get_or (decimal (suc k)) 0 0 = ap (λ l. get_or l 0 0) e in
    absurd (omega arith)

pub zero_text : (c : ℕ) (rest : List ℕ) → c ≡ 48 → rest ≡ [] → c ∷ rest ≡ decimal 0
zero_text c rest e h = ap (λ k. k ∷ rest) e ∙ ap (λ l. 48 ∷ l) h ∙ sym (decimal_digit 0 (omega arith))

-- ---- signs

all_lack : (b : ℕ) (ds : List ℕ) → (b < 48 ⊎ 57 < b) → AllDigits 10 ds → Lacks b ds
all_lack b [] out all = tt
all_lack b (d ∷ ds) out all = (λ e. other out (digit_from_value d all.0) e, all_lack b ds out all.1)
  where
    other : (b < 48 ⊎ 57 < b) → IsInRange 48 57 d → d ≡ b → ⊥
    other (inl lt) r e = omega (arith, r.0, r.1)
    other (inr lt) r e = omega (arith, r.0, r.1)

-- a byte that is no digit does not occur
pub decimal_lacks : (b n : ℕ) → n ≤ 2 ^ 126 → (b < 48 ⊎ 57 < b) → Lacks b (decimal n)
decimal_lacks b n small out = all_lack b (decimal n) out (decimal_is_IsNumeral_wide n (fits_wide n small)).0.1

pub signed_lacks : (b : ℕ) (x : ℤ) → IsSmall x → b < 45 → Lacks b (signed_decimal x)
signed_lacks b (pos n) small lt = decimal_lacks b n small (inl (omega arith))
signed_lacks b (negsuc n) small lt = (λ e. omega arith, decimal_lacks b (suc n) small (inl (omega arith)))

pub no_minus : (n : ℕ) (rest : List ℕ) → n ≤ 2 ^ 126 → decimal n ≡ 45 ∷ rest → ⊥
no_minus n rest small e = (subst (Lacks 45) e (decimal_lacks 45 n small (inl (omega arith)))).0 refl

pub decimal_same : (m n : ℕ) → m ≤ 2 ^ 126 → n ≤ 2 ^ 126 → decimal m ≡ decimal n → m ≡ n
decimal_same m n small also e =
    sym (decimal_is_IsNumeral_wide m (fits_wide m small)).1 ∙ ap (digits_value 10) e ∙ (decimal_is_IsNumeral_wide n (fits_wide n also)).1

pub signed_same : (x y : ℤ) → IsSmall x → IsSmall y → signed_decimal x ≡ signed_decimal y → x ≡ y
signed_same (pos m) (pos n) small also e = ap pos (decimal_same m n small also e)
signed_same (pos m) (negsuc n) small also e = absurd (no_minus m (decimal (suc n)) small e)
signed_same (negsuc m) (pos n) small also e = absurd (no_minus n (decimal (suc m)) also (sym e))
signed_same (negsuc m) (negsuc n) small also e =
    let k : suc m ≡ suc n = decimal_same (suc m) (suc n) small also (tail_same e) in
    let is : m ≡ n = omega arith in
    ap negsuc is

-- ---- what is no signed decimal

pub not_plain : (text : List ℕ) → ((n : ℕ) → n ≤ 2 ^ 126 → text ≡ decimal n → ⊥) → ((rest : List ℕ) → text ≡ 45 ∷ rest → ⊥)
    → (x : ℤ) → IsSmall x → text ≡ signed_decimal x → ⊥
not_plain text none other (pos n) small e = none n small e
not_plain text none other (negsuc n) small e = other (decimal (suc n)) e

pub not_minus : (text digits : List ℕ) → text ≡ 45 ∷ digits → ((n : ℕ) → n ≤ 2 ^ 126 → digits ≡ decimal n → ⊥)
    → (x : ℤ) → IsSmall x → text ≡ signed_decimal x → ⊥
not_minus text digits is none (pos n) small e = no_minus n digits small (sym e ∙ is)
not_minus text digits is none (negsuc n) small e = none (suc n) small (tail_same (sym is ∙ e))

pub no_minus_zero : (text digits : List ℕ) → text ≡ 45 ∷ digits → digits ≡ decimal 0 → (x : ℤ) → IsSmall x → text ≡ signed_decimal x → ⊥
no_minus_zero text digits is null (pos n) small e = no_minus n digits small (sym e ∙ is)
no_minus_zero text digits is null (negsuc n) small e =
    let k = decimal_same 0 (suc n) (omega arith) small (sym null ∙ tail_same (sym is ∙ e)) in
    omega arith
