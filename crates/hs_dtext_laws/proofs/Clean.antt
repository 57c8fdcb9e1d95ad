-- ASCII texts without line ends, slashes and semicolons.
use Rattle.std.proofs.Common.{◌≡◌, ℕ, zero, suc, ◌+◌, ◌/◌, ◌%◌, ◌<◌, ℤ, pos, negsuc, Bool, true, false, not, ◌&&◌, ◌==◌, nat_eq, nat_lt, if◌then◌else◌, List, [], ◌∷◌, ◌++◌, refl, sym, subst, inl, inr, arith}
use Rattle.std.specs.Prelude.{IsTrue}
use Rattle.std.specs.List.{AllByRecursion}
use Rattle.std.specs.Fmt.{decimal, signed_decimal}
use Rattle.std.specs.Str.{IsAscii, IsUtf8, is_utf8}
use Rattle.std.proofs.lemmas.Str.{IsUtf8-from_ascii, is_utf8-from_IsUtf8}
use Rattle.core.specs.Fmt.{digits_onto, digit_glyph}
use Rattle.std.proofs.lemmas.Bool.{cases_Bool}
use Rattle.std.proofs.lemmas.Bool.Decides.{nat_tests}
use Rattle.hs_lex.specs.Tokens.{is_in_name}
use Rattle.hs_pure.specs.declared.var.Var.{Var}
use Rattle.hs_print.specs.Lists.{with_signs}
use Rattle.hs_print.specs.Variable.{letter, numbered_text}

-- an ASCII byte, but no line end, no slash and no semicolon
abbrev pub is_clean : ℕ → Bool
is_clean b = nat_lt b 128 && (not (nat_eq b 10) && (not (nat_eq b 47) && not (nat_eq b 59)))

abbrev pub Clean : List ℕ → Type 0
Clean t = AllByRecursion (λ b. IsTrue (is_clean b)) t

pub join : (t u : List ℕ) → Clean t → Clean u → Clean (t ++ u)
join [] u h g = g
join (b ∷ t) u h g = (h.0, join t u h.1 g)

pub with_clean : {A : Type 0} (first sign : List ℕ) (text : A → List ℕ) (xs : List A) → Clean first → Clean sign → AllByRecursion (λ x. Clean (text x)) xs → Clean (with_signs first sign text xs)
with_clean first sign text [] h g all = tt
with_clean first sign text (x ∷ xs) h g all =
    join first (text x ++ with_signs sign sign text xs) h (join (text x) (with_signs sign sign text xs) all.0 (with_clean sign sign text xs g g all.1))

-- ---- numbers

glyph : (d : ℕ) → d < 10 → IsTrue (is_clean (48 + d))
glyph d h = grind (arith, nat_tests)

glyph_is : (d : ℕ) → d < 10 → digit_glyph false d ≡ 48 + d
glyph_is d h = let e : nat_lt d 10 ≡ true = grind (arith, nat_tests) in λ i. if e i then 48 + d else 87 + d

last_digit : (n : ℕ) → n % 10 < 10
last_digit n = omega arith

glyph_clean : (n : ℕ) → IsTrue (is_clean (digit_glyph false (n % 10)))
glyph_clean n = subst (λ b. IsTrue (is_clean b)) (sym (glyph_is (n % 10) (last_digit n))) (glyph (n % 10) (last_digit n))

digits_clean : (k n : ℕ) (acc : List ℕ) → Clean acc → Clean (digits_onto k 10 false n acc)
digits_clean zero n acc h = h
digits_clean (suc k) n acc h =
    elim (cases_Bool (n / 10 == 0)) [
      | inl is ↦ rw is (glyph_clean n, h)
      | inr other ↦ rw other (digits_clean k (n / 10) (digit_glyph false (n % 10) ∷ acc) (glyph_clean n, h))
    ]

pub decimal_clean : (n : ℕ) → Clean (decimal n)
unfolding Rattle.core.specs.Fmt.digits
decimal_clean n = digits_clean 64 n [] tt

pub signed_clean : (z : ℤ) → Clean (signed_decimal z)
signed_clean (pos n) = decimal_clean n
signed_clean (negsuc n) = (refl, decimal_clean (suc n))

-- ---- names

name_byte : (b : ℕ) → IsTrue (is_in_name b) → IsTrue (is_clean b)
name_byte b h = grind (arith, nat_tests)

pub name_clean : (t : List ℕ) → AllByRecursion (λ b. IsTrue (is_in_name b)) t → Clean t
name_clean [] all = tt
name_clean (b ∷ t) all = (name_byte b all.0, name_clean t all.1)

pub variable_clean : (v : Var) → Clean (numbered_text v)
variable_clean v = of v.bag
  where
    of : (bag : Bool) → Clean (letter bag ++ decimal v.number)
    of true = (refl, decimal_clean v.number)
    of false = (refl, decimal_clean v.number)

-- ---- ASCII

ascii_byte : (b : ℕ) → IsTrue (is_clean b) → b < 128
ascii_byte b h = grind (arith, nat_tests)

ascii_at : (t : List ℕ) → Clean t → IsAscii t
ascii_at [] h i = omega arith
ascii_at (b ∷ t) h zero = ascii_byte b h.0
ascii_at (b ∷ t) h (suc i) = ascii_at t h.1 i

pub clean_utf8 : (t : List ℕ) → Clean t → IsUtf8 t
clean_utf8 t h = IsUtf8-from_ascii t (ascii_at t h)

pub clean_is_utf8 : (t : List ℕ) → Clean t → is_utf8 t ≡ true
clean_is_utf8 t h = is_utf8-from_IsUtf8 t (clean_utf8 t h)

-- ---- the three bytes

no_line_end : (b : ℕ) → IsTrue (is_clean b) → nat_eq b 10 ≡ false
no_line_end b h = grind (arith, nat_tests)

no_slash : (b : ℕ) → IsTrue (is_clean b) → nat_eq b 47 ≡ false
no_slash b h = grind (arith, nat_tests)

no_semicolon : (b : ℕ) → IsTrue (is_clean b) → nat_eq b 59 ≡ false
no_semicolon b h = grind (arith, nat_tests)

pub without_line_ends : (t : List ℕ) → Clean t → AllByRecursion (λ b. nat_eq b 10 ≡ false) t
without_line_ends [] h = tt
without_line_ends (b ∷ t) h = (no_line_end b h.0, without_line_ends t h.1)

pub without_slashes : (t : List ℕ) → Clean t → AllByRecursion (λ b. nat_eq b 47 ≡ false) t
without_slashes [] h = tt
without_slashes (b ∷ t) h = (no_slash b h.0, without_slashes t h.1)

pub without_semicolons : (t : List ℕ) → Clean t → AllByRecursion (λ b. nat_eq b 59 ≡ false) t
without_semicolons [] h = tt
without_semicolons (b ∷ t) h = (no_semicolon b h.0, without_semicolons t h.1)
