-- The sign that a text begins with.
use Rattle.std.proofs.Common.{◌≡◌, ℕ, ◌<◌, ◌≤◌, Bool, true, false, cond, nat_eq, List, [], ◌∷◌, ◌++◌, length, take, drop, Option, Some, None, refl, sym, ap, subst, ◌∙◌, arith, rules, length-append}
use Rattle.std.proofs.Math.Seq.{take-append_seam}
use Rattle.std.proofs.lemmas.Bool.{cond_both}
use Rattle.std.proofs.lemmas.List.{take-append-drop}
use Rattle.std.proofs.lemmas.Slice.Eq.{bytes_eq-Decides}
use Rattle.std.specs.Prelude.{IfSome, IsSome, unwrap_or}
use Rattle.std.specs.List.{starts_with, AllByRecursion}
use Rattle.hs_lex.specs.declared.token.Sign.{Sign}
use Rattle.hs_lex.specs.declared.token.Sign.TheVariants.{ColonColon, Turnstile, EqEq, NotEq, LessEq, GreaterEq, AndAnd, OrOr, Arrow, Less, Greater, Colon, Equals, Minus, Amp, Bar, Bang}
use Rattle.hs_lex.specs.Scan.{signs, sign_among, sign_at}
use Rattle.hs_lex.specs.Tokens.{HasPrefix, IsSign, spelling}

-- a text that passes the test begins so
pub HasPrefix-from_starts_with : (text front : List ℕ) → starts_with nat_eq text front ≡ true → HasPrefix text front
HasPrefix-from_starts_with text front e =
    let same : front ≡ take (length front) text = (bytes_eq-Decides front (take (length front) text)).0 e in
    (drop (length front) text, sym (take-append-drop (length front) text) ∙ ap (λ l. l ++ drop (length front) text) (sym same))

-- ---- what was read is a sign

pub record IsRead (text : List ℕ) (s : Sign × ℕ) : Type 0 where
  pub begins : HasPrefix text (spelling s.0)
  pub len : s.1 ≡ length (spelling s.0)

sign_among-read : (ss : List (List ℕ × Sign)) (text : List ℕ) → AllByRecursion (λ s. s.0 ≡ spelling s.1) ss → IfSome (sign_among ss text) (IsRead text)
sign_among-read [] text all = tt
sign_among-read (s ∷ ss) text all =
    cond_both (starts_with nat_eq text s.0) _ _ (λ o. IfSome o (IsRead text))
    (λ is. record { begins = subst (HasPrefix text) all.0 (HasPrefix-from_starts_with text s.0 is); len = ap length all.0 })
    (λ other. sign_among-read ss text all.1)

pub sign_at-read : (text : List ℕ) → IfSome (sign_at text) (IsRead text)
unfolding sign_at
sign_at-read text = sign_among-read signs text (search rules)

pub spelling_some : (s : Sign) → 0 < length (spelling s)
spelling_some ColonColon = search arith
spelling_some s = search arith

pub spelling_ascii : (s : Sign) → AllByRecursion (λ b. b < 128) (spelling s)
spelling_ascii ColonColon = search arith
spelling_ascii s = search arith

abbrev IsWithin : List ℕ → Sign × ℕ → Type 0
IsWithin text s = (0 < s.1) × (s.1 ≤ length text)

read-within : (text : List ℕ) (o : Option (Sign × ℕ)) → IfSome o (IsRead text) → IfSome o (IsWithin text)
read-within text None read = tt
read-within text (Some s) read =
    let fits : length (spelling s.0) ≤ length text = omega (arith, ap length read.begins.1, length-append (spelling s.0) read.begins.0) in
    (omega (arith, spelling_some s.0, read.len), omega (arith, fits, read.len))

pub sign_at-within : (text : List ℕ) → IfSome (sign_at text) (IsWithin text)
sign_at-within text = read-within text (sign_at text) (sign_at-read text)

-- ---- and the longest

at_least_one : (text : List ℕ) (o : Option (Sign × ℕ)) → IfSome o (IsWithin text) → IfSome o (λ s. 1 ≤ s.1)
at_least_one text None w = tt
at_least_one text (Some s) w = w.0

pub sign_at-longest : (s : Sign) (rest : List ℕ) → IfSome (sign_at (spelling s ++ rest)) (λ r. length (spelling s) ≤ r.1)
unfolding sign_at
sign_at-longest ColonColon rest = search arith
sign_at-longest Turnstile rest = search arith
sign_at-longest EqEq rest = search arith
sign_at-longest NotEq rest = search arith
sign_at-longest LessEq rest = search arith
sign_at-longest GreaterEq rest = search arith
sign_at-longest AndAnd rest = search arith
sign_at-longest OrOr rest = search arith
sign_at-longest Arrow rest = search arith
sign_at-longest s rest = at_least_one (spelling s ++ rest) (sign_at (spelling s ++ rest)) (sign_at-within (spelling s ++ rest))

-- ---- each sign is read

either_some : {A : Type 0} (b : Bool) (x : A) (o : Option A) → IsSome o → IsSome (cond b (Some x) o)
either_some true x o is = refl
either_some false x o is = is

abbrev begins : Sign → List ℕ → Sign → Bool
begins s rest t = starts_with nat_eq (spelling s ++ rest) (spelling t)

pub sign_at-some : (s : Sign) (rest : List ℕ) → IsSome (sign_at (spelling s ++ rest))
unfolding sign_at
sign_at-some Less rest = either_some (begins Less rest LessEq) (LessEq, 2) (Some (Less, 1)) refl
sign_at-some Greater rest = either_some (begins Greater rest GreaterEq) (GreaterEq, 2) (Some (Greater, 1)) refl
sign_at-some Colon rest = either_some (begins Colon rest ColonColon) (ColonColon, 2) (Some (Colon, 1)) refl
sign_at-some Equals rest = either_some (begins Equals rest EqEq) (EqEq, 2) (Some (Equals, 1)) refl
sign_at-some Minus rest = either_some (begins Minus rest Arrow) (Arrow, 2) (Some (Minus, 1)) refl
sign_at-some Amp rest = either_some (begins Amp rest AndAnd) (AndAnd, 2) (Some (Amp, 1)) refl
sign_at-some Bar rest = either_some (begins Bar rest Turnstile) (Turnstile, 2) _ (either_some (begins Bar rest OrOr) (OrOr, 2) (Some (Bar, 1)) refl)
sign_at-some Bang rest = either_some (begins Bang rest NotEq) (NotEq, 2) (Some (Bang, 1)) refl
sign_at-some s rest = refl

sign_at-spelling : (s : Sign) → sign_at (spelling s) ≡ Some (s, length (spelling s))
unfolding sign_at
sign_at-spelling ColonColon = refl
sign_at-spelling s = refl

pub spelling_injective : (s t : Sign) → spelling s ≡ spelling t → s ≡ t
spelling_injective s t e =
    ap (λ (o : Option (Sign × ℕ)). (unwrap_or o (s, 0)).0) (sym (sign_at-spelling s) ∙ (ap sign_at e ∙ sign_at-spelling t))

same_front : (xs ys us vs : List ℕ) → length xs ≡ length us → xs ++ ys ≡ us ++ vs → xs ≡ us
same_front xs ys us vs long e =
    sym (take-append_seam xs ys) ∙ (ap (take (length xs)) e ∙ (ap (λ n. take n (us ++ vs)) long ∙ take-append_seam us vs))

read_is : (s : Sign) (rest : List ℕ) (o : Option (Sign × ℕ)) → IsSome o → IfSome o (IsRead (spelling s ++ rest)) → IfSome o (λ r. length (spelling s) ≤ r.1)
    → ((t : Sign) → HasPrefix (spelling s ++ rest) (spelling t) → length (spelling t) ≤ length (spelling s)) → o ≡ Some (s, length (spelling s))
read_is s rest None some was longest least = absurd cc
read_is s rest (Some r) some was longest least =
    let long : length (spelling s) ≡ length (spelling r.0) = omega (arith, least r.0 was.begins, longest, was.len) in
    let same : r.0 ≡ s = sym (spelling_injective s r.0 (same_front (spelling s) rest (spelling r.0) was.begins.0 long was.begins.1)) in
    let len : r.1 ≡ length (spelling s) = was.len ∙ sym long in
    λ i. Some (same i, len i)

-- the sign that no longer one covers is the one that is read
pub sign_at-is : (s : Sign) (piece rest : List ℕ) → IsSign s piece rest → sign_at (piece ++ rest) ≡ Some (s, length piece)
sign_at-is s piece rest is =
    let least : (t : Sign) → HasPrefix (spelling s ++ rest) (spelling t) → length (spelling t) ≤ length (spelling s) =
    λ t begins. is.longest t (subst (λ (l : List ℕ). HasPrefix (l ++ rest) (spelling t)) (sym is.spelt) begins) in
    subst (λ (l : List ℕ). sign_at (l ++ rest) ≡ Some (s, length l)) (sym is.spelt)
    (read_is s rest (sign_at (spelling s ++ rest)) (sign_at-some s rest) (sign_at-read (spelling s ++ rest)) (sign_at-longest s rest) least)
