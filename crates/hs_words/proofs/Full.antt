-- What the grammar has is read.
use Rattle.std.proofs.Common.{rules, ◌≡◌, ◌≢◌, ℕ, zero, suc, ◌<◌, ◌≤◌, Bool, true, false, cond, List, [], ◌∷◌, ◌++◌, length, drop, Result, Ok, Err, refl, sym, ap, subst, ◌∙◌, append_assoc, arith}
use Rattle.std.proofs.lemmas.List.{append-nil}
use denote.Enum.Bare.{true_same, false_same}
use Rattle.hs_lex.specs.declared.token.Sign.{Sign}
use Rattle.hs_lex.specs.declared.token.Token.{Token}
use Rattle.hs_lex.specs.contracts.token.Sign.{the_type as sign_type}
use Rattle.hs_words.specs.declared.error.ReadError.{ReadError}
use Rattle.hs_words.specs.declared.word.Keyword.{Keyword}
use Rattle.hs_words.specs.contracts.word.Keyword.{the_type as keyword_type}
use Rattle.hs_words.specs.declared.word.Word.{Word}
use Rattle.hs_words.specs.declared.word.Word.TheVariants as word
use Rattle.hs_words.specs.Word.{same_sign, same_keyword}
use Rattle.hs_words.specs.Input.{Input, Parser, next_word, next, is_sign, is_key, sees, sees_key, expect, expect_key, skip, ◌>>◌, ◌<$>◌, turns, repeat, separated, input, whole, ended}
use Rattle.hs_words.specs.Grammar.{IsSign, IsKey, Separated, one, more, Repeated, none, another, Spells}
use Rattle.hs_words.proofs.Yields.{Behind, sign_is, key_is}

abbrev pub fine : {A : Type 0} → A → Result A ReadError
fine x = Ok x

-- two words that a test tells apart
pub differ : (test : Word → Bool) (w v : Word) → test w ≡ false → test v ≡ true → w ≢ v
differ test w v h g = λ e. let clash : true ≡ false = sym g ∙ sym (ap test e) ∙ h in absurd cc

-- ---- signs and keywords

pub sign_same : (s : Sign) (w : Word) → w ≡ word.Sign s → is_sign s w ≡ true
unfolding same_sign
sign_same s w e = ap (is_sign s) e ∙ true_same sign_type s s refl

pub key_same : (k : Keyword) (w : Word) → w ≡ word.Key k → is_key k w ≡ true
unfolding same_keyword
key_same k w e = ap (is_key k) e ∙ true_same keyword_type k k refl

pub sign_other : (s : Sign) (w : Word) → w ≢ word.Sign s → is_sign s w ≡ false
unfolding same_sign
sign_other s (word.Sign t) other = false_same sign_type (search rules) t s (λ e. other (ap word.Sign e))
sign_other s word.Name other = refl
sign_other s (word.Key k) other = refl
sign_other s word.Hole other = refl
sign_other s (word.Number n) other = refl
sign_other s word.End other = refl

pub key_other : (k : Keyword) (w : Word) → w ≢ word.Key k → is_key k w ≡ false
unfolding same_keyword
key_other k (word.Key l) other = false_same keyword_type (search rules) l k (λ e. other (ap word.Key e))
key_other k word.Name other = refl
key_other k (word.Sign s) other = refl
key_other k word.Hole other = refl
key_other k (word.Number n) other = refl
key_other k word.End other = refl

pub sees_sign : (s : Sign) (i : Input) → IsSign s i → sees s i ≡ true
unfolding sees
sees_sign s i h = sign_same s (next_word i) h

pub sees_other : (s : Sign) (i : Input) → next_word i ≢ word.Sign s → sees s i ≡ false
unfolding sees
sees_other s i h = sign_other s (next_word i) h

pub sees_key_there : (k : Keyword) (i : Input) → IsKey k i → sees_key k i ≡ true
unfolding sees_key
sees_key_there k i h = key_same k (next_word i) h

pub sees_key_other : (k : Keyword) (i : Input) → next_word i ≢ word.Key k → sees_key k i ≡ false
unfolding sees_key
sees_key_other k i h = key_other k (next_word i) h

pub takes : (s : Sign) (i : Input) → IsSign s i → expect s i ≡ Ok (tt, next i)
unfolding expect
takes s i h = rw (sees_sign s i h) refl

pub takes_key : (k : Keyword) (i : Input) → IsKey k i → expect_key k i ≡ Ok (tt, next i)
unfolding expect_key
takes_key k i h = rw (sees_key_there k i h) refl

-- at a word at which something ends, no sign or keyword comes that it does not end at
pub stop_at_sign : (ends : Word → Bool) (s : Sign) (w : Word) → ends w ≡ true → ends (word.Sign s) ≡ false → is_sign s w ≡ false
stop_at_sign ends s w e f = sign_other s w (λ h. differ ends (word.Sign s) w f e (sym h))

pub stop_at_key : (ends : Word → Bool) (k : Keyword) (w : Word) → ends w ≡ true → ends (word.Key k) ≡ false → is_key k w ≡ false
stop_at_key ends k w e f = key_other k w (λ h. differ ends (word.Key k) w f e (sym h))

pub sees_none : (ends : Word → Bool) (s : Sign) (i : Input) → ends (next_word i) ≡ true → ends (word.Sign s) ≡ false → sees s i ≡ false
unfolding sees
sees_none ends s i e f = stop_at_sign ends s (next_word i) e f

pub sees_no_key : (ends : Word → Bool) (k : Keyword) (i : Input) → ends (next_word i) ≡ true → ends (word.Key k) ≡ false → sees_key k i ≡ false
unfolding sees_key
sees_no_key ends k i e f = stop_at_key ends k (next_word i) e f

-- what a function makes of what is read
pub mapped : {A B : Type 0} (f : A → B) (p : Parser A) (a : A) (i j : Input) → p i ≡ Ok (a, j) → (f <$> p) i ≡ Ok (f a, j)
mapped f p a i j e = rw e refl

-- ---- how many tokens are left

less_of : (text : List ℕ) (tokens : List Token) → next_word (input text tokens) ≢ word.End → turns (next (input text tokens)) < turns (input text tokens)
unfolding next_word next
less_of text [] some = absurd (some refl)
less_of text (t ∷ ts) some = omega arith

pub next_less : (i : Input) (w : Word) → next_word i ≡ w → w ≢ word.End → turns (next i) < turns i
next_less i w h some = less_of i.text i.tokens (λ e. some (sym h ∙ e))

pub sign_less : (s : Sign) (i : Input) → IsSign s i → turns (next i) < turns i
sign_less s i h = next_less i (word.Sign s) h (λ e. cc)

pub key_less : (k : Keyword) (i : Input) → IsKey k i → turns (next i) < turns i
key_less k i h = next_less i (word.Key k) h (λ e. cc)

-- ---- lists

-- Each item of a list takes tokens, begins with a word at which the list goes on, and ends before such a word or behind the list.
module _ {A : Type 0} (goes_on : Input → Bool) (ends : Word → Bool) (p : Parser A) (T : A → Input → Input → Type 0)
    (starts : (a : A) (i j : Input) → T a i j → goes_on i ≡ true)
    (less : (a : A) (i j : Input) → T a i j → turns j < turns i)
    (apart : (i : Input) → goes_on i ≡ true → ends (next_word i) ≡ true)
    (full : (a : A) (i j : Input) → T a i j → ends (next_word j) ≡ true → p i ≡ Ok (a, j)) where
  pub ends_at : (xs : List A) (i k : Input) → Repeated T xs i k → ends (next_word k) ≡ true → ends (next_word i) ≡ true
  ends_at _ i _ none e = e
  ends_at _ i k (another t others) e = apart i (starts _ i _ t)

  pub repeat_full : (xs : List A) (i k : Input) → Repeated T xs i k → (n : ℕ) (found : List A) → turns i ≤ n
      → goes_on k ≡ false → ends (next_word k) ≡ true → repeat goes_on p n found i ≡ Ok (found ++ xs, k)
  unfolding repeat
  repeat_full _ i _ none zero found most stop e = ap (λ (v : List A). fine (v, i)) (sym (append-nil found))
  repeat_full _ i _ none (suc n) found most stop e = rw stop (ap (λ (v : List A). fine (v, i)) (sym (append-nil found)))
  repeat_full _ i k (another {x = x} {xs = xs} {j = j} t others) zero found most stop e = let some = less x i j t in absurd (omega arith)
  repeat_full _ i k (another {x = x} {xs = xs} {j = j} t others) (suc n) found most stop e =
      let some = less x i j t in
      let first = full x i j t (ends_at xs j k others e) in
      let go = starts x i j t in
      rw (go, first) (repeat_full xs j k others n (found ++ x ∷ []) (omega arith) stop e ∙ ap (λ (v : List A). fine (v, k)) (append_assoc found (x ∷ []) xs))

module _ {A : Type 0} (goes_on : Input → Bool) (ends : Word → Bool) (w : Word) (at_word : (i : Input) → next_word i ≡ w → goes_on i ≡ true) (p : Parser A) (R : A → Input → Input → Type 0)
    (less : (a : A) (i j : Input) → R a i j → turns j < turns i)
    (word_less : (i : Input) → next_word i ≡ w → turns (next i) < turns i)
    (apart : (i : Input) → goes_on i ≡ true → ends (next_word i) ≡ true)
    (full : (a : A) (i j : Input) → R a i j → ends (next_word j) ≡ true → p i ≡ Ok (a, j)) where
  behind_starts : (a : A) (i j : Input) → Behind R w a i j → goes_on i ≡ true
  behind_starts a i j h = at_word i h.0

  behind_less : (a : A) (i j : Input) → Behind R w a i j → turns j < turns i
  behind_less a i j h = omega (arith, less a (next i) j h.1, word_less i h.0)

  behind_full : (a : A) (i j : Input) → Behind R w a i j → ends (next_word j) ≡ true → (skip >> p) i ≡ Ok (a, j)
  behind_full a i j h e = full a (next i) j h.1 e

  -- those behind the first
  tail : (xs : List A) (m k : Input) → Separated R w xs m k → (i : Input) → next_word i ≡ w → m ≡ next i → Repeated (Behind R w) xs i k
  tail _ m k (one {x = x} r) i h e = another (h, subst (λ (v : Input). R x v k) e r) none
  tail _ m k (more {x = x} {xs = xs} {j = j} r is others) i h e = another (h, subst (λ (v : Input). R x v j) e r) (tail xs (next j) k others j is refl)

  rest_full : (x : A) (xs : List A) (j k : Input) → Repeated (Behind R w) xs j k → goes_on k ≡ false → ends (next_word k) ≡ true
      → repeat goes_on (skip >> p) (turns j) (x ∷ []) j ≡ Ok (x ∷ xs, k)
  rest_full x xs j k others stop e =
      repeat_full goes_on ends (skip >> p) (Behind R w) behind_starts behind_less apart behind_full xs j k others (turns j) (x ∷ []) (omega arith) stop e

  pub separated_full : (xs : List A) (i k : Input) → Separated R w xs i k → goes_on k ≡ false → ends (next_word k) ≡ true
      → separated goes_on p i ≡ Ok (xs, k)
  separated_full _ i k (one {x = x} r) stop e = rw (full x i k r e) (rest_full x [] k k none stop e)
  separated_full _ i k (more {x = x} {xs = xs} {j = j} r is others) stop e =
      let ended : ends (next_word j) ≡ true = apart j (at_word j is) in
      rw (full x i j r ended) (rest_full x xs j k (tail xs (next j) k others j is refl) stop e)

-- ---- all tokens

-- what all the tokens of a text spell is read
pub whole_full : {A : Type 0} (p : Parser A) (R : A → Input → Input → Type 0)
    → ((a : A) (i j : Input) → R a i j → next_word j ≡ word.End → p i ≡ Ok (a, j))
    → (text : List ℕ) (tokens : List Token) (a : A) → Spells R text tokens a → whole p text tokens ≡ Ok a
unfolding whole ended
whole_full p R full text tokens a s = let read = full a (input text tokens) s.end s.spelled s.all in rw (read, s.all) refl

pub fine_same : {A : Type 0} (x y : A) → fine x ≡ fine y → x ≡ y
fine_same x y e = cc
