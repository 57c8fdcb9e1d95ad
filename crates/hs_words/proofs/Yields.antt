-- What holds of all that a parser gives.
use Rattle.std.proofs.Common.{rules, ◌≡◌, ℕ, zero, suc, Bool, true, false, cond, List, [], ◌∷◌, ◌++◌, Result, Ok, Err, refl, sym, ap, subst, ◌∙◌, append_assoc}
use Rattle.std.proofs.lemmas.List.{append-nil}
use denote.Enum.Bare.{same_true}
use Rattle.hs_lex.specs.declared.token.Sign.{Sign}
use Rattle.hs_lex.specs.contracts.token.Sign.{the_type as sign_type}
use Rattle.hs_words.specs.declared.error.ReadError.{ReadError}
use Rattle.hs_words.specs.declared.word.Keyword.{Keyword}
use Rattle.hs_words.specs.contracts.word.Keyword.{the_type as keyword_type}
use Rattle.hs_words.specs.declared.word.Word.{Word}
use Rattle.hs_words.specs.declared.word.Word.TheVariants as word
use Rattle.hs_words.specs.Word.{same_sign, same_keyword}
use Rattle.hs_words.specs.Input.{Input, Outcome, Parser, and_then, next_word, next, refusal, is_sign, is_key, sees, sees_key, expect, expect_key, skip, ◌>>◌, ◌>>=◌, turns, repeat, repeated, separated}
use Rattle.hs_words.specs.Grammar.{IsSign, IsKey, Separated, one, more, Repeated, none, another}

pub record Yields {A : Type 0} (r : Outcome A) (S : A → Input → Type 0) : Type 0 where
  pub by : (q : A × Input) → r ≡ Ok q → S q.0 q.1

-- what a parser gives has the relation to where it began and ended
abbrev pub Accepts : {A : Type 0} → Parser A → (A → Input → Input → Type 0) → Type 0
Accepts {A} p R = (i : Input) → Yields (p i) (λ a j. R a i j)

abbrev fine : {A : Type 0} → A → Result A ReadError
fine x = Ok x

ok_is : {A : Type 0} (x y : A × Input) (S : A × Input → Type 0) → fine x ≡ fine y → S x → S y
ok_is x y S e s = let same : x ≡ y = cc in subst S same s

pub yield : {A : Type 0} {a : A} {j : Input} {S : A → Input → Type 0} → S a j → Yields (Ok (a, j)) S
yield {A} {a} {j} {S} s = record { by = λ q e. ok_is (a, j) q (λ (p : A × Input). S p.0 p.1) e s }

pub yields_none : {A : Type 0} {e : ReadError} {S : A → Input → Type 0} → Yields (Err e) S
yields_none = record { by = λ q h. absurd cc }

then_by : {A B : Type 0} (r : Outcome A) (f : A → Parser B) (R : A → Input → Type 0) (S : B → Input → Type 0)
    → Yields r R → ((a : A) (j : Input) → R a j → Yields (f a j) S) → (q : B × Input) → and_then r f ≡ Ok q → S q.0 q.1
then_by (Ok p) f R S g h q e = (h p.0 p.1 (g.by p refl)).by q e
then_by (Err d) f R S g h q e = absurd cc

-- one parser, and then another
infixr 5 ◌▷◌
pub ◌▷◌ : {A B : Type 0} {r : Outcome A} {f : A → Parser B} {R : A → Input → Type 0} {S : B → Input → Type 0}
    → Yields r R → ((a : A) (j : Input) → R a j → Yields (f a j) S) → Yields (and_then r f) S
◌▷◌ {A} {B} {r} {f} {R} {S} g h = record { by = then_by r f R S g h }

-- the same outcome, with what follows from its relation
infixr 5 ◌▸◌
pub ◌▸◌ : {A : Type 0} {r : Outcome A} {R S : A → Input → Type 0} → Yields r R → ((a : A) (j : Input) → R a j → S a j) → Yields r S
◌▸◌ {A} {r} {R} {S} g h = record { by = λ q e. h q.0 q.1 (g.by q e) }

-- ---- signs and keywords

pub sign_is : (s : Sign) (w : Word) → is_sign s w ≡ true → w ≡ word.Sign s
unfolding same_sign
sign_is s (word.Sign t) e = ap word.Sign (same_true sign_type (search rules) t s e)
sign_is s word.Name e = absurd cc
sign_is s (word.Key k) e = absurd cc
sign_is s word.Hole e = absurd cc
sign_is s (word.Number n) e = absurd cc
sign_is s word.End e = absurd cc

pub key_is : (k : Keyword) (w : Word) → is_key k w ≡ true → w ≡ word.Key k
unfolding same_keyword
key_is k (word.Key l) e = ap word.Key (same_true keyword_type (search rules) l k e)
key_is k word.Name e = absurd cc
key_is k (word.Sign s) e = absurd cc
key_is k word.Hole e = absurd cc
key_is k (word.Number n) e = absurd cc
key_is k word.End e = absurd cc

pub seen : (s : Sign) (i : Input) → sees s i ≡ true → IsSign s i
unfolding sees
seen s i e = sign_is s (next_word i) e

pub seen_key : (k : Keyword) (i : Input) → sees_key k i ≡ true → IsKey k i
unfolding sees_key
seen_key k i e = key_is k (next_word i) e

-- ---- choices

pub choose : {A : Type 0} {b : Bool} {S : A → Input → Type 0} (p q : Parser A) (i : Input)
    → (b ≡ true → Yields (p i) S) → (b ≡ false → Yields (q i) S) → Yields ((cond b p q) i) S
choose {b = true} p q i g h = g refl
choose {b = false} p q i g h = h refl

take_by : {A : Type 0} (b : Bool) (e : ReadError) (i : Input) (f : Unit {0} → Parser A) (S : A → Input → Type 0)
    → (b ≡ true → Yields (f tt (next i)) S) → Yields (and_then (cond b (Ok (tt, next i)) (Err e)) f) S
take_by true e i f S g = g refl
take_by false e i f S g = yields_none

-- behind a sign
pub after_sign : {A : Type 0} {s : Sign} {S : A → Input → Type 0} (i : Input) (f : Unit {0} → Parser A)
    → (IsSign s i → Yields (f tt (next i)) S) → Yields (and_then (expect s i) f) S
unfolding expect
after_sign {A} {s} {S} i f g = take_by (sees s i) (refusal i) i f S (λ e. g (seen s i e))

-- behind a keyword
pub after_key : {A : Type 0} {k : Keyword} {S : A → Input → Type 0} (i : Input) (f : Unit {0} → Parser A)
    → (IsKey k i → Yields (f tt (next i)) S) → Yields (and_then (expect_key k i) f) S
unfolding expect_key
after_key {A} {k} {S} i f g = take_by (sees_key k i) (refusal i) i f S (λ e. g (seen_key k i e))

-- ---- lists

module _ {A : Type 0} (goes_on : Input → Bool) (p : Parser A) (T : A → Input → Input → Type 0)
    (accepts : (i : Input) → goes_on i ≡ true → Yields (p i) (λ a j. T a i j)) where
  -- what was found, and then these
  abbrev Found : List A → List A → Input → Input → Type 0
  Found found all i j = (xs : List A) × (all ≡ found ++ xs) × Repeated T xs i j

  pub repeat_yields : (n : ℕ) (found : List A) (i : Input) → Yields (repeat goes_on p n found i) (λ all j. Found found all i j)
  unfolding repeat
  repeat_yields zero found i = yield ([], sym (append-nil found), none)
  repeat_yields (suc n) found i =
      choose _ _ _ (λ e. accepts i e ▷ λ x j is. repeat_yields n (found ++ x ∷ []) j ▸ λ all k xs.
      (x ∷ xs.0, xs.1 ∙ append_assoc found (x ∷ []) xs.0, another is xs.2))
      (λ e. yield ([], sym (append-nil found), none))

-- an item behind a word
abbrev pub Behind : {A : Type 0} → (A → Input → Input → Type 0) → Word → A → Input → Input → Type 0
Behind R w a i j = (next_word i ≡ w) × R a (next i) j

pub join : {A : Type 0} {R : A → Input → Input → Type 0} {w : Word} (xs : List A) {j k : Input} → Repeated (Behind R w) xs j k
    → (x : A) (i : Input) → R x i j → Separated R w (x ∷ xs) i k
join _ none x i r = one r
join _ (another {x = y} {xs = ys} is others) x i r = more r is.0 (join ys others y _ is.1)

module _ {A : Type 0} (goes_on : Input → Bool) (w : Word) (only_at : (i : Input) → goes_on i ≡ true → next_word i ≡ w) (p : Parser A) (R : A → Input → Input → Type 0) (accepts : Accepts p R) where
  behind : (i : Input) → goes_on i ≡ true → Yields ((skip >> p) i) (λ a j. Behind R w a i j)
  behind i e = record { by = λ q h. (only_at i e, (accepts (next i)).by q h) }

  pub separated_accepts : Accepts (separated goes_on p) (Separated R w)
  separated_accepts i = accepts i ▷ λ x j is. repeat_yields goes_on (skip >> p) (Behind R w) behind (turns j) (x ∷ []) j ▸ λ all k xs.
      subst (λ (v : List A). Separated R w v i k) (sym xs.1) (join xs.0 xs.2 x i is)
