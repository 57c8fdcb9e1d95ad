-- What is left to read, and the steps that every rule is made of.
use Rattle.std.specs.Prelude.{◌≡◌, ◌≤◌, ℕ, zero, suc, ◌+◌, ◌-◌, Bool, true, false, if◌then◌else◌, List, [], ◌∷◌, ◌++◌, length, take, drop, Option, Some, None, Result, Ok, Err}
use Rattle.std.specs.List.{AllByRecursion}
use Rattle.std.specs.Str.{IsCharBoundary}
use Rattle.hs_lex.specs.declared.token.Sign.{Sign}
use Rattle.hs_lex.specs.declared.token.Token.{Token}
use Rattle.hs_words.specs.declared.error.ReadError.{ReadError}
use Rattle.hs_words.specs.declared.error.ReadError.TheVariants.{Expected, TooDeep, Memory}
use Rattle.hs_words.specs.declared.error.What.TheVariants as what
use Rattle.hs_words.specs.declared.word.Keyword.{Keyword}
use Rattle.hs_words.specs.declared.word.Word.{Word}
use Rattle.hs_words.specs.declared.word.Word.TheVariants as word
use Rattle.hs_words.specs.Word.{word_of, same_sign, same_keyword}

-- the text, and the tokens of it that are left
pub record Input : Type 0 where
  pub text : List ℕ
  pub tokens : List Token

abbrev pub IsSpelledIn : List ℕ → Token → Type 0
IsSpelledIn text t = (t.at ≤ t.end) × (t.end ≤ length text) × IsCharBoundary text t.at × IsCharBoundary text t.end

-- ---- the next token

abbrev pub spelling_of : List ℕ → Token → List ℕ
spelling_of text t = take (t.end - t.at) (drop t.at text)

abbrev pub first_word : List ℕ → List Token → Word
first_word text [] = word.End
first_word text (t ∷ ts) = word_of (spelling_of text t) t.kind

unfoldable pub next_word : Input → Word
next_word i = first_word i.text i.tokens

abbrev pub first_place : List ℕ → List Token → ℕ
first_place text [] = length text
first_place text (t ∷ ts) = t.at

-- where the next token begins
unfoldable pub place : Input → ℕ
place i = first_place i.text i.tokens

abbrev pub first_refusal : List ℕ → List Token → ReadError
first_refusal text [] = Expected (length text) what.End
first_refusal text (t ∷ ts) = Expected t.at what.Token

-- why reading stops here
unfoldable pub refusal : Input → ReadError
refusal i = first_refusal i.text i.tokens

unfoldable pub next : Input → Input
next i = record i { tokens = drop 1 i.tokens }

abbrev pub first_spelling : List ℕ → List Token → List ℕ
first_spelling text [] = []
first_spelling text (t ∷ ts) = spelling_of text t

unfoldable pub spelling : Input → List ℕ
spelling i = first_spelling i.text i.tokens

-- ---- parsers

abbrev pub Outcome : Type 0 → Type 0
Outcome A = Result (A × Input) ReadError

abbrev pub Parser : Type 0 → Type 0
Parser A = Input → Outcome A

abbrev pub and_then : {A B : Type 0} → Outcome A → (A → Parser B) → Outcome B
and_then (Ok p) f = f p.0 p.1
and_then (Err e) f = Err e

infixl 10 ◌>>=◌
abbrev pub ◌>>=◌ : {A B : Type 0} → Parser A → (A → Parser B) → Parser B
p >>= f = λ i. and_then (p i) f

infixl 10 ◌>>◌
abbrev pub ◌>>◌ : {A B : Type 0} → Parser A → Parser B → Parser B
p >> q = p >>= (λ _. q)

abbrev pub pure : {A : Type 0} → A → Parser A
pure a = λ i. Ok (a, i)

infixr 11 ◌<$>◌
abbrev pub ◌<$>◌ : {A B : Type 0} → (A → B) → Parser A → Parser B
f <$> p = p >>= (λ x. pure (f x))

abbrev pub refuse : {A : Type 0} → Parser A
refuse = λ i. Err (refusal i)

abbrev pub peek : Parser Word
peek = λ i. Ok (next_word i, i)

abbrev pub here : Parser ℕ
here = λ i. Ok (place i, i)

abbrev pub ask : (Input → Bool) → Parser Bool
ask test = λ i. Ok (test i, i)

abbrev pub skip : Parser (Unit {0})
skip = λ i. Ok (tt, next i)

abbrev pub is_sign : Sign → Word → Bool
is_sign s (word.Sign t) = same_sign t s
is_sign s _ = false

abbrev pub is_key : Keyword → Word → Bool
is_key k (word.Key l) = same_keyword l k
is_key k _ = false

unfoldable pub sees : Sign → Input → Bool
sees s i = is_sign s (next_word i)

abbrev pub ahead : Sign → Parser Bool
ahead s = ask (sees s)

unfoldable pub sees_key : Keyword → Input → Bool
sees_key k i = is_key k (next_word i)

abbrev pub key_ahead : Keyword → Parser Bool
key_ahead k = ask (sees_key k)

-- the word behind the next one
unfoldable pub second_word : Input → Word
second_word i = next_word (next i)

abbrev pub peek_second : Parser Word
peek_second = λ i. Ok (second_word i, i)

abbrev pub two_ahead : (Word → Word → Bool) → Parser Bool
two_ahead test = λ i. Ok (test (next_word i) (second_word i), i)

unfoldable pub expect : Sign → Parser (Unit {0})
expect s = λ i. if sees s i then Ok (tt, next i) else refuse i

unfoldable pub expect_key : Keyword → Parser (Unit {0})
expect_key k = λ i. if sees_key k i then Ok (tt, next i) else refuse i

-- takes the token that opens a level of nesting, where a parser for the level below is left
abbrev pub opening : {A : Type 0} → List (Parser A) → Parser (Unit {0})
opening [] = λ i. Err (TooDeep (place i))
opening (p ∷ ps) = skip

-- the parser of the level below
abbrev pub inner : {A : Type 0} → List (Parser A) → Parser A
inner [] = refuse
inner (p ∷ ps) = p

-- ---- lists

-- how many tokens are left, which bounds the turns of a list
abbrev pub turns : Input → ℕ
turns i = length i.tokens

-- whether a word that this test takes comes next
abbrev pub comes : (Word → Bool) → Input → Bool
comes test i = test (next_word i)

-- as often as what comes next lets it go on, and at most so many times
unfoldable pub repeat : {A : Type 0} → (Input → Bool) → Parser A → ℕ → List A → Parser (List A)
repeat goes_on p zero found = pure found
repeat goes_on p (suc n) found = do
  more ← ask goes_on
  if more then (do x ← p; repeat goes_on p n (found ++ x ∷ [])) else pure found

-- Each turn takes a token, so the count of those that are left is enough.
abbrev pub repeated : {A : Type 0} → (Input → Bool) → Parser A → List A → Parser (List A)
repeated goes_on p found = λ i. repeat goes_on p (turns i) found i

-- one or more, with this between
abbrev pub separated : {A : Type 0} → (Input → Bool) → Parser A → Parser (List A)
separated between p = p >>= λ first. repeated between (skip >> p) (first ∷ [])

-- ---- what a function that reads ensures

-- What a function that reads ensures: the parser's outcome, unless memory runs out.
abbrev pub Fails : {A : Type 0} → Outcome A → ReadError → Type 0
Fails outcome Memory = Unit {0}
Fails outcome e = outcome ≡ Err e

abbrev pub Reads : {A : Type 0} → Outcome A → Result A ReadError → Input → Type 0
Reads outcome (Ok a) new = outcome ≡ Ok (a, new)
Reads outcome (Err e) new = Fails outcome e

-- the same of a function whose answer is seen by view
abbrev pub ReadsAs : {A B : Type 0} → (A → B) → Outcome B → Result A ReadError → Input → Type 0
ReadsAs view outcome (Ok a) new = outcome ≡ Ok (view a, new)
ReadsAs view outcome (Err e) new = Fails outcome e

-- ---- all tokens

abbrev pub ended_by : Input → Word → Result (Unit {0}) ReadError
ended_by i word.End = Ok tt
ended_by i _ = Err (refusal i)

-- no token is left
unfoldable pub ended : Input → Result (Unit {0}) ReadError
ended i = ended_by i (next_word i)

abbrev pub only : {A : Type 0} → A → Result (Unit {0}) ReadError → Result A ReadError
only a (Ok _) = Ok a
only a (Err e) = Err e

abbrev pub whole_of : {A : Type 0} → Outcome A → Result A ReadError
whole_of (Ok p) = only p.0 (ended p.1)
whole_of (Err e) = Err e

abbrev pub input : List ℕ → List Token → Input
input text tokens = record { text = text; tokens = tokens }

-- what a parser gives of all the tokens of a text
unfoldable pub whole : {A : Type 0} → Parser A → List ℕ → List Token → Result A ReadError
whole p text tokens = whole_of (p (input text tokens))

abbrev pub FailsBy : {A : Type 0} → Result A ReadError → ReadError → Type 0
FailsBy read Memory = Unit {0}
FailsBy read e = read ≡ Err e

-- What a function returned, seen by view, is what reading gives, unless memory ran out.
abbrev pub Gives : {A B : Type 0} → (A → B) → Result A ReadError → Result B ReadError → Type 0
Gives view (Ok a) read = read ≡ Ok (view a)
Gives view (Err e) read = FailsBy read e
