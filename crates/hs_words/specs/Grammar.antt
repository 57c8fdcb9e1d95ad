-- What the rules of a grammar are made of. A place is what is left of the tokens there: a rule tells which tree
-- the tokens from one place to another spell.
use Rattle.std.specs.Prelude.{◌≡◌, ℕ, List, [], ◌∷◌}
use Rattle.hs_lex.specs.declared.token.Sign.{Sign}
use Rattle.hs_words.specs.declared.word.Keyword.{Keyword}
use Rattle.hs_words.specs.declared.word.Word.{Word}
use Rattle.hs_words.specs.declared.word.Word.TheVariants as word
use Rattle.hs_lex.specs.declared.token.Token.{Token}
use Rattle.hs_words.specs.Input.{Input, input, next_word, next}

-- this sign stands at the place
abbrev pub IsSign : Sign → Input → Type 0
IsSign s i = next_word i ≡ word.Sign s

-- this keyword stands at the place
abbrev pub IsKey : Keyword → Input → Type 0
IsKey k i = next_word i ≡ word.Key k

-- one or more, with this word between
pub data Separated {A : Type 0} (R : A → Input → Input → Type 0) (w : Word) : List A → Input → Input → Type 0 where
  one : {x : A} {i j : Input} → R x i j → Separated R w (x ∷ []) i j
  more : {x : A} {xs : List A} {i j k : Input} → R x i j → next_word j ≡ w → Separated R w xs (next j) k → Separated R w (x ∷ xs) i k

-- any number, one behind the other
pub data Repeated {A : Type 0} (R : A → Input → Input → Type 0) : List A → Input → Input → Type 0 where
  none : {i : Input} → Repeated R [] i i
  another : {x : A} {xs : List A} {i j k : Input} → R x i j → Repeated R xs j k → Repeated R (x ∷ xs) i k

-- all the tokens of a text spell a tree
pub record Spells {A : Type 0} (R : A → Input → Input → Type 0) (text : List ℕ) (tokens : List Token) (tree : A) : Type 0 where
  pub end : Input
  pub spelled : R tree (input text tokens) end
  pub all : next_word end ≡ word.End
