-- What the reader sees of a token.
use Rattle.std.specs.Prelude.{ℕ, Bool, if◌then◌else◌, List, [], ◌∷◌, codes}
use Rattle.std.specs.Str.{bytes_eq}
use denote.Enum.Bare.{sameb}
use Rattle.hs_lex.specs.declared.token.Sign.{Sign}
use Rattle.hs_lex.specs.contracts.token.Sign.{the_type as sign_type}
use Rattle.hs_lex.specs.declared.token.TokenKind.{TokenKind}
use Rattle.hs_lex.specs.declared.token.TokenKind.TheVariants as kind
use Rattle.hs_words.specs.declared.word.Keyword.{Keyword}
use Rattle.hs_words.specs.contracts.word.Keyword.{the_type as keyword_type}
use Rattle.hs_words.specs.declared.word.Keyword.TheVariants.{Data, Pred, Inv, Entail, Emp, Exists, Forall, Or, All, In, Subset, Union, Inter, Diff, Divides, Null, True, False, Int, Method, Requires, Ensures, New, If, Else, Return, Lemma, Variant, SelfWord, Res, NoWord}
use Rattle.hs_words.specs.declared.word.Word.{Word}
use Rattle.hs_words.specs.declared.word.Word.TheVariants as word

abbrev pub keywords : List (List ℕ × Keyword)
keywords =
    (codes "data", Data) ∷ (codes "pred", Pred) ∷ (codes "inv", Inv) ∷ (codes "entail", Entail) ∷ (codes "emp", Emp) ∷ (codes "exists", Exists)
    ∷ (codes "forall", Forall) ∷ (codes "or", Or) ∷ (codes "all", All) ∷ (codes "in", In) ∷ (codes "subset", Subset) ∷ (codes "union", Union)
    ∷ (codes "inter", Inter) ∷ (codes "diff", Diff) ∷ (codes "divides", Divides) ∷ (codes "null", Null) ∷ (codes "true", True) ∷ (codes "false", False)
    ∷ (codes "int", Int) ∷ (codes "method", Method) ∷ (codes "requires", Requires) ∷ (codes "ensures", Ensures) ∷ (codes "new", New) ∷ (codes "if", If)
    ∷ (codes "else", Else) ∷ (codes "return", Return) ∷ (codes "lemma", Lemma) ∷ (codes "variant", Variant) ∷ (codes "self", SelfWord) ∷ (codes "res", Res) ∷ (codes "none", NoWord) ∷ []

-- the keyword of this text, or a name
abbrev pub word_among : List (List ℕ × Keyword) → List ℕ → Word
word_among [] text = word.Name
word_among (k ∷ ks) text = if bytes_eq text k.0 then word.Key k.1 else word_among ks text

unfoldable pub name_word : List ℕ → Word
name_word = word_among keywords

abbrev pub word_of : List ℕ → TokenKind → Word
word_of text kind.Name = name_word text
word_of text kind.Hole = word.Hole
word_of text (kind.Number n) = word.Number n
word_of text (kind.Sign s) = word.Sign s

unfoldable pub same_sign : Sign → Sign → Bool
same_sign = sameb sign_type

unfoldable pub same_keyword : Keyword → Keyword → Bool
same_keyword = sameb keyword_type
