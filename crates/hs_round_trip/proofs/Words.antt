-- Keywords and signs that stand in every text.
use Rattle.std.proofs.Common.{◌≡◌, ℕ, ◌≤◌, Bool, true, false, ◌&&◌, nat_le, List, [], ◌∷◌, length, refl, arith}
use Rattle.std.specs.Prelude.{IsTrue, codes}
use Rattle.std.specs.List.{AllByRecursion}
use Rattle.std.proofs.lemmas.Bool.{and_parts}
use Rattle.std.proofs.lemmas.Bool.Decides.{nat_tests}
use Rattle.hs_lex.specs.declared.token.Sign.TheVariants as sign
use Rattle.hs_lex.specs.declared.token.TokenKind.TheVariants as kinds
use Rattle.hs_lex.specs.Tokens.{is_letter, is_in_name, BeginsWith, Spells}
use Rattle.hs_words.specs.declared.word.Keyword.TheVariants as key
use Rattle.hs_words.specs.declared.word.Word.TheVariants as word_kind
use Rattle.hs_words.specs.Word.{name_word}
use Rattle.hs_round_trip.proofs.Pieces.{Piece, gap, word, Stands}
use Rattle.hs_round_trip.proofs.Segments.{Follow, anything, is_end, Prints, raw}
use Rattle.hs_round_trip.proofs.Tokens.{sign_spells, name_spells}

abbrev begins_letter : List ℕ → Bool
begins_letter [] = false
begins_letter (b ∷ t) = is_letter b

abbrev all_in_name : List ℕ → Bool
all_in_name [] = true
all_in_name (b ∷ t) = is_in_name b && all_in_name t

-- a text that is a name by test
abbrev pub is_word : List ℕ → Bool
is_word t = begins_letter t && (all_in_name t && nat_le (length t) 64)

begins : (t : List ℕ) → IsTrue (begins_letter t) → BeginsWith is_letter t
begins [] h = absurd cc
begins (b ∷ t) h = h

all_by : (t : List ℕ) → IsTrue (all_in_name t) → AllByRecursion (λ b. IsTrue (is_in_name b)) t
all_by [] h = tt
all_by (b ∷ t) h = let parts = and_parts (is_in_name b) (all_in_name t) h in (parts.0, all_by t parts.1)

short_by : (n : ℕ) → IsTrue (nat_le n 64) → n ≤ 64
short_by n h = grind (arith, nat_tests)

pub word_spells : (top : ℕ) (t rest : List ℕ) → IsTrue (is_word t) → IsTrue (is_end rest) → Spells top kinds.Name t rest
word_spells top t rest h ends =
    let parts = and_parts (begins_letter t) (all_in_name t && nat_le (length t) 64) h in
    let more = and_parts (all_in_name t) (nat_le (length t) 64) parts.1 in
    name_spells top t rest (begins t parts.0) (all_by t more.0) (short_by (length t) more.1) ends

-- ---- words

pub union_word : name_word (codes "union") ≡ word_kind.Key key.Union
unfolding name_word
union_word = refl

pub inter_word : name_word (codes "inter") ≡ word_kind.Key key.Inter
unfolding name_word
inter_word = refl

pub diff_word : name_word (codes "diff") ≡ word_kind.Key key.Diff
unfolding name_word
diff_word = refl

pub exists_word : name_word (codes "exists") ≡ word_kind.Key key.Exists
unfolding name_word
exists_word = refl

pub forall_word : name_word (codes "forall") ≡ word_kind.Key key.Forall
unfolding name_word
forall_word = refl

pub all_word : name_word (codes "all") ≡ word_kind.Key key.All
unfolding name_word
all_word = refl

pub in_word : name_word (codes "in") ≡ word_kind.Key key.In
unfolding name_word
in_word = refl

pub subset_word : name_word (codes "subset") ≡ word_kind.Key key.Subset
unfolding name_word
subset_word = refl

pub divides_word : name_word (codes "divides") ≡ word_kind.Key key.Divides
unfolding name_word
divides_word = refl

pub true_word : name_word (codes "true") ≡ word_kind.Key key.True
unfolding name_word
true_word = refl

pub false_word : name_word (codes "false") ≡ word_kind.Key key.False
unfolding name_word
false_word = refl

pub emp_word : name_word (codes "emp") ≡ word_kind.Key key.Emp
unfolding name_word
emp_word = refl

pub or_word : name_word (codes "or") ≡ word_kind.Key key.Or
unfolding name_word
or_word = refl

-- ---- pieces

abbrev pub open_paren : Piece
open_paren = word (kinds.Sign sign.OpenParen) (codes "(")

abbrev pub close_paren : Piece
close_paren = word (kinds.Sign sign.CloseParen) (codes ")")

abbrev pub open_brace : Piece
open_brace = word (kinds.Sign sign.OpenBrace) (codes "{")

abbrev pub close_brace : Piece
close_brace = word (kinds.Sign sign.CloseBrace) (codes "}")

abbrev pub comma : Piece
comma = word (kinds.Sign sign.Comma) (codes ",")

-- a name or a keyword
abbrev pub named : List ℕ → Piece
named t = word kinds.Name t

module _ (top : ℕ) where
  pub open_paren_prints : Prints top anything (codes "(") (Stands (open_paren ∷ []))
  open_paren_prints = raw top anything (open_paren ∷ []) (λ rest h. (sign_spells top sign.OpenParen rest refl, tt))

  pub close_paren_prints : (E : Follow) → Prints top E (codes ")") (Stands (close_paren ∷ []))
  close_paren_prints E = raw top E (close_paren ∷ []) (λ rest h. (sign_spells top sign.CloseParen rest refl, tt))

  pub open_brace_prints : Prints top anything (codes "{") (Stands (open_brace ∷ []))
  open_brace_prints = raw top anything (open_brace ∷ []) (λ rest h. (sign_spells top sign.OpenBrace rest refl, tt))

  pub close_brace_prints : (E : Follow) → Prints top E (codes "}") (Stands (close_brace ∷ []))
  close_brace_prints E = raw top E (close_brace ∷ []) (λ rest h. (sign_spells top sign.CloseBrace rest refl, tt))

  pub comma_prints : Prints top anything (codes ", ") (Stands (comma ∷ gap ∷ []))
  comma_prints = raw top anything (comma ∷ gap ∷ []) (λ rest h. (sign_spells top sign.Comma (32 ∷ rest) refl, tt))
