-- Texts that are made of tokens and single blanks, and what a reader sees of them.
use Rattle.std.proofs.Common.{◌≡◌, ℕ, ◌+◌, ◌-◌, ◌<◌, List, [], ◌∷◌, ◌++◌, length, take, drop, refl, sym, ap, ◌∙◌, subst, inl, arith, length-append, append_assoc, append-nil}
use Rattle.std.specs.List.{AllByRecursion}
use Rattle.std.proofs.Math.Seq.{drop-append_seam, take-append_seam}
use Rattle.hs_lex.specs.declared.token.Token.{Token}
use Rattle.hs_lex.specs.declared.token.TokenKind.{TokenKind}
use Rattle.hs_lex.specs.Tokens as lexer
use Rattle.hs_words.specs.Word.{word_of}
use Rattle.hs_words.specs.Input.{Input, input, next, next_word, spelling}

pub data Piece : Type 0 where
  gap : Piece
  word : (kind : TokenKind) (text : List ℕ) → Piece

abbrev pub piece_text : Piece → List ℕ
piece_text gap = 32 ∷ []
piece_text (word k t) = t

abbrev pub text_of : List Piece → List ℕ
text_of [] = []
text_of (p ∷ ps) = piece_text p ++ text_of ps

pub text_of-append : (ps qs : List Piece) → text_of (ps ++ qs) ≡ text_of ps ++ text_of qs
text_of-append [] qs = refl
text_of-append (p ∷ ps) qs = ap (λ t. piece_text p ++ t) (text_of-append ps qs) ∙ sym (append_assoc (piece_text p) (text_of ps) (text_of qs))

-- ---- tokens

-- each word is a token where the others and `rest` follow it
abbrev pub Fits : ℕ → List Piece → List ℕ → Type 0
Fits top [] rest = Unit {0}
Fits top (gap ∷ ps) rest = Fits top ps rest
Fits top (word k t ∷ ps) rest = lexer.Spells top k t (text_of ps ++ rest) × Fits top ps rest

pub Fits-append : (top : ℕ) (ps qs : List Piece) (rest : List ℕ) → Fits top ps (text_of qs ++ rest) → Fits top qs rest → Fits top (ps ++ qs) rest
Fits-append top [] qs rest h g = g
Fits-append top (gap ∷ ps) qs rest h g = Fits-append top ps qs rest h g
Fits-append top (word k t ∷ ps) qs rest h g =
    (subst (lexer.Spells top k t) (sym (append_assoc (text_of ps) (text_of qs) rest) ∙ ap (λ l. l ++ rest) (sym (text_of-append ps qs))) h.0, Fits-append top ps qs rest h.1 g)

abbrev pub tokens_of : ℕ → List Piece → List Token
tokens_of at [] = []
tokens_of at (gap ∷ ps) = tokens_of (at + 1) ps
tokens_of at (word k t ∷ ps) = record { kind = k; at = at; end = at + length t } ∷ tokens_of (at + length t) ps

pub lexed : (top at : ℕ) (ps : List Piece) → Fits top ps [] → lexer.Lexes top at (text_of ps) (tokens_of at ps)
lexed top at [] h = lexer.ended at
lexed top at (gap ∷ ps) h = lexer.gap at (32 ∷ []) (text_of ps) (tokens_of (at + 1) ps) (inl (32, refl, refl)) (lexed top (at + 1) ps h)
lexed top at (word k t ∷ ps) h =
    lexer.token at k t (text_of ps) (tokens_of (at + length t) ps) (subst (lexer.Spells top k t) (append-nil (text_of ps)) h.0) (lexed top (at + length t) ps h.1)

-- ---- what stands in a text

-- the words of these pieces stand from one place to another
pub data Stands : List Piece → Input → Input → Type 0 where
  done : {i : Input} → Stands [] i i
  past_gap : {ps : List Piece} {i j : Input} → Stands ps i j → Stands (gap ∷ ps) i j
  past_word : {k : TokenKind} {t : List ℕ} {ps : List Piece} {i j : Input} → next_word i ≡ word_of t k → spelling i ≡ t → Stands ps (next i) j → Stands (word k t ∷ ps) i j

pub split : (ps qs : List Piece) {i k : Input} → Stands (ps ++ qs) i k → (j : Input) × (Stands ps i j × Stands qs j k)
split [] qs {i = i} s = (i, (done, s))
split (gap ∷ ps) qs (past_gap s) = let m = split ps qs s in (m.0, (past_gap m.1.0, m.1.1))
split (word k t ∷ ps) qs (past_word w e s) = let m = split ps qs s in (m.0, (past_word w e m.1.0, m.1.1))

-- what holds behind a last word holds at the end
pub last_word : {k : TokenKind} {t : List ℕ} (P : Input → Type 0) (i j : Input) → Stands (word k t ∷ []) i j → (next_word i ≡ word_of t k → P (next i)) → P j
last_word P i j (past_word w e done) f = f w

pub last_gap : {k : TokenKind} {t : List ℕ} (P : Input → Type 0) (i j : Input) → Stands (word k t ∷ gap ∷ []) i j → (next_word i ≡ word_of t k → P (next i)) → P j
last_gap P i j (past_word w e (past_gap done)) f = f w

cut_out : (before t rest : List ℕ) → take (length before + length t - length before) (drop (length before) (before ++ (t ++ rest))) ≡ t
cut_out before t rest =
    ap (λ n. take n (drop (length before) (before ++ (t ++ rest)))) (less (length before) (length t))
    ∙ (ap (take (length t)) (drop-append_seam before (t ++ rest)) ∙ take-append_seam t rest)
  where
    less : (m n : ℕ) → m + n - m ≡ n
    less m n = omega arith

first_word : (whole t : List ℕ) (k : TokenKind) (at n : ℕ) (ts : List Token) → take (n - at) (drop at whole) ≡ t
    → next_word (input whole (record { kind = k; at = at; end = n } ∷ ts)) ≡ word_of t k
unfolding next_word
first_word whole t k at n ts e = ap (λ l. word_of l k) e

first_spelling : (whole t : List ℕ) (k : TokenKind) (at n : ℕ) (ts : List Token) → take (n - at) (drop at whole) ≡ t
    → spelling (input whole (record { kind = k; at = at; end = n } ∷ ts)) ≡ t
unfolding spelling
first_spelling whole t k at n ts e = e

past : (ps : List Piece) (whole : List ℕ) (t : Token) (ts : List Token) (j : Input) → Stands ps (input whole ts) j → Stands ps (next (input whole (t ∷ ts))) j
unfolding next
past ps whole t ts j s = s

pub standing : (whole before : List ℕ) (ps : List Piece) → whole ≡ before ++ text_of ps → Stands ps (input whole (tokens_of (length before) ps)) (input whole [])
standing whole before [] e = done
standing whole before (gap ∷ ps) e =
    past_gap (subst (λ n. Stands ps (input whole (tokens_of n ps)) (input whole [])) (length-append before (32 ∷ []))
    (standing whole (before ++ 32 ∷ []) ps (e ∙ sym (append_assoc before (32 ∷ []) (text_of ps)))))
standing whole before (word k t ∷ ps) e =
    let here : take (length before + length t - length before) (drop (length before) whole) ≡ t =
    ap (λ l. take (length before + length t - length before) (drop (length before) l)) e ∙ cut_out before t (text_of ps) in
    let more : Stands ps (input whole (tokens_of (length before + length t) ps)) (input whole []) =
    subst (λ n. Stands ps (input whole (tokens_of n ps)) (input whole [])) (length-append before t)
    (standing whole (before ++ t) ps (e ∙ sym (append_assoc before t (text_of ps)))) in
    past_word (first_word whole t k (length before) (length before + length t) (tokens_of (length before + length t) ps) here)
    (first_spelling whole t k (length before) (length before + length t) (tokens_of (length before + length t) ps) here)
    (past ps whole (record { kind = k; at = length before; end = length before + length t }) (tokens_of (length before + length t) ps) (input whole []) more)

-- ---- ASCII

abbrev pub AsciiBytes : List ℕ → Type 0
AsciiBytes t = AllByRecursion (λ b. b < 128) t
