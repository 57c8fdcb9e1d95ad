-- Printed texts are read.
use Rattle.std.proofs.Common.{◌≡◌, ℕ, zero, suc, ◌+◌, ◌<◌, ◌≤◌, ◌^◌, Bool, false, List, [], ◌∷◌, ◌++◌, length, None, refl, sym, subst, arith}
use Rattle.std.specs.Prelude.{IsTrue}
use Rattle.std.specs.List.{AllByRecursion}
use Rattle.std.specs.Str.{IsAscii}
use Rattle.std.proofs.lemmas.Bool.Decides.{nat_tests}
use Rattle.std.proofs.lemmas.Str.{IsUtf8-from_ascii}
use Rattle.hs_lex.specs.declared.token.Token.{Token}
use Rattle.hs_lex.specs.declared.token.TokenKind.{TokenKind}
use Rattle.hs_lex.specs.declared.token.TokenKind.TheVariants as kinds
use Rattle.hs_lex.specs.Tokens as lexer
use Rattle.hs_lex.proofs.Signs.{spelling_ascii}
use Rattle.hs_words.specs.declared.word.Word.TheVariants as word_kind
use Rattle.hs_words.specs.Input.{Input, input, next_word}
use Rattle.hs_heap.specs.declared.formula.Disjunct.{Disjunct}
use Rattle.hs_heap.specs.declared.definitions.Defs.{Defs}
use Rattle.hs_print.specs.Pure.{pure_text}
use Rattle.hs_print.specs.Formula.{formula_text, cases_text}
use Rattle.hs_written.specs.Writable.{nesting, DefsAreWritable, DisjunctIsWritable}
use Rattle.hs_round_trip.specs.Laws.{FormulasAreWritten, PureFormulasAreWritten}
use Rattle.hs_round_trip.proofs.Pieces.{Piece, gap, word, text_of, Fits, tokens_of, lexed, standing, AsciiBytes}
use Rattle.hs_round_trip.proofs.Segments.{is_end, Prints}
use Rattle.hs_round_trip.proofs.Places.{PureAt}
use Rattle.hs_round_trip.proofs.Members.{alone_known}
use Rattle.hs_round_trip.proofs.Pures.{known}
use Rattle.hs_round_trip.proofs.Formulas.{FormulaAt, cases_prints}
use Rattle.hs_read_pure.proofs.Unique.{pure_read, formulas_read}

-- ---- ASCII

name_byte : (b : ℕ) → IsTrue (lexer.is_in_name b) → b < 128
name_byte b e = grind (arith, nat_tests)

digit_byte : (b : ℕ) → IsTrue (lexer.is_digit b) → b < 128
digit_byte b e = grind (arith, nat_tests)

ascii_by : (is_in : ℕ → Bool) → ((b : ℕ) → IsTrue (is_in b) → b < 128) → (t : List ℕ) → AllByRecursion (λ b. IsTrue (is_in b)) t → AsciiBytes t
ascii_by is_in h [] all = tt
ascii_by is_in h (b ∷ t) all = (h b all.0, ascii_by is_in h t all.1)

spells_ascii : (top : ℕ) (k : TokenKind) (t rest : List ℕ) → lexer.Spells top k t rest → AsciiBytes t
spells_ascii top kinds.Name t rest is = ascii_by lexer.is_in_name name_byte t is.0.run.all
spells_ascii top kinds.Hole t rest is = subst AsciiBytes (sym is) (omega arith, tt)
spells_ascii top (kinds.Number n) t rest is = ascii_by lexer.is_digit digit_byte t is.0.run.all
spells_ascii top (kinds.Sign s) t rest is = subst AsciiBytes (sym is.spelt) (spelling_ascii s)

ascii_append : (t u : List ℕ) → AsciiBytes t → AsciiBytes u → AsciiBytes (t ++ u)
ascii_append [] u h g = g
ascii_append (b ∷ t) u h g = (h.0, ascii_append t u h.1 g)

ascii : (top : ℕ) (ps : List Piece) (rest : List ℕ) → Fits top ps rest → AsciiBytes (text_of ps)
ascii top [] rest h = tt
ascii top (gap ∷ ps) rest h = (omega arith, ascii top ps rest h)
ascii top (word k t ∷ ps) rest h = ascii_append t (text_of ps) (spells_ascii top k t (text_of ps ++ rest) h.0) (ascii top ps rest h.1)

ascii_at : (t : List ℕ) → AsciiBytes t → IsAscii t
ascii_at [] h i = omega arith
ascii_at (b ∷ t) h zero = h.0
ascii_at (b ∷ t) h (suc i) = ascii_at t h.1 i

-- ---- a text that prints something

at_end : (text : List ℕ) → next_word (input text []) ≡ word_kind.End
unfolding next_word
at_end text = refl

module _ (top : ℕ) (t : List ℕ) (R : Input → Input → Type 0) (p : Prints top is_end t R) where
  tokens : List Token
  tokens = tokens_of 0 p.pieces

  has_tokens : lexer.HasTokens top t tokens
  unfolding tokens
  has_tokens = record {
    utf8 = IsUtf8-from_ascii t (ascii_at t (subst AsciiBytes p.is (ascii top p.pieces [] (p.fits [] refl))));
    lexes = subst (λ l. lexer.Lexes top 0 l (tokens_of 0 p.pieces)) p.is (lexed top 0 p.pieces (p.fits [] refl));
  }

  is_read : R (input t tokens) (input t [])
  unfolding tokens
  is_read = p.reads (input t (tokens_of 0 p.pieces)) (input t []) (standing t [] p.pieces (sym p.is))

formula_back : (top : ℕ) (tall : 2 ^ 126 ≤ top) (defs : Defs) (fit : DefsAreWritable defs) (ds : List Disjunct) → AllByRecursion (DisjunctIsWritable defs) ds → 0 < length ds
    → Prints top is_end (cases_text defs None ds) (FormulaAt top tall 256 defs fit ds)
formula_back top tall defs fit [] h some = absurd (omega arith)
formula_back top tall defs fit (d ∷ ds) h some = cases_prints top tall 256 defs fit d ds h (omega arith)

pub formulas_are_written : FormulasAreWritten
formulas_are_written top defs f tall h some =
    let p = formula_back top tall defs h.defs_fit f.cases h.cases some in
    let R : Input → Input → Type 0 = FormulaAt top tall 256 defs h.defs_fit f.cases in
    let read = is_read top (formula_text defs None f) R p in (
      tokens top (formula_text defs None f) R p,
      (
        has_tokens top (formula_text defs None f) R p,
        (
          read.0,
          (
            formulas_read 256 (formula_text defs None f) (tokens top (formula_text defs None f) R p) read.0
                (record { end = input (formula_text defs None f) []; spelled = read.1.0; all = at_end (formula_text defs None f) }),
            read.1.1,
          ),
        ),
      ),
    )

alone_nests : (m : ℕ) → 0 + m ≤ 256 → m ≤ 256
alone_nests m h = omega arith

pub pure_formulas_are_written : PureFormulasAreWritten
pure_formulas_are_written top p tall h =
    let q = alone_known top (known top tall p) [] false h.fits 256 (alone_nests (nesting p).levels h.nests) in
    let R : Input → Input → Type 0 = PureAt 256 p in
    let read = is_read top (pure_text None p) R q in (
      tokens top (pure_text None p) R q,
      (
        has_tokens top (pure_text None p) R q,
        (
          read.0,
          (
            pure_read 256 (pure_text None p) (tokens top (pure_text None p) R q) read.0
                (record { end = input (pure_text None p) []; spelled = read.1.0; all = at_end (pure_text None p) }),
            read.1.1,
          ),
        ),
      ),
    )
