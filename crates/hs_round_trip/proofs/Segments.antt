-- Parts of a printed text: which pieces they are, what may follow them, and what a reader takes of them.
use Rattle.std.proofs.Common.{◌≡◌, ℕ, Bool, true, false, not, ◌&&◌, List, [], ◌∷◌, ◌++◌, refl, sym, ap, ◌∙◌, subst}
use Rattle.std.specs.Prelude.{IsTrue, ◌==◌}
use Rattle.hs_lex.specs.Tokens.{is_in_name}
use Rattle.hs_words.specs.Input.{Input}
use Rattle.hs_round_trip.proofs.Pieces.{Piece, text_of, text_of-append, Fits, Fits-append, Stands, split}

-- ---- what may follow

abbrev pub Follow : Type 0
Follow = List ℕ → Bool

abbrev pub anything : Follow
anything rest = true

-- nothing, or a byte that is in no name and makes no sign longer
abbrev pub is_end : Follow
is_end [] = true
is_end (b ∷ rest) = not (is_in_name b) && not (b == 61)

-- a byte that makes no sign longer
abbrev pub is_start : Follow
is_start [] = false
is_start (b ∷ rest) = not (b == 61) && not (b == 62)

-- ---- segments

pub record Prints (top : ℕ) (before : Follow) (t : List ℕ) (R : Input → Input → Type 0) : Type 0 where
  pub pieces : List Piece
  pub is : text_of pieces ≡ t
  pub fits : (rest : List ℕ) → IsTrue (before rest) → Fits top pieces rest
  pub reads : (i j : Input) → Stands pieces i j → R i j

abbrev pub Then : (Input → Input → Type 0) → (Input → Input → Type 0) → Input → Input → Type 0
Then R S i k = (j : Input) × (R i j × S j k)

module _ (top : ℕ) where
  pub then_prints : (E F : Follow) (t u : List ℕ) (R S : Input → Input → Type 0) → Prints top E t R → Prints top F u S
      → ((rest : List ℕ) → IsTrue (F rest) → IsTrue (E (u ++ rest))) → Prints top F (t ++ u) (Then R S)
  then_prints E F t u R S p q step = record {
    pieces = p.pieces ++ q.pieces;
    is = text_of-append p.pieces q.pieces ∙ (ap (λ l. l ++ text_of q.pieces) p.is ∙ ap (λ l. t ++ l) q.is);
    fits = λ rest h. Fits-append top p.pieces q.pieces rest
        (p.fits (text_of q.pieces ++ rest) (subst (λ (l : List ℕ). IsTrue (E (l ++ rest))) (sym q.is) (step rest h))) (q.fits rest h);
    reads = λ i k s. let m = split p.pieces q.pieces s in (m.0, (p.reads i m.0 m.1.0, q.reads m.0 k m.1.1));
  }

  pub as_prints : (E : Follow) (t : List ℕ) (R S : Input → Input → Type 0) → Prints top E t R → ((i j : Input) → R i j → S i j) → Prints top E t S
  as_prints E t R S p f = record { pieces = p.pieces; is = p.is; fits = p.fits; reads = λ i j s. f i j (p.reads i j s) }

  pub raw : (E : Follow) (ps : List Piece) → ((rest : List ℕ) → IsTrue (E rest) → Fits top ps rest) → Prints top E (text_of ps) (Stands ps)
  raw E ps h = record { pieces = ps; is = refl; fits = h; reads = λ i j s. s }

  pub retext : (E : Follow) (t u : List ℕ) (R : Input → Input → Type 0) → t ≡ u → Prints top E t R → Prints top E u R
  retext E t u R e p = record { pieces = p.pieces; is = p.is ∙ e; fits = p.fits; reads = p.reads }
