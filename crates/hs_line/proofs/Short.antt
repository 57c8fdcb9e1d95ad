-- Pieces and rests are no longer than the text.
use Rattle.std.proofs.Common.{◌≡◌, ℕ, suc, ◌+◌, ◌<◌, ◌≤◌, ◌^◌, if◌then◌else◌, nat_eq, List, [], ◌∷◌, length, Some, sym, subst, arith, inl, inr}
use Rattle.std.specs.List.{onto_first, AllByRecursion}
use Rattle.std.proofs.lemmas.Bool.{cases_Bool}
use Rattle.std.proofs.lemmas.List.Splits.{length-slice_split, slice_split-cons_yes, slice_split-cons_no}
use Rattle.std.proofs.lemmas.List.Sums.{count_by-le-length}
use Rattle.hs_lex.specs.Tokens.{is_blank}
use Rattle.hs_line.specs.Scan.{past_blanks}
use Rattle.hs_line.specs.Pieces.{cut_at, first_piece, later_pieces, AreShort}

-- the first piece is at most so long, the others are shorter than n
abbrev AreWithin : ℕ → ℕ → List (List ℕ) → Type 0
AreWithin m n [] = Unit {0}
AreWithin m n (p ∷ ps) = (length p ≤ m) × AllByRecursion (λ q. length q < n) ps

all_shorter : (m n : ℕ) (ps : List (List ℕ)) → m < n → AreWithin m n ps → AllByRecursion (λ q. length q < n) ps
all_shorter m n [] h w = tt
all_shorter m n (p ∷ ps) h w = let first : length p < n = omega (arith, w.0) in (first, w.1)

one_longer : (b m n : ℕ) (ps : List (List ℕ)) → AreWithin m n ps → AreWithin (suc m) n (onto_first b ps)
one_longer b m n [] w = (omega arith, tt)
one_longer b m n (p ∷ ps) w = let first : suc (length p) ≤ suc m = omega (arith, w.0) in (first, w.1)

within : (c n : ℕ) (text : List ℕ) → length text < n → AreWithin (length text) n (cut_at c text)
within c n [] h = (omega arith, tt)
within c n (b ∷ text) h =
    elim (cases_Bool (nat_eq b c)) [
      | inl is ↦
          let later : length text < n = omega (arith, h) in
          subst (AreWithin (suc (length text)) n) (sym (slice_split-cons_yes (λ x. nat_eq x c) b text is)) (omega arith, all_shorter (length text) n (cut_at c text) later (within c n text later))
      | inr other ↦
          let later : length text < n = omega (arith, h) in
          subst (AreWithin (suc (length text)) n) (sym (slice_split-cons_no (λ x. nat_eq x c) b text other)) (one_longer b (length text) n (cut_at c text) (within c n text later))
    ]

pub cut_short : (c : ℕ) (text : List ℕ) → length text < 2 ^ 32 → AreShort (cut_at c text)
cut_short c text h = all_shorter (length text) (2 ^ 32) (cut_at c text) h (within c (2 ^ 32) text h)

pub first_short : (pieces : List (List ℕ)) (p : List ℕ) → AreShort pieces → first_piece pieces ≡ Some p → length p < 2 ^ 32
first_short [] p short e = absurd cc
first_short (q ∷ ps) p short e = let same : q ≡ p = cc in subst (λ (t : List ℕ). length t < 2 ^ 32) same short.0

pub later_short : (pieces : List (List ℕ)) → AreShort pieces → AreShort (later_pieces pieces)
later_short [] short = tt
later_short (q ∷ ps) short = short.1

pub blanks_within : (text : List ℕ) → length (past_blanks text) ≤ length text
blanks_within [] = omega arith
blanks_within (b ∷ text) =
    elim (cases_Bool (is_blank b)) [
      | inl is ↦
          let same : past_blanks (b ∷ text) ≡ past_blanks text = λ i. if is i then past_blanks text else b ∷ text in
          let later : length (past_blanks text) ≤ suc (length text) = omega (arith, blanks_within text) in
          subst (λ (t : List ℕ). length t ≤ suc (length text)) (sym same) later
      | inr other ↦
          let same : past_blanks (b ∷ text) ≡ b ∷ text = λ i. if other i then past_blanks text else b ∷ text in
          subst (λ (t : List ℕ). length t ≤ suc (length text)) (sym same) (omega arith)
    ]

pub cut_few : (c : ℕ) (text : List ℕ) → length (cut_at c text) ≤ length text + 1
cut_few c text = omega (arith, length-slice_split (λ b. nat_eq b c) text, count_by-le-length (λ b. nat_eq b c) text)
