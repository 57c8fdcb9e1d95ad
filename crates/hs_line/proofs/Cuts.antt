-- The first piece of a text that is cut.
use Rattle.std.proofs.Common.{◌≡◌, ℕ, suc, ◌≤◌, true, false, not, nat_eq, cond, List, [], ◌∷◌, length, take, drop, Some, refl, sym, ap, ◌∙◌, inl, inr, arith}
use Rattle.std.specs.Prelude.{take_while}
use Rattle.std.specs.List.{onto_first}
use Rattle.std.proofs.lemmas.Bool.{cases_Bool}
use Rattle.std.proofs.lemmas.List.Splits.{slice_split-cons_yes, slice_split-cons_no}
use Rattle.std.proofs.lemmas.List.Sums.{take_while-cons}
use Rattle.hs_line.specs.Pieces.{cut_at, piece_len, first_piece, later_pieces, no_pieces, cut_or_none, behind_cut}

here : (c b : ℕ) (text : List ℕ) → nat_eq b c ≡ true → piece_len c (b ∷ text) ≡ 0
here c b text e = ap length (take_while-cons (λ x. not (nat_eq x c)) b text ∙ (λ i. cond (not (e i)) (b ∷ take_while (λ x. not (nat_eq x c)) text) []))

later : (c b : ℕ) (text : List ℕ) → nat_eq b c ≡ false → piece_len c (b ∷ text) ≡ suc (piece_len c text)
later c b text e = ap length (take_while-cons (λ x. not (nat_eq x c)) b text ∙ (λ i. cond (not (e i)) (b ∷ take_while (λ x. not (nat_eq x c)) text) []))

pub piece_fits : (c : ℕ) (text : List ℕ) → piece_len c text ≤ length text
piece_fits c [] = omega arith
piece_fits c (b ∷ text) =
    elim (cases_Bool (nat_eq b c)) [
      | inl is ↦ omega (arith, here c b text is)
      | inr other ↦ omega (arith, later c b text other, piece_fits c text)
    ]

-- what is left behind the first piece
abbrev pub cut_rest : ℕ → List ℕ → List (List ℕ)
cut_rest c text = cut_or_none c (behind_cut text)

pub cut_both : (c : ℕ) (text : List ℕ) → cut_at c text ≡ take (piece_len c text) text ∷ cut_rest c (drop (piece_len c text) text)
cut_both c [] = refl
cut_both c (b ∷ text) =
    elim (cases_Bool (nat_eq b c)) [
      | inl is ↦ slice_split-cons_yes (λ x. nat_eq x c) b text is ∙ ap (λ n. take n (b ∷ text) ∷ cut_rest c (drop n (b ∷ text))) (sym (here c b text is))
      | inr other ↦
          slice_split-cons_no (λ x. nat_eq x c) b text other
          ∙ (ap (onto_first b) (cut_both c text) ∙ ap (λ n. take n (b ∷ text) ∷ cut_rest c (drop n (b ∷ text))) (sym (later c b text other)))
    ]

pub first_cut : (c n : ℕ) (text : List ℕ) → n ≡ piece_len c text → first_piece (cut_at c text) ≡ Some (take n text)
first_cut c n text e = ap first_piece (cut_both c text) ∙ ap (λ k. Some (take k text)) (sym e)

pub later_cut : (c n : ℕ) (text : List ℕ) → n ≡ piece_len c text → later_pieces (cut_at c text) ≡ cut_rest c (drop n text)
later_cut c n text e = ap later_pieces (cut_both c text) ∙ ap (λ k. cut_rest c (drop k text)) (sym e)

pub some_pieces : (c : ℕ) (text : List ℕ) → no_pieces (cut_at c text) ≡ false
some_pieces c text = ap no_pieces (cut_both c text)
