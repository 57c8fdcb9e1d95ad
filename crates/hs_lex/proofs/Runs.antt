-- The bytes of one kind at the front of a text.
use Rattle.std.proofs.Common.{◌≡◌, ℕ, ◌<◌, Bool, true, false, List, [], ◌∷◌, ◌++◌, length, get_or, refl, ap, arith, inl, inr, suc, zero}
use Rattle.std.specs.Prelude.{take_while, IsTrue}
use Rattle.std.specs.List.{AllByRecursion}
use Rattle.std.proofs.lemmas.Bool.{cases_Bool, false_from_ne_true, both_ways}
use Rattle.std.proofs.lemmas.List.Sums.{take_while-cons}
use Rattle.hs_lex.specs.Scan.{front_len}
use Rattle.hs_lex.specs.Tokens.{IsRun}

pub record Split (is_in : ℕ → Bool) (text : List ℕ) : Type 0 where
  pub piece : List ℕ
  pub rest : List ℕ
  pub whole : text ≡ piece ++ rest
  pub run : IsRun is_in piece rest

-- each text begins with a run, maybe an empty one
pub split_at_run : (is_in : ℕ → Bool) (text : List ℕ) → Split is_in text
split_at_run is_in [] = record { piece = []; rest = []; whole = refl; run = record { all = tt; ends = λ none. none } }
split_at_run is_in (b ∷ text) =
    let more = split_at_run is_in text in
    elim (cases_Bool (is_in b)) [
      | inl is ↦ record { piece = b ∷ more.piece; rest = more.rest; whole = ap (λ l. b ∷ l) more.whole; run = record { all = (is, more.run.all); ends = more.run.ends } }
      | inr other ↦ record { piece = []; rest = b ∷ text; whole = refl; run = record { all = tt; ends = both_ways (is_in b) other } }
    ]

-- and the run is what the scanner takes
pub take_while-run : (is_in : ℕ → Bool) (piece rest : List ℕ) → IsRun is_in piece rest → take_while is_in (piece ++ rest) ≡ piece
take_while-run is_in [] [] run = refl
take_while-run is_in [] (b ∷ rest) run =
    let other : is_in b ≡ false = false_from_ne_true (is_in b) run.ends in
    rw take_while-cons (rw other refl)
take_while-run is_in (b ∷ piece) rest run =
    let is : is_in b ≡ true = run.all.0 in
    let more = take_while-run is_in piece rest (record { all = run.all.1; ends = run.ends }) in
    rw take_while-cons (rw is (ap (λ l. b ∷ l) more))

pub front_len-run : (is_in : ℕ → Bool) (piece rest : List ℕ) → IsRun is_in piece rest → front_len is_in (piece ++ rest) ≡ length piece
front_len-run is_in piece rest run = ap length (take_while-run is_in piece rest run)

-- a byte of a run is of its kind
pub all_at : (is_in : ℕ → Bool) (piece : List ℕ) (i : ℕ) → AllByRecursion (λ b. IsTrue (is_in b)) piece → i < length piece → is_in (get_or piece i 0) ≡ true
all_at is_in [] i all lt = absurd (omega arith)
all_at is_in (b ∷ piece) zero all lt = all.0
all_at is_in (b ∷ piece) (suc i) all lt = all_at is_in piece i all.1 (omega arith)
