-- Printed lists with signs between are read as lists that write them.
use Rattle.std.proofs.Common.{◌≡◌, ℕ, List, [], ◌∷◌, ◌++◌, refl, sym, append-nil}
use Rattle.std.specs.Prelude.{IsTrue}
use Rattle.std.specs.List.{AllByRecursion}
use Rattle.hs_words.specs.declared.word.Word.{Word}
use Rattle.hs_words.specs.Input.{Input, next, next_word}
use Rattle.hs_words.specs.Grammar.{Separated, one, more}
use Rattle.hs_print.specs.Lists.{with_signs}
use Rattle.hs_written.specs.Written as written
use Rattle.hs_round_trip.proofs.Segments.{anything, is_end, Prints, Then, then_prints, as_prints, retext}

-- this word stands between
pub data After (w : Word) : Input → Input → Type 0 where
  after : {i : Input} → next_word i ≡ w → After w i (next i)

-- the sign between two parts, which ends the first of them
pub record Sign (top : ℕ) (w : Word) (t : List ℕ) : Type 0 where
  pub prints : Prints top anything t (After w)
  pub ends : (more rest : List ℕ) → IsTrue (is_end ((t ++ more) ++ rest))

module _ {A B : Type 0} (top : ℕ) (w : Word) (t : List ℕ) (s : Sign top w t) (R : B → Input → Input → Type 0) (W : A → B → Type 0) (text : A → List ℕ) where
  abbrev pub PartIs : A → Input → Input → Type 0
  PartIs x i j = (y : B) × (R y i j × W x y)

  abbrev pub PartsAre : List A → Input → Input → Type 0
  PartsAre xs i j = (ys : List B) × (Separated R w ys i j × written.Pairwise W xs ys)

  abbrev pub IsPrinted : A → Type 0
  IsPrinted x = Prints top is_end (text x) (PartIs x)

  joined : (x : A) (xs : List A) (i j : Input) → Then (PartIs x) (Then (After w) (PartsAre xs)) i j → PartsAre (x ∷ xs) i j
  joined x xs i j (k, (y, (l, (after e, ys)))) = (y.0 ∷ ys.0, (more y.1.0 e ys.1.0, written.another y.1.1 ys.1.1))

  pub list_prints : (x : A) (xs : List A) → IsPrinted x → AllByRecursion IsPrinted xs → Prints top is_end (text x ++ with_signs t t text xs) (PartsAre (x ∷ xs))
  list_prints x [] h all = retext top is_end (text x) (text x ++ []) (PartsAre (x ∷ [])) (sym (append-nil (text x)))
      (as_prints top is_end (text x) (PartIs x) (PartsAre (x ∷ [])) h (λ i j y. (y.0 ∷ [], (one y.1.0, written.another y.1.1 written.none))))
  list_prints x (y ∷ xs) h all =
      let rest_text : List ℕ = text y ++ with_signs t t text xs in
      as_prints top is_end (text x ++ (t ++ rest_text)) _ (PartsAre (x ∷ y ∷ xs))
      (then_prints top is_end is_end (text x) (t ++ rest_text) _ _ h
      (then_prints top anything is_end t rest_text _ _ s.prints (list_prints y xs all.0 all.1) (λ rest ends. refl)) (λ rest ends. s.ends rest_text rest))
      (joined x (y ∷ xs))
