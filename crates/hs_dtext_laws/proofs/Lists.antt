-- Lists with commas between, and slots, are read.
use Rattle.std.proofs.Common.{◌≡◌, ℕ, zero, suc, ◌≤◌, Bool, true, false, nat_eq, if◌then◌else◌, List, [], ◌∷◌, ◌++◌, length, Option, Some, None, Ok, Err, refl, sym, ap, ◌∙◌, subst, arith, append-nil, append_assoc, length-append}
use Rattle.std.specs.Prelude.{IsTrue, codes}
use Rattle.std.specs.List.{AllByRecursion}
use Rattle.std.specs.Fmt.{decimal}
use Rattle.std.proofs.lemmas.List.Elements.{All-from_recursion}
use Rattle.std.proofs.lemmas.List.Splits.{slice_split_none, slice_split_at}
use Rattle.hs_pure.specs.declared.var.Var.{Var}
use Rattle.hs_print.specs.Lists.{with_signs, each_after}
use Rattle.hs_print.specs.Variable.{letter}
use Rattle.hs_written.specs.Writable.{has_number}
use Rattle.hs_round_trip.proofs.Segments.{is_end}
use Rattle.hs_line.specs.declared.fault.Fault.TheVariants.{Word}
use Rattle.hs_line.specs.Pieces.{cut_at}
use Rattle.hs_line.specs.Steps.{on_ok, mapped, each, and_then, pure}
use Rattle.hs_line.specs.Scan.{Scan, is_over, over, alone, listed, slot, slots_up_to, slots}
use Rattle.hs_dtext.specs.Text.{slot_text}
use Rattle.hs_dtext_laws.specs.Writable.{SlotIsWritable}
use Rattle.hs_dtext_laws.proofs.Fronts.{tail, tail_ends, tail_over, variable_back}

-- ---- cuts

-- no byte of the text is this one
abbrev pub Avoids : ℕ → List ℕ → Type 0
Avoids c text = AllByRecursion (λ b. nat_eq b c ≡ false) text

pub Avoids-append : (c : ℕ) (t u : List ℕ) → Avoids c t → Avoids c u → Avoids c (t ++ u)
Avoids-append c [] u h g = g
Avoids-append c (b ∷ t) u h g = (h.0, Avoids-append c t u h.1 g)

pub cut_none : (c : ℕ) (t : List ℕ) → Avoids c t → cut_at c t ≡ t ∷ []
cut_none c t h = slice_split_none (λ b. nat_eq b c) t (All-from_recursion (λ b. nat_eq b c ≡ false) t h)

pub cut_first : (c d : ℕ) (t u : List ℕ) → Avoids c t → nat_eq d c ≡ true → cut_at c (t ++ d ∷ u) ≡ t ∷ cut_at c u
cut_first c d t u h e = slice_split_at (λ b. nat_eq b c) t d u (All-from_recursion (λ b. nat_eq b c ≡ false) t h) e

-- ---- something alone

pub alone_back : {A : Type 0} (s : Scan A) (a : A) (text : List ℕ) (b : Bool) → s text ≡ Ok (a, tail b) → alone s text ≡ Ok a
alone_back s a text b e =
    ap (λ o. on_ok o (λ r. mapped (λ _. r.0) (over r.1))) e ∙ (λ i. mapped (λ _. a) (if tail_over b i then Ok tt else Err Word))

-- ---- commas between

module _ {A : Type 0} (s : Scan A) (text : A → List ℕ) where
  -- it has no comma, and is read behind a blank
  pub record IsItem (x : A) : Type 0 where
    pub avoids : Avoids 44 (text x)
    pub back : (b : Bool) → s (32 ∷ (text x ++ tail b)) ≡ Ok (x, tail b)

  tail_avoids : (b : Bool) → Avoids 44 (tail b)
  tail_avoids true = (refl, tt)
  tail_avoids false = tt

  pub each_back : (b : Bool) (x : A) (xs : List A) → IsItem x → AllByRecursion IsItem xs
      → each (alone s) (cut_at 44 (32 ∷ ((text x ++ with_signs (codes ", ") (codes ", ") text xs) ++ tail b))) ≡ Ok (x ∷ xs)
  each_back b x [] h all =
      let one : cut_at 44 (32 ∷ ((text x ++ []) ++ tail b)) ≡ (32 ∷ (text x ++ tail b)) ∷ [] =
      ap (λ t. cut_at 44 (32 ∷ (t ++ tail b))) (append-nil (text x)) ∙ cut_none 44 (32 ∷ (text x ++ tail b)) (refl, Avoids-append 44 (text x) (tail b) h.avoids (tail_avoids b)) in
      ap (each (alone s)) one ∙ ap (λ o. on_ok o (λ y. mapped (λ ys. y ∷ ys) (Ok []))) (alone_back s x (32 ∷ (text x ++ tail b)) b (h.back b))
  each_back b x (y ∷ xs) h all =
      let more : List ℕ = with_signs (codes ", ") (codes ", ") text xs in
      let late : List ℕ = 32 ∷ ((text y ++ more) ++ tail b) in
      let shape : (text x ++ (44 ∷ 32 ∷ (text y ++ more))) ++ tail b ≡ text x ++ 44 ∷ late = append_assoc (text x) (44 ∷ 32 ∷ (text y ++ more)) (tail b) in
      let cuts : cut_at 44 (32 ∷ ((text x ++ (44 ∷ 32 ∷ (text y ++ more))) ++ tail b)) ≡ (32 ∷ text x) ∷ cut_at 44 late =
      ap (λ t. cut_at 44 (32 ∷ t)) shape ∙ cut_first 44 44 (32 ∷ text x) late (refl, h.avoids) refl in
      let first : alone s (32 ∷ text x) ≡ Ok x =
      alone_back s x (32 ∷ text x) false (subst (λ t. s (32 ∷ t) ≡ Ok (x, [])) (append-nil (text x)) (h.back false)) in
      ap (each (alone s)) cuts
      ∙ (ap (λ o. on_ok o (λ z. mapped (λ zs. z ∷ zs) (each (alone s) (cut_at 44 late)))) first
      ∙ ap (λ o. mapped (λ zs. x ∷ zs) o) (each_back b y xs all.0 all.1))

  -- a list that is not empty
  pub listed_back : (b : Bool) (x : A) (xs : List A) → IsItem x → AllByRecursion IsItem xs → is_over (32 ∷ ((text x ++ with_signs (codes ", ") (codes ", ") text xs) ++ tail b)) ≡ false
      → listed s (32 ∷ ((text x ++ with_signs (codes ", ") (codes ", ") text xs) ++ tail b)) ≡ Ok (x ∷ xs)
  listed_back b x xs h all some =
      (λ i. if some i then Ok [] else each (alone s) (cut_at 44 (32 ∷ ((text x ++ with_signs (codes ", ") (codes ", ") text xs) ++ tail b))))
      ∙ each_back b x xs h all

  pub empty_back : (b : Bool) → listed s (tail b) ≡ Ok []
  empty_back b = λ i. if tail_over b i then Ok [] else each (alone s) (cut_at 44 (tail b))

-- ---- slots

pub slot_back : (o : Option Var) (rest : List ℕ) → SlotIsWritable o → IsTrue (is_end rest) → slot (32 ∷ (slot_text o ++ rest)) ≡ Ok (o, rest)
slot_back None rest h ends = refl
slot_back (Some v) rest h ends = of v.bag v.number h
  where
    of : (bag : Bool) (n : ℕ) → IsTrue (has_number (record { number = n; bag = bag })) → slot (32 ∷ ((letter bag ++ decimal n) ++ rest)) ≡ Ok (Some (record { number = n; bag = bag }), rest)
    of true n h = ap (λ o. and_then o (λ v. pure (Some v))) (variable_back (record { number = n; bag = true }) rest h ends)
    of false n h = ap (λ o. and_then o (λ v. pure (Some v))) (variable_back (record { number = n; bag = false }) rest h ends)

slot_some : (o : Option Var) (rest : List ℕ) → is_over (32 ∷ (slot_text o ++ rest)) ≡ false
slot_some None rest = refl
slot_some (Some v) rest = of v.bag
  where
    of : (bag : Bool) → is_over (32 ∷ ((letter bag ++ decimal v.number) ++ rest)) ≡ false
    of true = refl
    of false = refl

pub more_ends : (b : Bool) (ss : List (Option Var)) → IsTrue (is_end (each_after (codes " ") slot_text ss ++ tail b))
more_ends b [] = tail_ends b
more_ends b (s ∷ ss) = refl

slots_back_up_to : (b : Bool) (ss : List (Option Var)) (n : ℕ) (found : List (Option Var)) → length ss ≤ n → AllByRecursion SlotIsWritable ss
    → slots_up_to n found (each_after (codes " ") slot_text ss ++ tail b) ≡ Ok (found ++ ss)
slots_back_up_to b [] zero found h all = ap Ok (sym (append-nil found))
slots_back_up_to b [] (suc n) found h all =
    (λ i. if tail_over b i then Ok found else on_ok (slot (tail b)) (λ r. slots_up_to n (found ++ r.0 ∷ []) r.1)) ∙ ap Ok (sym (append-nil found))
slots_back_up_to b (s ∷ ss) zero found h all = absurd (omega arith)
slots_back_up_to b (s ∷ ss) (suc n) found h all =
    let more : List ℕ = each_after (codes " ") slot_text ss in
    let text : List ℕ = 32 ∷ (slot_text s ++ (more ++ tail b)) in
    let shape : (32 ∷ (slot_text s ++ more)) ++ tail b ≡ text = ap (λ t. 32 ∷ t) (append_assoc (slot_text s) more (tail b)) in
    let fewer : length ss ≤ n = omega arith in
    ap (slots_up_to (suc n) found) shape
    ∙ ((λ i. if slot_some s (more ++ tail b) i then Ok found else on_ok (slot text) (λ r. slots_up_to n (found ++ r.0 ∷ []) r.1))
    ∙ (ap (λ o. on_ok o (λ r. slots_up_to n (found ++ r.0 ∷ []) r.1)) (slot_back s (more ++ tail b) all.0 (more_ends b ss))
    ∙ (slots_back_up_to b ss n (found ++ s ∷ []) fewer all.1 ∙ ap Ok (append_assoc found (s ∷ []) ss))))

slots_long : (b : Bool) (ss : List (Option Var)) → length ss ≤ length (each_after (codes " ") slot_text ss ++ tail b)
slots_long b [] = omega arith
slots_long b (s ∷ ss) =
    let more : List ℕ = each_after (codes " ") slot_text ss in
    omega (arith, length-append (slot_text s ++ more) (tail b), length-append (slot_text s) more, length-append more (tail b), slots_long b ss)

pub slots_back : (b : Bool) (ss : List (Option Var)) → AllByRecursion SlotIsWritable ss → slots (each_after (codes " ") slot_text ss ++ tail b) ≡ Ok ss
slots_back b ss all = slots_back_up_to b ss (length (each_after (codes " ") slot_text ss ++ tail b)) [] (slots_long b ss) all
