-- Values read one after another.
use Rattle.std.proofs.Common.{◌≡◌, ℕ, ◌<◌, ℤ, List, [], ◌∷◌, ◌++◌, length, refl, sym, ap, ◌∙◌, subst, arith, append_assoc, append-nil, length-append, ap₂}
use Rattle.std.specs.Fmt.{signed_decimal}
use Rattle.hs_heaptext.specs.Lines.{Lacks, EndsAt, CutsAt}
use Rattle.hs_heaptext.specs.Values.{IsSmall, AreSmall, values_text, IsNextValue}
use Rattle.hs_heaptext.proofs.Lines.{parted, tail_same, not_empty, lacks_append}
use Rattle.hs_heaptext.proofs.Numbers.{signed_lacks, signed_same}

pub values_end : (xs : List ℤ) → EndsAt 32 (values_text xs)
values_end [] = tt
values_end (x ∷ xs) = refl

-- the values so far and the rest are the text, and where the text is of values, so is the rest
pub record HaveRead (text : List ℕ) (all : List ℤ) (rest : List ℕ) : Type 0 where
  pub split : text ≡ values_text all ++ rest
  pub small : AreSmall all
  pub back : (xs : List ℤ) → AreSmall xs → text ≡ values_text xs → (ys : List ℤ) × AreSmall ys × (rest ≡ values_text ys)

pub read_none : (text : List ℕ) → HaveRead text [] text
read_none text = record { split = refl; small = tt; back = λ xs small e. (xs, small, e) }

small_more : (xs : List ℤ) (x : ℤ) → AreSmall xs → IsSmall x → AreSmall (xs ++ x ∷ [])
small_more [] x h k = (k, tt)
small_more (y ∷ xs) x h k = (h.0, small_more xs x h.1 k)

text_more : (xs : List ℤ) (x : ℤ) (word rest text : List ℕ) → word ≡ signed_decimal x → text ≡ 32 ∷ (word ++ rest) → values_text xs ++ text ≡ values_text (xs ++ x ∷ []) ++ rest
text_more [] x word rest text is e = e ∙ ap (λ l. 32 ∷ (l ++ rest)) (is ∙ sym (append-nil (signed_decimal x)))
text_more (y ∷ xs) x word rest text is e =
    let front = 32 ∷ signed_decimal y in
    append_assoc front (values_text xs) text ∙ ap (λ l. front ++ l) (text_more xs x word rest text is e) ∙ sym (append_assoc front (values_text (xs ++ x ∷ [])) rest)

-- the first value of a text of values, and those behind it
pub next_of : (text behind word rest : List ℕ) (y : ℤ) (ys : List ℤ) → text ≡ 32 ∷ behind → CutsAt 32 behind word rest → IsSmall y → text ≡ values_text (y ∷ ys)
    → (word ≡ signed_decimal y) × (rest ≡ values_text ys)
next_of text behind word rest y ys is cut small e =
    let same : behind ≡ signed_decimal y ++ values_text ys = tail_same (sym is ∙ e) in
    parted 32 word (signed_decimal y) rest (values_text ys) cut.lacks (signed_lacks 32 y small (omega arith)) cut.ends (values_end ys) (sym cut.split ∙ same)

back_more : (text : List ℕ) (all : List ℤ) (rest behind : List ℕ) (x : ℤ) → HaveRead text all rest → IsNextValue rest x behind
    → (xs : List ℤ) → AreSmall xs → text ≡ values_text xs → (ys : List ℤ) × AreSmall ys × (behind ≡ values_text ys)
back_more text all rest behind x h n xs small e = go (h.back xs small e)
  where
    go : (ys : List ℤ) × AreSmall ys × (rest ≡ values_text ys) → (ys : List ℤ) × AreSmall ys × (behind ≡ values_text ys)
    go ([], also, is) = absurd (not_empty (sym n.split ∙ is))
    go (y ∷ ys, also, is) =
        let both = next_of rest (n.word ++ behind) n.word behind y ys n.split n.cut also.0 is in
        (ys, also.1, both.1)

pub read_more : (text : List ℕ) (all : List ℤ) (rest behind : List ℕ) (x : ℤ) → HaveRead text all rest → IsNextValue rest x behind → HaveRead text (all ++ x ∷ []) behind
read_more text all rest behind x h n = record {
  split = h.split ∙ text_more all x n.word behind rest n.value n.split;
  small = small_more all x h.small n.small;
  back = back_more text all rest behind x h n;
}

-- all is read
pub read_all : (text : List ℕ) (all : List ℤ) (rest : List ℕ) → HaveRead text all rest → rest ≡ [] → AreSmall all × (text ≡ values_text all)
read_all text all rest h none = (h.small, h.split ∙ ap (λ l. values_text all ++ l) none ∙ append-nil (values_text all))

-- what is left is not empty, and begins with no value
pub read_stops : (text : List ℕ) (all : List ℤ) (rest : List ℕ) → HaveRead text all rest → (rest ≡ [] → ⊥) → ((x : ℤ) (xs : List ℤ) → IsSmall x → rest ≡ values_text (x ∷ xs) → ⊥)
    → (xs : List ℤ) → AreSmall xs → text ≡ values_text xs → ⊥
read_stops text all rest h some none xs small e = go (h.back xs small e)
  where
    go : (ys : List ℤ) × AreSmall ys × (rest ≡ values_text ys) → ⊥
    go ([], also, is) = some is
    go (y ∷ ys, also, is) = none y ys also.0 is

pub shorter : (rest behind : List ℕ) (x : ℤ) → IsNextValue rest x behind → length behind < length rest
shorter rest behind x n =
    let e = ap length n.split in
    let k = length-append n.word behind in
    omega arith

-- ---- one value

pub value_next : (text behind word rest : List ℕ) (x : ℤ) → text ≡ 32 ∷ behind → CutsAt 32 behind word rest → IsSmall x → word ≡ signed_decimal x → IsNextValue text x rest
value_next text behind word rest x is cut small value = record {
  word = word;
  split = is ∙ ap (λ l. 32 ∷ l) cut.split;
  cut = subst (λ l. CutsAt 32 l word rest) cut.split cut;
  value = value;
  small = small;
}

pub no_value : (text behind word rest : List ℕ) → text ≡ 32 ∷ behind → CutsAt 32 behind word rest → ((x : ℤ) → IsSmall x → word ≡ signed_decimal x → ⊥)
    → (x : ℤ) (xs : List ℤ) → IsSmall x → text ≡ values_text (x ∷ xs) → ⊥
no_value text behind word rest is cut none x xs small e = none x small (next_of text behind word rest x xs is cut small e).0

-- ---- lists of values

pub small_lacks : (b : ℕ) (xs : List ℤ) → AreSmall xs → b < 32 → Lacks b (values_text xs)
small_lacks b [] small lt = tt
small_lacks b (x ∷ xs) small lt =
    ((λ e. omega arith), lacks_append b (signed_decimal x) (values_text xs) (signed_lacks b x small.0 (omega arith)) (small_lacks b xs small.1 lt))

pub values_once : (xs ys : List ℤ) → AreSmall xs → AreSmall ys → values_text xs ≡ values_text ys → xs ≡ ys
values_once [] [] small also e = refl
values_once [] (y ∷ ys) small also e = absurd (not_empty (sym e))
values_once (x ∷ xs) [] small also e = absurd (not_empty e)
values_once (x ∷ xs) (y ∷ ys) small also e =
    let both = parted 32 (signed_decimal x) (signed_decimal y) (values_text xs) (values_text ys) (signed_lacks 32 x small.0 (omega arith)) (signed_lacks 32 y also.0 (omega arith))
    (values_end xs) (values_end ys) (tail_same e) in
    ap₂ (λ v vs. v ∷ vs) (signed_same x y small.0 also.0 both.0) (values_once xs ys small.1 also.1 both.1)
