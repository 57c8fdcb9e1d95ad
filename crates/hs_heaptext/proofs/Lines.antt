-- A text is cut in one way.
use Rattle.std.proofs.Common.{◌≡◌, ℕ, List, [], ◌∷◌, ◌++◌, refl, sym, ap, ◌∙◌, length, arith}
use Rattle.hs_heaptext.specs.Lines.{Lacks, EndsAt, CutsAt, FirstLine}

abbrev head_or : ℕ → List ℕ → ℕ
head_or d [] = d
head_or d (c ∷ cs) = c

abbrev tail_of : List ℕ → List ℕ
tail_of [] = []
tail_of (c ∷ cs) = cs

pub head_same : {c d : ℕ} {cs ds : List ℕ} → c ∷ cs ≡ d ∷ ds → c ≡ d
head_same e = ap (head_or 0) e

pub tail_same : {c d : ℕ} {cs ds : List ℕ} → c ∷ cs ≡ d ∷ ds → cs ≡ ds
tail_same e = ap tail_of e

pub not_empty : {c : ℕ} {cs : List ℕ} → c ∷ cs ≡ [] → ⊥
not_empty e = absurd (let k = ap length e in omega arith)

-- two ways to part a text at the first byte b are one
pub parted : (b : ℕ) (xs ys v w : List ℕ) → Lacks b xs → Lacks b ys → EndsAt b v → EndsAt b w → xs ++ v ≡ ys ++ w → (xs ≡ ys) × (v ≡ w)
parted b [] [] v w h k m n e = (refl, e)
parted b [] (y ∷ ys) [] w h k m n e = absurd (not_empty (sym e))
parted b [] (y ∷ ys) (c ∷ v) w h k m n e = absurd (k.0 (sym (head_same e) ∙ m))
parted b (x ∷ xs) [] v [] h k m n e = absurd (not_empty e)
parted b (x ∷ xs) [] v (d ∷ w) h k m n e = absurd (h.0 (head_same e ∙ n))
parted b (x ∷ xs) (y ∷ ys) v w h k m n e =
    let more = parted b xs ys v w h.1 k.1 m n (tail_same e) in
    (ap (λ c. c ∷ xs) (head_same e) ∙ ap (λ l. y ∷ l) more.0, more.1)

pub cuts_once : (b : ℕ) (text xs ys v w : List ℕ) → CutsAt b text xs v → CutsAt b text ys w → (xs ≡ ys) × (v ≡ w)
cuts_once b text xs ys v w h k = parted b xs ys v w h.lacks k.lacks h.ends k.ends (sym h.split ∙ k.split)

pub line_once : (text xs ys v w : List ℕ) → FirstLine text xs v → FirstLine text ys w → (xs ≡ ys) × (v ≡ w)
line_once text xs ys v w h k =
    let is = parted 10 xs ys (10 ∷ v) (10 ∷ w) h.lacks k.lacks refl refl (sym h.split ∙ k.split) in
    (is.0, tail_same is.1)

-- a text that the first line feed does not part has no first line
pub no_line : (text line front : List ℕ) (rest : List ℕ) → CutsAt 10 text front [] → FirstLine text line rest → ⊥
no_line text line front rest h k =
    let is = parted 10 front line [] (10 ∷ rest) h.lacks k.lacks tt refl (sym h.split ∙ k.split) in
    not_empty (sym is.1)

pub empty_from_length : (xs : List ℕ) → length xs ≡ 0 → xs ≡ []
empty_from_length [] e = refl
empty_from_length (x ∷ xs) e = absurd (omega arith)

pub lacks_append : (b : ℕ) (xs ys : List ℕ) → Lacks b xs → Lacks b ys → Lacks b (xs ++ ys)
lacks_append b [] ys h k = k
lacks_append b (x ∷ xs) ys h k = (h.0, lacks_append b xs ys h.1 k)

pub left_same : (xs v w : List ℕ) → xs ++ v ≡ xs ++ w → v ≡ w
left_same [] v w e = e
left_same (x ∷ xs) v w e = left_same xs v w (tail_same e)
