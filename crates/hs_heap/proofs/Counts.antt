-- New numbers keep apart: those of a body, and those of what a disjunct binds.
use Rattle.std.proofs.Common.{◌≡◌, ℕ, zero, suc, ◌<◌, ◌≤◌, Bool, true, false, ◌⊎◌, inl, inr, refl, ap, arith}
use Rattle.hs_heap.specs.Instance.{count_below}
use Rattle.hs_heap.proofs.Booleans.{bool_cases}

pub count-yes : (t : ℕ → Bool) (n : ℕ) → t n ≡ true → count_below t (suc n) ≡ suc (count_below t n)
count-yes t n e = rw e refl

pub count-no : (t : ℕ → Bool) (n : ℕ) → t n ≡ false → count_below t (suc n) ≡ count_below t n
count-no t n e = rw e refl

pub count-grows : (t : ℕ → Bool) (n : ℕ) → count_below t n ≤ count_below t (suc n)
count-grows t n = elim (bool_cases (t n)) [
  | inl is ↦ let e = count-yes t n is in omega arith
  | inr isnt ↦ let e = count-no t n isnt in omega arith
]

pub count-rises : (t : ℕ → Bool) (m n : ℕ) → m ≤ n → count_below t m ≤ count_below t n
count-rises t zero zero le = omega arith
count-rises t (suc m) zero le = absurd (omega arith)
count-rises t m (suc n) le = elim (at m n le) [
  | inl less ↦ let e = count-rises t m n less in let f = count-grows t n in omega arith
  | inr is ↦ rw is (omega arith)
]
  where
    at : (m n : ℕ) → m ≤ suc n → (m ≤ n) ⊎ (m ≡ suc n)
    at zero n le = inl (omega arith)
    at (suc m) zero le = inr (omega arith)
    at (suc m) (suc n) le = elim (at m n (omega arith)) [ inl k ↦ inl (omega arith) | inr k ↦ inr (ap suc k) ]

-- what passes is counted before what comes later
pub count-passes : (t : ℕ → Bool) (m n : ℕ) → t m ≡ true → m < n → count_below t m < count_below t n
count-passes t m n e less =
    let f = count-yes t m e in
    let g = count-rises t (suc m) n less in
    omega arith

pub nat_cases : (m n : ℕ) → (m < n) ⊎ ((m ≡ n) ⊎ (n < m))
nat_cases zero zero = inr (inl refl)
nat_cases zero (suc n) = inl (omega arith)
nat_cases (suc m) zero = inr (inr (omega arith))
nat_cases (suc m) (suc n) = elim (nat_cases m n) [
  | inl k ↦ inl (omega arith)
  | inr k ↦ elim k [ inl e ↦ inr (inl (ap suc e)) | inr l ↦ inr (inr (omega arith)) ]
]

pub count-tells : (t : ℕ → Bool) (m n : ℕ) → t m ≡ true → t n ≡ true → count_below t m ≡ count_below t n → m ≡ n
count-tells t m n e f k = elim (nat_cases m n) [
  | inl less ↦ let g = count-passes t m n e less in absurd (omega arith)
  | inr o ↦ elim o [ inl is ↦ is | inr more ↦ let g = count-passes t n m f more in absurd (omega arith) ]
]
