-- The claim before the next one is the last of the list.
use Rattle.std.proofs.Common.{◌≡◌, ℕ, suc, ◌-◌, Bool, true, List, [], ◌∷◌, length, Option, Some, None, refl, sym, ap, ◌∙◌, arith}
use Rattle.std.specs.Prelude.{nat_lt, slice_get}
use Rattle.hs_dtext.specs.Lines.{rises}

abbrev pub is_above : Option (ℕ × ℕ) → ℕ → Bool
is_above None k = true
is_above (Some c) k = nat_lt c.0 k

pub rises_last : (claims : List (ℕ × ℕ)) (k : ℕ) → rises claims k ≡ is_above (slice_get claims (length claims - 1)) k
rises_last [] k = refl
rises_last (c ∷ []) k = refl
rises_last (c ∷ d ∷ cs) k =
    let later : suc (suc (length cs)) - 1 ≡ suc (suc (length cs) - 1) = omega arith in
    rises_last (d ∷ cs) k ∙ ap (λ n. is_above (slice_get (c ∷ d ∷ cs) n) k) (sym later)
