-- What stands before a last `)`.
use Rattle.std.proofs.Common.{◌≡◌, ℕ, true, false, if◌then◌else◌, nat_eq, List, [], ◌∷◌, ◌++◌, Some, None, sym, ap, ◌∙◌, subst, arith}
use Rattle.std.specs.Prelude.{reverse}
use Rattle.std.proofs.lemmas.List.{reverse-reverse, reverse-append}
use Rattle.std.proofs.lemmas.Bool.Decides.{nat_tests}
use Rattle.hs_lex.specs.Tokens.{is_blank}
use Rattle.hs_line.specs.Scan.{past_blanks}
use Rattle.hs_dtext.specs.Formulas.{opened, inside}

ends : (before : List ℕ) (b : ℕ) → inside (before ++ b ∷ []) ≡ opened (past_blanks (b ∷ reverse before))
ends before b = ap (λ l. opened (past_blanks l)) (reverse-append before (b ∷ []))

pub skipped : (before : List ℕ) (b : ℕ) → is_blank b ≡ true → inside (before ++ b ∷ []) ≡ inside before
skipped before b blank = ends before b ∙ (λ i. opened (if blank i then past_blanks (reverse before) else b ∷ reverse before))

pub other : (before : List ℕ) (b : ℕ) → is_blank b ≡ false → nat_eq b 41 ≡ false → inside (before ++ b ∷ []) ≡ None
other before b word unlike =
    ends before b ∙ ((λ i. opened (if word i then past_blanks (reverse before) else b ∷ reverse before)) ∙ (λ i. if unlike i then Some (reverse (reverse before)) else None))

bracket : (before : List ℕ) → inside (before ++ 41 ∷ []) ≡ Some before
bracket before = ends before 41 ∙ ap (λ l. Some l) (reverse-reverse before)

pub closed : (before : List ℕ) (b : ℕ) → nat_eq b 41 ≡ true → inside (before ++ b ∷ []) ≡ Some before
closed before b is = let same : b ≡ 41 = grind (arith, nat_tests) in subst (λ (c : ℕ). inside (before ++ c ∷ []) ≡ Some before) (sym same) (bracket before)
