-- Lines of entailments, one more at the end.
use Rattle.std.proofs.Common.{◌≡◌, ℕ, ◌+◌, ◌-◌, ◌<◌, ◌^◌, List, [], ◌∷◌, ◌++◌, length, take, get_or, arith, subst, sym, ap, ◌∙◌, length-append}
use Rattle.std.proofs.lemmas.List.{take_more, length-take-le}
use Rattle.hs_norm_item.specs.declared.forms.Entailment.{Entailment}
use Rattle.hs_print.specs.declared.line.Line.{Line}
use Rattle.hs_entail_lines.specs.Lines.{AreLines}

lines_push : (Is : ℕ → Entailment → Line → Type 0) (number : ℕ) (es : List Entailment) (lines : List Line) (e : Entailment) (line : Line)
    → AreLines Is number es lines → Is (number + length es) e line → AreLines Is number (es ++ e ∷ []) (lines ++ line ∷ [])
lines_push Is number [] [] e line h v = (subst (λ (n : ℕ). Is n e line) (omega arith) v, tt)
lines_push Is number [] (l ∷ lines) e line h v = absurd h
lines_push Is number (d ∷ es) [] e line h v = absurd h
lines_push Is number (d ∷ es) (l ∷ lines) e line h v =
    (h.0, lines_push Is (number + 1) es lines e line h.1 (subst (λ (n : ℕ). Is n e line) (omega arith) v))

-- the first entailments have their lines
pub record Telling (Is : ℕ → Entailment → Line → Type 0) (es : List Entailment) (lines : List Line) (index next : ℕ) : Type 0 where
  pub number : next ≡ index + 1
  pub told : AreLines Is 1 (take index es) lines
  pub each : length lines ≡ index
  pub few : length es < 2 ^ 32 - 1

pub telling_push : (Is : ℕ → Entailment → Line → Type 0) (es : List Entailment) (lines more : List Line) (index next : ℕ) (e : Entailment) (line : Line)
    → Telling Is es lines index next → index < length es → e ≡ get_or es index e → Is next e line → more ≡ lines ++ line ∷ []
    → Telling Is es more (index + 1) (next + 1)
telling_push Is es lines more index next e line t below at v pushed =
    let taken : length (take index es) ≡ index = length-take-le _ _ (omega arith) in
    let longer : take (index + 1) es ≡ take index es ++ e ∷ [] = take_more es index e below ∙ ap (λ (d : Entailment). take index es ++ d ∷ []) (sym at) in
    let here : Is (1 + length (take index es)) e line = subst (λ (n : ℕ). Is n e line) (omega (arith, t.number)) v in
    let told = lines_push Is 1 (take index es) lines e line t.told here in
    record {
      number = omega (arith, t.number);
      told = subst (λ (ds : List Entailment). AreLines Is 1 ds more) (sym longer)
          (subst (λ (ls : List Line). AreLines Is 1 (take index es ++ e ∷ []) ls) (sym pushed) told);
      each = ap length pushed ∙ length-append lines (line ∷ []) ∙ omega (arith, t.each);
      few = t.few;
    }
