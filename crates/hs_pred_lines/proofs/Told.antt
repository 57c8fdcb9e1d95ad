-- Lines of predicates, one more at the end, and what they say together.
use Rattle.std.proofs.Common.{◌≡◌, ℕ, suc, ◌+◌, ◌<◌, List, [], ◌∷◌, ◌++◌, length, take, get_or, slice_get, Option, Some, None, Result, refl, sym, ap, ◌∙◌, subst, arith}
use Rattle.std.specs.List.{All}
use Rattle.std.specs.Result.{IfOk}
use Rattle.std.proofs.lemmas.List.{take_more, length-take-le}
use Rattle.std.proofs.lemmas.List.Elements.{All-nil, All-cons}
use Rattle.hs_pure.proofs.Lists.{if_ok_weaker}
use Rattle.hs_heap.specs.declared.definitions.PredDef.{PredDef}
use Rattle.hs_heap.specs.declared.definitions.Defs.{Defs}
use Rattle.hs_heap.specs.Meaning.{pred_at}
use Rattle.hs_xpure.specs.Invariants.{InvariantFollows}
use Rattle.hs_numbering.specs.declared.names.Names.{Names}
use Rattle.hs_norm.specs.declared.resolved.Resolved.{Resolved}
use Rattle.hs_print.specs.declared.line.Line.{Line}
use Rattle.hs_print.specs.declared.line.Line.TheVariants as line
use Rattle.hs_pred_lines.specs.Lines.{AreLines, IsTold, IsPredicateLine, ArePredicateLines, unshown, or_later, first_unshown, names_at}

-- ---- one line

pub line_of : {E : Type 0} (r : Resolved) (atoms number : ℕ) (pred : PredDef) (names : Names) (line : Result Line E) → pred_at r.defs number ≡ Some pred
    → names_at r.pred_names number ≡ Some names → IfOk line (IsTold r.defs pred names atoms) → IfOk line (IsPredicateLine r atoms number)
line_of r atoms number pred names line there named told =
    if_ok_weaker (IsTold r.defs pred names atoms) (IsPredicateLine r atoms number) line
    (λ l t. record { pred = pred; there = there; names = names; named = named; told = t }) told

-- ---- one more line

lines_push : (Is : ℕ → Line → Type 0) (number : ℕ) (preds : List PredDef) (lines : List Line) (pred : PredDef) (line : Line)
    → AreLines Is number preds lines → Is (number + length preds) line → AreLines Is number (preds ++ pred ∷ []) (lines ++ line ∷ [])
lines_push Is number [] [] pred line h v = (subst (λ (n : ℕ). Is n line) (omega arith) v, tt)
lines_push Is number [] (l ∷ lines) pred line h v = absurd h
lines_push Is number (p ∷ preds) [] pred line h v = absurd h
lines_push Is number (p ∷ preds) (l ∷ lines) pred line h v =
    (h.0, lines_push Is (number + 1) preds lines pred line h.1 (subst (λ (n : ℕ). Is n line) (omega arith) v))

-- the first predicates have their lines
pub record Telling (Is : ℕ → Line → Type 0) (preds : List PredDef) (lines : List Line) (index next : ℕ) : Type 0 where
  pub number : next ≡ index + 1
  pub told : AreLines Is 1 (take index preds) lines

pub telling_push : (Is : ℕ → Line → Type 0) (preds : List PredDef) (lines more : List Line) (index next : ℕ) (pred : PredDef) (line : Line)
    → Telling Is preds lines index next → index < length preds → pred ≡ get_or preds index pred → Is next line → more ≡ lines ++ line ∷ []
    → Telling Is preds more (index + 1) (next + 1)
telling_push Is preds lines more index next pred line t below at v pushed =
    let taken : length (take index preds) ≡ index = length-take-le _ _ (omega arith) in
    let longer : take (index + 1) preds ≡ take index preds ++ pred ∷ []
    = take_more preds index pred below ∙ ap (λ (p : PredDef). take index preds ++ p ∷ []) (sym at) in
    let here : Is (1 + length (take index preds)) line = subst (λ (n : ℕ). Is n line) (omega (arith, t.number)) v in
    let told = lines_push Is 1 (take index preds) lines pred line t.told here in
    record {
      number = omega (arith, t.number);
      told = subst (λ (ps : List PredDef). AreLines Is 1 ps more) (sym longer)
          (subst (λ (ls : List Line). AreLines Is 1 (take index preds ++ pred ∷ []) ls) (sym pushed) told);
    }

-- ---- where all are shown

line_shows : (defs : Defs) (p : PredDef) (names : Names) (atoms : ℕ) (l : Line) → IsTold defs p names atoms l → unshown l ≡ None → InvariantFollows defs p
line_shows defs p names atoms (line.Shown name) t e = t.1
line_shows defs p names atoms (line.Fails name values) t e = absurd cc
line_shows defs p names atoms (line.InvStopped name cause) t e = absurd cc
line_shows defs p names atoms _ t e = absurd t

none_here : (a b : Option (List ℕ)) → or_later a b ≡ None → (a ≡ None) × (b ≡ None)
none_here None b e = (refl, e)
none_here (Some name) b e = absurd cc

-- what is shown of the numbers from n on, of predicates that are at these numbers
all_follow : (r : Resolved) (atoms n : ℕ) (preds : List PredDef) (lines : List Line) → ((i : ℕ) (p : PredDef) → slice_get preds i ≡ Some p → pred_at r.defs (n + i) ≡ Some p)
    → AreLines (IsPredicateLine r atoms) n preds lines → first_unshown lines ≡ None → All (InvariantFollows r.defs) preds
all_follow r atoms n [] [] at h e = All-nil (InvariantFollows r.defs)
all_follow r atoms n [] (l ∷ lines) at h e = absurd h
all_follow r atoms n (p ∷ preds) [] at h e = absurd h
all_follow r atoms n (p ∷ preds) (l ∷ lines) at h e =
    let both = none_here (unshown l) (first_unshown lines) e in
    let here : pred_at r.defs n ≡ Some p = subst (λ (k : ℕ). pred_at r.defs k ≡ Some p) (omega arith) (at 0 p refl) in
    let same : h.0.pred ≡ p = some_is h.0.pred p (sym h.0.there ∙ here) in
    All-cons (InvariantFollows r.defs) p preds
    (subst (InvariantFollows r.defs) same (line_shows r.defs h.0.pred h.0.names atoms l h.0.told both.0))
    (all_follow r atoms (n + 1) preds lines (λ i q f. subst (λ (k : ℕ). pred_at r.defs k ≡ Some q) (omega arith) (at (suc i) q f)) h.1 both.1)
  where
    some_is : (a b : PredDef) → Some a ≡ Some b → a ≡ b
    some_is a b e = cc

pub all_shown : (r : Resolved) (atoms : ℕ) (lines : List Line) → ArePredicateLines r atoms lines → first_unshown lines ≡ None → All (InvariantFollows r.defs) r.defs.preds
all_shown r atoms lines h e = all_follow r atoms 1 r.defs.preds lines (λ i p f. subst (λ (k : ℕ). pred_at r.defs k ≡ Some p) (one_more i) f) h e
  where
    one_more : (i : ℕ) → suc i ≡ 1 + i
    one_more i = omega arith
