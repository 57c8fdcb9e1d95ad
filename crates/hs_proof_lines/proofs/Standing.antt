-- What stands at a place: the line of a predicate, the method of the program.
use Rattle.std.proofs.Common.{◌≡◌, ℕ, zero, suc, ◌+◌, ◌<◌, List, [], ◌∷◌, length, get_or, Some, None, slice_get, refl, sym, ap, ◌∙◌, subst, arith}
use Rattle.std.specs.List.{AllZip}
use Rattle.hs_heap.specs.declared.definitions.PredDef.{PredDef}
use Rattle.hs_heap.specs.declared.definitions.Defs.{Defs}
use Rattle.hs_heap.specs.Meaning.{pred_at}
use Rattle.hs_core.specs.declared.program.Program.{Program}
use Rattle.hs_core.specs.Machine.{no_method, method_of}
use Rattle.hs_core.specs.Sound.{IsUpTo}
use Rattle.hs_judge.specs.Named.{item_at}
use Rattle.hs_lower.specs.Lowering.{pair_of}
use Rattle.hs_lower_sound.specs.Laws.{MethodIsKept}
use Rattle.hs_norm.specs.declared.resolved.MethodTree.{MethodTree}
use Rattle.hs_norm.specs.declared.resolved.Resolved.{Resolved}
use Rattle.hs_numbering.specs.declared.names.Names.{Names}
use Rattle.hs_print.specs.declared.line.Line.{Line}
use Rattle.hs_pred_lines.specs.Lines.{AreLines, IsTold, IsPredicateLine, ArePredicateLines, names_at}
use Rattle.std.proofs.lemmas.List.{length-map}

some_is : {A : Type 0} (a b : A) → Some a ≡ Some b → a ≡ b
some_is a b e = cc

-- ---- the lines of predicates

line_at : (Is : ℕ → Line → Type 0) (n : ℕ) (preds : List PredDef) (lines : List Line) (i : ℕ) (l : Line) → AreLines Is n preds lines → slice_get lines i ≡ Some l → Is (n + i) l
line_at Is n [] [] i l h e = absurd cc
line_at Is n [] (k ∷ lines) i l h e = absurd h
line_at Is n (p ∷ preds) [] i l h e = absurd h
line_at Is n (p ∷ preds) (k ∷ lines) zero l h e =
    let number : n ≡ n + 0 = omega arith in
    subst (λ (j : ℕ). Is j l) number (subst (Is n) (some_is k l e) h.0)
line_at Is n (p ∷ preds) (k ∷ lines) (suc i) l h e =
    let number : n + 1 + i ≡ n + suc i = omega arith in subst (λ (j : ℕ). Is j l) number (line_at Is (n + 1) preds lines i l h.1 e)

lines_length : (Is : ℕ → Line → Type 0) (n : ℕ) (preds : List PredDef) (lines : List Line) → AreLines Is n preds lines → length lines ≡ length preds
lines_length Is n [] [] h = refl
lines_length Is n [] (k ∷ lines) h = absurd h
lines_length Is n (p ∷ preds) [] h = absurd h
lines_length Is n (p ∷ preds) (k ∷ lines) h = ap suc (lines_length Is (n + 1) preds lines h.1)

got : {X : Type 0} (xs : List X) (i : ℕ) (x : X) → i < length xs → x ≡ get_or xs i x → slice_get xs i ≡ Some x
got [] i x below at = absurd (omega (arith, below))
got (y ∷ xs) zero x below at = ap Some (sym at)
got (y ∷ xs) (suc i) x below at = got xs i x (omega (arith, below)) at

past : {X : Type 0} (xs : List X) (i : ℕ) → slice_get xs i ≡ None → i < length xs → ⊥
past [] i none below = omega (arith, below)
past (y ∷ xs) zero none below = absurd cc
past (y ∷ xs) (suc i) none below = past xs i none (omega (arith, below))

-- there is a line at each place
pub line_there : (r : Resolved) (atoms : ℕ) (lines : List Line) (i k : ℕ) → ArePredicateLines r atoms lines → i < length r.defs.preds → k ≡ i + 1 → item_at lines k ≡ None → ⊥
line_there r atoms lines i k h below number none =
    let same : suc i ≡ k = omega (arith, number) in
    let all = lines_length (IsPredicateLine r atoms) 1 r.defs.preds lines h in
    past lines i (ap (item_at lines) same ∙ none) (omega (arith, below, all))

-- the predicate of the number at a place
pub pred_there : (defs : Defs) (i k : ℕ) (p : PredDef) → i < length defs.preds → p ≡ get_or defs.preds i p → k ≡ i + 1 → pred_at defs k ≡ Some p
pred_there defs i k p below at number =
    let one : suc i ≡ k = omega (arith, number) in subst (λ (j : ℕ). pred_at defs j ≡ Some p) one (got defs.preds i p below at)

-- the line of the number at a place
pub told_at : (r : Resolved) (atoms : ℕ) (lines : List Line) (i k : ℕ) (l : Line) → ArePredicateLines r atoms lines → item_at lines k ≡ Some l → k ≡ i + 1 → IsPredicateLine r atoms k l
told_at r atoms lines i k l h e number =
    let place : suc i ≡ k = omega (arith, number) in
    let same : 1 + i ≡ k = omega (arith, number) in
    subst (λ (j : ℕ). IsPredicateLine r atoms j l) same (line_at (IsPredicateLine r atoms) 1 r.defs.preds lines i l h (ap (item_at lines) place ∙ e))

-- what a line tells of the predicate and the names of its number
pub told_here : (r : Resolved) (atoms k : ℕ) (l : Line) (p : PredDef) (names : Names) → IsPredicateLine r atoms k l → pred_at r.defs k ≡ Some p → names_at r.pred_names k ≡ Some names
    → IsTold r.defs p names atoms l
told_here r atoms k l p names t there named =
    let pred : t.pred ≡ p = some_is t.pred p (sym t.there ∙ there) in
    let same : t.names ≡ names = some_is t.names names (sym t.named ∙ named) in
    subst (λ (q : PredDef). IsTold r.defs q names atoms l) pred (subst (λ (ns : Names). IsTold r.defs t.pred ns atoms l) same t.told)

-- ---- the methods of the program

zip_length : {A B : Type 0} (R : A → B → Type 0) (xs : List A) (ys : List B) → AllZip R xs ys → length xs ≡ length ys
zip_length R [] [] h = refl
zip_length R [] (y ∷ ys) h = absurd h
zip_length R (x ∷ xs) [] h = absurd h
zip_length R (x ∷ xs) (y ∷ ys) h = ap suc (zip_length R xs ys h.1)

zip_at : {A B : Type 0} (R : A → B → Type 0) (xs : List A) (ys : List B) (i : ℕ) (x : A) (d : B) → AllZip R xs ys → i < length xs → x ≡ get_or xs i x → R x (get_or ys i d)
zip_at R [] ys i x d h below at = absurd (omega (arith, below))
zip_at R (z ∷ xs) [] i x d h below at = absurd h
zip_at R (z ∷ xs) (y ∷ ys) zero x d h below at = subst (λ w. R w y) (sym at) h.0
zip_at R (z ∷ xs) (y ∷ ys) (suc i) x d h below at = zip_at R xs ys i x d h.1 (omega (arith, below)) at

-- the method of the number at a place is there, and has as many pairs
pub method_there : (ms : List MethodTree) (program : Program) (i k : ℕ) → AllZip MethodIsKept ms program.methods → i < length ms → k ≡ i + 1 → IsUpTo (length program.methods) k
method_there ms program i k kept below number =
    let same = zip_length MethodIsKept ms program.methods kept in (omega (arith, number), omega (arith, number, same, below))

pub pairs_kept : (ms : List MethodTree) (program : Program) (i k : ℕ) (m : MethodTree) → AllZip MethodIsKept ms program.methods → i < length ms → m ≡ get_or ms i m → k ≡ i + 1
    → length (method_of program k).pairs ≡ length m.pairs
pairs_kept ms program i k m kept below at number =
    let one : i + 1 ≡ suc i = omega arith in
    let is = zip_at MethodIsKept ms program.methods i m no_method kept below at in
    ap (λ (j : ℕ). length (method_of program j).pairs) (number ∙ one) ∙ ap length is.pairs ∙ length-map m.pairs pair_of

-- the names of the number at a place
pub name_there : (all : List Names) (i k : ℕ) (names : Names) → names_at all k ≡ Some names → k ≡ i + 1 → slice_get all i ≡ Some names
name_there all i k names named number =
    let one : k ≡ suc i = omega (arith, number) in subst (λ (j : ℕ). names_at all j ≡ Some names) one named
