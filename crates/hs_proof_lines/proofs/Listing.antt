-- What claims are about, one more at the end.
use Rattle.std.proofs.Common.{◌≡◌, ℕ, suc, ◌+◌, ◌<◌, List, [], ◌∷◌, ◌++◌, length, take, get_or, map, Some, slice_get, sym, ap, ◌∙◌, arith, append_assoc, append-nil}
use Rattle.std.proofs.lemmas.List.{take_more, length-take-le, map-append}
use Rattle.hs_norm_item.specs.declared.forms.Entailment.{Entailment}
use Rattle.hs_heap.specs.declared.definitions.PredDef.{PredDef}
use Rattle.hs_numbering.specs.declared.names.Names.{Names}
use Rattle.hs_norm.specs.declared.resolved.MethodTree.{MethodTree}
use Rattle.hs_norm_item.specs.declared.forms.PairTree.{PairTree}
use Rattle.hs_proof_lines.specs.Proved.{Subject, invariant_subjects, pair_subjects, method_subjects}

invariants_push : (n : ℕ) (ps : List PredDef) (all : List Names) (p : PredDef) (names : Names) → slice_get all (length ps) ≡ Some names
    → invariant_subjects n (ps ++ p ∷ []) all ≡ invariant_subjects n ps all ++ Subject.invariant (n + length ps) p names ∷ []
invariants_push n [] [] p names e = absurd cc
invariants_push n [] (x ∷ all) p names e =
    let number : n ≡ n + 0 = omega arith in
    let same : x ≡ names = some_is e in
    ap (λ (k : ℕ). Subject.invariant k p x ∷ []) number ∙ ap (λ (y : Names). Subject.invariant (n + 0) p y ∷ []) same
  where
    some_is : {a b : Names} → Some a ≡ Some b → a ≡ b
    some_is e = cc
invariants_push n (q ∷ ps) [] p names e = absurd cc
invariants_push n (q ∷ ps) (x ∷ all) p names e =
    let number : suc n + length ps ≡ n + suc (length ps) = omega arith in
    ap (λ (ss : List Subject). Subject.invariant n q x ∷ ss)
    (invariants_push (suc n) ps all p names e ∙ ap (λ (k : ℕ). invariant_subjects (suc n) ps all ++ Subject.invariant k p names ∷ []) number)

pairs_push : (m n : ℕ) (ps : List PairTree) (p : PairTree) → pair_subjects m n (ps ++ p ∷ []) ≡ pair_subjects m n ps ++ Subject.pair m (n + length ps) p ∷ []
pairs_push m n [] p = let number : n ≡ n + 0 = omega arith in ap (λ (k : ℕ). Subject.pair m k p ∷ []) number
pairs_push m n (q ∷ ps) p =
    let number : suc n + length ps ≡ n + suc (length ps) = omega arith in
    ap (λ (ss : List Subject). Subject.pair m n q ∷ ss) (pairs_push m (suc n) ps p ∙ ap (λ (k : ℕ). pair_subjects m (suc n) ps ++ Subject.pair m k p ∷ []) number)

methods_push : (n : ℕ) (ms : List MethodTree) (q : MethodTree) → method_subjects n (ms ++ q ∷ []) ≡ method_subjects n ms ++ pair_subjects (n + length ms) 1 q.pairs
methods_push n [] q = let number : n ≡ n + 0 = omega arith in append-nil (pair_subjects n 1 q.pairs) ∙ ap (λ (k : ℕ). pair_subjects k 1 q.pairs) number
methods_push n (m ∷ ms) q =
    let number : suc n + length ms ≡ n + suc (length ms) = omega arith in
    ap (λ (ss : List Subject). pair_subjects n 1 m.pairs ++ ss) (methods_push (suc n) ms q ∙ ap (λ (k : ℕ). method_subjects (suc n) ms ++ pair_subjects k 1 q.pairs) number)
    ∙ sym (append_assoc (pair_subjects n 1 m.pairs) (method_subjects (suc n) ms) (pair_subjects (n + suc (length ms)) 1 q.pairs))

-- ---- one more of the first so many

taken : {X : Type 0} (xs : List X) (i : ℕ) (x : X) → i < length xs → x ≡ get_or xs i x → take (i + 1) xs ≡ take i xs ++ x ∷ []
taken xs i x below at = take_more xs i x below ∙ ap (λ y. take i xs ++ y ∷ []) (sym at)

count : {X : Type 0} (xs : List X) (i : ℕ) → i < length xs → length (take i xs) ≡ i
count xs i below = length-take-le i xs (omega (arith, below))

pub invariants_more : (ps : List PredDef) (all : List Names) (i k : ℕ) (p : PredDef) (names : Names) → i < length ps → p ≡ get_or ps i p → k ≡ i + 1 → slice_get all i ≡ Some names
    → invariant_subjects 1 (take (i + 1) ps) all ≡ invariant_subjects 1 (take i ps) all ++ Subject.invariant k p names ∷ []
invariants_more ps all i k p names below at number named =
    let here = count ps i below in
    let there : slice_get all (length (take i ps)) ≡ Some names = ap (slice_get all) here ∙ named in
    let same : 1 + length (take i ps) ≡ k = omega (arith, here, number) in
    ap (λ (qs : List PredDef). invariant_subjects 1 qs all) (taken ps i p below at) ∙ invariants_push 1 (take i ps) all p names there
    ∙ ap (λ (j : ℕ). invariant_subjects 1 (take i ps) all ++ Subject.invariant j p names ∷ []) same

pub pairs_more : (m : ℕ) (ps : List PairTree) (i k : ℕ) (p : PairTree) → i < length ps → p ≡ get_or ps i p → k ≡ i + 1
    → pair_subjects m 1 (take (i + 1) ps) ≡ pair_subjects m 1 (take i ps) ++ Subject.pair m k p ∷ []
pairs_more m ps i k p below at number =
    let here = count ps i below in
    let same : 1 + length (take i ps) ≡ k = omega (arith, here, number) in
    ap (pair_subjects m 1) (taken ps i p below at) ∙ pairs_push m 1 (take i ps) p ∙ ap (λ (j : ℕ). pair_subjects m 1 (take i ps) ++ Subject.pair m j p ∷ []) same

pub methods_more : (ms : List MethodTree) (i k : ℕ) (q : MethodTree) → i < length ms → q ≡ get_or ms i q → k ≡ i + 1
    → method_subjects 1 (take (i + 1) ms) ≡ method_subjects 1 (take i ms) ++ pair_subjects k 1 q.pairs
methods_more ms i k q below at number =
    let here = count ms i below in
    let same : 1 + length (take i ms) ≡ k = omega (arith, here, number) in
    ap (method_subjects 1) (taken ms i q below at) ∙ methods_push 1 (take i ms) q ∙ ap (λ (j : ℕ). method_subjects 1 (take i ms) ++ pair_subjects j 1 q.pairs) same

pub entailments_more : (es : List Entailment) (i : ℕ) (e : Entailment) → i < length es → e ≡ get_or es i e
    → map Subject.entailment (take (i + 1) es) ≡ map Subject.entailment (take i es) ++ Subject.entailment e ∷ []
entailments_more es i e below at = ap (map Subject.entailment) (taken es i e below at) ∙ map-append Subject.entailment (take i es) (e ∷ [])
