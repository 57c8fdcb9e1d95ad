-- The claims of a source are those of what its derivation is about.
use Rattle.std.proofs.Common.{◌≡◌, ℕ, zero, suc, ◌+◌, List, [], ◌∷◌, ◌++◌, map, length, Some, slice_get, slice_index_or, refl, sym, ap, ◌∙◌, subst, append_assoc, append-nil, arith}
use Rattle.std.specs.List.{All, AllZip}
use Rattle.std.proofs.lemmas.List.{map-append, length-map}
use Rattle.std.proofs.lemmas.List.Elements.{All-nil, All-cons, All-append}
use Rattle.hs_heap.specs.declared.definitions.PredDef.{PredDef}
use Rattle.hs_heap.specs.declared.definitions.Defs.{Defs}
use Rattle.hs_heap.specs.Meaning.{pred_at}
use Rattle.hs_core.specs.declared.program.Method.{Method}
use Rattle.hs_core.specs.declared.program.Program.{Program}
use Rattle.hs_core.specs.Machine.{no_method, method_of}
use Rattle.hs_numbering.specs.declared.names.Names.{Names}
use Rattle.hs_norm.specs.declared.resolved.Resolved.{Resolved}
use Rattle.hs_norm.specs.declared.resolved.MethodTree.{MethodTree}
use Rattle.hs_norm_item.specs.declared.forms.Entailment.{Entailment}
use Rattle.hs_norm_item.specs.declared.forms.PairTree.{PairTree}
use Rattle.hs_program_rules.specs.States.{entry}
use Rattle.hs_node.specs.declared.claim.Claim.{Claim}
use Rattle.hs_node.specs.declared.claim.Claim.TheVariants.{Invariant, Pair}
use Rattle.hs_claims.specs.Claims.{invariants_to, entailment_claim, sleek_claims, entries_to, entries_of, pairs_to, claims_of}
use Rattle.hs_lower.specs.Lowering.{pair_of}
use Rattle.hs_lower_sound.specs.Laws.{MethodIsKept}
use Rattle.hs_proof_nodes.proofs.Places.{get_at}
use Rattle.hs_proof_lines.specs.Proved.{Subject, invariant_subjects, pair_subjects, method_subjects, subjects_of}

-- ---- counted lists

-- a list for each number, from the given one on
abbrev from : (ℕ → List Claim) → ℕ → ℕ → List Claim
from f n zero = []
from f n (suc c) = f n ++ from f (suc n) c

-- one number more is the last
from_more : (f : ℕ → List Claim) (n c : ℕ) → from f n (suc c) ≡ from f n c ++ f (n + c)
from_more f n zero = let e : n ≡ n + 0 = omega arith in append-nil (f n) ∙ ap f e
from_more f n (suc c) =
    let e : suc n + c ≡ n + suc c = omega arith in
    ap (λ (xs : List Claim). f n ++ xs) (from_more f (suc n) c) ∙ sym (append_assoc (f n) (from f (suc n) c) (f (suc n + c))) ∙ ap (λ k. (f n ++ from f (suc n) c) ++ f k) e

-- a list that grows by one number after another
counted : (f g : ℕ → List Claim) → g 0 ≡ [] → ((c : ℕ) → g (suc c) ≡ g c ++ f (suc c)) → (c : ℕ) → g c ≡ from f 1 c
counted f g none more zero = none
counted f g none more (suc c) =
    let e : suc c ≡ 1 + c = omega arith in
    more c ∙ ap (λ (xs : List Claim). xs ++ f (suc c)) (counted f g none more c) ∙ ap (λ k. from f 1 c ++ f k) e ∙ sym (from_more f 1 c)

-- ---- claims

abbrev invariant_at : ℕ → List Claim
invariant_at n = Invariant n ∷ []

abbrev pub claim_of : Program → Subject → Claim
claim_of program (Subject.invariant number p names) = Invariant number
claim_of program (Subject.entailment e) = entailment_claim e
claim_of program (Subject.pair m i p) = Pair (entry program m i)

module _ (program : Program) where
  abbrev entry_at : ℕ → ℕ → List Claim
  entry_at m i = Pair (entry program m i) ∷ []

  invariant_claims : (n : ℕ) (ps : List PredDef) (all : List Names) → length all ≡ length ps → map (claim_of program) (invariant_subjects n ps all) ≡ from invariant_at n (length ps)
  invariant_claims n [] all e = refl
  invariant_claims n (p ∷ ps) [] e = absurd (omega (arith, e))
  invariant_claims n (p ∷ ps) (names ∷ all) e = ap (λ (cs : List Claim). Invariant n ∷ cs) (invariant_claims (suc n) ps all (omega (arith, e)))

  entailment_claims : (es : List Entailment) → map (claim_of program) (map Subject.entailment es) ≡ map entailment_claim es
  entailment_claims [] = refl
  entailment_claims (e ∷ es) = ap (λ (cs : List Claim). entailment_claim e ∷ cs) (entailment_claims es)

  pair_claims : (m i : ℕ) (ps : List PairTree) → map (claim_of program) (pair_subjects m i ps) ≡ from (entry_at m) i (length ps)
  pair_claims m i [] = refl
  pair_claims m i (p ∷ ps) = ap (λ (cs : List Claim). Pair (entry program m i) ∷ cs) (pair_claims m (suc i) ps)

  -- the pairs of a method
  own_claims : (n : ℕ) (m : MethodTree) (q : Method) → method_of program n ≡ q → MethodIsKept m q → map (claim_of program) (pair_subjects n 1 m.pairs) ≡ entries_of program n
  own_claims n m q at kept =
      let many : length m.pairs ≡ length (method_of program n).pairs = sym (length-map m.pairs pair_of) ∙ sym (ap length kept.pairs) ∙ sym (ap (λ (x : Method). length x.pairs) at) in
      pair_claims n 1 m.pairs ∙ ap (from (entry_at n) 1) many ∙ sym (counted (entry_at n) (entries_to program n) refl (λ c. refl) (length (method_of program n).pairs))

  one_longer : (xs : List Method) (q : Method) → length (xs ++ q ∷ []) ≡ suc (length xs)
  one_longer [] q = refl
  one_longer (x ∷ xs) q = ap suc (one_longer xs q)

  -- the item behind others
  behind_front : (front rest : List Method) (q : Method) → slice_index_or (front ++ q ∷ rest) (length front) no_method ≡ q
  behind_front [] rest q = refl
  behind_front (x ∷ front) rest q = behind_front front rest q

  method_claims : (front rest : List Method) (methods : List MethodTree) → program.methods ≡ front ++ rest → AllZip MethodIsKept methods rest →
      map (claim_of program) (method_subjects (suc (length front)) methods) ≡ from (entries_of program) (suc (length front)) (length rest)
  method_claims front [] [] is h = refl
  method_claims front (q ∷ rest) [] is h = absurd h
  method_claims front [] (m ∷ methods) is h = absurd h
  method_claims front (q ∷ rest) (m ∷ methods) is h =
      let n : ℕ = suc (length front) in
      let longer : suc (length (front ++ q ∷ [])) ≡ suc n = ap suc (one_longer front q) in
      let others : map (claim_of program) (method_subjects (suc n) methods) ≡ from (entries_of program) (suc n) (length rest)
      = subst (λ k. map (claim_of program) (method_subjects k methods) ≡ from (entries_of program) k (length rest)) longer
      (method_claims (front ++ q ∷ []) rest methods (is ∙ sym (append_assoc front (q ∷ []) rest)) h.1) in
      map-append (claim_of program) (pair_subjects n 1 m.pairs) (method_subjects (suc n) methods)
      ∙ ap (λ (cs : List Claim). cs ++ map (claim_of program) (method_subjects (suc n) methods)) (own_claims n m q at h.0)
      ∙ ap (λ (cs : List Claim). entries_of program n ++ cs) others
    where
      at : method_of program (suc (length front)) ≡ q
      at = ap (λ (qs : List Method). slice_index_or qs (length front) no_method) is ∙ behind_front front rest q

-- what the derivation of a source is about has the claims of the source, in order
pub subjects_claim : (r : Resolved) (program : Program) → length r.pred_names ≡ length r.defs.preds → AllZip MethodIsKept r.methods program.methods →
    map (claim_of program) (subjects_of r) ≡ claims_of r program
subjects_claim r program named kept =
    let f = claim_of program in
    let preds = invariant_subjects 1 r.defs.preds r.pred_names in
    let entailments = map Subject.entailment r.entailments in
    let methods = method_subjects 1 r.methods in
    let n : ℕ = length r.defs.preds in
    let of_preds : map f preds ≡ invariants_to n = invariant_claims program 1 r.defs.preds r.pred_names named ∙ sym (counted invariant_at invariants_to refl (λ c. refl) n) in
    let of_sleek : map f (preds ++ entailments) ≡ sleek_claims r
    = map-append f preds entailments ∙ ap (λ (cs : List Claim). cs ++ map f entailments) of_preds ∙ ap (λ (cs : List Claim). invariants_to n ++ cs) (entailment_claims program r.entailments) in
    let of_methods : map f methods ≡ pairs_to program (length program.methods)
    = method_claims program [] program.methods r.methods refl kept ∙ sym (counted (entries_of program) (pairs_to program) refl (λ c. refl) (length program.methods)) in
    map-append f (preds ++ entailments) methods ∙ ap (λ (cs : List Claim). cs ++ map f methods) of_sleek ∙ ap (λ (cs : List Claim). sleek_claims r ++ cs) of_methods

-- ---- what is there

-- the predicate is that of its number
abbrev pub IsThere : Defs → Subject → Type 0
IsThere defs (Subject.invariant number p names) = pred_at defs number ≡ Some p
IsThere defs (Subject.entailment e) = Unit {0}
IsThere defs (Subject.pair m i p) = Unit {0}

module _ (defs : Defs) where
  invariants_there : (front ps : List PredDef) (all : List Names) → defs.preds ≡ front ++ ps → All (IsThere defs) (invariant_subjects (suc (length front)) ps all)
  invariants_there front [] all is = All-nil (IsThere defs)
  invariants_there front (p ∷ ps) [] is = All-nil (IsThere defs)
  invariants_there front (p ∷ ps) (names ∷ all) is =
      All-cons (IsThere defs) (Subject.invariant (suc (length front)) p names) (invariant_subjects (suc (suc (length front))) ps all) here
      (subst (λ k. All (IsThere defs) (invariant_subjects (suc k) ps all)) (one_longer front)
      (invariants_there (front ++ p ∷ []) ps all (is ∙ sym (append_assoc front (p ∷ []) ps))))
    where
      here : slice_get defs.preds (length front) ≡ Some p
      here = ap (λ (qs : List PredDef). slice_get qs (length front)) is ∙ get_at front ps p

      one_longer : (xs : List PredDef) → length (xs ++ p ∷ []) ≡ suc (length xs)
      one_longer [] = refl
      one_longer (x ∷ xs) = ap suc (one_longer xs)

  entailments_there : (es : List Entailment) → All (IsThere defs) (map Subject.entailment es)
  entailments_there [] = All-nil (IsThere defs)
  entailments_there (e ∷ es) = All-cons (IsThere defs) (Subject.entailment e) (map Subject.entailment es) tt (entailments_there es)

  pairs_there : (m i : ℕ) (ps : List PairTree) → All (IsThere defs) (pair_subjects m i ps)
  pairs_there m i [] = All-nil (IsThere defs)
  pairs_there m i (p ∷ ps) = All-cons (IsThere defs) (Subject.pair m i p) (pair_subjects m (suc i) ps) tt (pairs_there m (suc i) ps)

  methods_there : (m : ℕ) (methods : List MethodTree) → All (IsThere defs) (method_subjects m methods)
  methods_there m [] = All-nil (IsThere defs)
  methods_there m (x ∷ methods) = All-append (IsThere defs) (pair_subjects m 1 x.pairs) (method_subjects (suc m) methods) (pairs_there m 1 x.pairs) (methods_there (suc m) methods)

pub all_there : (r : Resolved) → All (IsThere r.defs) (subjects_of r)
all_there r =
    let preds = invariant_subjects 1 r.defs.preds r.pred_names in
    let entailments = map Subject.entailment r.entailments in
    All-append (IsThere r.defs) (preds ++ entailments) (method_subjects 1 r.methods)
    (All-append (IsThere r.defs) preds entailments (invariants_there r.defs [] r.defs.preds r.pred_names refl) (entailments_there r.defs r.entailments))
    (methods_there r.defs 1 r.methods)
