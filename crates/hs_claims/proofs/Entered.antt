-- One more slot, one more pair, one more method.
use Rattle.std.proofs.Common.{◌≡◌, ℕ, zero, suc, ◌+◌, ◌<◌, false, List, [], ◌∷◌, ◌++◌, map, length, get_or, Option, Some, refl, sym, ap, ◌∙◌, subst, arith, append_assoc}
use Rattle.std.proofs.lemmas.List.{get_or_default, map-append}
use Rattle.hs_pure.specs.declared.var.Var.{Var}
use Rattle.hs_core.specs.declared.program.Pair.{Pair}
use Rattle.hs_core.specs.declared.program.Method.{Method}
use Rattle.hs_core.specs.declared.program.Program.{Program}
use Rattle.hs_core.specs.Machine.{no_method, method_of}
use Rattle.hs_core.specs.Sound.{vars_from}
use Rattle.hs_program_rules.specs.States.{no_pair, pair_of, number_var}
use Rattle.hs_node.specs.declared.claim.Claim.{Claim}
use Rattle.hs_node.specs.declared.claim.Claim.TheVariants as claim
use Rattle.hs_claims.specs.Claims.{entries_to, entries_of, pairs_to}
use Rattle.hs_claims.specs.Entries.{entry_by, entries_by, all_entries}

next : (n : ℕ) → n + 1 ≡ suc n
next n = omega arith

-- ---- slots

vars_end : (from n : ℕ) → vars_from from (suc n) ≡ vars_from from n ++ number_var (from + n) ∷ []
vars_end from zero = let e : from ≡ from + 0 = omega arith in ap (λ (k : ℕ). number_var k ∷ []) e
vars_end from (suc n) =
    let e : suc from + n ≡ from + suc n = omega arith in
    ap (λ (vs : List Var). number_var from ∷ vs) (vars_end (suc from) n ∙ ap (λ (k : ℕ). vars_from (suc from) n ++ number_var k ∷ []) e)

-- one more parameter's variable
pub held_more : (n : ℕ) → map (λ (v : Var). Some v) (vars_from 1 (n + 1)) ≡ map (λ (v : Var). Some v) (vars_from 1 n) ++ Some (number_var (n + 1)) ∷ []
held_more n =
    let e : 1 + n ≡ n + 1 = omega arith in
    ap (λ (k : ℕ). map (λ (v : Var). Some v) (vars_from 1 k)) (next n)
    ∙ ap (map (λ (v : Var). Some v)) (vars_end 1 n ∙ ap (λ (k : ℕ). vars_from 1 n ++ number_var k ∷ []) e)
    ∙ map-append (λ (v : Var). Some v) (vars_from 1 n) (number_var (n + 1) ∷ [])

-- ---- pairs

-- one more pair of a method
pub pair_pushed : (m : ℕ) (method : Method) (old all : List Claim) (i k : ℕ) (pair : Pair) → i < length method.pairs → pair ≡ get_or method.pairs i pair → k ≡ i →
    all ≡ old ++ entries_by m method i → all ++ claim.Pair (entry_by m method (k + 1) pair) ∷ [] ≡ old ++ entries_by m method (i + 1)
pair_pushed m method old all i k pair less is same so =
    let there : pair ≡ pair_of method (suc i) = is ∙ sym (get_or_default method.pairs i no_pair pair less) in
    let number : k + 1 ≡ suc i = ap (λ (j : ℕ). j + 1) same ∙ next i in
    ap (λ (xs : List Claim). xs ++ claim.Pair (entry_by m method (k + 1) pair) ∷ []) so
    ∙ append_assoc old (entries_by m method i) (claim.Pair (entry_by m method (k + 1) pair) ∷ [])
    ∙ ap (λ (j : ℕ). old ++ (entries_by m method i ++ claim.Pair (entry_by m method j pair) ∷ [])) number
    ∙ ap (λ (p : Pair). old ++ (entries_by m method i ++ claim.Pair (entry_by m method (suc i) p) ∷ [])) there
    ∙ ap (λ (j : ℕ). old ++ entries_by m method j) (sym (next i))

-- ---- methods

entries_same : (program : Program) (m n : ℕ) → entries_by m (method_of program m) n ≡ entries_to program m n
entries_same program m zero = refl
entries_same program m (suc n) = ap (λ (xs : List Claim). xs ++ claim.Pair (entry_by m (method_of program m) (suc n) (pair_of (method_of program m) (suc n))) ∷ []) (entries_same program m n)

-- the pairs of one more method
pub pairs_pushed : (program : Program) (old all : List Claim) (i k : ℕ) (method : Method) → i < length program.methods → method ≡ get_or program.methods i method → k ≡ i →
    all ≡ old ++ pairs_to program i → all ++ all_entries (k + 1) method ≡ old ++ pairs_to program (i + 1)
pairs_pushed program old all i k method less is same so =
    let there : method ≡ method_of program (suc i) = is ∙ sym (get_or_default program.methods i no_method method less) in
    let number : k + 1 ≡ suc i = ap (λ (j : ℕ). j + 1) same ∙ next i in
    ap (λ (xs : List Claim). xs ++ all_entries (k + 1) method) so
    ∙ append_assoc old (pairs_to program i) (all_entries (k + 1) method)
    ∙ ap (λ (j : ℕ). old ++ (pairs_to program i ++ all_entries j method)) number
    ∙ ap (λ (q : Method). old ++ (pairs_to program i ++ all_entries (suc i) q)) there
    ∙ ap (λ (xs : List Claim). old ++ (pairs_to program i ++ xs)) (entries_same program (suc i) (length (method_of program (suc i)).pairs))
    ∙ ap (λ (j : ℕ). old ++ pairs_to program j) (sym (next i))
