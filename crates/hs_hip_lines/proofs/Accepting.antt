-- Where every pair is accepted, the starts of all pairs are concluded, and so safe.
use Rattle.std.proofs.Common.{◌≡◌, ℕ, zero, suc, ◌+◌, ◌<◌, List, [], ◌∷◌, ◌++◌, length, Some, None, slice_get, refl, ap, ◌∙◌, subst, arith}
use Rattle.std.specs.List.{AllByRecursion, AllZip}
use Rattle.std.proofs.lemmas.List.Elements.{recursion_from_All}
use Rattle.hs_heap.specs.Sound.{IsSound}
use Rattle.hs_heap.specs.declared.definitions.Defs.{Defs}
use Rattle.hs_xpure.specs.Invariants.{InvariantsHold}
use Rattle.hs_goal.specs.declared.rule.Limits.{Limits}
use Rattle.hs_core.specs.declared.program.Program.{Program}
use Rattle.hs_node.specs.declared.derivation.Derivation.{Derivation}
use Rattle.hs_norm.specs.declared.resolved.MethodTree.{MethodTree}
use Rattle.hs_norm_item.specs.declared.forms.PairTree.{PairTree}
use Rattle.hs_lower_sound.specs.Laws.{MethodIsKept}
use Rattle.hs_program_rules.specs.States.{entry}
use Rattle.hs_program_rules.specs.Laws.{PairExists, Concluded, ConcludedStatesAreSafe}
use Rattle.hs_judge.specs.Laws.{RightStatesAreConcluded}
use Rattle.hs_verify.specs.declared.answer.HipAnswer.{HipAnswer}
use Rattle.hs_verify.specs.declared.answer.HipAnswer.TheVariants.{Accepted, Unknown, States, Numbers}
use Rattle.hs_verify.specs.Answer.{IsDerivationOf, IsAnswer}
use Rattle.hs_print.specs.declared.line.Line.{Line}
use Rattle.hs_hip_lines.specs.Lines.{line_of, IsVerdict, AreLinesOf, AreMethodLines}
use Rattle.hs_hip_lines.specs.Laws.{IsAccepted, AcceptedPairsAreSafe}
use Rattle.hs_hip_lines.proofs.Telling.{kept_at, zip_count}

-- ---- lists

accepted_front : (xs ys : List Line) → AllByRecursion IsAccepted (xs ++ ys) → AllByRecursion IsAccepted xs
accepted_front [] ys h = tt
accepted_front (x ∷ xs) ys h = (h.0, accepted_front xs ys h.1)

accepted_behind : (xs ys : List Line) → AllByRecursion IsAccepted (xs ++ ys) → AllByRecursion IsAccepted ys
accepted_behind [] ys h = h
accepted_behind (x ∷ xs) ys h = accepted_behind xs ys h.1

item : {A : Type 0} (xs : List A) (k : ℕ) → k < length xs → (x : A) × (slice_get xs k ≡ Some x)
item [] k less = absurd (omega (arith, less))
item (x ∷ xs) zero less = (x, refl)
item (x ∷ xs) (suc k) less = item xs k (omega (arith, less))

end_item : {A : Type 0} (xs : List A) (x : A) → slice_get (xs ++ x ∷ []) (length xs) ≡ Some x
end_item [] x = refl
end_item (y ∷ xs) x = end_item xs x

module _ (defs : Defs) (program : Program) (limits : Limits) where
  -- ---- the line of a pair

  pair_accepted : (m : ℕ) (name : List ℕ) (i : ℕ) (ps : List PairTree) (lines : List Line) → AreLinesOf defs program limits None m name i ps lines
      → AllByRecursion IsAccepted lines → (j : ℕ) (p : PairTree) → slice_get ps j ≡ Some p → (l : Line) × IsVerdict defs program limits m name (i + j) p l × IsAccepted l
  pair_accepted m name i [] lines h all j p e = absurd cc
  pair_accepted m name i (q ∷ ps) [] h all j p e = absurd h
  pair_accepted m name i (q ∷ ps) (l ∷ lines) h all zero p e =
      let same : q ≡ p = cc in
      (l, subst (λ n. IsVerdict defs program limits m name n p l) (omega arith) (subst (λ (r : PairTree). IsVerdict defs program limits m name i r l) same h.0), all.0)
  pair_accepted m name i (q ∷ ps) (l ∷ lines) h all (suc j) p e =
      let later = pair_accepted m name (suc i) ps lines h.1 all.1 j p e in
      (later.0, subst (λ n. IsVerdict defs program limits m name n p later.0) (omega arith) later.1, later.2)

  -- ---- the lines of a method

  pub record OfMethod (m : ℕ) (method : MethodTree) : Type 0 where
    pub lines : List Line
    pub told : AreLinesOf defs program limits None m method.name 1 method.pairs lines
    pub accepted : AllByRecursion IsAccepted lines

  method_accepted : (m : ℕ) (methods : List MethodTree) (lines : List Line) → AreMethodLines defs program limits None m methods lines → AllByRecursion IsAccepted lines
      → (k : ℕ) (method : MethodTree) → slice_get methods k ≡ Some method → OfMethod (m + k) method
  method_accepted m [] lines AreMethodLines.nothing all k method e = absurd cc
  method_accepted m (first ∷ methods) lines (AreMethodLines.more front others here later) all zero method e =
      let same : first ≡ method = cc in
      subst (λ n. OfMethod n method) (omega arith)
      (subst (OfMethod m) same (record { lines = front; told = here; accepted = accepted_front front others all }))
  method_accepted m (first ∷ methods) lines (AreMethodLines.more front others here later) all (suc k) method e =
      subst (λ n. OfMethod n method) (omega arith) (method_accepted (suc m) methods others later (accepted_behind front others all) k method e)

  -- ---- the answer

  derivation_of : (m : ℕ) (name : List ℕ) (i : ℕ) (p : PairTree) (l : Line) (answer : HipAnswer) → IsAnswer defs program limits (entry program m i) answer
      → l ≡ line_of defs program limits name i p answer → IsAccepted l → (d : Derivation) × IsDerivationOf defs program (entry program m i) d
  derivation_of m name i p l (Accepted d) is printed ok = (d, is.1)
  derivation_of m name i p l (Unknown at causes) is printed ok = absurd (subst IsAccepted printed ok)
  derivation_of m name i p l (States at) is printed ok = absurd (subst IsAccepted printed ok)
  derivation_of m name i p l (Numbers at) is printed ok = absurd (subst IsAccepted printed ok)

  module _ (concluded : RightStatesAreConcluded) (sound : IsSound defs) (none : defs.lemmas ≡ []) (known : InvariantsHold defs) where
    concluded_by : (m i : ℕ) (d : Derivation) → IsDerivationOf defs program (entry program m i) d → Concluded defs program (entry program m i)
    concluded_by m i d is =
        let there = ap (λ ns. slice_get ns (length is.front)) is.ends ∙ end_item is.front is.last in
        concluded defs program d.nodes sound none known is.right (length is.front) is.last (entry program m i) there is.concludes

    verdict_concluded : (m : ℕ) (name : List ℕ) (i : ℕ) (p : PairTree) (l : Line) → IsVerdict defs program limits m name i p l → IsAccepted l → Concluded defs program (entry program m i)
    verdict_concluded m name i p l v ok = let found = derivation_of m name i p l v.answer v.is v.printed ok in concluded_by m i found.0 found.1

    module _ (methods : List MethodTree) (lines : List Line) (kept : AllZip MethodIsKept methods program.methods)
        (told : AreMethodLines defs program limits None 1 methods lines) (all : AllByRecursion IsAccepted lines) where
      entries : (m i : ℕ) → PairExists program m i → Concluded defs program (entry program m i)
      entries zero i exists = absurd (omega (arith, exists.0.0))
      entries (suc k) zero exists = absurd (omega (arith, exists.1.0))
      entries (suc k) (suc j) exists =
          let method = item methods k (omega (arith, exists.0.1, zip_count methods program.methods kept)) in
          let size = (kept_at methods program.methods k method.0 kept method.1).1 in
          let pair = item method.0.pairs j (omega (arith, exists.1.1, size)) in
          let of_method : OfMethod (suc k) method.0 = subst (λ n. OfMethod n method.0) (omega arith) (method_accepted 1 methods lines told all k method.0 method.1) in
          let line = pair_accepted (suc k) method.0.name 1 method.0.pairs of_method.lines of_method.told of_method.accepted j pair.0 pair.1 in
          verdict_concluded (suc k) method.0.name (suc j) pair.0 line.0
          (subst (λ n. IsVerdict defs program limits (suc k) method.0.name n pair.0 line.0) (omega arith) line.1) line.2

pub accepted_pairs_are_safe : RightStatesAreConcluded → ConcludedStatesAreSafe → AcceptedPairsAreSafe
accepted_pairs_are_safe concluded safe defs program limits methods lines sound none known program_sound kept told all m i exists n =
    let concludes = entries defs program limits concluded sound none known methods lines kept told (recursion_from_All IsAccepted lines all) in
    safe defs program program_sound concludes (entry program m i) (concludes m i exists) n
